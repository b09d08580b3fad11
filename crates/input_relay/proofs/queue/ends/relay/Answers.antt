use Rattle.std.proofs.Common.{rules, List, ◌∷◌, [], ◌++◌, map, sym, ap, ◌∙◌, add-one}
use Rattle.std.proofs.lemmas.List.{map-append}
use Rattle.input_relay.specs.declared.queue.Strand.{Strand}
use Rattle.input_relay.specs.Ends.{strand_of, fresh, relay_of}
use Rattle.input_relay.proofs.Strands.{begins, all_more}
use Rattle.input_relay.proofs.queue.ends.relay.Goals as goal

pub ruled-requires-clause-rule : goal.ruled-requires-clause-rule
ruled-requires-clause-rule g c = begins

pub loop-place-preserved : goal.loop-place-preserved
loop-place-preserved g c =
    let place = c.loop-place.place in let made = c.in_ok-sender.ensures in
    let own : List Strand → List Strand = λ l. l ++ strand_of c.in_ok-sender.sender ∷ [] in
    record {
      made = ap (map strand_of) c.push_reserved.ensures.items ∙ (map-append strand_of _ _ ∙ (ap own c.loop-place.invariant.made
          ∙ (ap (λ (s : Strand). fresh place ++ s ∷ []) made.made ∙ sym (ap fresh (add-one place)))));
      count = search rules;
      room = search rules;
      own = rw c.push_reserved.ensures.items (all_more relay_of _ _ _ _ c.loop-place.invariant.own made.same (made.own ∙ sym made.same));
      seated = made.seated;
      knows = made.knows;
    }
