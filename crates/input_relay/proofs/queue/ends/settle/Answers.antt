use Rattle.std.proofs.Common.{◌≡◌, List, [], ◌∷◌, ◌++◌, map, length, sym, ap, ◌∙◌, append_assoc, subst, arith}
use Rattle.std.specs.Vec.Iter.{into_iter_items}
use Rattle.std.proofs.lemmas.List.{map-append}
use Rattle.crossbeam_queue.specs.Passes.{view}
use Rattle.input_relay.specs.declared.queue.Message.{Message}
use Rattle.input_relay.specs.declared.queue.Strand.{Strand}
use Rattle.input_relay.specs.declared.queue.View.{View}
use Rattle.input_relay.specs.Relay.{taker, strand, Accounted}
use Rattle.input_relay.specs.Ends.{strand_of, relay_of}
use Rattle.input_relay.proofs.Strands.{merges, learns, all_tail}
use Rattle.input_relay.proofs.queue.ends.settle.Goals as goal

pub absorb-requires-clause-rule : goal.absorb-requires-clause-rule
absorb-requires-clause-rule g c = merges _ _ _ _ (ap (λ v. v.gets) c.loop-sender.invariant.knows) (ap (λ v. v.sends) c.in-Some.sender.role)

pub loop-sender-preserved : goal.loop-sender-preserved
loop-sender-preserved g c =
    let s = c.in-Some.sender in let own : View = view s.pass in let ys = c.loop-sender.yielded in
    let steps : into_iter_items c.loop-sender.sender-iterator ≡ s ∷ into_iter_items c.next.new.self = c.in-Some.ensures.steps.0 in
    let first : View = view c.args.taker.pass in
    let one : map strand_of ys ++ strand own.from own.put ∷ [] ≡ map strand_of (ys ++ s ∷ []) = ap (λ n. map strand_of ys ++ strand n own.put ∷ []) (ap (λ (v : View). v.from) s.role) ∙ sym (map-append strand_of ys (s ∷ [])) in
    record {
      whole = append_assoc ys (s ∷ []) _ ∙ rw (← steps) c.loop-sender.invariant.whole;
      counted = (let was = c.loop-sender.invariant.counted in let gone = c.in-Some.ensures.steps.1 in let short = ap length steps in omega arith);
      own = (let all = rw steps at c.loop-sender.invariant.own in λ k d lt. all_tail (λ x. relay_of x ≡ c.loop-sender.pass.table_id) s _ all k d lt ∙ sym c.absorb.ensures.queue.0);
      seated = (c.absorb.ensures.queue.0 ∙ c.loop-sender.invariant.seated.0, c.absorb.ensures.queue.2 ∙ c.loop-sender.invariant.seated.1);
      knows = c.absorb.ensures.rule ∙ (ap (λ (v : View). taker v.from v.got (v.known ++ strand own.from own.put ∷ [])) c.loop-sender.invariant.knows ∙ ap (λ (l : List Strand). taker first.from first.got l) one);
    }

pub learn_as-requires-clause-rule : goal.learn_as-requires-clause-rule
learn_as-requires-clause-rule g c = learns _ _ (ap (λ v. v.gets) c.loop-sender.invariant.knows)

pub returns-clause-taken : goal.returns-clause-taken
returns-clause-taken g c = ap (λ (v : View). v.got) (c.learn_as.ensures.queue.1 ∙ c.loop-sender.invariant.knows)

pub returns-clause-all : goal.returns-clause-all
returns-clause-all g c = subst (λ (v : View). (left : List Message) × Accounted v.known (v.got ++ left)) (sym c.learn_as.ensures.queue.1) c.learn_as.ensures.rule
