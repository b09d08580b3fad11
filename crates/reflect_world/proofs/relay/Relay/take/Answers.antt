use Rattle.std.proofs.Common.{◌<◌, ◌+◌, ◌++◌, ℕ, List, [], cond, length, take, sym, ap, subst, ◌∙◌, arith}
use Rattle.std.specs.Prelude.{map}
use Rattle.roles.specs.Spelling.{input_bytes}
use Rattle.roles.specs.Strokes.{passes_after}
use Rattle.reflect_world.specs.Relay.{KeepsStrokes, RelaySide, TakesFirst, inputs_told, relayed_in, spelled}
use Rattle.reflect_world.specs.Schedule.{Relayed, taken_from, told_of}
use Rattle.reflect_world.specs.contracts.relay.Relay.{the_view}
use Rattle.reflect_world.proofs.Relays.{one_less, one_more, spelled_on, strokes_on, takes_some}
use Rattle.reflect_world.proofs.relay.Relay.take.Goals as goal

pub invariant_of-self-2 : goal.invariant_of-self-2
invariant_of-self-2 c =
    let k : ℕ = c.self.inside.taken in
    let entries = c.self.inside.entries.items in
    let lt : k < length entries = omega (arith, c.self.invariant.0, c.if-self-len.false) in
    let entry = c.index-entry.result.now in
    let taken = take k (map relayed_in entries) in
    let more = one_more entries k entry lt c.index-entry.ensures in
    let says : List ℕ = cond (passes_after (told_of taken) (taken_from (relayed_in entry))) (input_bytes (relayed_in entry).input) [] in
    let told = c.in_ok-tell.ensures.ok (map taken_from taken) c.self.invariant.2.stands in (
      omega (arith, lt),
      told.said ∙ (ap (λ bs. bs ++ says) c.self.invariant.1 ∙ (sym (spelled_on taken (relayed_in entry)) ∙ ap (λ xs. spelled (inputs_told xs)) (sym more))),
      subst (λ (xs : List Relayed). KeepsStrokes c.tell.new.strokes xs) (sym more) (strokes_on taken (relayed_in entry) c.self.inside.strokes c.tell.new.strokes c.self.invariant.2 c.tell.ensures.counts told.stands),
    )

pub returns-clause-ok : goal.returns-clause-ok
returns-clause-ok c =
    let k : ℕ = c.self.inside.taken in
    let entries = c.self.inside.entries.items in
    let lt : k < length entries = omega (arith, c.self.invariant.0, c.if-self-len.false) in
    let entry = c.index-entry.result.now in
    subst (λ (old : RelaySide). TakesFirst old (the_view (record { entries = c.self.inside.entries; taken = k + 1; strokes = c.tell.new.strokes; sent = c.tell.new.out }))) c.self.view_is
    (takes_some _ _ _ _ (relayed_in entry) (one_less entries k entry lt c.index-entry.ensures) (one_more entries k entry lt c.index-entry.ensures))
