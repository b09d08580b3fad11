use Rattle.std.proofs.Common.{ap, ◌∙◌, arith}
use Rattle.vnc_auth.specs.Bits.{at_places}
use Rattle.vnc_auth.specs.Des.{after_rounds, split, joined}
use Rattle.vnc_auth.specs.declared.tables.TheConstants.{FINAL}
use Rattle.vnc_auth.proofs.MoreRounds.{of_parts, equal_parts, round_done, rounds_done}
use Rattle.vnc_auth.proofs.blocks.coded.Goals as goal

pub loop-count-init : goal.loop-count-init
loop-count-init c = ap (after_rounds c.args.turns.now c.at_places-chosen.result) (equal_parts _ _ _ _ c.at_places-left.ensures c.at_places-right.ensures)

pub loop-count-preserved : goal.loop-count-preserved
loop-count-preserved c =
    round_done c.args.turns.now c.loop-count.count-index c.at_places-chosen.result c.loop-count.left c.loop-count.right c.round_key.result c.mixed-mix.result c.exclusive-next.result (split c.args.block.now)
    (omega (arith, c.loop-count-test.true, c.told-turns)) c.loop-count.invariant c.round_key.ensures c.mixed-mix.ensures c.exclusive-next.ensures

pub returns : goal.returns
returns c =
    let done = rounds_done c.args.turns.now c.loop-count.count-index c.at_places-chosen.result (of_parts c.loop-count.left c.loop-count.right) (split c.args.block.now) (omega (arith, c.loop-count-test.false, c.told-turns)) c.loop-count.invariant in
    c.at_places.ensures ∙ ap (at_places FINAL) c.in_a_row.ensures ∙ ap joined done ∙ ap (λ chosen. joined (after_rounds c.args.turns.now chosen (split c.args.block.now))) c.at_places-chosen.ensures
