use Rattle.std.proofs.Common.{◌≡◌, ◌<◌, ◌-◌, ◌%◌, ℕ, List, get_or, sym, arith}
use Rattle.std.proofs.Math.Nat.{mod-lt}
use Rattle.raster.specs.Screen.{Canvas, value_at, part_of}
use Rattle.hextile_codec.proofs.MostMarked.{best_of_all, better, first_best, less_left, not_better, shown, shown_count}
use Rattle.hextile_codec.proofs.frequent.find_most_marked.Goals as goal
use Rattle.hextile_codec.proofs.frequent.find_most_marked.Goals.{then-shown-most, else-shown-most}

pub loop-most-init : goal.loop-most-init
loop-most-init c =
    let canvas : Canvas = part_of c.args.tile.now (value_at c.args.w c.args.values.now) in
    record {
      best = first_best canvas c.args.first (256 - c.count_bits-most.result) c.args.others.now c.requires.others (sym c.requires.first) (shown_count canvas c.args.first c.count_bits-most.result c.args.others.now c.requires.others c.count_bits-most.ensures.value);
      others = c.requires.others;
    }

pub loop-most-smaller : goal.loop-most-smaller
loop-most-smaller c =
    let canvas : Canvas = part_of c.args.tile.now (value_at c.args.w c.args.values.now) in
    let at : ℕ = c.first_of-at.result in
    let low : at % 16 < 16 = mod-lt at (omega arith) in
    let v : ℕ = get_or c.row_of.result.now (at % 16) 0 in
    let here : shown canvas at ≡ v = sym (c.row_of.ensures.values (at % 16) (omega (arith, low, c.requires.wide))) in
    let words : List ℕ = c.find_others-others.result in
    let is : 256 - c.count_bits-shown.result ≡ _ = shown_count canvas v c.count_bits-shown.result words c.find_others-others.ensures c.count_bits-shown.ensures.value in
    rw c.in_both-left.ensures (less_left canvas c.loop-most.best.value c.loop-most.most c.loop-most.left c.loop-most.invariant.best v (256 - c.count_bits-shown.result) words c.find_others-others.ensures is at c.first_of-at.ensures here)

pub loop-most-preserved : goal.loop-most-preserved
loop-most-preserved c =
    let canvas : Canvas = part_of c.args.tile.now (value_at c.args.w c.args.values.now) in
    let at : ℕ = c.first_of-at.result in
    let low : at % 16 < 16 = mod-lt at (omega arith) in
    let v : ℕ = get_or c.row_of.result.now (at % 16) 0 in
    let here : shown canvas at ≡ v = sym (c.row_of.ensures.values (at % 16) (omega (arith, low, c.requires.wide))) in
    let words : List ℕ = c.find_others-others.result in
    let times : ℕ = 256 - c.count_bits-shown.result in
    let is = shown_count canvas v c.count_bits-shown.result words c.find_others-others.ensures c.count_bits-shown.ensures.value in
    let best = c.loop-most.invariant.best in
    elim c.if-shown-most.branch [
      | then-shown-most w ↦
          rw (w.best-is, w.most-is, c.in_both-left.ensures) (record {
            best = better canvas c.loop-most.best.value c.loop-most.most c.loop-most.left best v times words c.find_others-others.ensures is at c.first_of-at.ensures here (omega (arith, w.if-shown-most.true));
            others = c.find_others-others.ensures;
          })
      | else-shown-most w ↦
          rw (w.best-is, w.most-is, c.in_both-left.ensures) (record {
            best = not_better canvas c.loop-most.best.value c.loop-most.most c.loop-most.left best v times words c.find_others-others.ensures is (omega (arith, w.if-shown-most.false));
            others = c.loop-most.invariant.others;
          })
    ]

pub returns-clause-value : goal.returns-clause-value
returns-clause-value c =
    let canvas : Canvas = part_of c.args.tile.now (value_at c.args.w c.args.values.now) in
    best_of_all canvas c.loop-most.best.value c.loop-most.most c.count_bits.result c.loop-most.left c.loop-most.invariant.best c.count_bits.ensures.value (omega (arith, c.loop-most-test.false))
