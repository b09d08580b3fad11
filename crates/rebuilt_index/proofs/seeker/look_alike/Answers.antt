-- One row more shows the same.
use Rattle.std.proofs.Common.{◌≡◌, ℕ, ◌<◌, List, length, slice_index, sym, ap, ◌∙◌, arith, below_more}
use Rattle.std.proofs.lemmas.Bool.{not-false}
use Rattle.std.proofs.lemmas.Slice.Eq.{bytes_eq-Decides}
use Rattle.painter.specs.Painter.{worked}
use Rattle.rebuilt_index.proofs.seeker.look_alike.Goals as goal

pub loop-y-preserved : goal.loop-y-preserved
loop-y-preserved c = λ x k lx lk.
    let one : List ℕ = c.row.result.now in
    let other : List ℕ = c.row-in-loop-y.result.now in
    let same : one ≡ other = (bytes_eq-Decides one other).0 (not-false _ (sym c.if-ne-2.ensures)) in
    let long : length one ≡ length other = ap length same in
    let inside : x < c.args.other.now.painter.width = omega (arith, long, c.row.ensures.count, c.row-in-loop-y.ensures.count, lx) in
    let here : worked c.args.one.now.painter x c.loop-y.y ≡ worked c.args.other.now.painter x c.loop-y.y =
    sym (c.row.ensures.colours x lx) ∙ (ap (λ (xs : List ℕ). slice_index xs x) same ∙ c.row-in-loop-y.ensures.colours x inside) in
    below_more (λ k. worked c.args.one.now.painter x k ≡ worked c.args.other.now.painter x k) c.loop-y.y (λ k lk. c.loop-y.invariant x k lx lk) here k lk
