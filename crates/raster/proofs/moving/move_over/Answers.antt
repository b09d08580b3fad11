use Rattle.std.proofs.Common.{◌≡◌, ℕ, ◌+◌, ◌-◌, ◌∙◌, ap, get_or, arith}
use Rattle.raster.proofs.moving.move_over.Goals as goal

pub returns : goal.returns
returns c =
    record {
      inside = λ k lt.
          let place : c.args.from + (c.args.to + k - c.args.to) ≡ c.args.from + k = omega arith in
          c.copy_within.ensures.by_index.0 (c.args.to + k) 0 (omega arith) (omega arith) ∙ ap (λ (p : ℕ). get_or c.args.values.now p 0) place;
      below = λ k lt. c.copy_within.ensures.by_index.1 k 0 lt;
      past = λ k le. c.copy_within.ensures.by_index.2 k 0 (omega arith);
    }
