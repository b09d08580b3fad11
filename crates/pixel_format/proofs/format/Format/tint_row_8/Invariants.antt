use Rattle.std.proofs.Common.{◌≡◌, take, [], ◌∷◌}
use Rattle.std.specs.List.{flat_map}
use Rattle.pixel_format.specs.PixelFormat.{tint}
use Rattle.pixel_format.proofs.format.Format.tint_row_8.Given as goal

abbrev pub invariant-loop-i : goal.invariant-loop-i
invariant-loop-i g l = take l.i l.out ≡ flat_map (λ colour. tint l.self colour ∷ []) (take l.i l.colours)
