use Rattle.std.proofs.Common.{◌≡◌, ◌≤◌, ℕ, List, [], ◌∷◌, length, take, refl, arith}
use Rattle.std.specs.Prelude.{slice_index}
use Rattle.hextile_codec.proofs.drawing.draw.Goals as goal

-- The first byte.
take_one : (bytes : List ℕ) (n : ℕ) → n ≡ 1 → 1 ≤ length bytes → take n bytes ≡ slice_index bytes 0 ∷ []
take_one [] n one some = absurd (omega arith)
take_one (b ∷ bs) n one some = rw one refl

pub draw_mask-requires : goal.draw_mask-requires
draw_mask-requires g c = record { tile = c.requires.tile }

pub returns-in-Mask-clause-drawn : goal.returns-in-Mask-clause-drawn
returns-in-Mask-clause-drawn g c =
    let some : 1 ≤ length c.args.bytes.now = rw c.in-Mask.is at c.requires.count in
    rw (c.in-Mask.is, take_one c.args.bytes.now c.draw_mask.result.used c.draw_mask.ensures.used some) c.draw_mask.ensures.drawn

pub draw_pixels-requires-clause-some : goal.draw_pixels-requires-clause-some
draw_pixels-requires-clause-some g c = rw c.in-RawPixels.is at c.requires.ready

pub draw_pixels-requires-clause-count : goal.draw_pixels-requires-clause-count
draw_pixels-requires-clause-count g c = rw c.in-RawPixels.is at c.requires.count

pub returns-in-RawPixels-clause-used : goal.returns-in-RawPixels-clause-used
returns-in-RawPixels-clause-used g c = rw c.in-RawPixels.is c.draw_pixels.ensures.used

pub returns-in-Failed-clause-used : goal.returns-in-Failed-clause-used
returns-in-Failed-clause-used g c = let no = rw c.in-Failed.is at c.requires.fine in absurd cc
