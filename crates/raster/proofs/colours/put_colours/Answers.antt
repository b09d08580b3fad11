use Rattle.std.proofs.Common.{◌≡◌, ℕ, ◌+◌, ◌*◌, List, [], length, map, ap, sym, ◌∙◌, arith}
use Rattle.std.proofs.lemmas.List.{get_or-map}
use Rattle.std.specs.Int.{w32, from_le_bytes}
use Rattle.raster.specs.Colours.{colour_in, colour_of}
use Rattle.raster.specs.Screen.{value_at, kept}
use Rattle.raster.proofs.Rows.{row_fits, lay_more, lay_none}
use Rattle.raster.proofs.colours.put_colours.Goals as goal

pub lay_colours-requires : goal.lay_colours-requires
lay_colours-requires c =
    let fits = row_fits c.args.w c.args.h c.args.y c.args.x (length c.args.pixels.now) c.requires.down c.requires.across in
    omega (arith, fits, c.requires.size)

pub returns : goal.returns
returns c =
    let w : ℕ = c.args.w in
    let pixels : List (List ℕ) = c.args.pixels.now in
    let n : ℕ = length pixels in
    let over = kept colour_of (value_at n (map (from_le_bytes w32) pixels)) in
    let old : List ℕ = c.args.values.now in
    let new : List ℕ = c.lay_colours.new.values in
    let none : c.args.y + 0 ≡ c.args.y = omega arith in
    let e = c.lay_colours.ensures in
    lay_more w c.args.h c.args.x c.args.y n 0 over (value_at w old) old new (map colour_in pixels) c.requires.across (omega (arith, c.requires.down)) (lay_none w c.args.h c.args.x c.args.y n over (value_at w old))
    (rw none e.inside)
    (λ k lt. let z : 0 * n + k ≡ k = omega arith in
    rw z (get_or-map colour_in pixels k [] 0 lt ∙ sym (ap colour_of (get_or-map (from_le_bytes w32) pixels k [] 0 lt))))
    (rw none e.outside) (rw none e.past)
