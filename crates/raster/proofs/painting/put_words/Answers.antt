use Rattle.std.proofs.Common.{◌≡◌, ℕ, ◌+◌, ◌*◌, List, length, map, refl, arith}
use Rattle.std.specs.Int.{w32, from_le_bytes}
use Rattle.raster.specs.Screen.{value_at}
use Rattle.raster.proofs.Rows.{row_fits, lay_more, lay_none}
use Rattle.raster.proofs.painting.put_words.Goals as goal

pub lay_words-requires : goal.lay_words-requires
lay_words-requires c =
    let fits = row_fits c.args.w c.args.h c.args.y c.args.x (length c.args.words.now) c.requires.down c.requires.across in
    omega (arith, fits, c.requires.size)

pub returns : goal.returns
returns c =
    let w : ℕ = c.args.w in
    let n : ℕ = length c.args.words.now in
    let row : List ℕ = map (from_le_bytes w32) c.args.words.now in
    let old : List ℕ = c.args.values.now in
    let new : List ℕ = c.lay_words.new.values in
    let none : c.args.y + 0 ≡ c.args.y = omega arith in
    let e = c.lay_words.ensures in
    lay_more w c.args.h c.args.x c.args.y n 0 (value_at n row) (value_at w old) old new row c.requires.across (omega (arith, c.requires.down)) (lay_none w c.args.h c.args.x c.args.y n (value_at n row) (value_at w old))
    (rw none e.inside) (λ k lt. let z : 0 * n + k ≡ k = omega arith in rw z refl) (rw none e.outside) (rw none e.past)
