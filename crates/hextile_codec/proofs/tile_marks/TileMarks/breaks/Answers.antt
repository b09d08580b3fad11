use Rattle.std.proofs.Common.{◌≡◌, ℕ, List, [], ◌∷◌, ◌+◌, ◌*◌, ◌/◌, ◌%◌, ◌^◌, ◌<◌, get_or, arith}
use Rattle.std.specs.Int.{bit_at}
use Rattle.std.proofs.Math.Nat.{mod-lt, mod-add-div'}
use Rattle.raster.specs.Screen.{Canvas, value_at, part_of}
use Rattle.hextile_codec.specs.declared.tile_marks.TileMarks.{TileMarks}
use Rattle.hextile_codec.specs.Breaks.{IsUnbroken}
use Rattle.hextile_codec.proofs.RowMarks.{by_four}
use Rattle.hextile_codec.proofs.tile_marks.TileMarks.breaks.Goals as goal

pub returns : goal.returns
returns c =
    let canvas : Canvas = part_of c.args.tile.now (value_at c.args.w c.args.values.now) in
    let marks : TileMarks = c.args.self.now in
    let words : List ℕ = c.four_breaks.result ∷ c.four_breaks-2.result ∷ c.four_breaks-3.result ∷ c.four_breaks-4.result ∷ [] in
    let none : (k : ℕ) → k < 4 → (r x : ℕ) → r < 4 → x < 16 → 0 < 4 * k + r → bit_at (get_or words k 0) (r * 16 + x) ≡ 0 → IsUnbroken canvas marks (4 * k + r) x =
    by_four (λ k. (r x : ℕ) → r < 4 → x < 16 → 0 < 4 * k + r → bit_at (get_or words k 0) (r * 16 + x) ≡ 0 → IsUnbroken canvas marks (4 * k + r) x) c.four_breaks.ensures.none c.four_breaks-2.ensures.none c.four_breaks-3.ensures.none c.four_breaks-4.ensures.none in
    let only : (k : ℕ) → k < 4 → (r x : ℕ) → r < 4 → x < 16 → 0 < 4 * k + r → IsUnbroken canvas marks (4 * k + r) x → bit_at (get_or words k 0) (r * 16 + x) ≡ 0 =
    by_four (λ k. (r x : ℕ) → r < 4 → x < 16 → 0 < 4 * k + r → IsUnbroken canvas marks (4 * k + r) x → bit_at (get_or words k 0) (r * 16 + x) ≡ 0) c.four_breaks.ensures.only c.four_breaks-2.ensures.only c.four_breaks-3.ensures.only c.four_breaks-4.ensures.only in
    let whole : (y : ℕ) → 4 * (y / 4) + y % 4 ≡ y = λ y. let e = mod-add-div' y 4 in omega (arith, e) in
    record {
      none = λ y x some ly lx z. let w = whole y in rw w at (none (y / 4) (omega (arith, ly)) (y % 4) x (mod-lt y (omega arith)) lx (omega (arith, w, some)) z);
      only = λ y x some ly lx u. let w = whole y in only (y / 4) (omega (arith, ly)) (y % 4) x (mod-lt y (omega arith)) lx (omega (arith, w, some)) (rw w u);
      few = by_four (λ k. get_or words k 0 < 2 ^ 64) c.four_breaks.ensures.few c.four_breaks-2.ensures.few c.four_breaks-3.ensures.few c.four_breaks-4.ensures.few;
    }
