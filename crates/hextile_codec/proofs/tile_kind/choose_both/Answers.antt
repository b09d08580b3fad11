use Rattle.std.proofs.Common.{◌≡◌, ◌*◌, ◌≤◌, ℕ, List, length, map, refl, ap, arith}
use Rattle.std.proofs.Math.Nat.{mul-le-mul}
use Rattle.raster.specs.declared.rect.Rect.{Rect}
use Rattle.raster.specs.Screen.{Canvas, value_at, part_of}
use Rattle.raster.specs.Encoding.{Subrect}
use Rattle.raster.proofs.Runs.{rows_count}
use Rattle.joined_runs.specs.declared.rect_form.RectForm.TheVariants.{OfRows, Joined}
use Rattle.joined_runs.specs.Joined.{subrects_of}
use Rattle.hextile_codec.specs.declared.runs.Run.{Run}
use Rattle.hextile_codec.specs.Carried.{carried_by}
use Rattle.hextile_codec.specs.Heads.{AreFound}
use Rattle.hextile_codec.specs.TileKinds.{HasMany, subrect_of}
use Rattle.hextile_codec.proofs.Searched.{many_of, found_of}
use Rattle.hextile_codec.proofs.tile_kind.choose_both.Goals as goal

pub returns-in_default-clause-joined : goal.returns-in_default-clause-joined
returns-in_default-clause-joined c =
    let tile : Rect = c.args.tile.now in
    let canvas : Canvas = part_of tile (value_at c.args.w c.args.values.now) in
    let found : List Subrect = map subrect_of c.find_both.new.room.subrects.items in
    let enough : ℕ = c.enough_for-enough.result in
    let many : HasMany Joined tile.w tile.h canvas enough × HasMany OfRows tile.w tile.h canvas enough =
    many_of (HasMany Joined tile.w tile.h canvas enough × HasMany OfRows tile.w tile.h canvas enough) (AreFound tile.w tile.h canvas found) c.find_both.result c.in_default.not-Some c.find_both.ensures in
    c.raw_choice-raw.ensures.many Joined canvas found (carried_by c.args.said.now.joined) (rw c.enough_for-enough.ensures.value at many.0)

pub returns-in_default-clause-rows : goal.returns-in_default-clause-rows
returns-in_default-clause-rows c =
    let tile : Rect = c.args.tile.now in
    let canvas : Canvas = part_of tile (value_at c.args.w c.args.values.now) in
    let found : List Subrect = map subrect_of c.find_both.new.room.subrects.items in
    let enough : ℕ = c.enough_for-enough.result in
    let many : HasMany Joined tile.w tile.h canvas enough × HasMany OfRows tile.w tile.h canvas enough =
    many_of (HasMany Joined tile.w tile.h canvas enough × HasMany OfRows tile.w tile.h canvas enough) (AreFound tile.w tile.h canvas found) c.find_both.result c.in_default.not-Some c.find_both.ensures in
    c.raw_choice-raw.ensures.many OfRows canvas (subrects_of OfRows tile.w tile.h canvas) (carried_by c.args.said.now.rows) (rw c.enough_for-enough.ensures.value at many.1)

pub choose-requires-2-clause-few : goal.choose-requires-2-clause-few
choose-requires-2-clause-few c =
    let tile : Rect = c.args.tile.now in
    let canvas : Canvas = part_of tile (value_at c.args.w c.args.values.now) in
    let found : List Subrect = map subrect_of c.find_both.new.room.subrects.items in
    let enough : ℕ = c.enough_for-enough.result in
    let are : AreFound tile.w tile.h canvas found c.in-Some.found =
    found_of (HasMany Joined tile.w tile.h canvas enough × HasMany OfRows tile.w tile.h canvas enough) (AreFound tile.w tile.h canvas found) c.find_both.result c.in-Some.found c.in-Some.is c.find_both.ensures in
    let most : length (subrects_of OfRows tile.w tile.h canvas) ≤ tile.h * tile.w = rows_count canvas (canvas 0 0) tile.w 0 tile.h in
    let area : tile.h * tile.w ≤ 16 * 16 = mul-le-mul {n₁ = tile.h} {m₁ = tile.w} {n₂ = 16} {m₂ = 16} c.requires.h_most c.requires.w_most in
    let listed : map subrect_of c.as_slice.result.now ≡ found = ap (λ (rs : List Run). map subrect_of rs) c.as_slice.ensures.value in
    let heads = c.heads_of-heads.ensures tile.w tile.h canvas c.requires.w_some c.requires.h_some (rw listed are) in
    omega (arith, heads.1.count, most, area)

pub returns-clause-joined : goal.returns-clause-joined
returns-clause-joined c =
    let tile : Rect = c.args.tile.now in
    let canvas : Canvas = part_of tile (value_at c.args.w c.args.values.now) in
    let found : List Subrect = map subrect_of c.find_both.new.room.subrects.items in
    let enough : ℕ = c.enough_for-enough.result in
    let are : AreFound tile.w tile.h canvas found c.in-Some.found =
    found_of (HasMany Joined tile.w tile.h canvas enough × HasMany OfRows tile.w tile.h canvas enough) (AreFound tile.w tile.h canvas found) c.find_both.result c.in-Some.found c.in-Some.is c.find_both.ensures in
    let listed : map subrect_of c.as_slice.result.now ≡ found = ap (λ (rs : List Run). map subrect_of rs) c.as_slice.ensures.value in
    let heads = c.heads_of-heads.ensures tile.w tile.h canvas c.requires.w_some c.requires.h_some (rw listed are) in
    c.choose.ensures.choice Joined canvas found heads.0 are.joined.all

pub returns-clause-rows : goal.returns-clause-rows
returns-clause-rows c =
    let tile : Rect = c.args.tile.now in
    let canvas : Canvas = part_of tile (value_at c.args.w c.args.values.now) in
    let found : List Subrect = map subrect_of c.find_both.new.room.subrects.items in
    let enough : ℕ = c.enough_for-enough.result in
    let are : AreFound tile.w tile.h canvas found c.in-Some.found =
    found_of (HasMany Joined tile.w tile.h canvas enough × HasMany OfRows tile.w tile.h canvas enough) (AreFound tile.w tile.h canvas found) c.find_both.result c.in-Some.found c.in-Some.is c.find_both.ensures in
    let listed : map subrect_of c.as_slice.result.now ≡ found = ap (λ (rs : List Run). map subrect_of rs) c.as_slice.ensures.value in
    let heads = c.heads_of-heads.ensures tile.w tile.h canvas c.requires.w_some c.requires.h_some (rw listed are) in
    c.choose-2.ensures.choice OfRows canvas (subrects_of OfRows tile.w tile.h canvas) heads.1 refl
