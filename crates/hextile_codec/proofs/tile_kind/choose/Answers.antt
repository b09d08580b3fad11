use Rattle.std.proofs.Common.{◌≡◌, ◌∙◌, List, length, map, sym, ap}
use Rattle.std.proofs.lemmas.List.{length-map}
use Rattle.raster.specs.declared.rect.Rect.{Rect}
use Rattle.raster.specs.Screen.{Canvas, value_at, part_of}
use Rattle.raster.specs.Encoding.{Subrect}
use Rattle.joined_runs.specs.declared.rect_form.RectForm.TheVariants.{OfRows}
use Rattle.joined_runs.specs.Joined.{subrects_of}
use Rattle.hextile_codec.specs.declared.runs.Run.{Run}
use Rattle.hextile_codec.specs.Carried.{carried_by}
use Rattle.hextile_codec.specs.TileKinds.{HasMany, IsFoundAs, kind_of, subrect_of}
use Rattle.hextile_codec.proofs.Searched.{many_of, found_of}
use Rattle.hextile_codec.proofs.tile_kind.choose.Goals as goal

pub returns-in_default : goal.returns-in_default
returns-in_default c =
    let tile : Rect = c.args.tile.now in
    let canvas : Canvas = part_of tile (value_at c.args.w c.args.values.now) in
    let found : List Subrect = map subrect_of c.find_rows.new.runs.items in
    let many : HasMany OfRows tile.w tile.h canvas c.enough_for-enough.result = many_of (HasMany OfRows tile.w tile.h canvas c.enough_for-enough.result) (IsFoundAs OfRows tile.w tile.h canvas found) c.find_rows.result c.in_default.not-Some c.find_rows.ensures in
    c.raw_choice.ensures.many OfRows canvas found (carried_by c.args.said.now) (rw c.enough_for-enough.ensures.value at many)

pub returns : goal.returns
returns c =
    let tile : Rect = c.args.tile.now in
    let canvas : Canvas = part_of tile (value_at c.args.w c.args.values.now) in
    let found : List Subrect = map subrect_of c.find_rows.new.runs.items in
    let is : IsFoundAs OfRows tile.w tile.h canvas found c.in-Some.background = found_of (HasMany OfRows tile.w tile.h canvas c.enough_for-enough.result) (IsFoundAs OfRows tile.w tile.h canvas found) c.find_rows.result c.in-Some.background c.in-Some.is c.find_rows.ensures in
    let same : map subrect_of c.as_slice-runs.result.now ≡ subrects_of OfRows tile.w tile.h canvas = ap (λ (rs : List Run). map subrect_of rs) c.as_slice-runs.ensures.value ∙ is.all in
    c.choose.ensures.choice OfRows canvas found
    (record {
      background = is.background;
      kind = c.kind_of.ensures ∙ ap kind_of same;
      count = sym (length-map c.as_slice-runs.result.now subrect_of) ∙ ap length same;
    }) is.all
