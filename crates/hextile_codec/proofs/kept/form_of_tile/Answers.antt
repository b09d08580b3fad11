use Rattle.std.proofs.Common.{◌≡◌, ◌∙◌, ◌++◌, List, length, map, ap, arith}
use Rattle.std.specs.Prelude.{Result, Ok, Err}
use Rattle.std.specs.Result.{IsOk, OnOk}
use Rattle.raster.specs.declared.rect.Rect.{Rect}
use Rattle.raster.specs.Screen.{Canvas, value_at, part_of}
use Rattle.raster.specs.Encoding.{Subrect}
use Rattle.joined_runs.specs.declared.rect_form.RectForm.TheVariants.{Joined}
use Rattle.joined_runs.specs.Joined.{subrects_of}
use Rattle.hextile_codec.specs.declared.runs.Run.{Run}
use Rattle.hextile_codec.specs.Heads.{AreFound}
use Rattle.hextile_codec.specs.TileKinds.{subrect_of}
use Rattle.hextile_codec.proofs.kept.form_of_tile.Goals as goal

-- What fits is added.
added : {E P : Type 0} (answer : Result (Unit {0}) E) → IsOk answer → OnOk answer P → P
added (Ok x) fits p = p
added (Err e) fits p = absurd cc

pub returns : goal.returns
returns c =
    let tile : Rect = c.args.tile.now in
    let canvas : Canvas = part_of tile (value_at c.args.w c.args.colours.now) in
    let found : List Subrect = map subrect_of c.find_both.new.room.subrects.items in
    let are : AreFound tile.w tile.h canvas found c.in_ok-found.found = c.in_ok-found.ensures in
    let listed : map subrect_of c.as_slice-subrects.result.now ≡ found = ap (λ (rs : List Run). map subrect_of rs) c.as_slice-subrects.ensures.value in
    let same : map subrect_of c.as_slice-subrects.result.now ≡ subrects_of Joined tile.w tile.h canvas = listed ∙ are.joined.all in
    let heads = c.heads_of.ensures tile.w tile.h canvas c.requires.w_some c.requires.h_some (rw listed are) in
    let none : length c.new-runs.result.items ≡ 0 = ap length c.new-runs.ensures in
    let put = added c.try_extend_from_slice.result (c.try_extend_from_slice.ensures.variant.1 (omega (arith, none, c.if-subrects-gt-MOST_KEPT.false))) c.try_extend_from_slice.ensures.ok in
    let kept : c.try_extend_from_slice.new.self.items ≡ c.as_slice-subrects.result.now = put ∙ ap (λ (rs : List Run). rs ++ c.as_slice-subrects.result.now) c.new-runs.ensures in
    record {
      stands = record {
        are_colours = c.is_coloured.ensures c.if-not-is_coloured.false;
        joined = heads.0;
        rows = heads.1;
        runs = ap (λ (rs : List Run). map subrect_of rs) kept ∙ same;
      };
    }
