use Rattle.std.proofs.Common.{◌≡◌, ◌∙◌, List, length, map, sym, ap}
use Rattle.std.proofs.lemmas.List.{length-map}
use Rattle.raster.specs.declared.rect.Rect.{Rect}
use Rattle.raster.specs.Screen.{Canvas, value_at, part_of}
use Rattle.joined_runs.specs.declared.rect_form.RectForm.TheVariants.{Joined}
use Rattle.joined_runs.specs.Joined.{joined_runs, runs_over, written}
use Rattle.hextile_codec.specs.declared.runs.Run.{Run}
use Rattle.hextile_codec.specs.TileKinds.{subrect_of}
use Rattle.hextile_codec.proofs.JoinedFound.{row_runs}
use Rattle.hextile_codec.proofs.joining.search_part.Goals as goal

pub join-requires-clause-rows : goal.join-requires-clause-rows
join-requires-clause-rows c =
    row_runs (part_of c.args.tile.now (value_at c.args.w c.args.values.now)) c.args.tile.now.w c.args.tile.now.h c.find_most-most.result c.as_slice.result.now (ap (λ (rs : List Run). map subrect_of rs) c.as_slice.ensures.value ∙ c.find_each_row.ensures)

pub returns : goal.returns
returns c =
    let tile : Rect = c.args.tile.now in
    let canvas : Canvas = part_of tile (value_at c.args.w c.args.values.now) in
    let runs : map subrect_of c.as_slice.result.now ≡ runs_over canvas c.find_most-most.result tile.w tile.h = ap (λ (rs : List Run). map subrect_of rs) c.as_slice.ensures.value ∙ c.find_each_row.ensures in
    record {
      joined = record {
        background = c.find_most-most.ensures;
        all = c.join.ensures ∙ (ap (written Joined canvas tile.w tile.h) runs ∙ ap (λ b. joined_runs canvas b tile.w tile.h) c.find_most-most.ensures);
      };
      rows = c.requires.first;
      count = c.len.ensures.value ∙ (sym (length-map c.find_each_row-2.new.found.items subrect_of) ∙ (ap length c.find_each_row-2.ensures ∙ ap (λ b. length (runs_over canvas b tile.w tile.h)) c.requires.first));
    }
