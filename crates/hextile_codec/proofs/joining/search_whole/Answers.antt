use Rattle.std.proofs.Common.{◌∙◌, length, ap}
use Rattle.raster.specs.Screen.{Canvas, value_at, part_of}
use Rattle.joined_runs.specs.Joined.{joined_runs, runs_over}
use Rattle.hextile_codec.specs.TileMarks.{AreTileMarks}
use Rattle.hextile_codec.proofs.joining.search_whole.Goals as goal

pub breaks-requires-clause-marks : goal.breaks-requires-clause-marks
breaks-requires-clause-marks c =
    let canvas : Canvas = part_of c.args.tile.now (value_at c.args.w c.args.values.now) in
    rw c.over-marks.ensures.background (c.over-marks.ensures.marks canvas c.find_changes-changes.ensures c.find_most_marked-most.ensures.others)

pub list_joined-requires-clause-marks : goal.list_joined-requires-clause-marks
list_joined-requires-clause-marks c =
    let canvas : Canvas = part_of c.args.tile.now (value_at c.args.w c.args.values.now) in
    rw c.over-marks.ensures.background (c.over-marks.ensures.marks canvas c.find_changes-changes.ensures c.find_most_marked-most.ensures.others)

pub list_joined-requires-clause-joins : goal.list_joined-requires-clause-joins
list_joined-requires-clause-joins c =
    let canvas : Canvas = part_of c.args.tile.now (value_at c.args.w c.args.values.now) in
    let are : AreTileMarks canvas c.over-marks.result.background c.over-marks.result = rw c.over-marks.ensures.background (c.over-marks.ensures.marks canvas c.find_changes-changes.ensures c.find_most_marked-most.ensures.others) in
    c.joins-joins.ensures canvas are c.breaks.ensures

pub returns : goal.returns
returns c =
    let canvas : Canvas = part_of c.args.tile.now (value_at c.args.w c.args.values.now) in
    let are : AreTileMarks canvas c.over.result.background c.over.result = rw c.over.ensures.background (c.over.ensures.marks canvas c.find_changes-changes.ensures c.find_others-others.ensures) in
    record {
      joined = record {
        background = c.find_most_marked-most.ensures.value;
        all = c.list_joined.ensures ∙ ap (λ b. joined_runs canvas b 16 16) (c.over-marks.ensures.background ∙ c.find_most_marked-most.ensures.value);
      };
      rows = c.requires.first;
      count = c.count.ensures.value canvas are ∙ ap (λ b. length (runs_over canvas b 16 16)) (c.over.ensures.background ∙ c.requires.first);
    }
