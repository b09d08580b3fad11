use Rattle.std.proofs.Common.{◌≡◌, ◌∙◌, ap, sym}
use Rattle.raster.specs.Screen.{Canvas, value_at, part_of}
use Rattle.joined_runs.specs.Joined.{runs_over}
use Rattle.hextile_codec.proofs.runs.find_runs.Goals as goal

pub returns-then-find_marked-clause-all : goal.returns-then-find_marked-clause-all
returns-then-find_marked-clause-all c =
    let canvas : Canvas = part_of c.args.tile.now (value_at c.args.w c.args.values.now) in
    let across : c.args.tile.now.w ≡ 16 = c.if-tile-eq-TILE_SIDE.true in
    let down : c.args.tile.now.h ≡ 16 = c.if-tile-eq-TILE_SIDE-2.true in
    λ t. c.find_marked.ensures c.if-find_marked.true ∙ (ap (λ h. runs_over canvas c.args.background 16 h) (sym down) ∙ ap (λ w. runs_over canvas c.args.background w c.args.tile.now.h) (sym across))
