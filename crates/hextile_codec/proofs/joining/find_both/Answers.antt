-- A tile of one value has no run, and a crowded one has many over any background.
use Rattle.std.proofs.Common.{◌≡◌, ◌∙◌, ℕ, [], ap, length, map, sym, get_or, ◌+◌, ◌*◌}
use Rattle.raster.specs.declared.rect.Rect.{Rect}
use Rattle.raster.specs.Screen.{Canvas, value_at, part_of}
use Rattle.raster.proofs.AreaRows.{tile_first}
use Rattle.joined_runs.specs.Joined.{runs_over}
use Rattle.hextile_codec.specs.TileKinds.{subrect_of}
use Rattle.hextile_codec.proofs.PlainTile.{plain_found}
use Rattle.hextile_codec.proofs.joining.find_both.Goals as goal

pub returns-then-is_plain : goal.returns-then-is_plain
returns-then-is_plain c =
    let tile : Rect = c.args.tile.now in
    let canvas : Canvas = part_of tile (value_at c.args.w c.args.values.now) in
    let value : ℕ = get_or c.args.values.now (tile.y * c.args.w + tile.x) 0 in
    let first : value ≡ canvas 0 0 = tile_first c.args.values.now c.args.w tile in
    let none : runs_over canvas value tile.w tile.h ≡ [] = c.is_plain.ensures c.if-is_plain.true in
    record {
      joined = plain_found canvas tile.w tile.h value c.requires.w_some c.requires.h_some none (map subrect_of c.clear.new.self.items) (ap (map subrect_of) c.clear.ensures);
      rows = first;
      count = sym (ap (λ b. length (runs_over canvas b tile.w tile.h)) (sym first) ∙ ap length none);
    }

pub returns-then-is_crowded : goal.returns-then-is_crowded
returns-then-is_crowded c = (rw c.if-tile-eq-TILE_SIDE.true (c.is_crowded.ensures.joined c.if-is_crowded.true), rw c.if-tile-eq-TILE_SIDE.true (c.is_crowded.ensures.rows c.if-is_crowded.true))
