use Rattle.raster.proofs.AreaRows.{tile_first}
use Rattle.hextile_codec.proofs.frequent.find_most.Goals as goal

pub shows_most-requires-clause-first : goal.shows_most-requires-clause-first
shows_most-requires-clause-first c = tile_first c.args.values.now c.args.w c.args.tile.now
