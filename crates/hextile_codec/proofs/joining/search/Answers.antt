use Rattle.hextile_codec.proofs.joining.search.Goals as goal

pub returns-then-tile-eq-TILE_SIDE-2 : goal.returns-then-tile-eq-TILE_SIDE-2
returns-then-tile-eq-TILE_SIDE-2 c = rw (c.if-tile-eq-TILE_SIDE.true, c.if-tile-eq-TILE_SIDE-2.true) c.search_whole.ensures
