use Rattle.std.proofs.Common.{refl, arith}
use Rattle.raster.specs.Screen.{Canvas, value_at, part_of}
use Rattle.hextile_codec.proofs.TileRuns.{AreAbove, all_above, rows_above}
use Rattle.hextile_codec.proofs.runs.find_marked.Goals as goal

pub returns : goal.returns
returns c =
    let canvas : Canvas = part_of c.args.tile.now (value_at c.args.w c.args.values.now) in
    let none : AreAbove canvas c.args.background 16 16 0 c.clear.new.self.items = record { all = rw c.clear.ensures refl } in
    let one = rows_above canvas c.args.background 0 c.clear.new.self.items c.add_marked.new.runs.items (omega arith) (rw c.mark_rows-first.ensures.background at c.add_marked.ensures.added) none in
    let two = rows_above canvas c.args.background 4 c.add_marked.new.runs.items c.add_marked-2.new.runs.items (omega arith) (rw c.mark_rows-second.ensures.background at c.add_marked-2.ensures.added) one in
    let three = rows_above canvas c.args.background 8 c.add_marked-2.new.runs.items c.add_marked-3.new.runs.items (omega arith) (rw c.mark_rows-third.ensures.background at c.add_marked-3.ensures.added) two in
    let four = rows_above canvas c.args.background 12 c.add_marked-3.new.runs.items c.add_marked-4.new.runs.items (omega arith) (rw c.mark_rows-fourth.ensures.background at c.add_marked-4.ensures.added) three in
    λ _. all_above canvas c.args.background 16 16 16 c.add_marked-4.new.runs.items (omega arith) four
