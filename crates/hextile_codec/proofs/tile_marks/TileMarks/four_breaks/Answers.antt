use Rattle.std.proofs.Common.{◌≡◌, ℕ, ◌+◌, ◌*◌, get_or, ap, ◌∙◌, arith}
use Rattle.std.specs.Int.{bit_at}
use Rattle.std.specs.Int.Bits.{bit_or, bit_xor}
use Rattle.std.proofs.lemmas.Nat.{or_lt, xor_lt}
use Rattle.raster.specs.Screen.{Canvas, value_at, part_of}
use Rattle.hextile_codec.specs.declared.tile_marks.TileMarks.{TileMarks}
use Rattle.hextile_codec.proofs.BreakBits.{mark_here, mark_above, none_is, is_none}
use Rattle.hextile_codec.proofs.tile_marks.TileMarks.four_breaks.Goals as goal

pub returns-clause-none : goal.returns-clause-none
returns-clause-none c r x lr lx some =
    let canvas : Canvas = part_of c.args.tile.now (value_at c.args.w c.args.values.now) in
    let marks : TileMarks = c.args.self.now in
    let k : ℕ = c.args.k in
    let place : r * 16 + x ≡ 16 * r + x = omega arith in
    none_is canvas marks (4 * k + r) x (r * 16 + x) c.rows_apart-apart.result (get_or marks.begins k 0) c.moved_down.result (get_or marks.ends k 0) c.moved_down-2.result
    (ap (bit_at c.rows_apart-apart.result) place ∙ c.rows_apart-apart.ensures.bits r x lr lx some) (mark_here marks.begins k r x lr)
    (mark_above marks.begins k r x c.moved_down.result lr lx some (rw c.saturating_sub-above.ensures at c.moved_down.ensures.first) c.moved_down.ensures.others) (mark_here marks.ends k r x lr)
    (mark_above marks.ends k r x c.moved_down-2.result lr lx some (rw c.saturating_sub-above.ensures at c.moved_down-2.ensures.first) c.moved_down-2.ensures.others)

pub returns-clause-only : goal.returns-clause-only
returns-clause-only c r x lr lx some =
    let canvas : Canvas = part_of c.args.tile.now (value_at c.args.w c.args.values.now) in
    let marks : TileMarks = c.args.self.now in
    let k : ℕ = c.args.k in
    let place : r * 16 + x ≡ 16 * r + x = omega arith in
    is_none canvas marks (4 * k + r) x (r * 16 + x) c.rows_apart-apart.result (get_or marks.begins k 0) c.moved_down.result (get_or marks.ends k 0) c.moved_down-2.result
    (ap (bit_at c.rows_apart-apart.result) place ∙ c.rows_apart-apart.ensures.bits r x lr lx some) (mark_here marks.begins k r x lr)
    (mark_above marks.begins k r x c.moved_down.result lr lx some (rw c.saturating_sub-above.ensures at c.moved_down.ensures.first) c.moved_down.ensures.others) (mark_here marks.ends k r x lr)
    (mark_above marks.ends k r x c.moved_down-2.result lr lx some (rw c.saturating_sub-above.ensures at c.moved_down-2.ensures.first) c.moved_down-2.ensures.others)

pub returns-clause-few : goal.returns-clause-few
returns-clause-few c =
    let marks : TileMarks = c.args.self.now in
    let k : ℕ = c.args.k in
    or_lt 64 (bit_or c.rows_apart-apart.result (bit_xor (get_or marks.begins k 0) c.moved_down.result)) (bit_xor (get_or marks.ends k 0) c.moved_down-2.result)
    (or_lt 64 c.rows_apart-apart.result (bit_xor (get_or marks.begins k 0) c.moved_down.result) c.rows_apart-apart.ensures.few
    (xor_lt 64 (get_or marks.begins k 0) c.moved_down.result (c.requires.marks k c.requires.word).few c.moved_down.ensures.few))
    (xor_lt 64 (get_or marks.ends k 0) c.moved_down-2.result (c.requires.marks k c.requires.word).small c.moved_down-2.ensures.few)
