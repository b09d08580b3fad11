use Rattle.std.proofs.Common.{ℕ, List, arith}
use Rattle.zrle_codec.proofs.Paletted.{packed_tile, palette_runs_tile}
use Rattle.zrle_codec.proofs.tile.append_chosen.Goals as goal

pub returns-then-is_packed-clause-ok : goal.returns-then-is_packed-clause-ok
returns-then-is_packed-clause-ok c =
    let n : ℕ = c.in-Some.colours in
    let palette : List ℕ = c.index_values.new.palette in
    let indices : List ℕ = c.index_values.new.indices in
    packed_tile c.args.pixels.now.format c.args.w c.args.h n c.args.values.now palette indices c.args.out.now.items c.append_packed.new.out.items c.requires.count c.index_values.ensures.each
    (omega (arith, c.index_values.ensures.room, c.in-Some.ensures.indexed.few)) (omega arith) (c.is_packed.ensures c.if-is_packed.true) c.in-Some.ensures.indexed
    c.in_ok-append_packed.ensures.ok

pub returns-clause-ok : goal.returns-clause-ok
returns-clause-ok c =
    let n : ℕ = c.in-Some.colours in
    let palette : List ℕ = c.index_values.new.palette in
    let indices : List ℕ = c.index_values.new.indices in
    palette_runs_tile c.args.pixels.now.format c.args.w c.args.h n c.args.values.now palette indices c.args.out.now.items c.append_palette_runs.new.out.items c.requires.count c.index_values.ensures.each
    (omega (arith, c.index_values.ensures.room, c.in-Some.ensures.indexed.few)) (omega arith) c.in-Some.ensures.indexed
    c.in_ok-append_palette_runs.ensures.ok
