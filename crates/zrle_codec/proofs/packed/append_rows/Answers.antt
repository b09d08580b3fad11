use Rattle.std.proofs.Common.{◌≡◌, ℕ, ◌+◌, ◌-◌, ◌*◌, ◌^◌, List, take, drop, ap, arith}
use Rattle.zrle_codec.proofs.Paletted.{row_more, no_rows, row_inside, part_known}
use Rattle.zrle_codec.proofs.packed.append_rows.Goals as goal

pub loop-y-init : goal.loop-y-init
loop-y-init c = no_rows c.args.bits c.args.w c.args.indices.now c.args.out.now.items

pub append_row-requires-clause-each : goal.append_row-requires-clause-each
append_row-requires-clause-each c =
    let from : ℕ = c.loop-y.y * c.args.w in
    part_known c.args.indices.now from (from + c.args.w - from) (2 ^ c.args.bits) (omega (arith, row_inside c.loop-y.y c.args.h c.args.w (omega arith), c.requires.count)) c.requires.each

pub loop-y-preserved : goal.loop-y-preserved
loop-y-preserved c =
    let indices : List ℕ = c.args.indices.now in
    let from : ℕ = c.loop-y.y * c.args.w in
    let whole : from + c.args.w - from ≡ c.args.w = omega arith in
    row_more c.args.bits c.args.w c.loop-y.y indices (take (from + c.args.w - from) (drop from indices)) c.args.out.now.items c.loop-y.out.items c.append_row.new.out.items
    (ap (λ n. take n (drop from indices)) whole) c.loop-y.invariant c.in_ok-append_row.ensures.ok
