use Rattle.std.proofs.Common.{take, arith}
use Rattle.host_decoder.specs.Parts.{len_of}
use Rattle.host_decoder.proofs.Steps.{fields_use, fields_end}
use Rattle.host_decoder.proofs.advance.take_fields.Goals as goal

pub returns-then-count-left-clause-uses : goal.returns-then-count-left-clause-uses
returns-then-count-left-clause-uses c start r here =
    fields_use c.args.painter.now c.args.fields.now.0 c.args.fields.now.1 c.args.bytes.now c.split_at.result.0.now c.keep.new.self c.left.result c.min-count.result start r c.left.ensures.value c.min-count.ensures (omega (arith, c.left.ensures.value, c.left-2.ensures.value))
    c.split_at.ensures.front c.keep.ensures here

pub returns-clause-uses : goal.returns-clause-uses
returns-clause-uses c start r here =
    let next = rw (c.len.ensures, c.part-part.ensures.value) at (c.complete.ensures.goes_on start) in
    fields_end c.args.painter.now c.complete.new.painter c.complete.result c.args.fields.now.0 c.args.fields.now.1 c.args.bytes.now c.split_at.result.0.now (take (len_of c.args.fields.now.0) c.whole-all.result) c.left.result c.min-count.result start r c.left.ensures.value c.min-count.ensures
    (omega (arith, c.left.ensures.value, c.left-2.ensures.value)) c.split_at.ensures.front c.whole-all.ensures here next
