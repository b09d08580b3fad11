use Rattle.std.proofs.Common.{◌≡◌, ◌≤◌, ◌++◌, ℕ, List, inl, ap, arith, min, length}
use Rattle.byte_reading.specs.Reading.{after}
use Rattle.rfb_wire.specs.ClientReader.{ahead, form_of}
use Rattle.rfb_wire.specs.declared.client_reader.part.Part.{Part}
use Rattle.rfb_wire.proofs.ViewerParts.{fields_use}
use Rattle.rfb_wire.proofs.client_reader.state.take_fields.Goals as goal

pub returns-then-count-left : goal.returns-then-count-left
returns-then-count-left c =
    inl (fields_use c.args.fields.now.0 c.args.fields.now.1 (after (form_of c.keep.new.self.0) c.keep.new.self.1) c.args.piece.now c.split_at.result.0.now c.left.result c.min-count.result c.left.ensures.value c.left.ensures.some c.requires
    c.min-count.ensures c.split_at.ensures.front (ap (λ (f : Part × List ℕ). after (form_of f.0) f.1) c.keep.ensures))

pub returns : goal.returns
returns c =
    inl (fields_use c.args.fields.now.0 c.args.fields.now.1 (ahead c.complete.result) c.args.piece.now c.split_at.result.0.now c.left.result c.min-count.result c.left.ensures.value c.left.ensures.some c.requires
    c.min-count.ensures c.split_at.ensures.front (cc (c.complete.ensures, c.part-part.ensures.value, c.len.ensures, c.whole-all.ensures)))
