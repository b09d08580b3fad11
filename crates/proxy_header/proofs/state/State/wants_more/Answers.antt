-- That a byte is wanted in the signature, and in a block of addresses.
use Rattle.std.proofs.Common.{sym, refl, drop, ◌∙◌}
use Rattle.byte_reading.specs.Reading.{Want}
use Rattle.proxy_header.specs.Header.{signature, after_command}
use Rattle.proxy_header.proofs.Steps.{exactly_wants, block_wants}
use Rattle.proxy_header.proofs.state.State.wants_more.Goals as goal

pub returns-in-Signature-clause-value : goal.returns-in-Signature-clause-value
returns-in-Signature-clause-value c = rw c.in-Signature.is (sym (exactly_wants (drop c.in-Signature.field-0 signature) (Want after_command) refl))

pub returns-in-Block-clause-value : goal.returns-in-Block-clause-value
returns-in-Block-clause-value c = rw c.in-Block.is (c.is_open.ensures.value ∙ sym (block_wants c.in-Block.block.0 c.in-Block.field-1 c.in-Block.block.1 c.is_open.ensures.missing))
