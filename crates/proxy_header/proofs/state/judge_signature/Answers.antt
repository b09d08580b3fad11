-- A byte where one of the signature has to stand.
use Rattle.std.proofs.Common.{arith}
use Rattle.byte_reading.specs.Reading.{Want}
use Rattle.proxy_header.specs.Header.{signature, after_command}
use Rattle.proxy_header.proofs.Steps.{exactly_right, exactly_wrong}
use Rattle.proxy_header.proofs.state.judge_signature.Goals as goal

pub returns-then-byte-count : goal.returns-then-byte-count
returns-then-byte-count c = exactly_right signature (Want after_command) c.args.count c.args.byte (omega arith) c.if-byte-count.true

pub returns-else-byte-count : goal.returns-else-byte-count
returns-else-byte-count c = exactly_wrong signature (Want after_command) c.args.count c.args.byte (omega arith) c.if-byte-count.false
