use Rattle.replay.proofs.Words.{stops_at, stops_short, is_read}
use Rattle.replay.proofs.hexadecimal.joined.Goals as goal

pub returns-then-begins-clause-none : goal.returns-then-begins-clause-none
returns-then-begins-clause-none c = stops_at c.args.text.now c.loop-byte.digits.items c.loop-byte.begins c.loop-byte.byte-index c.loop-byte.invariant c.loop-byte-test.true c.if-byte-ne32.false c.if-begins.true

pub returns-then-begins-2-clause-none : goal.returns-then-begins-2-clause-none
returns-then-begins-2-clause-none c = stops_short c.args.text.now c.loop-byte.digits.items c.loop-byte.begins c.loop-byte.byte-index c.loop-byte.invariant c.loop-byte-test.false c.if-begins-2.true

pub returns-clause-found : goal.returns-clause-found
returns-clause-found c = is_read c.args.text.now c.loop-byte.digits.items c.loop-byte.begins c.loop-byte.byte-index c.loop-byte.invariant c.loop-byte-test.false c.if-begins-2.false
