use Rattle.std.specs.String.{string_bytes}
use Rattle.replay.proofs.Spelled.{pushed}
use Rattle.replay.proofs.hexadecimal.push_byte.Goals as goal

pub returns : goal.returns
returns c =
    pushed (string_bytes c.args.text.now) (string_bytes c.push.new.self) (string_bytes c.push-2.new.self) c.args.byte c.upper_digit.result c.upper_digit-2.result _ _
    c.in_ok-push.ensures.bytes (c.in_ok-push.ensures.ascii c.upper_digit.ensures.ascii) c.upper_digit.ensures.value
    c.in_ok-push-2.ensures.bytes (c.in_ok-push-2.ensures.ascii c.upper_digit-2.ensures.ascii) c.upper_digit-2.ensures.value
