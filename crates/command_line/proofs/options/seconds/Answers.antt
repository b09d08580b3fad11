use Rattle.std.specs.Str.Parse.{ExplainsUnsignedError, HasUnsignedDigitsIfOk, ParsesUnsigned}
use Rattle.command_line.proofs.Numbers.{number_is_read, value_is}
use Rattle.command_line.proofs.options.seconds.Goals as goal

pub returns : goal.returns
returns c =
    let one = c.get_one.ensures.value c.requires.0 c.requires.2 in
    let read = number_is_read (λ bs r. ParsesUnsigned 64 10 bs r × ExplainsUnsignedError 10 bs r × HasUnsignedDigitsIfOk bs r) 10 600 c.requires.0 c.get_one.result one (λ u x g. g.0) c.requires.3 in
    let value = value_is c.requires.0 _ _ _ _ read c.unwrap.ensures in
    (c.requires.0, c.requires.1, value.0, value.1)
