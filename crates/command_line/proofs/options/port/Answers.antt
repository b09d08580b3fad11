use Rattle.std.specs.Str.Parse.{ExplainsUnsignedError, HasUnsignedDigitsIfOk, ParsesUnsigned}
use Rattle.clap.specs.Words.{without_minus}
use Rattle.command_line.proofs.Numbers.{has_number, port_is_read, value_is}
use Rattle.command_line.proofs.options.port.Goals as goal

pub unwrap-requires : goal.unwrap-requires
unwrap-requires c =
    let one = c.get_one.ensures.value (without_minus c.requires.0) c.requires.2 in
    has_number c.requires.0 _ _ _ (port_is_read (λ bs r. ParsesUnsigned 16 10 bs r × ExplainsUnsignedError 10 bs r × HasUnsignedDigitsIfOk bs r) c.requires.0 c.get_one.result one (λ u x g. g.0) c.requires.3)

pub returns : goal.returns
returns c =
    let one = c.get_one.ensures.value (without_minus c.requires.0) c.requires.2 in
    let read = port_is_read (λ bs r. ParsesUnsigned 16 10 bs r × ExplainsUnsignedError 10 bs r × HasUnsignedDigitsIfOk bs r) c.requires.0 c.get_one.result one (λ u x g. g.0) c.requires.3 in
    let value = value_is c.requires.0 _ _ _ _ read c.unwrap.ensures in
    (c.requires.0, c.requires.1, value.0, value.1)
