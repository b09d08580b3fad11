use Rattle.std.specs.Str.Parse.{ExplainsUnsignedError, HasUnsignedDigitsIfOk, ParsesUnsigned}
use Rattle.clap.specs.Words.{found_of}
use Rattle.command_line.proofs.Numbers.{web_port_is_read}
use Rattle.command_line.proofs.options.optional_port.Goals as goal

pub returns : goal.returns
returns c =
    web_port_is_read (λ bs r. ParsesUnsigned 16 10 bs r × ExplainsUnsignedError 10 bs r × HasUnsignedDigitsIfOk bs r) (found_of c.args.matches.now) c.args.name.now
    c.get_one.result c.requires c.get_one.ensures.none c.get_one.ensures.value (λ u x g. g.0)
