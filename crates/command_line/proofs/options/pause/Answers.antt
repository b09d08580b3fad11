use Rattle.std.specs.Str.Parse.{ExplainsUnsignedError, HasUnsignedDigitsIfOk, ParsesUnsigned}
use Rattle.clap.specs.Words.{found_of}
use Rattle.command_line.proofs.Numbers.{pause_is_read}
use Rattle.command_line.proofs.options.pause.Goals as goal

pub returns : goal.returns
returns c =
    pause_is_read (λ bs r. ParsesUnsigned 64 10 bs r × ExplainsUnsignedError 10 bs r × HasUnsignedDigitsIfOk bs r) (found_of c.args.matches.now) c.args.name.now
    c.get_one.result c.requires c.get_one.ensures.none c.get_one.ensures.value (λ u x g. g.0)
