-- Options of recordings without a host that is one are misread: what is given them isn't none.
use Rattle.std.proofs.Common.{refl}
use Rattle.clap.specs.Words.{found_of}
use Rattle.command_line.proofs.Rooms.{plays_nothing}
use Rattle.command_line.proofs.options.told.Goals as goal

pub returns-then-plays_nothing-clause-err : goal.returns-then-plays_nothing-clause-err
returns-then-plays_nothing-clause-err c =
    let nothing = c.if-plays_nothing.ensures in
    plays_nothing (found_of c.args.matches.now) c.in-Ok-values.settings c.of_no_recording.result.status c.in-Ok-values.ensures
    c.of_no_recording.ensures (nothing.option refl) (nothing.host refl)
