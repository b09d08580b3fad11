-- The handshake takes what it wants; where it is at fault all is heard.
use Rattle.std.proofs.Common.{◌++◌, ℕ, List, length, sym, subst, arith}
use Rattle.std.proofs.lemmas.List.{take_all}
use Rattle.byte_reading.proofs.ReadingLaws.{taken-le}
use Rattle.rfb_wire.specs.Joining.{ahead}
use Rattle.recording.specs.Waiting.{stamp}
use Rattle.playback.specs.Playing.{HasHandshake}
use Rattle.playback.proofs.Handshakes.{handshake_feeds, handshake_fails}
use Rattle.playback.proofs.played.fitting.Goals as goal

pub returns-in-Ok-clause-count : goal.returns-in-Ok-clause-count
returns-in-Ok-clause-count c =
    let used = c.in-Ok.ensures.reads.1 in
    let within = taken-le (ahead c.args.hello.now) c.args.bytes.now in
    omega (arith, used, within)

pub returns-in-Ok-clause-front : goal.returns-in-Ok-clause-front
returns-in-Ok-clause-front c = λ on played time has. handshake_feeds c.args.hello.now c.feed.new.self played time c.in-Ok.count c.args.bytes.now has c.in-Ok.ensures.reads

pub returns-in-Err-clause-front : goal.returns-in-Err-clause-front
returns-in-Err-clause-front c =
    λ on played time has. subst (λ (xs : List ℕ). HasHandshake c.feed.new.self (played ++ stamp time xs)) (sym (take_all (length c.args.bytes.now) c.args.bytes.now (omega arith)))
    (handshake_fails c.args.hello.now c.feed.new.self played time c.in-Err.field-0 c.args.bytes.now has c.in-Err.ensures.reads)
