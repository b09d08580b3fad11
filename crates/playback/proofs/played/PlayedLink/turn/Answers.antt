-- All of the block at hand was used.
use Rattle.std.proofs.Common.{◌≡◌, ◌≤◌, false, Some, Ok, length, sym, subst, ◌∙◌}
use Rattle.byte_reading.specs.Reading.{whole_of}
use Rattle.recording.specs.Progress.{ahead}
use Rattle.recording.specs.Recording.{Block}
use Rattle.playback.specs.Heard.{is_later}
use Rattle.playback.specs.Playing.{Played, IsGoing, IsReady}
use Rattle.playback.proofs.Playing.{turns, ready_turned}
use Rattle.playback.proofs.played.PlayedLink.turn.Goals as goal

pub invariant_of-self : goal.invariant_of-self
invariant_of-self g c =
    let l = c.self.inside in
    let old : Played = record { reel = l.reel; until = l.until; key = l.key; hello = l.hello; opening = l.opening; sent = l.sent; used = l.used; time = l.time; taken = l.taken.bytes; given = l.given.bytes; failed = l.failures; ended = l.ends; is_over = l.is_over; why = l.why } in
    let block : Block = record { said = c.in-Some-Ok.block.said.now; time = c.in-Some-Ok.block.time } in
    let here = rw c.in-Some-Ok.field-0-is at c.in-Some-Ok.ensures in
    let going : IsGoing old = subst IsGoing (sym c.self.view_is) c.requires.going in
    let whole : whole_of (ahead l.reel.reader) ≡ Some (Ok block) = sym here in
    let long : length block.said ≤ l.used = c.if-self-block.false in
    let early : is_later l.until block ≡ false = sym (c.is_later.ensures block.said) ∙ c.if-is_later.false in
    (c.self.invariant.0, c.self.invariant.1, c.self.invariant.2, turns g.P.Pace.has_come g.F.Recorded.is_all g.F.Recorded.has_failed old c.go_on.new.self block c.self.invariant.3 going whole long early c.go_on.ensures.same c.go_on.ensures.reader, c.self.invariant.4)

pub returns-clause-ready : goal.returns-clause-ready
returns-clause-ready g c =
    let l = c.self.inside in
    let old : Played = record { reel = l.reel; until = l.until; key = l.key; hello = l.hello; opening = l.opening; sent = l.sent; used = l.used; time = l.time; taken = l.taken.bytes; given = l.given.bytes; failed = l.failures; ended = l.ends; is_over = l.is_over; why = l.why } in
    let ready : IsReady old = subst IsReady (sym c.self.view_is) c.requires.ready in
    ready_turned old c.go_on.new.self ready c.go_on.ensures.same
