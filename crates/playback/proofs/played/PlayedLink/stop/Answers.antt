-- The recording can't be read on.
use Rattle.std.proofs.Common.{◌≡◌, Some, Err, sym, subst}
use Rattle.byte_reading.specs.Reading.{whole_of}
use Rattle.recording.specs.Progress.{ahead}
use Rattle.playback.specs.Playing.{Played}
use Rattle.playback.proofs.Playing.{stopped}
use Rattle.playback.proofs.played.PlayedLink.stop.Goals as goal

pub invariant_of-self : goal.invariant_of-self
invariant_of-self g c =
    let l = c.self.inside in
    let old : Played = record { reel = l.reel; until = l.until; key = l.key; hello = l.hello; opening = l.opening; sent = l.sent; used = l.used; time = l.time; taken = l.taken.bytes; given = l.given.bytes; failed = l.failures; ended = l.ends; is_over = l.is_over; why = l.why } in
    let whole : whole_of (ahead l.reel.reader) ≡ Some (Err c.args.bad) = subst (λ (p : Played). whole_of (ahead p.reel.reader) ≡ Some (Err c.args.bad)) (sym c.self.view_is) c.requires in
    (c.self.invariant.0, c.self.invariant.1, c.self.invariant.2, stopped g.P.Pace.has_come g.F.Recorded.is_all g.F.Recorded.has_failed old c.args.bad c.self.invariant.3 whole, c.self.invariant.4)
