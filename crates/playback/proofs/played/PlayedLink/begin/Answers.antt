-- The time of a block was told by the pace.
use Rattle.playback.specs.Playing.{Played}
use Rattle.playback.proofs.Playing.{begun_at}
use Rattle.playback.proofs.played.PlayedLink.begin.Goals as goal

pub invariant_of-self : goal.invariant_of-self
invariant_of-self g c =
    let l = c.self.inside in
    let old : Played = record { reel = l.reel; until = l.until; key = l.key; hello = l.hello; opening = l.opening; sent = l.sent; used = l.used; time = l.time; taken = l.taken.bytes; given = l.given.bytes; failed = l.failures; ended = l.ends; is_over = l.is_over; why = l.why } in
    (c.self.invariant.0, c.self.invariant.1, c.self.invariant.2, begun_at g.P.Pace.has_come g.F.Recorded.is_all g.F.Recorded.has_failed old c.args.time c.self.invariant.3 c.requires, c.self.invariant.4)
