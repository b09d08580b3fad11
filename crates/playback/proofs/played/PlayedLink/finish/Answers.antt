-- All before the block at hand was played.
use Rattle.std.proofs.Common.{refl, sym, subst}
use Rattle.playback.specs.Playing.{Played, IsLate, IsReady}
use Rattle.playback.proofs.Playing.{finished}
use Rattle.playback.proofs.played.PlayedLink.finish.Goals as goal

pub invariant_of-self : goal.invariant_of-self
invariant_of-self g c =
    let l = c.self.inside in
    let old : Played = record { reel = l.reel; until = l.until; key = l.key; hello = l.hello; opening = l.opening; sent = l.sent; used = l.used; time = l.time; taken = l.taken.bytes; given = l.given.bytes; failed = l.failures; ended = l.ends; is_over = l.is_over; why = l.why } in
    let late : IsLate old = subst IsLate (sym c.self.view_is) c.requires.late in
    let ready : IsReady old = subst IsReady (sym c.self.view_is) c.requires.ready in
    (c.self.invariant.0, c.self.invariant.1, c.self.invariant.2, finished g.P.Pace.has_come g.F.Recorded.is_all g.F.Recorded.has_failed old c.self.invariant.3 late ready, λ ended. refl)
