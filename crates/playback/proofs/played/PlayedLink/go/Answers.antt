-- The handshake is whole, and what follows it is read at the key moment.
use Rattle.std.proofs.Common.{sym, subst}
use Rattle.playback.specs.Playing.{Played, IsGoing, IsAtKey}
use Rattle.playback.proofs.Playing.{goes, fails, fails_same}
use Rattle.playback.proofs.played.PlayedLink.go.Goals as goal

pub invariant_of-self : goal.invariant_of-self
invariant_of-self g c =
    let l = c.self.inside in
    let old : Played = record { reel = l.reel; until = l.until; key = l.key; hello = l.hello; opening = l.opening; sent = l.sent; used = l.used; time = l.time; taken = l.taken.bytes; given = l.given.bytes; failed = l.failures; ended = l.ends; is_over = l.is_over; why = l.why } in
    let going : IsGoing old = subst IsGoing (sym c.self.view_is) c.requires.going in
    let at : IsAtKey old c.args.place = subst (λ (p : Played). IsAtKey p c.args.place) (sym c.self.view_is) c.requires.key in
    let h = c.in-Ok.ensures in
    (c.self.invariant.0, c.self.invariant.1, c.self.invariant.2, goes g.P.Pace.has_come g.F.Recorded.is_all g.F.Recorded.has_failed old c.go_to.new.self c.args.place c.self.invariant.3 going at h.behind.0 h.behind.1 h.first h.blocks, c.self.invariant.4)

pub invariant_of-self-in-Err : goal.invariant_of-self-in-Err
invariant_of-self-in-Err g c =
    let l = c.self.inside in
    let old : Played = record { reel = l.reel; until = l.until; key = l.key; hello = l.hello; opening = l.opening; sent = l.sent; used = l.used; time = l.time; taken = l.taken.bytes; given = l.given.bytes; failed = l.failures; ended = l.ends; is_over = l.is_over; why = l.why } in
    let h = c.in-Err.ensures in
    let all = fails g.P.Pace.has_come g.F.Recorded.is_all g.F.Recorded.has_failed old c.in-Err.why c.self.invariant.3 h.err in
    (c.self.invariant.0, c.self.invariant.1, c.self.invariant.2, fails_same g.P.Pace.has_come g.F.Recorded.is_all g.F.Recorded.has_failed old c.go_to.new.self c.in-Err.why h.same all, c.self.invariant.4)
