-- More was read, or no more can be.
use Rattle.std.proofs.Common.{◌≡◌, true, false, Option, Some, None, sym, subst, ◌∙◌}
use Rattle.std.specs.Prelude.{not}
use Rattle.byte_reading.specs.Reading.{whole_of}
use Rattle.recording.specs.Progress.{ahead}
use Rattle.playback.specs.Playing.{Played, IsGoing, IsReady, IsWhy}
use Rattle.playback.specs.declared.bad.BadPlayback.{BadPlayback}
use Rattle.playback.proofs.Playing.{read_on, no_more, not_true}
use Rattle.playback.proofs.played.PlayedLink.read_on.Goals as goal

pub invariant_of-self : goal.invariant_of-self
invariant_of-self g c =
    let l = c.self.inside in
    let old : Played = record { reel = l.reel; until = l.until; key = l.key; hello = l.hello; opening = l.opening; sent = l.sent; used = l.used; time = l.time; taken = l.taken.bytes; given = l.given.bytes; failed = l.failures; ended = l.ends; is_over = l.is_over; why = l.why } in
    let going : IsGoing old = subst IsGoing (sym c.self.view_is) c.requires.going in
    let ready : IsReady old = subst IsReady (sym c.self.view_is) c.requires.ready in
    let none : whole_of (ahead l.reel.reader) ≡ None = sym c.in-None.ensures in (
      c.self.invariant.0,
      c.self.invariant.1,
      c.self.invariant.2,
      read_on g.P.Pace.has_come g.F.Recorded.is_all g.F.Recorded.has_failed old c.read_on.new.self (not c.in-Ok.more) l.why c.self.invariant.3 none ready c.in-Ok.ensures.on (λ e. c.in-Ok.ensures.end (not_true c.in-Ok.more e))
          (subst (λ (w : Option BadPlayback). IsWhy g.F.Recorded.has_failed w (record old { reel = c.read_on.new.self; used = 0; is_over = not c.in-Ok.more; why = l.why })) (sym going.fine) tt),
      λ ended. absurd (let never : true ≡ false = sym (c.self.invariant.4 ended) ∙ going.on in cc),
    )

pub invariant_of-self-in-Err : goal.invariant_of-self-in-Err
invariant_of-self-in-Err g c =
    let l = c.self.inside in
    let old : Played = record { reel = l.reel; until = l.until; key = l.key; hello = l.hello; opening = l.opening; sent = l.sent; used = l.used; time = l.time; taken = l.taken.bytes; given = l.given.bytes; failed = l.failures; ended = l.ends; is_over = l.is_over; why = l.why } in
    let going : IsGoing old = subst IsGoing (sym c.self.view_is) c.requires.going in
    let ready : IsReady old = subst IsReady (sym c.self.view_is) c.requires.ready in
    let none : whole_of (ahead l.reel.reader) ≡ None = sym c.in-None.ensures in (
      c.self.invariant.0,
      c.self.invariant.1,
      c.self.invariant.2,
      read_on g.P.Pace.has_come g.F.Recorded.is_all g.F.Recorded.has_failed old c.read_on.new.self l.is_over (Some c.in-Err.why) c.self.invariant.3 none ready c.in-Err.ensures.on (λ e. absurd (let never : true ≡ false = sym e ∙ going.on in cc))
          (no_more g.F.Recorded.has_failed c.in-Err.why (record old { reel = c.read_on.new.self; used = 0; is_over = l.is_over; why = Some c.in-Err.why }) c.in-Err.ensures.err),
      c.self.invariant.4,
    )
