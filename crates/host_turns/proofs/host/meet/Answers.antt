-- The patch is a switch to the host on the run's screen; and a host that was joined is missed for want alone.
use Rattle.std.proofs.Common.{[], ◌∷◌, inl, inr, subst}
use Rattle.std.proofs.lemmas.Result.{err_from_is_err_and}
use Rattle.raster.specs.Screen.{Canvas}
use Rattle.raster.specs.Switch.{switch}
use Rattle.rfb_wire.specs.Handshake.{Joined}
use Rattle.painter.specs.Same.{AreSameUpdates}
use Rattle.host_turns.proofs.Turns.{joins_within, met, wants}
use Rattle.host_turns.proofs.host.meet.Goals as goal

pub returns-clause-met : goal.returns-clause-met
returns-clause-met g c =
    let made = c.in_ok-screen.ensures in
    let run = c.args.run_screen.now in
    let patch = c.in_ok-screen.patch in
    let host = c.in_ok-joined.joined in
    let same = subst (λ (h : Joined). (start : Canvas) → AreSameUpdates run.width run.height start (switch h.w h.h ∷ []) (patch.update ∷ [])) c.joined.view_is made.same in
    rw c.joined-2.ensures.link
    (met _ _ _ _ _ host _ _ _ c.in_ok-joined.ensures.joins c.in_ok-joined.ensures.fits c.in_ok-put_patch.ensures.ok same)

pub returns-in_err-screen-clause-err : goal.returns-in_err-screen-clause-err
returns-in_err-screen-clause-err g c =
    let exit = c.from_residual-in_err-screen in
    let is = err_from_is_err_and exit.result exit.ensures.1 in
    let joined = c.in_ok-joined.ensures in
    rw (is.1, is.2) (g.L.Link.state c.join_within.new.link, inr (joins_within _ _ _ _ _ c.in_ok-joined.joined joined.joins joined.fits, inl c.in_err-screen.ensures.err))

pub returns-in_err-put_patch-clause-err : goal.returns-in_err-put_patch-clause-err
returns-in_err-put_patch-clause-err g c =
    let exit = c.from_residual-in_err-put_patch in
    let is = err_from_is_err_and exit.result exit.ensures.1 in
    let joined = c.in_ok-joined.ensures in
    rw (is.1, is.2) (g.L.Link.state c.join_within.new.link, inr (joins_within _ _ _ _ _ c.in_ok-joined.joined joined.joins joined.fits, wants _ _ c.in_err-put_patch.ensures.err.0))
