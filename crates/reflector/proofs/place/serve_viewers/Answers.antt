-- One visit more, or the last.
use Rattle.std.proofs.Common.{Err, refl, true, ◌∙◌}
use Rattle.fault.specs.declared.kinds.Fault.TheVariants.{Memory}
use Rattle.run_traits.specs.Unused.{unused}
use Rattle.reflector.specs.Visits.{setup_of}
use Rattle.reflector.proofs.Visiting.{received_none, received_served, visiting_on, visits_end, visits_stop}
use Rattle.reflector.proofs.place.serve_viewers.Goals as goal

pub returns-then-is_set : goal.returns-then-is_set
returns-then-is_set g c = rw (c.leave.ensures.0, c.leave.ensures.1, c.leave.ensures.2) (visits_stop _ _ _ _ _ c.loop.invariant.3)

pub returns-in-Err : goal.returns-in-Err
returns-in-Err g c = let k = c.in-Err.ensures.left in rw (k.1, k.2) (visits_end _ _ _ _ _ _ c.loop.invariant.3 k.0)

-- There was no memory for the viewer that came.
pub loop-preserved-in-Ok-Err : goal.loop-preserved-in-Ok-Err
loop-preserved-in-Ok-Err g c =
    let k = rw c.in-Ok-Err.field-0-is at c.in-Ok-Err.ensures.let_go in (
      tt,
      tt,
      k.5 ∙ c.loop.invariant.2,
      rw (k.3, k.4)
          (visiting_on _ _ _ _ _ _ k.0 _ _ unused (Err Memory) c.loop.invariant.3 k.1
          (received_none g.S.ScreenSource.looks g.S.ScreenSource.cuts g.S.ScreenSource.may_end _ g.K.InputSink.may_refuse g.S.ScreenSource.known _ _ _ _ _ _ refl refl) k.2),
    )

-- The viewer was served over a link that had done nothing.
pub close-free-requires-after_bounds : goal.close-free-requires-after_bounds
close-free-requires-after_bounds g c = λ κs within.
    let place = c.open-busy.ensures.place in let visit = c.open-busy.ensures.visit in let began = c.beginning-began.ensures in
    let met = rw c.in-Ok-Ok.field-0-is at c.in-Ok-Ok.ensures.met in
    let stands = rw c.in-Ok-Ok.field-0-is at c.in-Ok-Ok.ensures.session in
    let maker = c.loop.free.lent.maker.now in let s = setup_of maker.width maker.height maker.name.items maker.form maker.host in
    let serves = rw (visit.1, visit.2, c.stop-in-loop.ensures, place.2, met.3) at (c.run_viewer-why.ensures.serves s maker.role true (rw visit.3 stands)) in
    let grows = rw visit.1 at c.run_viewer-why.ensures.grows in
    rw (place.1, place.2, began.1, began.2, met.3)
    (received_served g.S.ScreenSource.looks g.S.ScreenSource.cuts g.S.ScreenSource.may_end _ g.K.InputSink.may_refuse g.S.ScreenSource.known s maker.role _ _ _ _ _ _ _ (rw visit.0 c.in-Ok-Ok.met.fresh) serves grows)

pub loop-preserved : goal.loop-preserved
loop-preserved g c =
    let place = c.open-busy.ensures.place in let visit = c.open-busy.ensures.visit in let lent = c.close-free.ensures.lent in let parts = c.close-free.ensures.parts in
    let met = rw c.in-Ok-Ok.field-0-is at c.in-Ok-Ok.ensures.met in
    let stands = rw c.in-Ok-Ok.field-0-is at c.in-Ok-Ok.ensures.session in
    let maker = c.loop.free.lent.maker.now in let s = setup_of maker.width maker.height maker.name.items maker.form maker.host in
    let serves = rw (visit.1, visit.2, met.1, met.2, c.stop-in-loop.ensures, place.2, met.3) at (c.run_viewer-why.ensures.serves s maker.role true (rw visit.3 stands)) in
    let grows = rw (visit.1, met.1) at c.run_viewer-why.ensures.grows in
    let received = received_served g.S.ScreenSource.looks g.S.ScreenSource.cuts g.S.ScreenSource.may_end _ g.K.InputSink.may_refuse g.S.ScreenSource.known s maker.role _ _ _ _ _ _ _ (rw visit.0 c.in-Ok-Ok.met.fresh) serves grows in (
      tt,
      tt,
      lent ∙ place.2 ∙ met.3 ∙ c.loop.invariant.2,
      rw (parts.0, parts.1)
          (visiting_on _ _ _ _ _ _ c.in-Ok-Ok.met.door _ _ _ _ c.loop.invariant.3 met.0 (rw c.loop.invariant.2 at received) (rw place.0 at c.close-free.ensures.went)),
    )
