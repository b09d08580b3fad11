-- The first host's stay is a run without turns, and each further host is a turn more.
use Rattle.std.proofs.Common.{[], ◌∷◌, ◌++◌, map, ap, refl, inl, subst, sym, ◌∙◌}
use Rattle.host_turns.specs.declared.ending.Ending.{Ending}
use Rattle.host_turns.specs.Running.{HasRun, IsComing, came_over}
use Rattle.host_turns.proofs.Turns.{begun, missed, stayed}
use Rattle.host_turns.proofs.hosts.read_all.Goals as goal

pub loop-init : goal.loop-init
loop-init g c =
    let state = g.L.Link.state in
    let put = g.P.Puts.updates in
    let run = c.args.run in
    let idle = c.read-idle.result in
    let read = c.read-idle.ensures.read in
    let lent = c.read-idle.ensures.lent in (
      tt,
      tt,
      lent,
      rw read.1
          (subst (λ (e : Ending). HasRun run.lent.run_screen.now.width run.lent.run_screen.now.height run.lent.run_screen.now.password (IsComing state g.H.Hosts.came) e (came_over run.has_called (state run.reader)) (map state run.parts.links.items ++ read.0 ∷ []) (put run.parts.publisher) (put idle.parts.publisher)) (sym c.read-idle.ensures.called)
          (stayed run.lent.run_screen.now.width run.lent.run_screen.now.height run.lent.run_screen.now.password (IsComing state g.H.Hosts.came) idle.last.answer (came_over run.has_called (state run.reader)) (came_over run.has_called (state run.reader)) read.0 (map state run.parts.links.items) (put run.parts.publisher) (put run.parts.publisher) (put idle.parts.publisher)
          (inl (record { same = refl; none = ap (map state) c.requires.none; unput = refl })) read.2)),
    )

-- The host that came is missed.
pub loop-preserved-in-Err-join : goal.loop-preserved-in-Err-join
loop-preserved-in-Err-join g c =
    let state = g.L.Link.state in
    let put = g.P.Puts.updates in
    let run = c.args.run in
    let idle = c.loop.idle in
    let inv = c.loop.invariant in
    let met = c.in-Ok.ensures.met in
    let unread = c.in-Err-join.ensures.unread in
    let on = rw met.0 at c.in-Ok.met.on in
    let why = rw (met.3, inv.2, met.2) at c.in-Err-join.ensures.missed in (
      tt,
      tt,
      unread.2 ∙ met.3 ∙ inv.2,
      rw (unread.0, unread.1, met.1, met.2)
          (missed run.lent.run_screen.now.width run.lent.run_screen.now.height run.lent.run_screen.now.password (IsComing state g.H.Hosts.came) idle.last c.in-Err-join.missed.last (came_over run.has_called (state run.reader)) c.in-Ok.met.has_called (state c.in-Ok.met.reader) (map state idle.parts.links.items) (put run.parts.publisher) (put idle.parts.publisher) inv.3 on
          (c.in-Ok.met.reader, c.in-Ok.ensures.came, refl) why),
    )

-- What a host's decoder begins with is of the run's size.
pub read-idle-requires-in-loop : goal.read-idle-requires-in-loop
read-idle-requires-in-loop g c = rw c.in-Ok-join.ensures.joined.1 c.in-Ok-join.ensures.begins

-- The host that came is joined and read.
pub loop-preserved : goal.loop-preserved
loop-preserved g c =
    let state = g.L.Link.state in
    let put = g.P.Puts.updates in
    let run = c.args.run in
    let idle = c.loop.idle in
    let inv = c.loop.invariant in
    let met = c.in-Ok.ensures.met in
    let join = c.in-Ok-join.ensures in
    let joined = c.in-Ok-join.joined.0 in
    let next = c.read-idle-in-loop.result in
    let read = c.read-idle-in-loop.ensures.read in
    let lent = c.read-idle-in-loop.ensures.lent in
    let on = rw met.0 at c.in-Ok.met.on in
    let called = rw join.called at c.read-idle-in-loop.ensures.called in
    let is_met = rw (met.3, inv.2, met.2) at join.met in
    let is = rw (join.joined.1, met.3, inv.2) at read.2 in
    let begins =
    begun run.lent.run_screen.now.width run.lent.run_screen.now.height run.lent.run_screen.now.password (IsComing state g.H.Hosts.came) idle.last (came_over run.has_called (state run.reader)) c.in-Ok.met.has_called (state c.in-Ok.met.reader) (state joined.reader) (map state idle.parts.links.items) (put run.parts.publisher) (put idle.parts.publisher) (put joined.parts.publisher) inv.3 on
    (c.in-Ok.met.reader, c.in-Ok.ensures.came, refl) is_met in (
      tt,
      tt,
      lent ∙ join.joined.1 ∙ met.3 ∙ inv.2,
      rw (read.1, join.joined.0, met.1)
          (subst (λ (e : Ending). HasRun run.lent.run_screen.now.width run.lent.run_screen.now.height run.lent.run_screen.now.password (IsComing state g.H.Hosts.came) e (came_over run.has_called (state run.reader)) (map state idle.parts.links.items ++ read.0 ∷ []) (put run.parts.publisher) (put next.parts.publisher)) (sym called)
          (stayed run.lent.run_screen.now.width run.lent.run_screen.now.height run.lent.run_screen.now.password (IsComing state g.H.Hosts.came) next.last.answer (came_over run.has_called (state run.reader)) (came_over c.in-Ok.met.has_called (state joined.reader)) read.0 (map state idle.parts.links.items) (put run.parts.publisher) (put joined.parts.publisher) (put next.parts.publisher) begins is)),
    )
