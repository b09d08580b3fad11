-- The handshake is heard to its end, or there is a fault.
use Rattle.std.proofs.Common.{sym, refl, ◌∙◌}
use Rattle.std.proofs.lemmas.Result.{err_from_is_err_and}
use Rattle.byte_reading.proofs.ReadingLaws.{wants_from}
use Rattle.rfb_wire.specs.Joining.{ahead}
use Rattle.link.proofs.Handshaking.{fails_with, heard_size, is_hearing_begins}
use Rattle.link.proofs.join.hear_on.Goals as goal

pub loop-init : goal.loop-init
loop-init g c = (tt, tt, c.requires.0, refl, refl, refl, is_hearing_begins _ _ c.requires.1)

pub returns-in_err-say-clause-err : goal.returns-in_err-say-clause-err
returns-in_err-say-clause-err g c =
    let p = err_from_is_err_and c.from_residual.result c.from_residual.ensures.1 in
    rw (p.1, p.2) (fails_with _ _ _ (g.L.Link.state c.args.joining.now.link.now) (g.L.Link.state c.say.new.self.link.now) c.loop.invariant.5 (c.in_err-say.ensures.keeps _ c.loop.invariant.6))

pub returns-in_err-hear-in-None-told-clause-err : goal.returns-in_err-hear-in-None-told-clause-err
returns-in_err-hear-in-None-told-clause-err g c =
    let p = err_from_is_err_and c.from_residual-in_err-hear-in-None-told.result c.from_residual-in_err-hear-in-None-told.ensures.1 in
    rw (p.1, p.2) (fails_with _ _ _ (g.L.Link.state c.args.joining.now.link.now) (g.L.Link.state c.hear.new.self.link.now) c.loop.invariant.5 (c.in_err-hear-in-None-told.ensures.keeps _ c.loop.invariant.6))

pub loop-preserved-then-is_owing : goal.loop-preserved-then-is_owing
loop-preserved-then-is_owing g c =
    let inv = c.loop.invariant in
    (tt, tt, c.say.ensures.hears, c.say.ensures.same ∙ inv.3, c.say.ensures.first ∙ inv.4, c.say.ensures.password ∙ inv.5, c.in_ok-say.ensures.keeps _ inv.6)

pub returns-in-Some-told-clause-size : goal.returns-in-Some-told-clause-size
returns-in-Some-told-clause-size g c = heard_size _ _ _ _ c.loop.invariant.6 (sym c.told.ensures ∙ c.in-Some-told.is)

pub hear-requires-clause-open : goal.hear-requires-clause-open
hear-requires-clause-open g c = wants_from (ahead c.loop.joining.hello) (sym c.told.ensures ∙ c.in-None-told.is) c.loop.invariant.6.fine

pub loop-preserved : goal.loop-preserved
loop-preserved g c =
    let inv = c.loop.invariant in
    (tt, tt, c.hear.ensures.hears, c.hear.ensures.same ∙ inv.3, c.hear.ensures.first ∙ inv.4, c.hear.ensures.password ∙ inv.5, c.in_ok-hear-in-None-told.ensures.keeps _ inv.6)
