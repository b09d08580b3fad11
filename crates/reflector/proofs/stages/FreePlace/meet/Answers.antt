-- The door lets a viewer in, or no more come; or there is no memory for the viewer.
use Rattle.std.proofs.Common.{refl}
use Rattle.std.proofs.Math.Logic.{∥∥₁_map}
use Rattle.reflector.specs.Visits.{setup_of}
use Rattle.reflector.proofs.Visiting.{received_none, visiting_on, visits_end}
use Rattle.reflector.proofs.stages.FreePlace.meet.Goals as goal

pub invariant_of-result : goal.invariant_of-result
invariant_of-result g c = record { lawful = ∥∥₁_map c.args.self.lawful (λ k. visits_end _ _ _ _ _ _ k c.in_default.ensures.lets_in) }

pub invariant_of-result-in-Ok-clause-stands : goal.invariant_of-result-in-Ok-clause-stands
invariant_of-result-in-Ok-clause-stands g c = let maker = c.args.self.lent.maker.now in ∣ c.in-Ok.ensures.stands (setup_of maker.width maker.height maker.name.items maker.form maker.host) refl refl refl refl refl ∣₁

pub invariant_of-result-in-Ok-clause-lawful : goal.invariant_of-result-in-Ok-clause-lawful
invariant_of-result-in-Ok-clause-lawful g c = ∥∥₁_map c.args.self.lawful (λ k. (c.args.self.door, k, c.in-Some.ensures.lets_in))

pub invariant_of-result-in-Err-clause-lawful : goal.invariant_of-result-in-Err-clause-lawful
invariant_of-result-in-Err-clause-lawful g c = ∥∥₁_map c.args.self.lawful (λ k.
    visiting_on _ _ _ _ _ _ _ _ _ _ _ k c.in-Some.ensures.lets_in
    (received_none g.S.ScreenSource.looks g.S.ScreenSource.cuts g.S.ScreenSource.may_end _ g.K.InputSink.may_refuse g.S.ScreenSource.known _ _ _ _ _ _ c.in-Err.ensures.err c.in-Some.ensures.came) (rw c.new.ensures at c.left.ensures))

pub returns-in-Ok-clause-session : goal.returns-in-Ok-clause-session
returns-in-Ok-clause-session g c = let maker = c.args.self.lent.maker.now in c.in-Ok.ensures.stands (setup_of maker.width maker.height maker.name.items maker.form maker.host) refl refl refl refl refl
