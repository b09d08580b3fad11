use Rattle.std.proofs.Common.{None, refl, sym, subst}
use Rattle.viewer_session.specs.Session.{State, HasCounted, without_look}
use Rattle.reflect_world.specs.World.{Held, HasSent}
use Rattle.reflect_world.specs.contracts.place.Place.{the_view}
use Rattle.reflect_world.proofs.Places.{stands_without_look}
use Rattle.reflect_world.proofs.place.Place.send.Goals as goal

pub returns-clause-sent : goal.returns-clause-sent
returns-clause-sent c =
    let i = c.self.inside in
    subst (λ (old : Held). HasSent old (the_view (record { session = c.take_input.new.self; looked = None; written = i.written; unread = i.unread }))) c.self.view_is
    (record {
      others = refl;
      stands = λ s p k. c.take_input.ensures.stands s (without_look p) (stands_without_look s i.session p k);
      counted = λ us k. subst (λ (st : State). HasCounted st us) (sym c.take_input.ensures.others) k;
    })
