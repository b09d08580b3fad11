use Rattle.std.proofs.Common.{[], ◌∷◌, refl, sym, ap, subst, append-nil}
use Rattle.viewer_session.specs.Session.{IsFeeding, marks_in}
use Rattle.reflect_world.specs.World.{Held, ReadsMore}
use Rattle.reflect_world.specs.contracts.place.Place.{the_view}
use Rattle.reflect_world.proofs.Places.{counted_same}
use Rattle.reflect_world.proofs.Relays.{feeding_is}
use Rattle.reflect_world.proofs.place.Place.read_on.Goals as goal

pub returns-in-Ok-push-clause-reads : goal.returns-in-Ok-push-clause-reads
returns-in-Ok-push-clause-reads c =
    let i = c.self.inside in
    let new : Held = the_view (record { session = c.feed_message.new.self; looked = i.looked; written = i.written; unread = c.take.new.self }) in
    subst (λ (old : Held). ReadsMore old new c.args.lost.now.items c.push.new.self.items) c.self.view_is
    (record {
      others = refl;
      marks = c.in-Some.mark ∷ [];
      marked = c.in-Ok-push.ensures.items;
      feeding = feeding_is i.session c.feed_message.new.self c.in-Ok.fed.lost (c.in-Some.mark ∷ []) c.bytes.result.now i.unread c.take.new.self c.in-Ok.fed.used (ap marks_in c.in-Some.is) c.bytes.ensures c.take.ensures c.in-Ok.ensures.ok.0;
      counted = λ us. counted_same i.session c.feed_message.new.self us c.in-Ok.ensures.same;
    })

pub returns-in_default-clause-reads : goal.returns-in_default-clause-reads
returns-in_default-clause-reads c =
    let i = c.self.inside in
    let new : Held = the_view (record { session = c.feed_message.new.self; looked = i.looked; written = i.written; unread = c.take.new.self }) in
    subst (λ (old : Held). ReadsMore old new c.args.lost.now.items c.args.lost.now.items) c.self.view_is
    (record {
      others = refl;
      marks = [];
      marked = sym (append-nil c.args.lost.now.items);
      feeding = feeding_is i.session c.feed_message.new.self c.in-Ok.fed.lost [] c.bytes.result.now i.unread c.take.new.self c.in-Ok.fed.used (ap marks_in c.in_default.is) c.bytes.ensures c.take.ensures c.in-Ok.ensures.ok.0;
      counted = λ us. counted_same i.session c.feed_message.new.self us c.in-Ok.ensures.same;
    })

pub returns-in-Err-clause-reads : goal.returns-in-Err-clause-reads
returns-in-Err-clause-reads c =
    let i = c.self.inside in
    let new : Held = the_view (record { session = c.feed_message.new.self; looked = i.looked; written = i.written; unread = c.clear.new.self }) in
    subst (λ (old : Held). ReadsMore old new c.args.lost.now.items c.args.lost.now.items) c.self.view_is
    (record {
      others = refl;
      marks = [];
      marked = sym (append-nil c.args.lost.now.items);
      feeding =
          subst (λ left. IsFeeding i.session c.feed_message.new.self [] i.unread left) (sym c.clear.ensures)
          (subst (λ piece. IsFeeding i.session c.feed_message.new.self [] piece []) c.bytes.ensures c.in-Err.ensures.err.1);
      counted = λ us. counted_same i.session c.feed_message.new.self us c.in-Err.ensures.same;
    })
