use Rattle.std.proofs.Common.{◌≡◌, ◌++◌, ℕ, List, true, [], length, None, sym, ap, subst, ◌∙◌, inl, inr, ◌⊎◌, arith}
use Rattle.std.specs.Prelude.{is_some}
use Rattle.std.proofs.lemmas.Bool.{eqb-true}
use Rattle.viewer_session.specs.Session.{State, HasCounted, IsFeeding}
use Rattle.viewer_session.proofs.FeedLaws.{feeding_begins, feeding_on, feeds_to}
use Rattle.reflect_world.specs.World.{Held}
use Rattle.reflect_world.proofs.Relays.{all_read}
use Rattle.reflect_world.proofs.place.Place.feed.Goals as goal
use Rattle.reflect_world.proofs.place.Place.feed.Goals.{then-loop-self-test+else-not-has_input, else-loop-self-test}

pub loop-self-init : goal.loop-self-init
loop-self-init c =
    let i = c.self.inside in
    let bytes : List ℕ = c.args.bytes.now in
    let added : List ℕ = c.add.new.self in
    let begins : IsFeeding i.session i.session [] (i.unread ++ bytes) added =
    subst (λ left. IsFeeding i.session i.session [] (i.unread ++ bytes) left) (sym c.in_ok-add.ensures.ok) (feeding_begins i.session (i.unread ++ bytes)) in
    let marks : c.reserve.new.self.items ≡ [] = c.reserve.ensures.items ∙ c.requires in
    record {
      others = ap (λ (h : Held). record { session = i.session; looked = None; written = h.written; unread = added }) c.self.view_is;
      feeding = subst (λ (h : Held). IsFeeding h.session i.session c.reserve.new.self.items (h.unread ++ bytes) added) c.self.view_is (subst (λ ms. IsFeeding i.session i.session ms (i.unread ++ bytes) added) (sym marks) begins);
      counted = λ us k. subst (λ (h : Held). HasCounted h.session us) (sym c.self.view_is) k;
      room = omega (arith, c.in-Ok.ensures.ok, ap length c.bytes.ensures);
    }

pub loop-self-preserved : goal.loop-self-preserved
loop-self-preserved c =
    let l = c.loop-self.invariant in
    let old : Held = c.args.self.now in
    let now : Held = c.loop-self.self in
    let new : Held = c.read_on.new.self in
    let more = c.read_on.ensures.reads in
    record {
      others = more.others ∙ ap (λ (h : Held). record h { session = new.session; unread = new.unread }) l.others;
      feeding =
          subst (λ ms. IsFeeding old.session new.session ms (old.unread ++ c.args.bytes.now) new.unread) (sym more.marked)
          (feeding_on old.session now.session new.session c.loop-self.lost.items more.marks (old.unread ++ c.args.bytes.now) now.unread new.unread l.feeding more.feeding);
      counted = λ us k. more.counted us (l.counted us k);
      room = omega (arith, l.room, c.read_on.ensures.room.0, c.read_on.ensures.room.1);
    }

pub returns-clause-ok : goal.returns-clause-ok
returns-clause-ok c =
    let l = c.loop-self.invariant in
    let old : Held = c.args.self.now in
    let now : Held = c.loop-self.self in
    let bytes : List ℕ = c.args.bytes.now in
    let same : c.self-in-loop-self.inside.session ≡ now.session = ap (λ (h : Held). h.session) c.self-in-loop-self.view_is in
    let ends : (now.unread ≡ []) ⊎ (is_some now.session.waiting ≡ true) =
    elim c.loop-self-test.branch [
      | then-loop-self-test+else-not-has_input w ↦ inr (ap (λ (st : State). is_some st.waiting) (sym same) ∙ sym w.if-not-has_input.ensures)
      | else-loop-self-test w ↦ inl (ap (λ (h : Held). h.unread) (sym c.self-in-loop-self.view_is) ∙ (sym c.bytes-in-loop-self.ensures ∙ all_read c.bytes-in-loop-self.result.now (eqb-true (length c.bytes-in-loop-self.result.now) 0 (sym w.loop-self-test.ensures))))
    ] in
    record {
      others = l.others;
      stands = feeds_to old.session now.session c.loop-self.lost.items (old.unread ++ bytes) now.unread l.feeding ends;
      counted = l.counted;
    }
