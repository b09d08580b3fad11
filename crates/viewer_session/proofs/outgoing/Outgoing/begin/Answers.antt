use Rattle.std.proofs.Common.{length, sym, ap, subst, ◌∙◌, arith, true}
use Rattle.reflect_core.specs.declared.cut.Cut.{Cut}
use Rattle.viewer_session.specs.Outgoing.{Sending, IsOf}
use Rattle.viewer_session.proofs.Sending.{as_long}
use Rattle.viewer_session.proofs.outgoing.Outgoing.begin.Goals as goal

pub invariant_of-self : goal.invariant_of-self
invariant_of-self c =
    record {
      room = c.put_bell.ensures.room ∙ c.self.invariant.room;
      long = c.self.invariant.long;
      is_of = subst (λ (cut : Cut). IsOf (record { text = c.args.text; size = c.args.size; head = true; answer = c.args.answer }) cut) (sym (ap (λ (s : Sending). s.cut) c.self.view_is)) (record { text = c.requires.text; size = c.requires.size; answer = c.requires.answer });
      shows = λ e. absurd (omega (arith, ap length c.put_bell.ensures.unsent, e));
    }

pub invariant_of-self-else-bell : goal.invariant_of-self-else-bell
invariant_of-self-else-bell c =
    let o = c.self.inside in
    record {
      room = c.put_next.ensures.room ∙ c.self.invariant.room;
      long = as_long _ o.strip.len o.strip.items c.put_next.new.strip c.self.invariant.long (omega (arith, o.strip.ok.0, c.self.invariant.long)) (c.put_next.auto.strip ∙ (ap length c.as_mut_slice.ensures.value ∙ c.self.invariant.long));
      is_of = c.put_next.ensures.is_of;
      shows = λ e. (c.put_next.ensures.shows e).0;
    }
