use Rattle.std.proofs.Common.{◌≡◌, List, ℕ, [], ◌++◌, length, sym, ap, ◌∙◌, arith, append-nil}
use Rattle.viewer_session.specs.Outgoing.{Sending, all_coming}
use Rattle.viewer_session.proofs.Sending.{as_long, none_behind, all_empty}
use Rattle.viewer_session.proofs.outgoing.Outgoing.sent.Goals as goal

pub invariant_of-self : goal.invariant_of-self
invariant_of-self c =
    let o = c.self.inside in
    record {
      room = c.put_next.ensures.room ∙ (c.sent.ensures.room.0 ∙ c.self.invariant.room);
      long = as_long _ o.strip.len o.strip.items c.put_next.new.strip c.self.invariant.long (omega (arith, o.strip.ok.0, c.self.invariant.long)) (c.put_next.auto.strip ∙ (ap length c.as_mut_slice.ensures.value ∙ c.self.invariant.long));
      is_of = c.put_next.ensures.is_of;
      shows = λ e. (c.put_next.ensures.shows e).0;
    }

pub returns-then-is_empty-clause-alone : goal.returns-then-is_empty-clause-alone
returns-then-is_empty-clause-alone c = λ alone.
    let o = c.self.inside in
    let now = c.put_next.new.piece in
    let none : all_coming o.coming o.cut ≡ [] = none_behind o.piece.unsent (all_coming o.coming o.cut) (ap (λ (s : Sending). s.unsent) c.self.view_is ∙ (alone ∙ sym (ap (λ (s : Sending). s.piece) c.self.view_is))) in
    let empty : length now.unsent ≡ 0 = all_empty now.unsent (all_coming c.put_next.new.self o.cut) (sym c.put_next.ensures.bytes ∙ none) in
    let after = c.put_next.ensures.shows empty in
    (ap (λ (t : List ℕ). now.unsent ++ t) after.0 ∙ append-nil now.unsent, omega (arith, after.1))
