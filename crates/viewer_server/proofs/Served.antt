-- A viewer was served, and has left. `run_viewer` owes both of the whole call.
use Rattle.std.specs.Prelude.{is_some}
use Rattle.std.proofs.Common.{◌≡◌, ℕ, ◌⊎◌, true, false, List, [], ◌∷◌, ◌++◌, Ok, Err, Result, inl, inr, sym, ap, subst, ◌∙◌, append_assoc}
use Rattle.fault.specs.declared.kinds.Fault.{Fault}
use Rattle.raster.specs.Update.{Update}
use Rattle.roles.specs.Allowed.{Input, allowed}
use Rattle.roles.specs.Held.{HeldStands, left_in}
use Rattle.roles.proofs.HeldLaws.{all_released}
use Rattle.link.specs.Links.{LinkState}
use Rattle.viewer_session.specs.Record.{messages_in, before_last}
use Rattle.viewer_session.specs.Viewer.{Setup, Viewer}
use Rattle.viewer_session.specs.Session.{State, Stands, without_input}
use Rattle.viewer_session.specs.Acts.{viewer_after, HasPassed, waiting_list}
use Rattle.viewer_server.specs.Serving.{EndsServing, GivesUp, IsHeldBack, IsRefused, Relays, Serves, all_allowed}
use Rattle.viewer_server.specs.Steps.{Unpassed, HasServed, Leaves, LeavesBy, WaitsIfLeft}
use Rattle.viewer_server.specs.declared.breaks.Break.{Break}
use Rattle.viewer_server.specs.declared.breaks.Break.TheVariants.{At, Refused}
use Rattle.viewer_server.proofs.Leaving.{first_waits}

-- What the sink took while the viewer was served, what waited, and the releases are all that is allowed.
pub allowed_in_all : (s : Setup) (st : State) (q : Viewer) (box : Unpassed) (sent : List Input) → Stands s st (without_input q) → q.waiting ≡ box.waiting → HasPassed q sent → all_allowed q ≡ sent ++ (waiting_list box.waiting ++ left_in st.held)
allowed_in_all s st q box sent k waits passed =
    let held : HeldStands q.role st.held (messages_in q.entries) = subst (λ r. HeldStands r st.held (messages_in q.entries)) (sym k.serves.role) k.relays.held in
    all_released q.role st.held (messages_in q.entries) held
    ∙ (ap (λ t. t ++ left_in st.held) (passed.all ∙ ap (λ o. sent ++ waiting_list o) waits) ∙ append_assoc sent (waiting_list box.waiting) (left_in st.held))

-- What was given up of the rest was given up of all.
given_up_of_all : (may_refuse : Fault → Type 0) (fault : Fault) (before more all full : List Input) → full ≡ before ++ all → GivesUp may_refuse fault more all → GivesUp may_refuse fault (before ++ more) full
given_up_of_all may_refuse fault before more all full e k =
    record { refused = k.refused; input = k.input; rest = k.rest; left = e ∙ (ap (λ t. before ++ t) k.left ∙ sym (append_assoc before more (k.input ∷ k.rest))) }

-- Why the leaving ended is why not all is in.
whole_where_ok : (was_set : Type 0) (may_refuse : Fault → Type 0) (before more all full : List Input) → full ≡ before ++ all → LeavesBy was_set may_refuse (Ok tt) more all → (before ++ more ≡ full) ⊎ was_set
whole_where_ok was_set may_refuse before more all full e (inl in_all) = inl (ap (λ t. before ++ t) in_all ∙ sym e)
whole_where_ok was_set may_refuse before more all full e (inr set) = inr set

whole_else : (was_set : Type 0) (may_refuse : Fault → Type 0) (left : Result (Unit {0}) Fault) (before more all full : List Input) → full ≡ before ++ all → LeavesBy was_set may_refuse left more all
    → (before ++ more ≡ full) ⊎ (was_set ⊎ ((refused : Fault) × GivesUp may_refuse refused (before ++ more) full))
whole_else was_set may_refuse (Ok done) before more all full e (inl in_all) = inl (ap (λ t. before ++ t) in_all ∙ sym e)
whole_else was_set may_refuse (Ok done) before more all full e (inr set) = inr (inl set)
whole_else was_set may_refuse (Err fault) before more all full e k = inr (inr (fault, given_up_of_all may_refuse fault before more all full e k))

abbrev relays_by : (was_set : Type 0) (may_refuse : Fault → Type 0) (q : Viewer) (sent all x y z : List Input) (left final : Result (Unit {0}) Fault) → all_allowed q ≡ sent ++ all → HasPassed q sent → y ≡ x ++ sent → (leaves : Leaves was_set may_refuse all y z left)
    → (sent ++ leaves.sent ≡ all_allowed q) ⊎ IsHeldBack was_set may_refuse final (sent ++ leaves.sent) (all_allowed q) → Relays was_set may_refuse q final x z
relays_by was_set may_refuse q sent all x y z left final full passed took leaves whole =
    record {
      sent = sent ++ leaves.sent;
      took = leaves.took ∙ (ap (λ t. t ++ leaves.sent) took ∙ append_assoc x sent leaves.sent);
      begins = (leaves.begins.0, full ∙ (ap (λ t. sent ++ t) leaves.begins.1 ∙ sym (append_assoc sent leaves.sent leaves.begins.0)));
      all_but_last = (passed.all_but_last.0 ++ leaves.sent, ap (λ t. t ++ leaves.sent) passed.all_but_last.1 ∙ append_assoc (allowed q.role (messages_in (before_last q.entries)) false) passed.all_but_last.0 leaves.sent);
      whole = whole;
    }

-- It was to leave off where an input that waited was refused for good.
refused_at : (may_refuse : Fault → Type 0) (fault : Fault) (s : Setup) (st : State) (q : Viewer) (box : Unpassed) (sent : List Input) → Stands s st (without_input q) → q.waiting ≡ box.waiting → HasPassed q sent → IsRefused may_refuse fault → is_some box.waiting ≡ true
    → GivesUp may_refuse fault sent (all_allowed q)
refused_at may_refuse fault s st q box sent k waits passed refused some =
    let first = first_waits box.waiting some in
    record { refused = refused; input = first.0; rest = left_in st.held; left = allowed_in_all s st q box sent k waits passed ∙ ap (λ t. sent ++ (t ++ left_in st.held)) first.1 }

pub unread_by : (q : Viewer) (box : Unpassed) → q.waiting ≡ box.waiting → WaitsIfLeft box → (box.unread ≡ []) ⊎ (is_some q.waiting ≡ true)
unread_by q box waits (inl none) = inl none
unread_by q box waits (inr some) = inr (ap is_some waits ∙ some)

-- What was given up doesn't matter where nothing was.
ends_more : {S : Type 0} (looks : S → ℕ → S → Type 0) (may_end was_set : Type 0) (is_given_up : Fault → Type 0) (b c : S) (s : Setup) (p : Viewer) (answer : Result (Unit {0}) Fault) (old new : LinkState) → EndsServing looks may_end was_set (λ fault. ⊥) b c s p answer old new
    → EndsServing looks may_end was_set is_given_up b c s p answer old new
ends_more looks may_end was_set is_given_up b c s p (Ok done) old new k = k
ends_more looks may_end was_set is_given_up b c s p (Err fault) old new (inl (same, inl at)) = inl (same, inl at)
ends_more looks may_end was_set is_given_up b c s p (Err fault) old new (inl (same, inr (inl none))) = absurd none
ends_more looks may_end was_set is_given_up b c s p (Err fault) old new (inl (same, inr (inr halts))) = inl (same, inr (inr halts))
ends_more looks may_end was_set is_given_up b c s p (Err fault) old new (inr gone) = inr gone

module _ {S : Type 0} (looks cuts : S → ℕ → S → Type 0) (may_end was_set : Type 0) (may_refuse : Fault → Type 0) (a c : S) (us : List Update) (s : Setup) (p : Viewer) (st : State) (box : Unpassed) (x y : List Input) (old now new : LinkState) (same : new ≡ now) where
  serves_with : (z : List Input) (answer : Result (Unit {0}) Break) (final : Result (Unit {0}) Fault) (k : HasServed looks cuts may_end was_set may_refuse a c us s p st box x y answer old now) → (relays : Relays was_set may_refuse (viewer_after s us p k.acts) final x z)
      → EndsServing looks may_end was_set (λ fault. GivesUp may_refuse fault relays.sent (all_allowed (viewer_after s us p k.acts))) k.behind c s (viewer_after s us p k.acts) final old now → Serves looks cuts may_end was_set may_refuse a c us s p x z final old new
  serves_with z answer final k relays ends =
      subst (λ (l : LinkState). Serves looks cuts may_end was_set may_refuse a c us s p x z final old l) (sym same)
      (record {
        acts = k.acts;
        behind = k.behind;
        left = box.unread;
        may_be = k.may_be;
        shown = k.shown;
        taken = k.taken;
        unread = unread_by (viewer_after s us p k.acts) box k.waiting k.unread;
        given = k.given;
        holds = k.holds;
        relays = relays;
        ends = ends;
      })

  -- The sink refused an input for good.
  pub serves_refused : (fault : Fault) → HasServed looks cuts may_end was_set may_refuse a c us s p st box x y (Err (Refused fault)) old now → Serves looks cuts may_end was_set may_refuse a c us s p x y (Err fault) old new
  serves_refused fault k =
      let q : Viewer = viewer_after s us p k.acts in
      let given_up : GivesUp may_refuse fault k.sent (all_allowed q) = refused_at may_refuse fault s st q box k.sent k.stands k.waiting k.passed k.ends.1 k.ends.2 in
      serves_with y (Err (Refused fault)) (Err fault) k
      (record { sent = k.sent; took = k.took; begins = (given_up.input ∷ given_up.rest, given_up.left); all_but_last = k.passed.all_but_last; whole = inr (inr (fault, given_up)) }) (inl (k.ends.0, inr (inl given_up)))

  -- What was to go to the sink once it had left.
  abbrev last : List Input
  last = waiting_list box.waiting ++ left_in st.held

  -- It ended at another fault.
  pub serves_fault : (z : List Input) (left : Result (Unit {0}) Fault) (fault : Fault) → Leaves was_set may_refuse last y z left → HasServed looks cuts may_end was_set may_refuse a c us s p st box x y (Err (At fault)) old now
      → Serves looks cuts may_end was_set may_refuse a c us s p x z (Err fault) old new
  serves_fault z left fault leaves k =
      let q : Viewer = viewer_after s us p k.acts in
      let full : all_allowed q ≡ k.sent ++ last = allowed_in_all s st q box k.sent k.stands k.waiting k.passed in
      serves_with z (Err (At fault)) (Err fault) k (relays_by was_set may_refuse q k.sent last x y z left (Err fault) full k.passed k.took leaves (whole_else was_set may_refuse left k.sent leaves.sent last (all_allowed q) full leaves.why))
      (ends_more looks may_end was_set (λ f. GivesUp may_refuse f (k.sent ++ leaves.sent) (all_allowed q)) k.behind c s q (Err fault) old now k.ends)

  -- It ended well, and all is as the leaving ended.
  pub serves_left : (z : List Input) (left : Result (Unit {0}) Fault) → Leaves was_set may_refuse last y z left → HasServed looks cuts may_end was_set may_refuse a c us s p st box x y (Ok tt) old now
      → Serves looks cuts may_end was_set may_refuse a c us s p x z left old new
  serves_left z (Ok done) leaves k =
      let q : Viewer = viewer_after s us p k.acts in
      let full : all_allowed q ≡ k.sent ++ last = allowed_in_all s st q box k.sent k.stands k.waiting k.passed in
      serves_with z (Ok tt) (Ok done) k (relays_by was_set may_refuse q k.sent last x y z (Ok done) (Ok done) full k.passed k.took leaves (whole_where_ok was_set may_refuse k.sent leaves.sent last (all_allowed q) full leaves.why))
      (ends_more looks may_end was_set (λ f. GivesUp may_refuse f (k.sent ++ leaves.sent) (all_allowed q)) k.behind c s q (Ok tt) old now k.ends)
  serves_left z (Err fault) leaves k =
      let q : Viewer = viewer_after s us p k.acts in
      let full : all_allowed q ≡ k.sent ++ last = allowed_in_all s st q box k.sent k.stands k.waiting k.passed in
      serves_with z (Ok tt) (Err fault) k (relays_by was_set may_refuse q k.sent last x y z (Err fault) (Err fault) full k.passed k.took leaves (whole_else was_set may_refuse (Err fault) k.sent leaves.sent last (all_allowed q) full leaves.why))
      (inl (k.ends.0, inr (inl (given_up_of_all may_refuse fault k.sent leaves.sent last (all_allowed q) full leaves.why))))
