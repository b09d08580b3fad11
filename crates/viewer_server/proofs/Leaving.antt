-- A viewer leaves, input by input. `run_viewer` owes that its releases follow what passed.
use Rattle.std.proofs.Common.{◌≡◌, Bool, true, false, List, [], ◌∷◌, ◌++◌, Option, None, Some, Ok, Err, inl, inr, refl, sym, ap, ◌∙◌, append_assoc, append-nil}
use Rattle.std.specs.Prelude.{is_some}
use Rattle.fault.specs.declared.kinds.Fault.{Fault}
use Rattle.roles.specs.Allowed.{Input}
use Rattle.viewer_server.specs.Steps.{Unpassed, Passes, Leaves}
use Rattle.viewer_session.specs.Acts.{waiting_list}

-- Of all that is to go to the sink this is left.
pub record IsLeaving (sent_old sent_new all left : List Input) : Type 0 where
  pub sent : List Input
  pub took : sent_new ≡ sent_old ++ sent
  pub split : all ≡ sent ++ left

pub leaving_begins : (sent all : List Input) → IsLeaving sent sent all all
leaving_begins sent all = record { sent = []; took = sym (append-nil sent); split = refl }

-- The next release waits.
pub leaving_released : (old now all before after held : List Input) (w : Option Input) → IsLeaving old now all (waiting_list w ++ before) → w ≡ None → before ≡ after ++ held → IsLeaving old now all (after ++ held)
leaving_released old now all before after held w k none e =
    record { sent = k.sent; took = k.took; split = k.split ∙ ap (λ t. k.sent ++ t) (ap (λ (o : Option Input). waiting_list o ++ before) none ∙ e) }

-- What waits went to the sink, or it is full.
pub leaving_passed : (may_refuse : Fault → Type 0) (is_full : Bool) (old now new all held : List Input) (before after : Unpassed) → IsLeaving old now all (waiting_list before.waiting ++ held)
    → Passes may_refuse (Ok is_full) before after now new → IsLeaving old new all (waiting_list after.waiting ++ held)
leaving_passed may_refuse true old now new all held before after k e =
    record { sent = k.sent; took = e.2 ∙ k.took; split = k.split ∙ ap (λ (box : Unpassed). k.sent ++ (waiting_list box.waiting ++ held)) (sym e.1) }
leaving_passed may_refuse false old now new all held before after k e =
    record {
      sent = k.sent ++ waiting_list before.waiting;
      took = e.1 ∙ (ap (λ t. t ++ waiting_list before.waiting) k.took ∙ append_assoc old k.sent (waiting_list before.waiting));
      split = k.split ∙ (sym (append_assoc k.sent (waiting_list before.waiting) held) ∙ ap (λ (box : Unpassed). (k.sent ++ waiting_list before.waiting) ++ (waiting_list box.waiting ++ held)) (sym e.0));
    }

-- All is in.
pub leaves_done : (was_set : Type 0) (may_refuse : Fault → Type 0) (old now all held : List Input) (w : Option Input) → IsLeaving old now all (waiting_list w ++ held) → w ≡ None → held ≡ [] → Leaves was_set may_refuse all old now (Ok tt)
leaves_done was_set may_refuse old now all held w k none e =
    let done : all ≡ k.sent = k.split ∙ (ap (λ (o : Option Input). k.sent ++ (waiting_list o ++ held)) none ∙ (ap (λ t. k.sent ++ t) e ∙ append-nil k.sent)) in
    record { sent = k.sent; took = k.took; begins = (waiting_list w ++ held, k.split); why = inl (sym done) }

-- The flag was set.
pub leaves_stop : (was_set : Type 0) (may_refuse : Fault → Type 0) (old now all left : List Input) → IsLeaving old now all left → was_set → Leaves was_set may_refuse all old now (Ok tt)
leaves_stop was_set may_refuse old now all left k set = record { sent = k.sent; took = k.took; begins = (left, k.split); why = inr set }

-- What waits is one input.
pub first_waits : (o : Option Input) → is_some o ≡ true → (input : Input) × (waiting_list o ≡ input ∷ [])
first_waits None e = absurd cc
first_waits (Some input) e = (input, refl)

pub none_waits : (o : Option Input) → is_some o ≡ false → o ≡ None
none_waits None e = refl
none_waits (Some input) e = absurd cc

-- The sink refused an input for good.
pub leaves_refused : (was_set : Type 0) (may_refuse : Fault → Type 0) (fault : Fault) (old now new all held : List Input) (before after : Unpassed) → IsLeaving old now all (waiting_list before.waiting ++ held)
    → Passes may_refuse (Err fault) before after now new → Leaves was_set may_refuse all old new (Err fault)
leaves_refused was_set may_refuse fault old now new all held before after k e =
    let first = first_waits before.waiting e.0 in
    record {
      sent = k.sent;
      took = e.2 ∙ k.took;
      begins = (waiting_list before.waiting ++ held, k.split);
      why = record { refused = e.3; input = first.0; rest = held; left = k.split ∙ ap (λ t. k.sent ++ (t ++ held)) first.1 };
    }
