-- From one state of the sequential screen to a later one, by puts and raises of others. A watcher's calls are told so.
use Rattle.std.proofs.Common.{◌≡◌, ℕ, suc, ◌+◌, ◌≤◌, ◌<◌, List, [], ◌∷◌, ◌++◌, length, map, refl, ap, sym, ◌∙◌, subst, arith, ⊎_elim, length-append, append_assoc, append-nil}
use Rattle.std.proofs.lemmas.Bool.{cases_lt}
use Rattle.raster.specs.Update.{Update, view}
use Rattle.reflect_core.specs.Sequential.{Shared, Step, Leads, Happens, Begins}
use Rattle.reflect_core.specs.Sequential as step
use Rattle.shared_screen.specs.History.{Change, Put, Raise, puts_of, tally_from, TakeTurns, step_of}
use Rattle.shared_screen.specs.Reaches.{Reaches}

abbrev at : List Update → ℕ → Shared
at us t = record { updates = us; tally = t }

-- ---- the changes between two states

reach : (n t t' : ℕ) (r : List Update) → t ≤ n → n ≤ t + 1 → t ≤ t' → t' ≤ n + length r → n + length r ≤ t' + 1
    → (cs : List Change) × TakeTurns n t cs × (puts_of cs ≡ r) × (tally_from t cs ≡ t')
reach n t t' [] a b c d e = ⊎_elim (λ (less : t < t'). (Raise t' ∷ [], (omega arith, omega arith, tt), refl, refl)) (λ (more : t' ≤ t). ([], tt, refl, omega arith)) (cases_lt t t')
reach n t t' (u ∷ r) a b c d e = ⊎_elim
    (λ (less : t < n). let rest = reach (suc n) n t' r (omega arith) (omega arith) (omega arith) (omega arith) (omega arith) in
    (Raise n ∷ Put u ∷ rest.0, (omega arith, refl, (refl, rest.1)), ap (λ (l : List Update). u ∷ l) rest.2, rest.3))
    (λ (same : n ≤ t). let rest = reach (suc n) t t' r (omega arith) (omega arith) c (omega arith) (omega arith) in
    (Put u ∷ rest.0, (omega arith, rest.1), ap (λ (l : List Update). u ∷ l) rest.2, rest.3))
    (cases_lt t n)

-- ---- steps, one after another

pub leads-append : (xs ys : List Step) (a b c : Shared) → Leads a xs b → Leads b ys c → Leads a (xs ++ ys) c
leads-append [] ys a b c p q = subst (λ (s : Shared). Leads s ys c) p q
leads-append (x ∷ xs) ys a b c p q = (p.0, p.1, leads-append xs ys p.0 b c p.2 q)

-- Changes that take turns may happen.
turns_lead : (cs : List Change) (us : List Update) (t : ℕ) → TakeTurns (length us) t cs → Leads (at us t) (map step_of cs) (at (us ++ puts_of cs) (tally_from t cs))
turns_lead [] us t h = ap (λ (l : List Update). at l t) (append-nil us)
turns_lead (Put u ∷ cs) us t h =
    let longer : suc (length us) ≡ length (us ++ u ∷ []) = omega (arith, length-append us (u ∷ [])) in
    let rest = turns_lead cs (us ++ u ∷ []) t (subst (λ (n : ℕ). TakeTurns n t cs) longer h.1) in
    (at (us ++ u ∷ []) t, refl, subst (λ (l : List Update). Leads (at (us ++ u ∷ []) t) (map step_of cs) (at l (tally_from t cs))) (append_assoc us (u ∷ []) (puts_of cs)) rest)
turns_lead (Raise m ∷ cs) us t h =
    let a = h.0 in let b = h.1 in
    (at us m, (omega arith, omega arith, refl), turns_lead cs us m h.2)

-- What changes lead to.
pub led_to : (cs : List Change) (us : List Update) (t : ℕ) (new : Shared) → Leads (at us t) (map step_of cs) new → new ≡ at (us ++ puts_of cs) (tally_from t cs)
led_to [] us t new h = h ∙ ap (λ (l : List Update). at l t) (sym (append-nil us))
led_to (Put u ∷ cs) us t new h =
    let rest = led_to cs (us ++ u ∷ []) t new (subst (λ (s : Shared). Leads s (map step_of cs) new) h.1 h.2) in
    rest ∙ ap (λ (l : List Update). at l (tally_from t cs)) (append_assoc us (u ∷ []) (puts_of cs))
led_to (Raise m ∷ cs) us t new h = led_to cs us m new (subst (λ (s : Shared). Leads s (map step_of cs) new) h.1.2 h.2)

turns-append : (n t : ℕ) (xs ys : List Change) → TakeTurns n t xs → TakeTurns (n + length (puts_of xs)) (tally_from t xs) ys → TakeTurns n t (xs ++ ys)
turns-append n t [] ys p q = subst (λ (m : ℕ). TakeTurns m t ys) (omega arith) q
turns-append n t (Put u ∷ xs) ys p q = (p.0, turns-append (suc n) t xs ys p.1 (subst (λ (m : ℕ). TakeTurns m (tally_from t xs) ys) (omega arith) q))
turns-append n t (Raise m ∷ xs) ys p q = (p.0, p.1, turns-append n m xs ys p.2 q)

map_step-append : (xs ys : List Change) → map step_of (xs ++ ys) ≡ map step_of xs ++ map step_of ys
map_step-append [] ys = refl
map_step-append (x ∷ xs) ys = ap (λ (l : List Step). step_of x ∷ l) (map_step-append xs ys)

-- ---- what a call says

-- A longer list and a later tally are reached, each with a tally that lags by one at most.
pub reaches : (old new : Shared) (steps : List Step) → old.tally ≤ length old.updates → length old.updates ≤ old.tally + 1 → Begins old.updates new.updates → old.tally ≤ new.tally → new.tally ≤ length new.updates → length new.updates ≤ new.tally + 1
    → Leads new steps new → Reaches old steps new
reaches old new steps a b p c d e last =
    let n = ap length p.1 in
    let r = reach (length old.updates) old.tally new.tally p.0 a b c (omega (arith, length-append old.updates p.0)) (omega (arith, length-append old.updates p.0)) in
    let to : at (old.updates ++ puts_of r.0) (tally_from old.tally r.0) ≡ new = (λ i. at ((ap (λ (l : List Update). old.updates ++ l) r.2 ∙ sym p.1) i) (r.3 i)) in
    record {
      others = r.0;
      by_turns = r.1;
      happen = leads-append (map step_of r.0) steps old new new (subst (λ (s : Shared). Leads old (map step_of r.0) s) to (turns_lead r.0 old.updates old.tally r.1)) last;
    }

pub looked : (s : Shared) (reply : ℕ) → reply ≡ s.tally → Leads s (step.Look reply ∷ []) s
looked s reply e = (s, (e, refl), refl)

pub was_cut : (s : Shared) → Leads s (step.Cut (view s.updates) ∷ []) s
was_cut s = (s, (refl, refl), refl)

pub reaches_itself : (s : Shared) → Reaches s [] s
reaches_itself s = record { others = []; by_turns = tt; happen = refl }

nil_right : (a c : Shared) (xs : List Step) → Leads a (xs ++ []) c → Leads a xs c
nil_right a c xs h = subst (λ (l : List Step). Leads a l c) (append-nil xs) h

pub reaches_on : (a b c : Shared) → Reaches a [] b → Reaches b [] c → Reaches a [] c
reaches_on a b c p q =
    let first = nil_right a b (map step_of p.others) p.happen in
    let second = nil_right b c (map step_of q.others) q.happen in
    let is : b ≡ at (a.updates ++ puts_of p.others) (tally_from a.tally p.others) = led_to p.others a.updates a.tally b first in
    let count : length b.updates ≡ length a.updates + length (puts_of p.others) = ap (λ (s : Shared). length s.updates) is ∙ length-append a.updates (puts_of p.others) in
    let turns = subst (λ (n : ℕ). TakeTurns n (tally_from a.tally p.others) q.others) count (subst (λ (t : ℕ). TakeTurns (length b.updates) t q.others) (ap (λ (s : Shared). s.tally) is) q.by_turns) in
    record {
      others = p.others ++ q.others;
      by_turns = turns-append (length a.updates) a.tally p.others q.others p.by_turns turns;
      happen = subst (λ (l : List Step). Leads a l c) (sym (append-nil (map step_of (p.others ++ q.others))))
          (subst (λ (l : List Step). Leads a l c) (sym (map_step-append p.others q.others)) (leads-append (map step_of p.others) (map step_of q.others) a b c first second));
    }
