-- What is kept of the input of several places, input by input. `Strokes` keeps that in place of the inputs.
use Rattle.std.proofs.Common.{◌≡◌, ◌≢◌, ℕ, ◌+◌, ◌<◌, min, length-append, Bool, true, false, not, ◌&&◌, ◌||◌, cond, List, [], ◌∷◌, ◌++◌, length, nat_lt, refl, ap, sym, subst, ◌∙◌, arith, inl, inr}
use Rattle.std.specs.Prelude.{◌==◌, slice_index}
use Rattle.std.specs.List.{list_any}
use Rattle.std.proofs.lemmas.Bool.{and_parts, or_parts, ltb-false, ne_eqb, eq-eqb, cases_Bool, cases_eq, not-true}
use Rattle.std.proofs.lemmas.Bool.Decides.{nat_tests}
use Rattle.std.proofs.lemmas.Grind.{common_steps}
use Rattle.std.proofs.lemmas.List.{append-nil}
use Rattle.fault.specs.declared.limits.TheConstants.{LIMIT}
use Rattle.roles.specs.Allowed.{Input, Key, Pointer, Cut, passes, keys_after, keys_down, last_pointer}
use Rattle.roles.specs.Held.{Kept, kept_with}
use Rattle.roles.specs.Strokes.{Taken, sent_by, keys_of, buttons_of, has_down, passes_after, unbroken_after, unbroken, left_out_after, dropped, StrokesKept, StrokesStand, is_holding, lets_pass, let_through, counts_after}
use Rattle.roles.proofs.HeldLaws.{keys_down_more, pointer_more}

-- ---- one input more

unbroken_after_more : (passed ts : List Taken) (t : Taken) → unbroken_after passed (ts ++ t ∷ []) ≡ unbroken_after passed ts ++ cond (passes_after (unbroken_after passed ts) t) (t ∷ []) []
unbroken_after_more passed [] t = at_end (passes_after passed t)
  where
    at_end : (b : Bool) → cond b (passed ++ t ∷ []) passed ≡ passed ++ cond b (t ∷ []) []
    at_end true = refl
    at_end false = sym (append-nil passed)
unbroken_after_more passed (u ∷ us) t = inside passed u us t (passes_after passed u) (unbroken_after_more (passed ++ u ∷ []) us t) (unbroken_after_more passed us t)
  where
    inside : (passed : List Taken) (u : Taken) (us : List Taken) (t : Taken) (b : Bool)
        → unbroken_after (passed ++ u ∷ []) (us ++ t ∷ []) ≡ unbroken_after (passed ++ u ∷ []) us ++ cond (passes_after (unbroken_after (passed ++ u ∷ []) us) t) (t ∷ []) []
        → unbroken_after passed (us ++ t ∷ []) ≡ unbroken_after passed us ++ cond (passes_after (unbroken_after passed us) t) (t ∷ []) []
        → cond b (unbroken_after (passed ++ u ∷ []) (us ++ t ∷ [])) (unbroken_after passed (us ++ t ∷ []))
        ≡ cond b (unbroken_after (passed ++ u ∷ []) us) (unbroken_after passed us)
        ++ cond (passes_after (cond b (unbroken_after (passed ++ u ∷ []) us) (unbroken_after passed us)) t) (t ∷ []) []
    inside passed u us t true e f = e
    inside passed u us t false e f = f

left_out_after_more : (passed ts : List Taken) (t : Taken) → left_out_after passed (ts ++ t ∷ []) ≡ left_out_after passed ts ++ cond (passes_after (unbroken_after passed ts) t) [] (t ∷ [])
left_out_after_more passed [] t = at_end (passes_after passed t)
  where
    at_end : (b : Bool) → cond b [] (t ∷ []) ≡ [] ++ cond b [] (t ∷ [])
    at_end true = refl
    at_end false = refl
left_out_after_more passed (u ∷ us) t = inside passed u us t (passes_after passed u) (left_out_after_more (passed ++ u ∷ []) us t) (left_out_after_more passed us t)
  where
    inside : (passed : List Taken) (u : Taken) (us : List Taken) (t : Taken) (b : Bool)
        → left_out_after (passed ++ u ∷ []) (us ++ t ∷ []) ≡ left_out_after (passed ++ u ∷ []) us ++ cond (passes_after (unbroken_after (passed ++ u ∷ []) us) t) [] (t ∷ [])
        → left_out_after passed (us ++ t ∷ []) ≡ left_out_after passed us ++ cond (passes_after (unbroken_after passed us) t) [] (t ∷ [])
        → cond b (left_out_after (passed ++ u ∷ []) (us ++ t ∷ [])) (u ∷ left_out_after passed (us ++ t ∷ []))
        ≡ cond b (left_out_after (passed ++ u ∷ []) us) (u ∷ left_out_after passed us)
        ++ cond (passes_after (cond b (unbroken_after (passed ++ u ∷ []) us) (unbroken_after passed us)) t) [] (t ∷ [])
    inside passed u us t true e f = e
    inside passed u us t false e f = ap (λ (zs : List Taken). u ∷ zs) f

pub unbroken_more : (taken : List Taken) (t : Taken) → unbroken (taken ++ t ∷ []) ≡ unbroken taken ++ cond (passes_after (unbroken taken) t) (t ∷ []) []
unbroken_more taken t = unbroken_after_more [] taken t

pub sent_by_more : (place : ℕ) (ts : List Taken) (t : Taken) → sent_by place (ts ++ t ∷ []) ≡ sent_by place ts ++ cond (t.place == place) (t.input ∷ []) []
sent_by_more place [] t = at_end (t.place == place)
  where
    at_end : (b : Bool) → cond b (t.input ∷ []) [] ≡ [] ++ cond b (t.input ∷ []) []
    at_end true = refl
    at_end false = refl
sent_by_more place (u ∷ us) t = inside (u.place == place) (sent_by_more place us t)
  where
    inside : (b : Bool) → sent_by place (us ++ t ∷ []) ≡ sent_by place us ++ cond (t.place == place) (t.input ∷ []) []
        → cond b (u.input ∷ sent_by place (us ++ t ∷ [])) (sent_by place (us ++ t ∷ [])) ≡ cond b (u.input ∷ sent_by place us) (sent_by place us) ++ cond (t.place == place) (t.input ∷ []) []
    inside true e = ap (λ (zs : List Input). u.input ∷ zs) e
    inside false e = e

-- ---- which place has something down

-- where none of the others has, another hasn't
pub no_other : (place : ℕ) (passed ts : List Taken) → ((q : ℕ) → q ≢ place → has_down q passed ≡ false) → list_any (λ t. not (t.place == place) && has_down t.place passed) ts ≡ false
no_other place passed [] none = refl
no_other place passed (t ∷ ts) none =
    elim (cases_eq t.place place) [
      | inl e ↦ rw (eq-eqb t.place place e) (no_other place passed ts none)
      | inr ne ↦ rw (ne_eqb t.place place ne, none t.place ne) (no_other place passed ts none)
    ]

-- a place that has sent something, and has something down, is another to each other place
pub one_other : (place q : ℕ) (passed ts : List Taken) → q ≢ place → has_down q passed ≡ true → 0 < length (sent_by q ts) → list_any (λ t. not (t.place == place) && has_down t.place passed) ts ≡ true
one_other place q passed [] ne down some = absurd (omega arith)
one_other place q passed (t ∷ ts) ne down some =
    elim (cases_eq t.place q) [
      | inl e ↦ rw (e, ne_eqb q place ne, down) refl
      | inr other ↦
          let rest = one_other place q passed ts ne down (rw (ne_eqb t.place q other) at some) in
          rw rest (with_true (not (t.place == place) && has_down t.place passed))
    ]
  where
    with_true : (b : Bool) → (b || true) ≡ true
    with_true true = refl
    with_true false = refl

-- a place that has something down has sent something
pub has_sent : (q : ℕ) (passed : List Taken) → has_down q passed ≡ true → 0 < length (sent_by q passed)
has_sent q passed down = at_list (sent_by q passed) down
  where
    at_list : (own : List Input) → (nat_lt 0 (length (keys_down [] own)) || nat_lt 0 (last_pointer (0, 0, 0) own).0) ≡ true → 0 < length own
    at_list [] down = absurd cc
    at_list (i ∷ is) down = omega arith

none_of : (keys : List ℕ) → nat_lt 0 (length keys) ≡ false → keys ≡ []
none_of [] none = refl
none_of (k ∷ ks) none = absurd (omega (arith, ltb-false 0 (length (k ∷ ks)) none))

no_buttons : (mask : ℕ) → nat_lt 0 mask ≡ false → mask ≡ 0
no_buttons mask none = grind (arith, nat_tests)

is_holding_of_its_place : (s : StrokesKept) (taken : List Taken) → StrokesStand s taken → is_holding s.held ≡ has_down s.place (unbroken taken)
is_holding_of_its_place s taken stands = rw (stands.keys, stands.buttons) refl

-- where nothing is held, nothing is down
free : (s : StrokesKept) (taken : List Taken) → StrokesStand s taken → is_holding s.held ≡ false → (q : ℕ) → has_down q (unbroken taken) ≡ false
free s taken stands none q =
    elim (cases_eq q s.place) [
      | inl e ↦ rw e (sym (is_holding_of_its_place s taken stands) ∙ none)
      | inr ne ↦ stands.others q ne
    ]

-- what is kept stands for the input as that of any place that may send
pub moved : (s : StrokesKept) (taken : List Taken) (place : ℕ) → StrokesStand s taken → is_holding s.held ≡ false → StrokesStand (record s { place = place }) taken
moved s taken place stands none =
    let held = or_parts (nat_lt 0 (length s.held.keys)) (nat_lt 0 s.held.mask) none in
    let own = or_parts (nat_lt 0 (length (keys_of place (unbroken taken)))) (nat_lt 0 (buttons_of place (unbroken taken))) (free s taken stands none place) in
    record {
      keys = none_of s.held.keys held.0 ∙ sym (none_of (keys_of place (unbroken taken)) own.0);
      buttons = no_buttons s.held.mask held.1 ∙ sym (no_buttons (buttons_of place (unbroken taken)) own.1);
      others = λ q ne. free s taken stands none q;
      counts = stands.counts;
    }

-- of the place for which it is kept, an input passes by what is held
passes_own : (s : StrokesKept) (taken : List Taken) (t : Taken) → StrokesStand s taken → s.place ≡ t.place → passes_after (unbroken taken) t ≡ passes s.held.keys t.input
passes_own s taken t stands e =
    rw (no_other t.place (unbroken taken) (unbroken taken) (λ q ne. stands.others q (λ same. ne (same ∙ e))), ← e, ← stands.keys) refl

-- of another it doesn't while something is held
passes_other : (s : StrokesKept) (taken : List Taken) (t : Taken) → StrokesStand s taken → s.place ≢ t.place → is_holding s.held ≡ true → passes_after (unbroken taken) t ≡ false
passes_other s taken t stands ne holds =
    let down : has_down s.place (unbroken taken) ≡ true = sym (is_holding_of_its_place s taken stands) ∙ holds in
    rw (one_other t.place s.place (unbroken taken) (unbroken taken) ne down (has_sent s.place (unbroken taken) down)) refl

pub value_stands : (s : StrokesKept) (taken : List Taken) (t : Taken) → StrokesStand s taken → lets_pass s t ≡ passes_after (unbroken taken) t
value_stands s taken t stands =
    elim (cases_eq s.place t.place) [
      | inl e ↦ rw (eq-eqb s.place t.place e) (sym (passes_own s taken t stands e))
      | inr ne ↦ elim (cases_Bool (is_holding s.held)) [
        | inl holds ↦ rw (ne_eqb s.place t.place ne, holds) (sym (passes_other s taken t stands ne holds))
        | inr none ↦ rw (ne_eqb s.place t.place ne, none) (sym (passes_own (record s { place = t.place }) taken t (moved s taken t.place stands none) refl))
      ]
    ]

-- ---- what is kept after an input that passes

keys_with : (held : Kept) (i : Input) → (kept_with held i).keys ≡ keys_after held.keys i
keys_with held (Key down key) = refl
keys_with held (Pointer mask x y) = refl
keys_with held (Cut text) = refl

buttons_with : (held : Kept) (last : ℕ × ℕ × ℕ) (i : Input) → held.mask ≡ last.0 → (kept_with held i).mask ≡ (last_pointer last (i ∷ [])).0
buttons_with held last (Key down key) e = e
buttons_with held last (Pointer mask x y) e = refl
buttons_with held last (Cut text) e = e

pub sent_by_own : (place : ℕ) (passed : List Taken) (t : Taken) → place ≡ t.place → sent_by place (passed ++ t ∷ []) ≡ sent_by place passed ++ t.input ∷ []
sent_by_own place passed t e = sent_by_more place passed t ∙ (rw (eq-eqb t.place place (sym e)) refl)

pub sent_by_others : (place : ℕ) (passed : List Taken) (t : Taken) → place ≢ t.place → sent_by place (passed ++ t ∷ []) ≡ sent_by place passed
sent_by_others place passed t ne = sent_by_more place passed t ∙ (rw (ne_eqb t.place place (λ e. ne (sym e)), append-nil (sent_by place passed)) refl)

dropped_same : (place : ℕ) (taken : List Taken) (t : Taken) → passes_after (unbroken taken) t ≡ true → dropped place (taken ++ t ∷ []) ≡ dropped place taken
dropped_same place taken t passes =
    rw (left_out_after_more [] taken t, passes, append-nil (left_out_after [] taken)) refl

-- a place that sent this has a key or a button down
abbrev pub has_down_by : List Input → Bool
has_down_by own = nat_lt 0 (length (keys_down [] own)) || nat_lt 0 (last_pointer (0, 0, 0) own).0

through_own : (s : StrokesKept) (taken : List Taken) (t : Taken) → StrokesStand s taken → s.place ≡ t.place → passes_after (unbroken taken) t ≡ true
    → StrokesStand (record s { held = kept_with s.held t.input }) (taken ++ t ∷ [])
through_own s taken t stands e lets_it =
    let before : List Taken = unbroken taken in
    let passed : unbroken (taken ++ t ∷ []) ≡ before ++ t ∷ [] = unbroken_more taken t ∙ rw lets_it refl in
    let own : sent_by s.place (before ++ t ∷ []) ≡ sent_by s.place before ++ t.input ∷ [] = sent_by_own s.place before t e in
    record {
      keys = keys_with s.held t.input ∙ ap (λ ks. keys_after ks t.input) stands.keys ∙ sym (keys_down_more [] (sent_by s.place before) t.input) ∙ sym (ap (keys_down []) own) ∙ sym (ap (keys_of s.place) passed);
      buttons = buttons_with s.held (last_pointer (0, 0, 0) (sent_by s.place before)) t.input stands.buttons ∙ sym (ap (λ (l : ℕ × ℕ × ℕ). l.0) (pointer_more (0, 0, 0) (sent_by s.place before) t.input)) ∙ sym (ap (λ is. (last_pointer (0, 0, 0) is).0) own) ∙ sym (ap (buttons_of s.place) passed);
      others = λ q ne. ap (has_down q) passed ∙ ap has_down_by (sent_by_others q before t (λ same. ne (same ∙ sym e))) ∙ stands.others q ne;
      counts = λ q lt. stands.counts q lt ∙ sym (dropped_same q taken t lets_it);
    }

pub through : (s : StrokesKept) (taken : List Taken) (t : Taken) → StrokesStand s taken → lets_pass s t ≡ true → StrokesStand (let_through s t) (taken ++ t ∷ [])
through s taken t stands lets =
    let lets_it : passes_after (unbroken taken) t ≡ true = sym (value_stands s taken t stands) ∙ lets in
    let new : let_through s t ≡ record s { place = t.place; held = kept_with s.held t.input } = rw lets refl in
    rw new
    (elim (cases_eq s.place t.place) [
      | inl e ↦ subst (λ p. StrokesStand (record s { place = p; held = kept_with s.held t.input }) (taken ++ t ∷ [])) e (through_own s taken t stands e lets_it)
      | inr ne ↦ through_own (record s { place = t.place }) taken t (moved s taken t.place stands (not_holding s t ne lets)) refl lets_it
    ])
  where
    not_holding : (s : StrokesKept) (t : Taken) → s.place ≢ t.place → lets_pass s t ≡ true → is_holding s.held ≡ false
    not_holding s t ne lets =
        let first = and_parts (s.place == t.place || not (is_holding s.held)) (passes s.held.keys t.input) lets in
        not-true (is_holding s.held) (rw (ne_eqb s.place t.place ne) at first.0)

-- ---- what is kept after one that doesn't

count_len : (place : ℕ) (counts : List ℕ) → length (counts_after place counts) ≡ length counts
count_len place counts = grind (arith, nat_tests, common_steps)

count_at : (place q : ℕ) (counts : List ℕ) → q < length counts → slice_index (counts_after place counts) q ≡ cond (place == q) (min LIMIT (slice_index counts q + 1)) (slice_index counts q)
count_at place q counts lt = grind (arith, nat_tests, common_steps)

one_more : (n : ℕ) → min LIMIT (min LIMIT n + 1) ≡ min LIMIT (n + 1)
one_more n = omega arith

dropped_more : (q : ℕ) (taken : List Taken) (t : Taken) → passes_after (unbroken taken) t ≡ false → dropped q (taken ++ t ∷ []) ≡ cond (t.place == q) (min LIMIT (dropped q taken + 1)) (dropped q taken)
dropped_more q taken t stays =
    let before : List Taken = left_out_after [] taken in
    let behind : left_out_after [] (taken ++ t ∷ []) ≡ before ++ t ∷ [] = left_out_after_more [] taken t ∙ rw stays refl in
    ap (λ ts. min LIMIT (length (sent_by q ts))) behind ∙ ap (λ (is : List Input). min LIMIT (length is)) (sent_by_more q before t) ∙ by_place (t.place == q) (sent_by q before)
  where
    by_place : (b : Bool) (own : List Input) → min LIMIT (length (own ++ cond b (t.input ∷ []) [])) ≡ cond b (min LIMIT (min LIMIT (length own) + 1)) (min LIMIT (length own))
    by_place true own = omega (arith, length-append own (t.input ∷ []))
    by_place false own = rw append-nil refl

pub left_out : (s : StrokesKept) (taken : List Taken) (t : Taken) → StrokesStand s taken → lets_pass s t ≡ false → StrokesStand (record s { counts = counts_after t.place s.counts }) (taken ++ t ∷ [])
left_out s taken t stands lets =
    let stays : passes_after (unbroken taken) t ≡ false = sym (value_stands s taken t stands) ∙ lets in
    let passed : unbroken (taken ++ t ∷ []) ≡ unbroken taken = unbroken_more taken t ∙ rw stays (append-nil (unbroken taken)) in
    record {
      keys = stands.keys ∙ sym (ap (keys_of s.place) passed);
      buttons = stands.buttons ∙ sym (ap (buttons_of s.place) passed);
      others = λ q ne. ap (has_down q) passed ∙ stands.others q ne;
      counts = λ q lt.
          let within : q < length s.counts = omega (arith, lt, count_len t.place s.counts) in
          count_at t.place q s.counts within ∙ rw (stands.counts q within) (sym (dropped_more q taken t stays));
    }

-- ---- what a call of `passes` has done

pub passed_more : (s : StrokesKept) (taken : List Taken) (t : Taken) (result : Bool) → StrokesStand s taken → result ≡ lets_pass s t → unbroken (taken ++ t ∷ []) ≡ unbroken taken ++ cond result (t ∷ []) []
passed_more s taken t result stands e = unbroken_more taken t ∙ ap (λ b. unbroken taken ++ cond b (t ∷ []) []) (sym (value_stands s taken t stands) ∙ sym e)

pub stands_through : (s new : StrokesKept) (taken : List Taken) (t : Taken) (result : Bool) → StrokesStand s taken → result ≡ lets_pass s t → result ≡ true → new ≡ let_through s t → StrokesStand new (taken ++ t ∷ [])
stands_through s new taken t result stands e passes kept = rw kept (through s taken t stands (sym e ∙ passes))

pub stands_counted : (s new : StrokesKept) (counts : List ℕ) (taken : List Taken) (t : Taken) (result : Bool) → StrokesStand s taken → result ≡ lets_pass s t → result ≡ false → new ≡ let_through s t → counts ≡ counts_after t.place new.counts
    → StrokesStand (record new { counts = counts }) (taken ++ t ∷ [])
stands_counted s new counts taken t result stands e stays kept counted =
    let same : let_through s t ≡ s = rw (sym e ∙ stays) refl in
    rw (counted, kept ∙ same) (left_out s taken t stands (sym e ∙ stays))
