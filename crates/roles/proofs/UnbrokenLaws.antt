-- What holds of all that passes of several places. The law `strokes_are_whole` is made of it.
use Rattle.std.proofs.Common.{◌≡◌, ◌≢◌, ◌⊎◌, ℕ, ◌+◌, ◌-◌, min, Bool, true, false, not, cond, List, [], ◌∷◌, ◌++◌, length, map, filter, refl, ap, sym, subst, ◌∙◌, arith, inl, inr, append_assoc, length-append}
use Rattle.std.specs.Prelude.{◌==◌}
use Rattle.std.specs.List.{filter_map}
use Rattle.std.proofs.lemmas.Bool.{and_parts, not-true, eq-eqb, cases_Bool, both_ways}
use Rattle.std.proofs.lemmas.List.{append-nil}
use Rattle.rfb_wire.specs.ClientMessage.{ClientMessage}
use Rattle.fault.specs.declared.limits.TheConstants.{LIMIT}
use Rattle.roles.specs.declared.role.Role.{Role}
use Rattle.roles.specs.declared.role.Role.TheVariants.{Full, View}
use Rattle.roles.specs.Allowed.{Input, Key, Pointer, Cut, input_of, with_key, without_key, passes, keys_after, passing, keys_down, last_pointer, releases, allowed}
use Rattle.roles.specs.Held.{is_rising}
use Rattle.roles.specs.Strokes.{Taken, input_from, sent_by, keys_of, has_down, another_has_down, passes_after, unbroken_after, unbroken, left_out_after, dropped, IsPickedFrom}
use Rattle.roles.proofs.HeldLaws.{keys_down_more}
use Rattle.roles.proofs.Keys.{rising_with, rising_filter, rising_rest, without_rest}
use Rattle.roles.proofs.StrokesLaws.{no_other, one_other, has_sent, sent_by_own, sent_by_others, sent_by_more, has_down_by}

-- ---- of each place it is taken from what it sent

behind : (passed ts : List Taken) → (rest : List Taken) × (unbroken_after passed ts ≡ passed ++ rest) × IsPickedFrom rest ts
behind passed [] = ([], sym (append-nil passed), refl)
behind passed (t ∷ ts) = by_test (passes_after passed t) (behind (passed ++ t ∷ []) ts) (behind passed ts)
  where
    by_test : (b : Bool) → ((rest : List Taken) × (unbroken_after (passed ++ t ∷ []) ts ≡ (passed ++ t ∷ []) ++ rest) × IsPickedFrom rest ts)
        → ((rest : List Taken) × (unbroken_after passed ts ≡ passed ++ rest) × IsPickedFrom rest ts)
        → (rest : List Taken) × (cond b (unbroken_after (passed ++ t ∷ []) ts) (unbroken_after passed ts) ≡ passed ++ rest) × IsPickedFrom rest (t ∷ ts)
    by_test true with_it without = (t ∷ with_it.0, with_it.1 ∙ append_assoc passed (t ∷ []) with_it.0, inr (with_it.0, refl, with_it.2))
    by_test false with_it without = (without.0, without.1, inl without.2)

picked_of : (place : ℕ) (picked ts : List Taken) → IsPickedFrom picked ts → IsPickedFrom (sent_by place picked) (sent_by place ts)
picked_of place picked [] e = rw e refl
picked_of place picked (t ∷ ts) (inl out) = left_out_of (t.place == place) (picked_of place picked ts out)
  where
    left_out_of : (b : Bool) → IsPickedFrom (sent_by place picked) (sent_by place ts) → IsPickedFrom (sent_by place picked) (cond b (t.input ∷ sent_by place ts) (sent_by place ts))
    left_out_of true rest = inl rest
    left_out_of false rest = rest
picked_of place picked (t ∷ ts) (inr begun) = rw begun.1 (begun_of (t.place == place) (picked_of place begun.0 ts begun.2))
  where
    begun_of : (b : Bool) → IsPickedFrom (sent_by place begun.0) (sent_by place ts) → IsPickedFrom (cond b (t.input ∷ sent_by place begun.0) (sent_by place begun.0)) (cond b (t.input ∷ sent_by place ts) (sent_by place ts))
    begun_of true rest = inr (sent_by place begun.0, refl, rest)
    begun_of false rest = rest

pub picked : (place : ℕ) (taken : List Taken) → IsPickedFrom (sent_by place (unbroken taken)) (sent_by place taken)
picked place taken =
    let rest = behind [] taken in
    rw rest.1 (picked_of place rest.0 taken rest.2)

-- ---- strokes are whole

-- each of these passes after those before it
abbrev EachPasses : List Taken → Type 0
EachPasses passed = (before after : List Taken) (t : Taken) → passed ≡ before ++ t ∷ after → passes_after before t ≡ true

-- where a list with one more is cut, the one more is the first after the cut, or the cut is before it
cut_more : (passed before after : List Taken) (u t : Taken) → passed ++ u ∷ [] ≡ before ++ t ∷ after → ((before ≡ passed) × (t ≡ u)) ⊎ ((rest : List Taken) × (passed ≡ before ++ t ∷ rest))
cut_more [] [] after u t e = inl (refl, cc)
cut_more [] (b ∷ []) after u t e = absurd cc
cut_more [] (b ∷ c ∷ bs) after u t e = absurd cc
cut_more (p ∷ ps) [] after u t e = inr (ps, (let same : p ≡ t = cc in rw same refl))
cut_more (p ∷ ps) (b ∷ bs) after u t e =
    let first : p ≡ b = cc in
    let others : ps ++ u ∷ [] ≡ bs ++ t ∷ after = cc in
    elim (cut_more ps bs after u t others) [
      | inl last ↦ inl (rw (first, last.0) refl, last.1)
      | inr inside ↦ inr (inside.0, rw (first, inside.1) refl)
    ]

each_more : (passed : List Taken) (u : Taken) → EachPasses passed → passes_after passed u ≡ true → EachPasses (passed ++ u ∷ [])
each_more passed u each here before after t e =
    elim (cut_more passed before after u t e) [
      | inl last ↦ rw (last.0, last.1) here
      | inr inside ↦ each before inside.0 t inside.1
    ]

each_passes : (passed ts : List Taken) → EachPasses passed → EachPasses (unbroken_after passed ts)
each_passes passed [] each = each
each_passes passed (t ∷ ts) each =
    elim (cases_Bool (passes_after passed t)) [
      | inl here ↦ let same : unbroken_after passed (t ∷ ts) ≡ unbroken_after (passed ++ t ∷ []) ts = rw here refl in
          subst EachPasses (sym same) (each_passes (passed ++ t ∷ []) ts (each_more passed t each here))
      | inr stays ↦ let same : unbroken_after passed (t ∷ ts) ≡ unbroken_after passed ts = rw stays refl in
          subst EachPasses (sym same) (each_passes passed ts each)
    ]

none_before : EachPasses []
none_before [] after t e = absurd cc
none_before (b ∷ bs) after t e = absurd cc

pub whole : (taken before after : List Taken) (t : Taken) → unbroken taken ≡ before ++ t ∷ after → (place : ℕ) → place ≢ t.place → has_down place before ≡ false
whole taken before after t e place ne =
    let passes_here : passes_after before t ≡ true = each_passes [] taken none_before before after t e in
    let quiet : another_has_down t.place before ≡ false = not-true (another_has_down t.place before) (and_parts (not (another_has_down t.place before)) (passes (keys_of t.place before) t.input) passes_here).0 in
    elim (cases_Bool (has_down place before)) [
      | inl down ↦ absurd (both_ways (another_has_down t.place before) quiet (one_other t.place place before before ne down (has_sent place before down)))
      | inr up ↦ up
    ]

-- ---- one place alone

alone_after : (place : ℕ) (passed : List Taken) (inputs : List Input) → ((q : ℕ) → q ≢ place → has_down q passed ≡ false)
    → unbroken_after passed (map (input_from place) inputs) ≡ passed ++ map (input_from place) (passing (keys_of place passed) inputs)
alone_after place passed [] quiet = sym (append-nil passed)
alone_after place passed (i ∷ is) quiet =
    let t : Taken = input_from place i in
    let own : passes_after passed t ≡ passes (keys_of place passed) i = rw (no_other place passed passed quiet) refl in
    let keys : keys_of place (passed ++ t ∷ []) ≡ keys_after (keys_of place passed) i = ap (keys_down []) (sent_by_own place passed t refl) ∙ keys_down_more [] (sent_by place passed) i in
    let quiet_more : (q : ℕ) → q ≢ place → has_down q (passed ++ t ∷ []) ≡ false = λ q ne. ap has_down_by (sent_by_others q passed t ne) ∙ quiet q ne in
    by_test passed i is (passes_after passed t) (passes (keys_of place passed) i) own
    (alone_after place (passed ++ t ∷ []) is quiet_more ∙ ap (λ ks. (passed ++ t ∷ []) ++ map (input_from place) (passing ks is)) keys ∙ append_assoc passed (t ∷ []) (map (input_from place) (passing (keys_after (keys_of place passed) i) is)))
    (alone_after place passed is quiet)
  where
    by_test : (passed : List Taken) (i : Input) (is : List Input) (b own : Bool) → b ≡ own
        → unbroken_after (passed ++ input_from place i ∷ []) (map (input_from place) is) ≡ passed ++ input_from place i ∷ map (input_from place) (passing (keys_after (keys_of place passed) i) is)
        → unbroken_after passed (map (input_from place) is) ≡ passed ++ map (input_from place) (passing (keys_of place passed) is)
        → cond b (unbroken_after (passed ++ input_from place i ∷ []) (map (input_from place) is)) (unbroken_after passed (map (input_from place) is))
        ≡ passed ++ map (input_from place) (cond own (i ∷ passing (keys_after (keys_of place passed) i) is) (passing (keys_of place passed) is))
    by_test passed i is true true same e f = e
    by_test passed i is false false same e f = f
    by_test passed i is true false same e f = absurd cc
    by_test passed i is false true same e f = absurd cc

nothing_down : (q place : ℕ) → q ≢ place → has_down q [] ≡ false
nothing_down q place ne = refl

-- what passes passes again
passing_twice : (keys : List ℕ) (is : List Input) → passing keys (passing keys is) ≡ passing keys is
passing_twice keys [] = refl
passing_twice keys (i ∷ is) =
    elim (cases_Bool (passes keys i)) [
      | inl here ↦ rw (here, here) (ap (λ (zs : List Input). i ∷ zs) (passing_twice (keys_after keys i) is))
      | inr stays ↦ rw stays (passing_twice keys is)
    ]

passing_append : (keys : List ℕ) (is js : List Input) → passing keys (is ++ js) ≡ passing keys is ++ passing (keys_down keys (passing keys is)) js
passing_append keys [] js = refl
passing_append keys (i ∷ is) js = by_test (passes keys i) (passing_append (keys_after keys i) is js) (passing_append keys is js)
  where
    by_test : (b : Bool)
        → passing (keys_after keys i) (is ++ js) ≡ passing (keys_after keys i) is ++ passing (keys_down (keys_after keys i) (passing (keys_after keys i) is)) js
        → passing keys (is ++ js) ≡ passing keys is ++ passing (keys_down keys (passing keys is)) js
        → cond b (i ∷ passing (keys_after keys i) (is ++ js)) (passing keys (is ++ js))
        ≡ cond b (i ∷ passing (keys_after keys i) is) (passing keys is) ++ passing (keys_down keys (cond b (i ∷ passing (keys_after keys i) is) (passing keys is))) js
    by_test true e f = ap (λ (zs : List Input). i ∷ zs) e
    by_test false e f = f

keys_rise : (keys : List ℕ) (is : List Input) → is_rising keys ≡ true → is_rising (keys_down keys is) ≡ true
keys_rise keys [] r = r
keys_rise keys (Key true key ∷ is) r = keys_rise (with_key key keys) is (rising_with key keys r)
keys_rise keys (Key false key ∷ is) r = keys_rise (without_key key keys) is (rising_filter (λ k. not (k == key)) keys r)
keys_rise keys (Pointer mask x y ∷ is) r = keys_rise keys is r
keys_rise keys (Cut text ∷ is) r = keys_rise keys is r

-- the releases of all keys that are down pass, and what is after them
releases_pass : (keys : List ℕ) (js : List Input) → is_rising keys ≡ true → passing [] js ≡ js → passing keys (map (λ key. Key false key) keys ++ js) ≡ map (λ key. Key false key) keys ++ js
releases_pass [] js r rest = rest
releases_pass (k ∷ ks) js r rest =
    let here : (k == k) ≡ true = eq-eqb k k refl in
    rw (here, (let same : filter (λ j. not (j == k)) ks ≡ ks = without_rest k ks r in same)) (ap (λ (zs : List Input). Key false k ∷ zs) (releases_pass ks js (rising_rest k ks r) rest))

-- after what passed passes what does where its keys are down
passes_with : (is js : List Input) → passing (keys_down [] (passing [] is)) js ≡ js → passing [] (passing [] is ++ js) ≡ passing [] is ++ js
passes_with is js e =
    passing_append [] (passing [] is) js ∙ rw (passing_twice [] is, e) refl

pub allowed_passes : (role : Role) (messages : List ClientMessage) (left : Bool) → passing [] (allowed role messages left) ≡ allowed role messages left
allowed_passes View messages left = refl
allowed_passes Full messages true =
    let passed : List Input = passing [] (filter_map input_of messages) in
    passes_with (filter_map input_of messages) (releases passed)
    (releases_pass (keys_down [] passed) (cond ((last_pointer (0, 0, 0) passed).0 == 0) [] (Pointer 0 (last_pointer (0, 0, 0) passed).1 (last_pointer (0, 0, 0) passed).2 ∷ [])) (keys_rise [] passed refl)
    (pointer_passes ((last_pointer (0, 0, 0) passed).0 == 0) (Pointer 0 (last_pointer (0, 0, 0) passed).1 (last_pointer (0, 0, 0) passed).2) refl))
  where
    pointer_passes : (b : Bool) (i : Input) → passes [] i ≡ true → passing [] (cond b [] (i ∷ [])) ≡ cond b [] (i ∷ [])
    pointer_passes true i e = refl
    pointer_passes false i e = rw e refl
allowed_passes Full messages false = passes_with (filter_map input_of messages) [] refl

pub alone : (place : ℕ) (role : Role) (messages : List ClientMessage) (left : Bool) → unbroken (map (input_from place) (allowed role messages left)) ≡ map (input_from place) (allowed role messages left)
alone place role messages left =
    alone_after place [] (allowed role messages left) (λ q ne. nothing_down q place ne) ∙ ap (map (input_from place)) (allowed_passes role messages left)

-- ---- what doesn't pass is counted

counted_after : (place : ℕ) (passed ts : List Taken) → length (sent_by place (unbroken_after passed ts)) + length (sent_by place (left_out_after passed ts)) ≡ length (sent_by place passed) + length (sent_by place ts)
counted_after place passed [] = refl
counted_after place passed (t ∷ ts) =
    by_test (passes_after passed t)
    (with_it (t.place == place) (sent_by place passed) (sent_by place (passed ++ t ∷ [])) (sent_by place ts) (sent_by_more place passed t) (counted_after place (passed ++ t ∷ []) ts))
    (without (t.place == place) (sent_by place passed) (sent_by place ts) (sent_by place (unbroken_after passed ts)) (sent_by place (left_out_after passed ts)) (counted_after place passed ts))
  where
    with_it : (own : Bool) (before more later : List Input) → more ≡ before ++ cond own (t.input ∷ []) []
        → length (sent_by place (unbroken_after (passed ++ t ∷ []) ts)) + length (sent_by place (left_out_after (passed ++ t ∷ []) ts)) ≡ length more + length later
        → length (sent_by place (unbroken_after (passed ++ t ∷ []) ts)) + length (sent_by place (left_out_after (passed ++ t ∷ []) ts)) ≡ length before + length (cond own (t.input ∷ later) later)
    with_it true before more later e all = omega (arith, all, ap length e, length-append before (t.input ∷ []))
    with_it false before more later e all = omega (arith, all, ap length (e ∙ append-nil before))

    without : (own : Bool) (before later through out : List Input) → length through + length out ≡ length before + length later → length through + length (cond own (t.input ∷ out) out) ≡ length before + length (cond own (t.input ∷ later) later)
    without true before later through out all = omega (arith, all)
    without false before later through out all = all

    by_test : (b : Bool)
        → length (sent_by place (unbroken_after (passed ++ t ∷ []) ts)) + length (sent_by place (left_out_after (passed ++ t ∷ []) ts)) ≡ length (sent_by place passed) + length (sent_by place (t ∷ ts))
        → length (sent_by place (unbroken_after passed ts)) + length (sent_by place (t ∷ left_out_after passed ts)) ≡ length (sent_by place passed) + length (sent_by place (t ∷ ts))
        → length (sent_by place (cond b (unbroken_after (passed ++ t ∷ []) ts) (unbroken_after passed ts))) + length (sent_by place (cond b (left_out_after (passed ++ t ∷ []) ts) (t ∷ left_out_after passed ts))) ≡ length (sent_by place passed) + length (sent_by place (t ∷ ts))
    by_test true e f = e
    by_test false e f = f

pub counted : (place : ℕ) (taken : List Taken) → dropped place taken ≡ min LIMIT (length (sent_by place taken) - length (sent_by place (unbroken taken)))
counted place taken = omega (arith, counted_after place [] taken)
