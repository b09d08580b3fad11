-- What is to be said to a viewer by now. `ViewerHello::out` shows what of it isn't sent.
use Rattle.std.proofs.Common.{◌≡◌, ℕ, ◌+◌, ◌-◌, ◌<◌, ◌≤◌, Bool, true, false, List, [], ◌∷◌, ◌++◌, length, take, drop, Option, None, Some, inl, inr, refl, sym, ap, ◌∙◌, arith, length-drop}
use Rattle.std.specs.Prelude.{nat_le, if◌then◌else◌, is_none}
use Rattle.std.proofs.lemmas.Bool.{le-leb, lt-leb, cases_lt}
use Rattle.std.proofs.lemmas.List.{length-append, length-take, take_all, drop-take}
use Rattle.byte_reading.specs.Reading.{fault_of}
use Rattle.fault.specs.declared.kinds.Fault.{Fault}
use Rattle.rfb_wire.specs.Handshake.{version, server_init, said_to_viewer}
use Rattle.rfb_wire.specs.Greeting.{Greeting, ahead, due, to_send, IsPrepared}

-- The tests on a count, at each stage of the handshake.
record AtStage (n : ℕ) (a b c : Bool) : Type 0 where
  version_taken : nat_le 12 n ≡ a
  choice_taken : nat_le 13 n ≡ b
  all_taken : nat_le 14 n ≡ c

abbrev due_by : ℕ → Bool → Bool → Bool → ℕ
due_by all a b c = if c then all else (if b then 18 else (if a then 14 else 12))

due_is : (all n : ℕ) (a b c : Bool) → AtStage n a b c → due all n ≡ due_by all a b c
due_is all n a b c s =
    ap (λ t. due_by all (nat_le 12 n) (nat_le 13 n) t) s.all_taken ∙ (ap (λ t. due_by all (nat_le 12 n) t c) s.choice_taken ∙ ap (λ t. due_by all t b c) s.version_taken)

abbrev said_by : ℕ → ℕ → List ℕ → Bool → Bool → Bool → List ℕ
said_by w h name a b c = version ++ (if a then 1 ∷ 1 ∷ [] else []) ++ (if b then 0 ∷ 0 ∷ 0 ∷ 0 ∷ [] else []) ++ (if c then server_init w h name else [])

said_is : (w h : ℕ) (name : List ℕ) (n : ℕ) (a b c : Bool) → AtStage n a b c → said_to_viewer w h name n ≡ said_by w h name a b c
said_is w h name n a b c s =
    ap (λ t. said_by w h name (nat_le 12 n) (nat_le 13 n) t) s.all_taken ∙ (ap (λ t. said_by w h name (nat_le 12 n) t c) s.choice_taken ∙ ap (λ t. said_by w h name t b c) s.version_taken)

-- What holds at each stage holds of each count.
by_stage : (n : ℕ) (P : Type 0) → (n < 12 → AtStage n false false false → P) → (12 ≤ n → n < 13 → AtStage n true false false → P) → (13 ≤ n → n < 14 → AtStage n true true false → P) → (14 ≤ n → AtStage n true true true → P) → P
by_stage n P nothing version_only choice_too everything =
    elim (cases_lt n 12) [
      | inl lt ↦ nothing lt (record { version_taken = lt-leb 12 n lt; choice_taken = lt-leb 13 n (omega arith); all_taken = lt-leb 14 n (omega arith) })
      | inr ge ↦ elim (cases_lt n 13) [
        | inl lt ↦ version_only ge lt (record { version_taken = le-leb 12 n ge; choice_taken = lt-leb 13 n lt; all_taken = lt-leb 14 n (omega arith) })
        | inr more ↦ elim (cases_lt n 14) [
          | inl lt ↦ choice_too more lt (record { version_taken = le-leb 12 n ge; choice_taken = le-leb 13 n more; all_taken = lt-leb 14 n lt })
          | inr all ↦ everything all (record { version_taken = le-leb 12 n ge; choice_taken = le-leb 13 n more; all_taken = le-leb 14 n all })
        ]
      ]
    ]

pub prepared_len : (w h : ℕ) (whole : List ℕ) → IsPrepared w h whole → length whole ≡ 42 + length (drop 42 whole)
prepared_len w h whole p = let e = ap length p in omega (arith, e)

-- The front of what is prepared is what is to be said by now.
pub prepared_front : (w h : ℕ) (whole : List ℕ) (n : ℕ) → IsPrepared w h whole → take (due (length whole) n) whole ≡ said_to_viewer w h (drop 42 whole) n
prepared_front w h whole n p =
    let name : List ℕ = drop 42 whole in
    let as_due : (a b c : Bool) → AtStage n a b c → take (due_by (length whole) a b c) whole ≡ said_by w h name a b c → take (due (length whole) n) whole ≡ said_to_viewer w h name n =
    λ a b c s e. ap (λ k. take k whole) (due_is (length whole) n a b c s) ∙ (e ∙ sym (said_is w h name n a b c s)) in
    by_stage n (take (due (length whole) n) whole ≡ said_to_viewer w h name n)
    (λ _ s. as_due false false false s (ap (take 12) p))
    (λ _ _ s. as_due true false false s (ap (take 14) p))
    (λ _ _ s. as_due true true false s (ap (take 18) p))
    (λ _ s. as_due true true true s (take_all (length whole) whole (omega arith) ∙ p))

pub due_fits : (all n : ℕ) → 18 ≤ all → due all n ≤ all
due_fits all n h =
    by_stage n (due all n ≤ all)
    (λ _ s. let e = due_is all n false false false s in omega (arith, e))
    (λ _ _ s. let e = due_is all n true false false s in omega (arith, e))
    (λ _ _ s. let e = due_is all n true true false s in omega (arith, e))
    (λ _ s. let e = due_is all n true true true s in omega (arith, e))

pub due_nothing : (all n : ℕ) → n < 12 → due all n ≡ 12
due_nothing all n lt = by_stage n (due all n ≡ 12) (λ _ s. due_is all n false false false s) (λ ge _ s. absurd (omega arith)) (λ ge _ s. absurd (omega arith)) (λ ge s. absurd (omega arith))

pub due_version : (all n : ℕ) → n ≡ 12 → due all n ≡ 14
due_version all n e = by_stage n (due all n ≡ 14) (λ lt s. absurd (omega arith)) (λ _ _ s. due_is all n true false false s) (λ ge _ s. absurd (omega arith)) (λ ge s. absurd (omega arith))

pub due_choice : (all n : ℕ) → n ≡ 13 → due all n ≡ 18
due_choice all n e = by_stage n (due all n ≡ 18) (λ lt s. absurd (omega arith)) (λ _ lt s. absurd (omega arith)) (λ _ _ s. due_is all n true true false s) (λ ge s. absurd (omega arith))

pub due_all : (all n : ℕ) → 14 ≤ n → due all n ≡ all
due_all all n ge = by_stage n (due all n ≡ all) (λ lt s. absurd (omega arith)) (λ _ lt s. absurd (omega arith)) (λ _ lt s. absurd (omega arith)) (λ _ s. due_is all n true true true s)

pub due_grows : (all n : ℕ) → 18 ≤ all → due all n ≤ due all (n + 1)
due_grows all n h =
    by_stage n (due all n ≤ due all (n + 1))
    (λ lt s. let e = due_is all n false false false s in elim (cases_lt (n + 1) 12) [ inl l ↦ let d = due_nothing all (n + 1) l in omega (arith, e, d) | inr g ↦ let d = due_version all (n + 1) (omega arith) in omega (arith, e, d) ])
    (λ ge lt s. let e = due_is all n true false false s in let d = due_choice all (n + 1) (omega arith) in omega (arith, e, d))
    (λ ge lt s. let e = due_is all n true true false s in let d = due_all all (n + 1) (omega arith) in omega (arith, e, d))
    (λ ge s. let e = due_is all n true true true s in let d = due_all all (n + 1) (omega arith) in omega (arith, e, d))

said_len : (w h : ℕ) (whole : List ℕ) (n : ℕ) → IsPrepared w h whole → length (said_to_viewer w h (drop 42 whole) n) ≡ due (length whole) n
said_len w h whole n p =
    let fits = due_fits (length whole) n (omega (arith, prepared_len w h whole p)) in
    let e = ap length (prepared_front w h whole n p) in
    let t = length-take (due (length whole) n) whole in
    omega (arith, e, t, fits)

-- This many bytes are left to send, and none after a fault.
left_to_send : (o : Option Fault) (said : List ℕ) (sent all : ℕ) → length said ≡ all → sent ≤ all → length (if is_none o then drop sent said else []) + sent ≤ all
left_to_send None said sent all e le = omega (arith, length-drop sent said)
left_to_send (Some f) said sent all e le = omega arith

pub to_send_fits : (w h : ℕ) (whole : List ℕ) (begun : List ℕ) (sent : ℕ) → IsPrepared w h whole → sent ≤ due (length whole) (length begun)
    → length (to_send (record { w = w; h = h; name = drop 42 whole; begun = begun; sent = sent })) + sent ≤ due (length whole) (length begun)
to_send_fits w h whole begun sent p le =
    let g : Greeting = record { w = w; h = h; name = drop 42 whole; begun = begun; sent = sent } in
    left_to_send (fault_of (ahead g)) (said_to_viewer w h (drop 42 whole) (length begun)) sent (due (length whole) (length begun)) (said_len w h whole (length begun) p) le

-- ---- the same, of what the code holds

pub record IsLaid (w h : ℕ) (said begun : List ℕ) (sent : ℕ) : Type 0 where
  pub prepared : IsPrepared w h said
  pub within : sent ≤ due (length said) (length begun)

abbrev pub seen : ℕ → ℕ → List ℕ → List ℕ → ℕ → Greeting
seen w h said begun sent = record { w = w; h = h; name = drop 42 said; begun = begun; sent = sent }

laid_len : (w h : ℕ) (said begun : List ℕ) (sent : ℕ) → IsLaid w h said begun sent → 18 ≤ length said
laid_len w h said begun sent l = let p = prepared_len w h said l.prepared in omega (arith, p)

pub more_sent : (w h : ℕ) (said begun : List ℕ) (sent count : ℕ) (g : Greeting) → IsLaid w h said begun sent → seen w h said begun sent ≡ g → count ≤ length (to_send g)
    → (sent + count ≤ due (length said) (length begun)) × (sent + count ≤ length said)
more_sent w h said begun sent count g l e le =
    let left = to_send_fits w h said begun sent l.prepared l.within in
    let own : length (to_send (seen w h said begun sent)) ≡ length (to_send g) = ap (λ v. length (to_send v)) e in
    let least = due_fits (length said) (length begun) (laid_len w h said begun sent l) in
    (omega (arith, left, own, le), omega (arith, left, own, le, least))

-- Once one more byte was taken.
pub due_more : (w h : ℕ) (said begun : List ℕ) (sent b : ℕ) → IsLaid w h said begun sent → sent ≤ due (length said) (length (begun ++ b ∷ []))
due_more w h said begun sent b l =
    let more : length (begun ++ b ∷ []) ≡ length begun + 1 = length-append begun (b ∷ []) in
    rw more (omega (arith, due_grows (length said) (length begun) (laid_len w h said begun sent l), l.within))

-- The part of it that is to be sent.
pub part_to_send : (w h : ℕ) (said begun : List ℕ) (sent k : ℕ) (g : Greeting) → IsLaid w h said begun sent → seen w h said begun sent ≡ g → fault_of (ahead g) ≡ None → k ≡ due (length said) (length begun)
    → take (k - sent) (drop sent said) ≡ to_send g
part_to_send w h said begun sent k g l e none d =
    let split : sent + (k - sent) ≡ k = omega (arith, d, l.within) in
    let cut : take (k - sent) (drop sent said) ≡ drop sent (take k said) = sym (drop-take sent (k - sent) said) ∙ ap (λ i. drop sent (take i said)) split in
    let front : take k said ≡ said_to_viewer w h (drop 42 said) (length begun) = ap (λ i. take i said) d ∙ prepared_front w h said (length begun) l.prepared in
    let tested : (o : Option Fault) (xs : List ℕ) → o ≡ None → xs ≡ (if is_none o then xs else []) = λ o xs p. rw p refl in
    let here : Greeting = seen w h said begun sent in
    let none_here : fault_of (ahead here) ≡ None = ap (λ v. fault_of (ahead v)) e ∙ none in
    cut ∙ (ap (drop sent) front ∙ (tested (fault_of (ahead here)) (drop sent (said_to_viewer w h (drop 42 said) (length begun))) none_here ∙ ap to_send e))
