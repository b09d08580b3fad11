-- An opening is read part by part. Its reader looks at all bytes that have come, and so it needs to know what is seen
-- of a part that has a given number of bytes.
use Rattle.std.proofs.Common.{◌≡◌, ◌≢◌, ℕ, zero, suc, ◌+◌, ◌-◌, ◌<◌, ◌≤◌, Bool, true, false, cond, ◌==◌, List, [], ◌∷◌, ◌++◌, length, get_or, take, drop, Option, None, Some, Ok, Err, refl, sym, ap, subst, ◌∙◌, arith, append_assoc, length-append, length-drop, length-take}
use Rattle.std.specs.Prelude.{option_map, bytes_eq, ◌||◌}
use Rattle.std.specs.List.{list_any}
use Rattle.std.specs.Int.{w32, from_be_bytes}
use Rattle.std.proofs.lemmas.Bool.{eq-eqb, ne_eqb}
use Rattle.std.proofs.lemmas.List.{take-append-drop}
use Rattle.byte_reading.specs.Reading.{Reading, Done, Faulty, Want, ◌>>=◌, step, after, taken, bytes, u32, wants_more, whole_of}
use Rattle.byte_reading.proofs.ReadingLaws.{after-append, after-done, after-taken, taken-taken, taken-append, taken-open, taken-le, taken-some, bind_assoc, none_whole}
use Rattle.byte_reading.proofs.Heads.{head_wants}
use Rattle.playback.specs.Opening.{Opened, opening, by_version, security, counted, offered, kind, judged_kind, result, judged_result, version}
use Rattle.playback.specs.Openings.{seen, GoesOn, IsNoOpening}
use Rattle.playback.specs.declared.bad.BadOpening.{BadOpening}
use Rattle.playback.specs.declared.bad.BadOpening.TheVariants as bad
use Rattle.playback.specs.declared.bad.BadPlayback.TheVariants.{Opening}

-- ---- parts of a given number of bytes

-- What is seen where these bytes are left.
abbrev pub with_rest : List ℕ → Opened → List ℕ × Opened
with_rest left opened = (left, opened)

head_step : {A : Type 0} (n : ℕ) (next : List ℕ → Reading A) (b : ℕ) → step (bytes (suc n) >>= next) b ≡ (bytes n >>= λ others. next (b ∷ others))
head_step n next b = bind_assoc (bytes n) (λ others. Done (b ∷ others)) next

-- What follows them is read after them.
pub head_then : {A : Type 0} (n : ℕ) (next : List ℕ → Reading A) (xs : List ℕ) → n ≤ length xs
    → (after (bytes n >>= next) xs ≡ after (next (take n xs)) (drop n xs)) × (taken (bytes n >>= next) xs ≡ n + taken (next (take n xs)) (drop n xs))
head_then zero next xs le = (refl, omega arith)
head_then (suc n) next [] le = absurd (omega arith)
head_then (suc n) next (b ∷ xs) le =
    let h = head_then n (λ others. next (b ∷ others)) xs (omega arith) in
    let e = head_step n next b in
    let count : taken (step (bytes (suc n) >>= next) b) xs ≡ n + taken (next (b ∷ take n xs)) (drop n xs) = ap (λ r. taken r xs) e ∙ h.1 in
    (ap (λ r. after r xs) e ∙ h.0, omega (arith, count))

drop_further : (n k t : ℕ) (xs : List ℕ) → t ≡ n + k → drop t xs ≡ drop k (drop n xs)
drop_further zero k t xs e = let same : t ≡ k = omega (arith, e) in ap (λ i. drop i xs) same
drop_further (suc n) zero zero [] e = refl
drop_further (suc n) k zero xs e = absurd (omega arith)
drop_further (suc n) zero (suc t) [] e = refl
drop_further (suc n) (suc k) (suc t) [] e = refl
drop_further (suc n) k (suc t) (x ∷ xs) e = drop_further n k t xs (omega arith)

pub seen_then : (n : ℕ) (next : List ℕ → Reading Opened) (xs : List ℕ) → n ≤ length xs → seen (bytes n >>= next) xs ≡ seen (next (take n xs)) (drop n xs)
seen_then n next xs le =
    let h = head_then n next xs le in
    let r = next (take n xs) in
    ap (λ (o : Reading Opened). option_map (λ opened. (drop (taken (bytes n >>= next) xs) xs, opened)) (whole_of o)) h.0
    ∙ ap (λ (left : List ℕ). option_map (λ (opened : Opened). (left, opened)) (whole_of (after r (drop n xs)))) (drop_further n (taken r (drop n xs)) (taken (bytes n >>= next) xs) xs h.1)

pub seen_short : (n : ℕ) (next : List ℕ → Reading Opened) (xs : List ℕ) → length xs < n → seen (bytes n >>= next) xs ≡ None
seen_short n next xs lt =
    ap (λ (o : Option Opened). option_map (λ (opened : Opened). (drop (taken (bytes n >>= next) xs) xs, opened)) o) (none_whole (after (bytes n >>= next) xs) (head_wants n next xs lt))

pub seen_done : (outcome : Opened) (xs : List ℕ) → seen (Done outcome) xs ≡ Some (xs, outcome)
seen_done outcome xs = ap (λ (r : Reading Opened). option_map (λ (opened : Opened). (xs, opened)) (whole_of r)) (after-done outcome xs)

-- ---- numbers of four bytes, and single ones

number_form : (judged : ℕ → Opened) → (u32 >>= λ number. Done (judged number)) ≡ (bytes 4 >>= λ field. Done (judged (from_be_bytes w32 field)))
number_form judged = bind_assoc (bytes 4) (λ field. Done (from_be_bytes w32 field)) (λ number. Done (judged number))

pub seen_number : (judged : ℕ → Opened) (xs : List ℕ) → 4 ≤ length xs → seen (u32 >>= λ number. Done (judged number)) xs ≡ Some (drop 4 xs, judged (from_be_bytes w32 (take 4 xs)))
seen_number judged xs le =
    ap (λ (r : Reading Opened). seen r xs) (number_form judged)
    ∙ (seen_then 4 (λ field. Done (judged (from_be_bytes w32 field))) xs le ∙ seen_done (judged (from_be_bytes w32 (take 4 xs))) (drop 4 xs))

pub seen_no_number : (judged : ℕ → Opened) (xs : List ℕ) → length xs < 4 → seen (u32 >>= λ number. Done (judged number)) xs ≡ None
seen_no_number judged xs lt = ap (λ (r : Reading Opened). seen r xs) (number_form judged) ∙ seen_short 4 (λ field. Done (judged (from_be_bytes w32 field))) xs lt

-- ---- security types

pub offered_none : (next : Reading Opened) (types rest : List ℕ) → list_any (λ t. t == 1) types ≡ false → seen (offered next types) rest ≡ Some (with_rest rest (Err bad.NoNone))
offered_none next types rest e = ap (λ (b : Bool). seen (cond b next (Done (Err bad.NoNone))) rest) e ∙ seen_done (Err bad.NoNone) rest

pub offered_some : (next : Reading Opened) (types rest : List ℕ) → list_any (λ t. t == 1) types ≡ true → seen (offered next types) rest ≡ seen next rest
offered_some next types rest e = ap (λ (b : Bool). seen (cond b next (Done (Err bad.NoNone))) rest) e

pub counted_none : (next : Reading Opened) (count : ℕ) (xs : List ℕ) → count ≡ 0 → seen (counted next count) xs ≡ Some (with_rest xs (Err bad.Refused))
counted_none next count xs e = ap (λ (b : Bool). seen (cond b (Done (Err bad.Refused)) (bytes count >>= offered next)) xs) (eq-eqb count 0 e) ∙ seen_done (Err bad.Refused) xs

counted_form : (next : Reading Opened) (count : ℕ) (xs : List ℕ) → count ≢ 0 → seen (counted next count) xs ≡ seen (bytes count >>= offered next) xs
counted_form next count xs e = ap (λ (b : Bool). seen (cond b (Done (Err bad.Refused)) (bytes count >>= offered next)) xs) (ne_eqb count 0 e)

pub counted_short : (next : Reading Opened) (count : ℕ) (xs : List ℕ) → count ≢ 0 → length xs < count → seen (counted next count) xs ≡ None
counted_short next count xs e lt = counted_form next count xs e ∙ seen_short count (offered next) xs lt

pub counted_then : (next : Reading Opened) (count : ℕ) (xs : List ℕ) → count ≢ 0 → count ≤ length xs → seen (counted next count) xs ≡ seen (offered next (take count xs)) (drop count xs)
counted_then next count xs e le = counted_form next count xs e ∙ seen_then count (offered next) xs le

pub security_then : (next : Reading Opened) (xs : List ℕ) → length xs ≢ 0 → seen (security next) xs ≡ seen (counted next (get_or (take 1 xs) 0 0)) (drop 1 xs)
security_then next [] some = absurd (some refl)
security_then next (b ∷ xs) some = refl

pub security_short : (next : Reading Opened) (xs : List ℕ) → length xs ≡ 0 → seen (security next) xs ≡ None
security_short next [] e = refl
security_short next (b ∷ xs) e = absurd (omega arith)

-- ---- versions

pub in_3_8 : (field rest : List ℕ) → bytes_eq field (version 8) ≡ true → seen (by_version field) rest ≡ seen (security result) rest
in_3_8 field rest e = rw e refl

pub in_3_7 : (field rest : List ℕ) → bytes_eq field (version 8) ≡ false → bytes_eq field (version 7) ≡ true → seen (by_version field) rest ≡ seen (security (Done (Ok tt))) rest
in_3_7 field rest e f = rw (e, f) refl

pub in_3_3 : (field rest : List ℕ) → bytes_eq field (version 8) ≡ false → bytes_eq field (version 7) ≡ false → (bytes_eq field (version 3) || bytes_eq field (version 5)) ≡ true → seen (by_version field) rest ≡ seen kind rest
in_3_3 field rest e f h = rw (e, f, h) refl

pub in_none : (field rest : List ℕ) → bytes_eq field (version 8) ≡ false → bytes_eq field (version 7) ≡ false → (bytes_eq field (version 3) || bytes_eq field (version 5)) ≡ false → seen (by_version field) rest ≡ Some (with_rest rest (Err bad.UnknownVersion))
in_none field rest e f h = rw (e, f, h) (seen_done (Err bad.UnknownVersion) rest)

pub version_then : (xs : List ℕ) → 12 ≤ length xs → seen opening xs ≡ seen (by_version (take 12 xs)) (drop 12 xs)
unfolding opening
version_then xs le = seen_then 12 by_version xs le

pub version_short : (xs : List ℕ) → length xs < 12 → seen opening xs ≡ None
unfolding opening
version_short xs lt = seen_short 12 by_version xs lt

-- ---- no fault is met

abbrev pub IsFine : {A : Type 0} → Reading A → Type 0
IsFine (Done x) = Unit {0}
IsFine (Faulty fault) = ⊥
IsFine (Want more) = (b : ℕ) → IsFine (more b)

pub fine_bind : {A B : Type 0} (form : Reading A) (next : A → Reading B) → IsFine form → ((x : A) → IsFine (next x)) → IsFine (form >>= next)
fine_bind (Done x) next h k = k x
fine_bind (Faulty f) next h k = absurd h
fine_bind (Want more) next h k = λ b. fine_bind (more b) next (h b) k

pub fine_bytes : (n : ℕ) → IsFine (bytes n)
fine_bytes zero = tt
fine_bytes (suc n) = λ b. fine_bind (bytes n) (λ others. Done (b ∷ others)) (fine_bytes n) (λ others. tt)

pub fine_cond : {A : Type 0} (b : Bool) (r q : Reading A) → IsFine r → IsFine q → IsFine (cond b r q)
fine_cond true r q h k = h
fine_cond false r q h k = k

fine_number : (judged : ℕ → Opened) → IsFine (u32 >>= λ number. Done (judged number))
fine_number judged = fine_bind u32 (λ number. Done (judged number)) (fine_bind (bytes 4) (λ field. Done (from_be_bytes w32 field)) (fine_bytes 4) (λ field. tt)) (λ number. tt)

fine_security : (next : Reading Opened) → IsFine next → IsFine (security next)
fine_security next h =
    λ count. fine_cond (count == 0) (Done _) (bytes count >>= offered next) tt
    (fine_bind (bytes count) (offered next) (fine_bytes count) (λ types. fine_cond (list_any (λ t. t == 1) types) next (Done _) h tt))

fine_version : (field : List ℕ) → IsFine (by_version field)
fine_version field =
    let unknown : Reading Opened = Done (Err bad.UnknownVersion) in
    let old : Reading Opened = cond (bytes_eq field (version 3) || bytes_eq field (version 5)) kind unknown in
    let middle : Reading Opened = cond (bytes_eq field (version 7)) (security (Done (Ok tt))) old in
    fine_cond (bytes_eq field (version 8)) (security result) middle (fine_security result (fine_number judged_result))
    (fine_cond (bytes_eq field (version 7)) (security (Done (Ok tt))) old (fine_security (Done (Ok tt)) tt)
    (fine_cond (bytes_eq field (version 3) || bytes_eq field (version 5)) kind unknown (fine_number judged_kind) tt))

fine_opening : IsFine opening
unfolding opening
fine_opening = fine_bind (bytes 12) by_version (fine_bytes 12) fine_version

pub fine_after : {A : Type 0} (r : Reading A) (xs : List ℕ) → IsFine r → IsFine (after r xs)
fine_after r [] h = h
fine_after (Done x) (b ∷ xs) h = fine_after (Done x) xs tt
fine_after (Faulty f) (b ∷ xs) h = absurd h
fine_after (Want more) (b ∷ xs) h = fine_after (more b) xs (h b)

pub fine_wants : {A : Type 0} (r : Reading A) → IsFine r → whole_of r ≡ None → wants_more r ≡ true
fine_wants (Done x) h e = absurd cc
fine_wants (Faulty f) h e = absurd h
fine_wants (Want more) h e = refl

not_seen : (left : List ℕ) (r : Reading Opened) → option_map (with_rest left) (whole_of r) ≡ None → whole_of r ≡ None
not_seen left (Done x) e = absurd cc
not_seen left (Faulty f) e = refl
not_seen left (Want more) e = refl

pub was_seen : (left rest : List ℕ) (outcome : Opened) (r : Reading Opened) → option_map (with_rest left) (whole_of r) ≡ Some (with_rest rest outcome) → (r ≡ Done outcome) × (rest ≡ left)
was_seen left rest outcome (Done x) e =
    let same : with_rest left x ≡ with_rest rest outcome = cc in
    (ap Done (ap (λ (p : List ℕ × Opened). p.1) same), sym (ap (λ (p : List ℕ × Opened). p.0) same))
was_seen left rest outcome (Faulty f) e = absurd cc
was_seen left rest outcome (Want more) e = absurd cc

-- ---- what a reader of an opening does

pub still_begun : (all : List ℕ) → seen opening all ≡ None → wants_more (after opening all) ≡ true
still_begun all e = fine_wants (after opening all) (fine_after opening all fine_opening) (not_seen (drop (taken opening all) all) (after opening all) e)

pub goes_on : (old new piece : List ℕ) → new ≡ old ++ piece → seen opening new ≡ None → GoesOn false old new piece
goes_on old new piece is e = (is, still_begun new e)

pub is_none : (old said piece new : List ℕ) (count : ℕ) (rest : List ℕ) (why : BadOpening) → piece ≡ take count said → new ≡ old ++ piece → seen opening new ≡ Some (rest, Err why) → IsNoOpening (Opening why) (old ++ said)
is_none old said piece new count rest why cut is e =
    let ended : after opening new ≡ Done (Err why) = (was_seen (drop (taken opening new) new) rest (Err why) (after opening new) e).0 in
    let all : old ++ said ≡ new ++ drop count said =
    ap (λ (xs : List ℕ). old ++ xs) (sym (take-append-drop count said)) ∙ (sym (append_assoc old (take count said) (drop count said)) ∙ ap (λ (xs : List ℕ). xs ++ drop count said) (ap (λ (xs : List ℕ). old ++ xs) (sym cut) ∙ sym is)) in
    ap (after opening) all ∙ (after-append opening new (drop count said) ∙ (ap (λ (r : Reading Opened). after r (drop count said)) ended ∙ after-done (Err why) (drop count said)))

some_piece : (r : Reading Opened) (piece : List ℕ) (outcome : Opened) → wants_more r ≡ true → after r piece ≡ Done outcome → 0 < length piece
some_piece (Done x) piece outcome w e = absurd cc
some_piece (Faulty f) piece outcome w e = absurd cc
some_piece (Want more) [] outcome w e = absurd cc
some_piece (Want more) (b ∷ piece) outcome w e = omega arith

pub record Ends (old piece : List ℕ) (count left : ℕ) : Type 0 where
  pub fits : left ≤ count
  pub opens : (after opening (old ++ take (count - left) piece) ≡ Done (Ok tt)) × (taken opening (old ++ take (count - left) piece) ≡ length (old ++ take (count - left) piece)) × (0 < length (take (count - left) piece))

pub ends : (old piece new rest : List ℕ) (count : ℕ) → wants_more (after opening old) ≡ true → count ≡ length piece → new ≡ old ++ piece → seen opening new ≡ Some (rest, Ok tt) → Ends old piece count (length rest)
ends old piece new rest count w long is e =
    let r : Reading Opened = after opening old in
    let n : ℕ = taken r piece in
    let all : after opening (old ++ piece) ≡ after r piece = after-append opening old piece in
    let was = was_seen (drop (taken opening new) new) rest (Ok tt) (after opening new) e in
    let ended : after r piece ≡ Done (Ok tt) = sym all ∙ (ap (after opening) (sym is) ∙ was.0) in
    let whole : taken opening old ≡ length old = taken-open opening old w in
    let total : taken opening new ≡ length old + n = ap (taken opening) is ∙ taken-append opening old piece whole in
    let within : n ≤ length piece = taken-le r piece in
    let some : 0 < n = taken-some r piece w (some_piece r piece (Ok tt) w ended) in
    let left : length rest ≡ length piece - n = ap length was.1 ∙ (length-drop (taken opening new) new ∙ omega (arith, total, ap length is, length-append old piece)) in
    let used : count - length rest ≡ n = omega (arith, left, long, within) in
    let front : List ℕ = take n piece in
    let front_len : length front ≡ n = omega (arith, length-take n piece, within) in
    record {
      fits = omega (arith, left, long);
      opens = subst (λ (k : ℕ). (after opening (old ++ take k piece) ≡ Done (Ok tt)) × (taken opening (old ++ take k piece) ≡ length (old ++ take k piece)) × (0 < length (take k piece))) (sym used) (
        after-append opening old front ∙ (after-taken r piece ∙ ended),
        taken-append opening old front whole ∙ omega (arith, taken-taken r piece, front_len, length-append old front),
        omega (arith, front_len, some),
      );
    }
