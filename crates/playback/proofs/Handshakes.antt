-- Before a key moment no more is handed out than the handshake. So what was played of it stays a beginning of it, and
-- is all of it once it is whole.
use Rattle.std.proofs.Common.{◌≡◌, ℕ, zero, suc, ◌+◌, ◌-◌, ◌≤◌, ◌⊎◌, inl, inr, true, false, List, [], ◌∷◌, ◌++◌, length, take, Option, None, Some, Ok, Err, refl, sym, ap, subst, ◌∙◌, arith, length-append}
use Rattle.std.specs.Prelude.{is_some}
use Rattle.std.proofs.lemmas.List.{length-take}
use Rattle.std.proofs.Math.Seq.{take-append_seam}
use Rattle.fault.specs.declared.kinds.Fault.{Fault}
use Rattle.byte_reading.specs.Reading.{Reading, Done, Faulty, Want, after, taken, wants_more, whole_of, fault_of, Feeds}
use Rattle.byte_reading.proofs.ReadingLaws.{after-append, after-done, after-faulty, after-stays, after-taken, taken-append, taken-nil, taken-taken, taken-le}
use Rattle.rfb_wire.specs.Handshake.{Joined, host_hello}
use Rattle.rfb_wire.specs.Joining.{ahead}
use Rattle.rfb_wire.specs.declared.host_talk.HostTalk.{HostTalk}
use Rattle.recording.specs.Recording.{line, said_in}
use Rattle.recording.specs.Waiting.{stamp}
use Rattle.recording.proofs.ReadBack.{line_then}
use Rattle.playback.specs.Heard.{bytes_of, handshake_by, handshake_in, said_by, up_to}
use Rattle.playback.specs.Playing.{HasHandshake}
use Rattle.playback.proofs.Hearing.{bytes_append, bytes_len, unstamped}

abbrev hello : Reading Joined
hello = host_hello None

pub handshake_as : (r : Reading Joined) (heard : List (ℕ × ℕ)) → after hello (bytes_of heard) ≡ r → handshake_in heard ≡ handshake_by r (taken hello (bytes_of heard)) heard
unfolding handshake_in
handshake_as r heard e = ap (λ (x : Reading Joined). handshake_by x (taken hello (bytes_of heard)) heard) e

-- All is heard as long as it isn't whole.
open_by : (r : Reading Joined) (n : ℕ) (heard : List (ℕ × ℕ)) → whole_of r ≡ None → handshake_by r n heard ≡ heard
open_by (Done x) n heard e = absurd cc
open_by (Faulty f) n heard e = refl
open_by (Want more) n heard e = refl

pub open_handshake : (talk : HostTalk) (played : List (ℕ × ℕ)) → HasHandshake talk played → whole_of (ahead talk) ≡ None → handshake_in played ≡ played
open_handshake talk played h none =
    handshake_as (after hello (bytes_of played)) played refl ∙ open_by (after hello (bytes_of played)) (taken hello (bytes_of played)) played (ap whole_of (sym h.heard) ∙ none)

take_over : (n : ℕ) (xs ys : List (ℕ × ℕ)) → length xs ≤ n → take n (xs ++ ys) ≡ xs ++ take (n - length xs) ys
take_over n [] ys le = let same : n ≡ n - length {A = ℕ × ℕ} [] = omega arith in ap (λ k. take k ys) same
take_over zero (x ∷ xs) ys le = absurd (omega arith)
take_over (suc n) (x ∷ xs) ys le =
    let less : suc n - length (x ∷ xs) ≡ n - length xs = omega arith in
    ap (λ zs. x ∷ zs) (take_over n xs ys (omega arith)) ∙ ap (λ k. x ∷ (xs ++ take k ys)) (sym less)

by_begins : (r : Reading Joined) (n : ℕ) (played rest : List (ℕ × ℕ)) → length played ≤ n → (left : List (ℕ × ℕ)) × (handshake_by r n (played ++ rest) ≡ played ++ left)
by_begins (Done x) n played rest le = (take (n - length played) rest, take_over n played rest le)
by_begins (Faulty f) n played rest le = (rest, refl)
by_begins (Want more) n played rest le = (rest, refl)

none_stays : (r : Reading Joined) (xs : List ℕ) → whole_of r ≡ None → wants_more r ≡ false → whole_of (after r xs) ≡ None
none_stays r xs none off = ap whole_of (after-stays r xs off) ∙ none

begins_if : (talk : HostTalk) (played rest : List (ℕ × ℕ)) → ahead talk ≡ after hello (bytes_of played)
    → ((taken hello (bytes_of played) ≡ length (bytes_of played)) ⊎ ((whole_of (ahead talk) ≡ None) × (wants_more (ahead talk) ≡ false))) → (left : List (ℕ × ℕ)) × (handshake_in (played ++ rest) ≡ played ++ left)
begins_if talk played rest heard (inl all) =
    let bytes : bytes_of (played ++ rest) ≡ bytes_of played ++ bytes_of rest = bytes_append played rest in
    let total : taken hello (bytes_of (played ++ rest)) ≡ length (bytes_of played) + taken (after hello (bytes_of played)) (bytes_of rest) = ap (taken hello) bytes ∙ taken-append hello (bytes_of played) (bytes_of rest) all in
    let long : length played ≤ taken hello (bytes_of (played ++ rest)) = omega (arith, total, bytes_len played) in
    let by = by_begins (after hello (bytes_of (played ++ rest))) (taken hello (bytes_of (played ++ rest))) played rest long in
    (by.0, handshake_as (after hello (bytes_of (played ++ rest))) (played ++ rest) refl ∙ by.1)
begins_if talk played rest heard (inr stuck) =
    let r : Reading Joined = after hello (bytes_of played) in
    let on : after hello (bytes_of (played ++ rest)) ≡ after r (bytes_of rest) = ap (after hello) (bytes_append played rest) ∙ after-append hello (bytes_of played) (bytes_of rest) in
    let none : whole_of (after r (bytes_of rest)) ≡ None = none_stays r (bytes_of rest) (ap whole_of (sym heard) ∙ stuck.0) (ap wants_more (sym heard) ∙ stuck.1) in
    (rest, handshake_as (after r (bytes_of rest)) (played ++ rest) on ∙ open_by (after r (bytes_of rest)) (taken hello (bytes_of (played ++ rest))) (played ++ rest) none)

-- What was played is a beginning of the handshake.
pub handshake_begins : (talk : HostTalk) (played rest : List (ℕ × ℕ)) → HasHandshake talk played → (left : List (ℕ × ℕ)) × (handshake_in (played ++ rest) ≡ played ++ left)
handshake_begins talk played rest h = begins_if talk played rest h.heard h.all

some_done : (r : Reading Joined) → is_some (whole_of r) ≡ true → (joined : Joined) × (r ≡ Done joined)
some_done (Done x) e = (x, refl)
some_done (Faulty f) e = absurd cc
some_done (Want more) e = absurd cc

all_taken : (talk : HostTalk) (bytes : List ℕ) (joined : Joined) → ahead talk ≡ Done joined → ((taken hello bytes ≡ length bytes) ⊎ ((whole_of (ahead talk) ≡ None) × (wants_more (ahead talk) ≡ false))) → taken hello bytes ≡ length bytes
all_taken talk bytes joined whole (inl all) = all
all_taken talk bytes joined whole (inr stuck) = absurd (let none : Some joined ≡ None = sym (ap whole_of whole) ∙ stuck.0 in cc)

-- Once it is whole it is all that was played.
pub handshake_ends : (talk : HostTalk) (played rest : List (ℕ × ℕ)) → HasHandshake talk played → is_some (whole_of (ahead talk)) ≡ true → handshake_in (played ++ rest) ≡ played
handshake_ends talk played rest h some =
    let whole = some_done (ahead talk) some in
    let all : taken hello (bytes_of played) ≡ length (bytes_of played) = all_taken talk (bytes_of played) whole.0 whole.1 h.all in
    let bytes : bytes_of (played ++ rest) ≡ bytes_of played ++ bytes_of rest = bytes_append played rest in
    let now : after hello (bytes_of played) ≡ Done whole.0 = sym h.heard ∙ whole.1 in
    let on : after hello (bytes_of (played ++ rest)) ≡ Done whole.0 = ap (after hello) bytes ∙ (after-append hello (bytes_of played) (bytes_of rest) ∙ (ap (λ (r : Reading Joined). after r (bytes_of rest)) now ∙ after-done whole.0 (bytes_of rest))) in
    let total : taken hello (bytes_of (played ++ rest)) ≡ length (bytes_of played) + taken (after hello (bytes_of played)) (bytes_of rest) = ap (taken hello) bytes ∙ taken-append hello (bytes_of played) (bytes_of rest) all in
    let more : taken (after hello (bytes_of played)) (bytes_of rest) ≡ 0 = ap (λ (r : Reading Joined). taken r (bytes_of rest)) now in
    let count : taken hello (bytes_of (played ++ rest)) ≡ length played = omega (arith, total, more, bytes_len played) in
    handshake_as (Done whole.0) (played ++ rest) on ∙ (ap (λ (n : ℕ). take n (played ++ rest)) count ∙ take-append_seam played rest)

-- ---- more is heard

pub handshake_begun : (talk : HostTalk) → ahead talk ≡ hello → HasHandshake talk []
handshake_begun talk e = record { heard = e; all = inl (taken-nil hello) }

no_fault : (r : Reading Joined) (piece : List ℕ) → whole_of r ≡ None → wants_more r ≡ false → fault_of (after r piece) ≡ None → ⊥
no_fault (Done x) piece none off fine = let e = none in absurd cc
no_fault (Faulty f) piece none off fine = let e : Some f ≡ None = sym (ap fault_of (after-faulty {A = Joined} f piece)) ∙ fine in absurd cc
no_fault (Want more) piece none off fine = absurd cc

more_all : (old : HostTalk) (bytes piece : List ℕ) (n : ℕ) → ahead old ≡ after hello bytes → n ≡ taken (ahead old) piece → fault_of (after (ahead old) piece) ≡ None
    → ((taken hello bytes ≡ length bytes) ⊎ ((whole_of (ahead old) ≡ None) × (wants_more (ahead old) ≡ false))) → taken hello (bytes ++ take n piece) ≡ length (bytes ++ take n piece)
more_all old bytes piece n heard count fine (inl all) =
    let r : Reading Joined = after hello bytes in
    let used : n ≡ taken r piece = count ∙ ap (λ (x : Reading Joined). taken x piece) heard in
    let front : taken r (take n piece) ≡ n = ap (λ (k : ℕ). taken r (take k piece)) used ∙ (taken-taken r piece ∙ sym used) in
    taken-append hello bytes (take n piece) all ∙ omega (arith, front, length-append bytes (take n piece), length-take n piece, used, taken-le r piece)
more_all old bytes piece n heard count fine (inr stuck) = absurd (no_fault (ahead old) piece stuck.0 stuck.1 fine)

pub handshake_feeds : (old new : HostTalk) (played : List (ℕ × ℕ)) (time n : ℕ) (piece : List ℕ) → HasHandshake old played → Feeds (ahead old) (ahead new) piece (Ok n) → HasHandshake new (played ++ stamp time (take n piece))
handshake_feeds old new played time n piece h f =
    let is : bytes_of (played ++ stamp time (take n piece)) ≡ bytes_of played ++ take n piece = bytes_append played (stamp time (take n piece)) ∙ ap (λ (xs : List ℕ). bytes_of played ++ xs) (unstamped time (take n piece)) in
    let goes : after (ahead old) piece ≡ after hello (bytes_of played ++ take n piece) =
    sym (after-taken (ahead old) piece) ∙ (ap (λ (k : ℕ). after (ahead old) (take k piece)) (sym f.1) ∙ (ap (λ (r : Reading Joined). after r (take n piece)) h.heard ∙ sym (after-append hello (bytes_of played) (take n piece)))) in
    record {
      heard = f.0 ∙ (goes ∙ ap (after hello) (sym is));
      all = inl (subst (λ (xs : List ℕ). taken hello xs ≡ length xs) (sym is) (more_all old (bytes_of played) piece n h.heard f.1 (ap fault_of (sym f.0) ∙ f.2) h.all));
    }

pub handshake_fails : (old new : HostTalk) (played : List (ℕ × ℕ)) (time : ℕ) (fault : Fault) (piece : List ℕ) → HasHandshake old played → Feeds (ahead old) (ahead new) piece (Err fault) → HasHandshake new (played ++ stamp time piece)
handshake_fails old new played time fault piece h f =
    let is : bytes_of (played ++ stamp time piece) ≡ bytes_of played ++ piece = bytes_append played (stamp time piece) ∙ ap (λ (xs : List ℕ). bytes_of played ++ xs) (unstamped time piece) in
    record {
      heard = f.0 ∙ (ap (λ (r : Reading Joined). after r piece) h.heard ∙ (sym (after-append hello (bytes_of played) piece) ∙ ap (after hello) (sym is)));
      all = inr (ap whole_of f.1, ap wants_more f.1);
    }

-- ---- what is read behind a line alone

pub said_none : (until : Option ℕ) → said_by until (line ++ []) ≡ []
unfolding said_by
said_none until = ap (λ bs. said_in (up_to until bs)) (line_then []).0
