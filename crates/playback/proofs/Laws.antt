-- What is heard of whole sessions: each of our openings is heard as one of version 3.8.
use Rattle.std.proofs.Common.{◌≡◌, ◌≢◌, ℕ, zero, suc, ◌==◌, ◌<◌, ◌≤◌, true, false, List, [], ◌∷◌, ◌++◌, length, take, drop, Option, None, Some, Ok, refl, sym, ap, subst, ◌∙◌, arith, inl, inr, append_assoc, append-nil, length-append, length-drop}
use Rattle.std.specs.List.{list_any}
use Rattle.std.proofs.lemmas.Bool.{cases_lt}
use Rattle.std.proofs.lemmas.List.{take_at, drop_at, take-map, take-append-drop, take-append-le}
use Rattle.byte_reading.specs.Reading.{Reading, Done, Faulty, Want, after, taken, wants_more}
use Rattle.byte_reading.specs.Reading.{Spells}
use Rattle.byte_reading.proofs.ReadingLaws.{after-append, after-done}
use Rattle.rfb_wire.specs.Handshake.{Joined, host_hello, said_to_viewer}
use Rattle.rfb_wire.proofs.Handshakes.{viewer_is_told}
use Rattle.recording.specs.Recording.{Block, AreBlocks, recording_bytes, said_in, line}
use Rattle.recording.specs.Waiting.{stamp}
use Rattle.recording.specs.BlockReading.{blocks_in, blocks_from, rest_of}
use Rattle.recording.proofs.ReadBack.{in_pieces, recording_is_read}
use Rattle.recording.proofs.Recorded.{said_append}
use Rattle.recording_index.specs.KeyMoments.{IsAt}
use Rattle.recording_index.specs.declared.moment.KeyMoment.{KeyMoment}
use Rattle.recording_index.proofs.Places.{leads}
use Rattle.playback.specs.Opening.{Opened, AreTypes, IsOpening, In_3_3, In_3_5, In_3_7, In_3_8, version, opening, security, offered, kind, judged_kind, result, judged_result}
use Rattle.playback.specs.Openings.{seen}
use Rattle.playback.specs.Heard.{bytes_of, end_time, greeting, heard_in, heard_of, handshake_in, said_by, up_to}
use Rattle.playback.proofs.Openings.{with_rest, version_then, in_3_8, in_3_7, in_3_3, security_then, counted_then, offered_some, seen_done, seen_number, was_seen}
use Rattle.playback.proofs.Handshakes.{handshake_as}
use Rattle.playback.proofs.Hearing.{same_taken, bytes_append, unstamped, heard_as, heard_grows, heard_none, up_to_begins}

-- ---- each opening is whole

some_types : (types : List ℕ) → list_any (λ t. t == 1) types ≡ true → length types ≢ 0
some_types [] e = absurd (let never : false ≡ true = e in cc)
some_types (t ∷ types) e = λ none. absurd (omega (arith, none))

types_seen : (next : Reading Opened) (types later : List ℕ) → AreTypes types → seen (security next) (length types ∷ (types ++ later)) ≡ seen next later
types_seen next types later h =
    let some : length types ≢ 0 = some_types types h.none in
    let long : length types ≤ length (types ++ later) = omega (arith, length-append types later) in
    security_then next (length types ∷ (types ++ later)) (λ e. absurd (omega (arith, e)))
    ∙ (counted_then next (length types) (types ++ later) some long
    ∙ (ap (λ (xs : List ℕ). seen (offered next xs) (drop (length types) (types ++ later))) (take_at types later (length types) refl)
    ∙ (ap (seen (offered next types)) (drop_at types later (length types) refl) ∙ offered_some next types later h.none)))

result_seen : (later : List ℕ) → seen result (0 ∷ 0 ∷ 0 ∷ 0 ∷ later) ≡ Some (with_rest later (Ok tt))
result_seen later = seen_number judged_result (0 ∷ 0 ∷ 0 ∷ 0 ∷ later) (omega arith)

kind_seen : (later : List ℕ) → seen kind (0 ∷ 0 ∷ 0 ∷ 1 ∷ later) ≡ Some (with_rest later (Ok tt))
kind_seen later = seen_number judged_kind (0 ∷ 0 ∷ 0 ∷ 1 ∷ later) (omega arith)

pub opening_seen : (text later : List ℕ) → IsOpening text → seen opening (text ++ later) ≡ Some (with_rest later (Ok tt))
opening_seen text later In_3_3 = version_then (version 3 ++ (0 ∷ 0 ∷ 0 ∷ 1 ∷ later)) (omega arith) ∙ (in_3_3 (version 3) (0 ∷ 0 ∷ 0 ∷ 1 ∷ later) refl refl refl ∙ kind_seen later)
opening_seen text later In_3_5 = version_then (version 5 ++ (0 ∷ 0 ∷ 0 ∷ 1 ∷ later)) (omega arith) ∙ (in_3_3 (version 5) (0 ∷ 0 ∷ 0 ∷ 1 ∷ later) refl refl refl ∙ kind_seen later)
opening_seen text later (In_3_7 types h) =
    version_then (version 7 ++ (length types ∷ (types ++ later))) (omega arith)
    ∙ (in_3_7 (version 7) (length types ∷ (types ++ later)) refl refl ∙ (types_seen (Done (Ok tt)) types later h ∙ seen_done (Ok tt) later))
opening_seen text later (In_3_8 types h) =
    let ends : List ℕ = 0 ∷ 0 ∷ 0 ∷ 0 ∷ later in
    let parts : (types ++ (0 ∷ 0 ∷ 0 ∷ 0 ∷ [])) ++ later ≡ types ++ ends = append_assoc types (0 ∷ 0 ∷ 0 ∷ 0 ∷ []) later in
    ap (λ (xs : List ℕ). seen opening (version 8 ++ (length types ∷ xs))) parts
    ∙ (version_then (version 8 ++ (length types ∷ (types ++ ends))) (omega arith)
    ∙ (in_3_8 (version 8) (length types ∷ (types ++ ends)) refl ∙ (types_seen result types ends h ∙ result_seen later)))

-- ---- it is heard as one of 3.8

bytes_drop : (n : ℕ) (said : List (ℕ × ℕ)) → bytes_of (drop n said) ≡ drop n (bytes_of said)
bytes_drop zero said = refl
bytes_drop (suc n) [] = refl
bytes_drop (suc n) (b ∷ said) = bytes_drop n said

pub opening_heard : (said : List (ℕ × ℕ)) (text later : List ℕ) → IsOpening text → bytes_of said ≡ text ++ later → bytes_of (heard_in said) ≡ greeting ++ later
opening_heard said text later h is =
    let bytes : List ℕ = bytes_of said in
    let n : ℕ = taken opening bytes in
    let was = was_seen (drop n bytes) later (Ok tt) (after opening bytes) (ap (seen opening) is ∙ opening_seen text later h) in
    let first : List (ℕ × ℕ) = stamp (end_time 0 (take n said)) greeting in
    ap bytes_of (heard_as (Done (Ok tt)) said was.0) ∙ (bytes_append first (drop n said)
    ∙ (ap (λ (xs : List ℕ). xs ++ bytes_of (drop n said)) (unstamped (end_time 0 (take n said)) greeting) ∙ ap (λ (xs : List ℕ). greeting ++ xs) (bytes_drop n said ∙ sym was.1)))

greeting_opens : IsOpening greeting
greeting_opens = In_3_8 (1 ∷ []) (record { count = omega arith; none = refl })

pub own_heard : (said : List (ℕ × ℕ)) (later : List ℕ) → bytes_of said ≡ greeting ++ later → bytes_of (heard_in said) ≡ bytes_of said
own_heard said later is = opening_heard said greeting later greeting_opens is ∙ sym is

-- What spells a whole handshake is the handshake of what begins so.
pub handshake_heard : (heard : List (ℕ × ℕ)) (text later : List ℕ) (joined : Joined) → Spells (host_hello None) text joined → bytes_of heard ≡ text ++ later → bytes_of (handshake_in heard) ≡ text
handshake_heard heard text later joined spells is =
    let whole : after (host_hello None) (bytes_of heard) ≡ Done joined =
    ap (after (host_hello None)) is ∙ (after-append (host_hello None) text later ∙ (ap (λ (r : Reading Joined). after r later) spells.says ∙ after-done joined later)) in
    let count : taken (host_hello None) (bytes_of heard) ≡ length text = ap (taken (host_hello None)) is ∙ (same_taken (host_hello None) text later joined spells.says ∙ spells.whole) in
    ap bytes_of (handshake_as (Done joined) heard whole ∙ ap (λ (n : ℕ). take n heard) count)
    ∙ (sym (take-map (λ (b : ℕ × ℕ). b.0) (length text) heard) ∙ (ap (take (length text)) is ∙ take_at text later (length text) refl))

pub own_handshake : (heard : List (ℕ × ℕ)) (w h : ℕ) (name later : List ℕ) → 1 ≤ w → w ≤ 4096 → 1 ≤ h → h ≤ 4096 → length name ≤ 255 → bytes_of heard ≡ said_to_viewer w h name 14 ++ later → bytes_of (handshake_in heard) ≡ said_to_viewer w h name 14
own_handshake heard w h name later lw mw lh mh ln is =
    handshake_heard heard (said_to_viewer w h name 14) later (record { w = w; h = h; name = name }) (viewer_is_told None w h name lw mw lh mh ln) is

-- ---- a beginning of our own

open_before : {A : Type 0} (form : Reading A) (xs ys : List ℕ) → taken form (xs ++ ys) ≡ length (xs ++ ys) → 0 < length ys → wants_more (after form xs) ≡ true
open_before (Done x) xs ys e some = absurd (omega (arith, e, length-append xs ys, some))
open_before (Faulty fault) xs ys e some = absurd (omega (arith, e, length-append xs ys, some))
open_before (Want more) [] ys e some = refl
open_before (Want more) (b ∷ xs) ys e some = open_before (more b) xs ys (omega (arith, e)) some

greeting_taken : taken opening greeting ≡ length greeting
unfolding opening
greeting_taken = refl

-- It is heard as it was said, or nothing of it is, as long as its opening isn't whole.
pub own_begins : (said : List (ℕ × ℕ)) (more later : List ℕ) → bytes_of said ++ more ≡ greeting ++ later → (left : List ℕ) × (bytes_of said ≡ bytes_of (heard_in said) ++ left)
own_begins said more later e =
    let bytes : List ℕ = bytes_of said in
    let n : ℕ = length bytes in
    elim (cases_lt n 18) [
      | inl short ↦
          let front : bytes ≡ take n greeting = sym (take_at bytes more n refl) ∙ (ap (take n) e ∙ take-append-le n greeting later (omega (arith, short))) in
          let whole : bytes ++ drop n greeting ≡ greeting = ap (λ (xs : List ℕ). xs ++ drop n greeting) front ∙ take-append-drop n greeting in
          let wants : wants_more (after opening bytes) ≡ true = open_before opening bytes (drop n greeting) (subst (λ (xs : List ℕ). taken opening xs ≡ length xs) (sym whole) greeting_taken) (omega (arith, length-drop n greeting, short)) in
          (bytes, ap (λ (xs : List (ℕ × ℕ)). bytes_of xs ++ bytes) (sym (heard_none said wants)))
      | inr long ↦
          let front : take 18 bytes ≡ greeting = sym (take-append-le 18 bytes more (omega (arith, long))) ∙ (ap (take 18) e ∙ take_at greeting later 18 refl) in
          let parts : bytes ≡ greeting ++ drop 18 bytes = sym (take-append-drop 18 bytes) ∙ ap (λ (xs : List ℕ). xs ++ drop 18 bytes) front in
          ([], sym (append-nil (bytes_of (heard_in said)) ∙ own_heard said (drop 18 bytes) parts))
    ]

-- ---- more of a file

pub begins_heard : (until : Option ℕ) (front back : List ℕ) → (later : List (ℕ × ℕ)) × (heard_in (said_by until (front ++ back)) ≡ heard_in (said_by until front) ++ later)
unfolding said_by
begins_heard until front back =
    let more = up_to_begins until (blocks_in front) (blocks_from (rest_of front) back) in
    let said : said_in (up_to until (blocks_in (front ++ back))) ≡ said_in (up_to until (blocks_in front)) ++ said_in more.0 =
    ap (λ bs. said_in (up_to until bs)) (in_pieces front back).0 ∙ (ap said_in more.1 ∙ said_append (up_to until (blocks_in front)) more.0) in
    let grows = heard_grows (said_in (up_to until (blocks_in front))) (said_in more.0) in
    (grows.0, ap heard_in said ∙ grows.1)

-- ---- whole recordings

all_early : (blocks : List Block) → up_to None blocks ≡ blocks
all_early [] = refl
all_early (b ∷ blocks) = ap (λ bs. b ∷ bs) (all_early blocks)

said_all : (bytes : List ℕ) → said_by None bytes ≡ said_in (blocks_in bytes)
unfolding said_by
said_all bytes = ap said_in (all_early (blocks_in bytes))

recording_said : (blocks : List Block) → AreBlocks blocks → said_by None (recording_bytes blocks) ≡ said_in blocks
recording_said blocks h = said_all (recording_bytes blocks) ∙ ap said_in (recording_is_read blocks h).0

pub recording_heard : (blocks : List Block) → AreBlocks blocks → heard_in (said_by None (recording_bytes blocks)) ≡ heard_in (said_in blocks)
recording_heard blocks h = ap heard_in (recording_said blocks h)

pub key_heard : (blocks : List Block) (m : KeyMoment) → AreBlocks blocks → (at : IsAt blocks m) → heard_of None true (recording_bytes blocks) (drop m.place (recording_bytes blocks)) ≡ handshake_in (heard_in (said_in blocks)) ++ said_in (at.block ∷ at.later)
key_heard blocks m h at =
    ap (λ (xs : List (ℕ × ℕ)). handshake_in xs ++ said_by None (line ++ drop m.place (recording_bytes blocks))) (recording_heard blocks h)
    ∙ ap (λ (xs : List (ℕ × ℕ)). handshake_in (heard_in (said_in blocks)) ++ xs) (said_all (line ++ drop m.place (recording_bytes blocks)) ∙ ap said_in (leads blocks m h at))
