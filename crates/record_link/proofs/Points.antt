-- How many bytes were recorded before each key moment: that stays so as the recording grows.
use Rattle.std.proofs.Common.{◌≡◌, ℕ, Bool, true, false, ◌<◌, ◌≤◌, ◌^◌, ◌+◌, if◌then◌else◌, List, [], ◌∷◌, ◌++◌, length, take, map, refl, sym, ap, ◌∙◌, arith, append-nil, length-append}
use Rattle.std.specs.Prelude.{All}
use Rattle.std.proofs.Math.Seq.{take-append_seam}
use Rattle.std.proofs.lemmas.List.{take-append-le, map-append}
use Rattle.std.proofs.lemmas.List.Elements.{All-head, All-tail}
use Rattle.recording.specs.Recording.{Block, recording_bytes, blocks_bytes, said_in}
use Rattle.recording.specs.BlockReading.{blocks_in}
use Rattle.recording.proofs.Recorded.{spelled_behind}
use Rattle.recording.specs.Waiting.{as_blocks}
use Rattle.recording_index.specs.IndexBytes.{index_bytes, entry_bytes, AreMoments}
use Rattle.recording_index.specs.IndexReading.{moments_in}
use Rattle.recording_index.specs.KeyMoments.{IsAt}
use Rattle.recording_index.specs.declared.moment.KeyMoment.{KeyMoment}
use Rattle.recording_index.proofs.Entries.{whole_is_read}
use Rattle.record_link.specs.Growing.{Growing, IsGrowing, recorded_in, key_points, said_before}
use Rattle.record_link.proofs.Grown.{moments_more}

place_within : (blocks : List Block) (m : KeyMoment) → IsAt blocks m → m.place ≤ length (recording_bytes blocks)
place_within blocks m at =
    let place : m.place ≡ length (recording_bytes at.earlier) = ap (λ (x : KeyMoment). x.place) at.is in
    let len : length (recording_bytes blocks) ≡ length (recording_bytes at.earlier) + length (blocks_bytes (at.block ∷ at.later))
    = ap (λ (bs : List Block). length (recording_bytes bs)) at.all ∙ (ap length (spelled_behind at.earlier (at.block ∷ at.later)) ∙ length-append (recording_bytes at.earlier) (blocks_bytes (at.block ∷ at.later))) in
    omega (arith, place, len)

before_stays : (spelled more : List ℕ) (m : KeyMoment) → m.place ≤ length spelled → said_before (spelled ++ more) m ≡ said_before spelled m
unfolding said_before
before_stays spelled more m le = ap (λ (xs : List ℕ). length (said_in (blocks_in xs))) (take-append-le m.place spelled more le)

-- At the end of what was spelled all of it is said before.
before_end : (spelled more : List ℕ) (m : KeyMoment) → m.place ≡ length spelled → said_before (spelled ++ more) m ≡ length (said_in (blocks_in spelled))
unfolding said_before
before_end spelled more m is =
    ap (λ (n : ℕ). length (said_in (blocks_in (take n (spelled ++ more))))) is ∙ ap (λ (xs : List ℕ). length (said_in (blocks_in xs))) (take-append_seam spelled more)

all_before_stay : (spelled more : List ℕ) (blocks : List Block) (moments : List KeyMoment) → spelled ≡ recording_bytes blocks → All (IsAt blocks) moments → map (said_before (spelled ++ more)) moments ≡ map (said_before spelled) moments
all_before_stay spelled more blocks [] is each = refl
all_before_stay spelled more blocks (m ∷ moments) is each =
    let le : m.place ≤ length spelled = omega (arith, place_within blocks m (All-head (IsAt blocks) m moments each), ap length is) in
    ap (λ (n : ℕ). n ∷ map (said_before (spelled ++ more)) moments) (before_stays spelled more m le)
    ∙ ap (λ (ns : List ℕ). said_before spelled m ∷ ns) (all_before_stay spelled more blocks moments is (All-tail (IsAt blocks) m moments each))

-- The point of the key moment that is due.
abbrev due : Bool → List ℕ → List ℕ
due is_key spelled = if is_key then length (said_in (blocks_in spelled)) ∷ [] else []

points_are : (g : Growing) (moments : List KeyMoment) → g.index.spelled ≡ index_bytes moments → AreMoments moments → key_points g ≡ map (said_before g.tape.spelled) moments ++ due g.is_key g.tape.spelled
unfolding key_points
points_are g moments noted in_order = ap (λ (ms : List KeyMoment). map (said_before g.tape.spelled) ms ++ due g.is_key g.tape.spelled) (ap moments_in noted ∙ whole_is_read moments in_order)

-- Nothing that they are made of has changed.
pub points_same : (old new : Growing) → new.tape.spelled ≡ old.tape.spelled → new.index.spelled ≡ old.index.spelled → new.is_key ≡ old.is_key → key_points new ≡ key_points old
unfolding key_points
points_same old new tape index key =
    ap (λ (xs : List ℕ). map (said_before xs) (moments_in new.index.spelled) ++ due new.is_key xs) tape
    ∙ (ap (λ (ys : List ℕ). map (said_before old.tape.spelled) (moments_in ys) ++ due new.is_key old.tape.spelled) index
    ∙ ap (λ (b : Bool). map (said_before old.tape.spelled) (moments_in old.index.spelled) ++ due b old.tape.spelled) key)

pub points_begin : (g : Growing) → g.index.spelled ≡ index_bytes [] → g.is_key ≡ false → key_points g ≡ []
points_begin g noted off = points_are g [] noted tt ∙ ap (λ (b : Bool). due b g.tape.spelled) off

-- More is spelled while no key moment is due.
pub points_stay : (old new : Growing) (more : List ℕ) → IsGrowing old → new.tape.spelled ≡ old.tape.spelled ++ more → new.index.spelled ≡ old.index.spelled → old.is_key ≡ false → new.is_key ≡ false → key_points new ≡ key_points old
points_stay old new more h tape index off none =
    points_are new h.moments (index ∙ h.noted) h.of.in_order
    ∙ (ap (λ (b : Bool). map (said_before new.tape.spelled) h.moments ++ due b new.tape.spelled) none
    ∙ (ap (λ (xs : List ℕ). map (said_before xs) h.moments ++ []) tape
    ∙ (ap (λ (ns : List ℕ). ns ++ []) (all_before_stay old.tape.spelled more h.blocks h.moments h.spelled h.of.each)
    ∙ (ap (λ (b : Bool). map (said_before old.tape.spelled) h.moments ++ due b old.tape.spelled) (sym off)
    ∙ sym (points_are old h.moments h.noted h.of.in_order)))))

-- The key moment that was due is noted, at the end of what was spelled before.
pub points_noted : (old new : Growing) (m : KeyMoment) (more : List ℕ) → IsGrowing old → as_blocks old.waiting ≡ old.waiting ∷ [] → m ≡ record { time = old.waiting.time; place = length old.tape.spelled } → length old.tape.spelled < 2 ^ 64 → new.index.spelled ≡ old.index.spelled ++ entry_bytes m
    → new.tape.spelled ≡ old.tape.spelled ++ more → old.is_key ≡ true → new.is_key ≡ false → key_points new ≡ key_points old
points_noted old new m more h one is short index tape on off =
    let spelled : List ℕ = old.tape.spelled ++ more in
    let moments : List KeyMoment = h.moments ++ m ∷ [] in
    let added = moments_more old new.index.spelled m h one is short index in
    points_are new moments added.1 added.0.in_order
    ∙ (ap (λ (b : Bool). map (said_before new.tape.spelled) moments ++ due b new.tape.spelled) off
    ∙ (append-nil (map (said_before new.tape.spelled) moments)
    ∙ (ap (λ (xs : List ℕ). map (said_before xs) moments) tape
    ∙ (map-append (said_before spelled) h.moments (m ∷ [])
    ∙ (ap (λ (ns : List ℕ). ns ++ said_before spelled m ∷ []) (all_before_stay old.tape.spelled more h.blocks h.moments h.spelled h.of.each)
    ∙ (ap (λ (n : ℕ). map (said_before old.tape.spelled) h.moments ++ n ∷ []) (before_end old.tape.spelled more m (ap (λ (x : KeyMoment). x.place) is))
    ∙ (ap (λ (b : Bool). map (said_before old.tape.spelled) h.moments ++ due b old.tape.spelled) (sym on)
    ∙ sym (points_are old h.moments h.noted h.of.in_order))))))))

-- A key moment is begun, where all that was recorded is spelled.
pub points_begun : (old new : Growing) → IsGrowing old → new.tape.spelled ≡ old.tape.spelled → new.index.spelled ≡ old.index.spelled → old.waiting.said ≡ [] → old.is_key ≡ false → new.is_key ≡ true → key_points new ≡ key_points old ++ length (recorded_in old) ∷ []
unfolding key_points recorded_in
points_begun old new h tape index none off on =
    let points : List ℕ = map (said_before old.tape.spelled) (moments_in old.index.spelled) in
    let all : recorded_in old ≡ said_in (blocks_in old.tape.spelled) = ap (λ (xs : List ℕ). said_in (blocks_in old.tape.spelled) ++ map (λ byte. (byte, old.waiting.time)) xs) none ∙ append-nil (said_in (blocks_in old.tape.spelled)) in
    ap (λ (xs : List ℕ). map (said_before xs) (moments_in new.index.spelled) ++ due new.is_key xs) tape
    ∙ (ap (λ (ys : List ℕ). map (said_before old.tape.spelled) (moments_in ys) ++ due new.is_key old.tape.spelled) index
    ∙ (ap (λ (b : Bool). points ++ due b old.tape.spelled) on
    ∙ (ap (λ (n : ℕ). points ++ n ∷ []) (sym (ap length all))
    ∙ ap (λ (ns : List ℕ). ns ++ length (recorded_in old) ∷ []) (sym (append-nil points) ∙ ap (λ (b : Bool). points ++ due b old.tape.spelled) (sym off)))))
