-- What is given to a recording is in its blocks and in the one that waits, in order, each byte with its time.
use Rattle.std.proofs.Common.{◌≡◌, ℕ, true, false, ◌<◌, ◌≤◌, ◌^◌, List, [], ◌∷◌, ◌++◌, length, take, map, min, inl, inr, ◌≢◌, refl, sym, ap, subst, ◌∙◌, arith, append_assoc, append-nil, length-take}
use Rattle.std.proofs.lemmas.Bool.{cases_eq, ne_eqb}
use Rattle.std.proofs.lemmas.List.Elements.{All-nil}
use Rattle.std.proofs.lemmas.Grind.{flat_map-append}
use Rattle.recording.specs.Recording.{Block, AreBlocks, recording_bytes, blocks_bytes, said_in, line}
use Rattle.recording.specs.BlockReading.{blocks_in, blocks_from, rest_of}
use Rattle.recording.specs.Waiting.{IsRecorded, room, with_more, as_blocks, stamp}
use Rattle.recording.proofs.ReadBack.{recording_is_read, in_pieces}
use Rattle.recording.proofs.Recorded.{keep_keeps, flush_keeps, spelled_behind}
use Rattle.recording_index.specs.IndexBytes.{index_bytes, entries_bytes, entry_bytes, line as index_line}
use Rattle.recording_index.specs.KeyMoments.{IsAt, IsIndexOf, moment_before}
use Rattle.recording_index.specs.declared.moment.KeyMoment.{KeyMoment}
use Rattle.recording_index.proofs.Places.{stays, adds}
use Rattle.record_link.specs.Tapes.{Tape, IsTape, IsClear, unwritten}
use Rattle.record_link.specs.Growing.{Growing, IsGrowing, IsKept, IsIndexed, recorded_in}

-- ---- what was recorded

-- What was recorded is what these blocks say, and the one that waits.
pub recorded_is : (g : Growing) (blocks : List Block) (given : List (ℕ × ℕ)) → g.tape.spelled ≡ recording_bytes blocks → IsRecorded blocks g.waiting given → recorded_in g ≡ given
unfolding recorded_in
recorded_is g blocks given is r =
    let read : blocks_in g.tape.spelled ≡ blocks = ap blocks_in is ∙ (recording_is_read blocks r.in_order).0 in
    ap (λ (bs : List Block). said_in bs ++ stamp g.waiting.time g.waiting.said) read ∙ r.said

-- ---- a recording begins

nothing_recorded : IsRecorded [] (record { said = []; time = 0 }) []
nothing_recorded = record { in_order = tt; follows = omega arith; fits = omega arith; short = omega arith; said = refl }

line_only : line ≡ recording_bytes []
unfolding recording_bytes
line_only = refl

index_line_only : index_line ≡ index_bytes []
unfolding index_bytes
index_line_only = refl

pub index_begins : (t : Tape) → t ≡ unwritten index_line → t.spelled ≡ index_bytes []
index_begins t is = ap (λ (x : Tape). x.spelled) is ∙ index_line_only

pub begins_growing : (g : Growing) → g.tape ≡ unwritten line → g.index ≡ unwritten index_line → g.waiting ≡ record { said = []; time = 0 } → g.is_key ≡ false → IsGrowing g × (recorded_in g ≡ [])
begins_growing g tape index none off =
    let spelled : g.tape.spelled ≡ recording_bytes [] = ap (λ (t : Tape). t.spelled) tape ∙ line_only in
    let r : IsRecorded [] g.waiting [] = subst (λ (w : Block). IsRecorded [] w []) (sym none) nothing_recorded in
    let said : recorded_in g ≡ [] = recorded_is g [] [] spelled r in (
      record {
        blocks = [];
        spelled = spelled;
        recorded = subst (IsRecorded [] g.waiting) (sym said) r;
        moments = [];
        of = record { in_order = tt; each = All-nil (IsAt []) };
        noted = ap (λ (t : Tape). t.spelled) index ∙ index_line_only;
        clear = λ on. absurd (let never : true ≡ false = sym on ∙ off in cc);
      },
      said,
    )

-- ---- bytes are kept

pub keeps_growing : (old new : Growing) (time : ℕ) (bytes : List ℕ) → IsGrowing old → old.waiting.time ≤ time → time < 2 ^ 32 → length bytes ≤ room old.waiting time
    → new.tape ≡ old.tape → new.index ≡ old.index → new.is_key ≡ old.is_key → new.waiting ≡ with_more old.waiting time bytes → IsGrowing new × (recorded_in new ≡ recorded_in old ++ stamp time bytes)
keeps_growing old new time bytes h le lt fits tape index key waiting =
    let spelled : new.tape.spelled ≡ recording_bytes h.blocks = ap (λ (t : Tape). t.spelled) tape ∙ h.spelled in
    let all : List (ℕ × ℕ) = recorded_in old ++ stamp time bytes in
    let r : IsRecorded h.blocks new.waiting all = subst (λ (w : Block). IsRecorded h.blocks w all) (sym waiting) (keep_keeps h.blocks old.waiting (recorded_in old) time bytes h.recorded le lt fits) in
    let said : recorded_in new ≡ all = recorded_is new h.blocks all spelled r in (
      record {
        blocks = h.blocks;
        spelled = spelled;
        recorded = subst (IsRecorded h.blocks new.waiting) (sym said) r;
        moments = h.moments;
        of = h.of;
        noted = ap (λ (t : Tape). t.spelled) index ∙ h.noted;
        clear = λ on. subst IsClear (sym index) (h.clear (sym key ∙ on));
      },
      said,
    )

-- The same of as many bytes as there is room for.
pub kept_now : (old new : Growing) (time count : ℕ) (bytes : List ℕ) → IsGrowing old → old.waiting.time ≤ time → time < 2 ^ 32 → count ≡ min (length bytes) (room old.waiting time)
    → new.tape ≡ old.tape → new.index ≡ old.index → new.is_key ≡ old.is_key → new.waiting ≡ with_more old.waiting time (take count bytes) → IsGrowing new × (recorded_in new ≡ recorded_in old ++ stamp time (take count bytes))
kept_now old new time count bytes h le lt is tape index key waiting =
    keeps_growing old new time (take count bytes) h le lt (omega (arith, length-take count bytes, is)) tape index key waiting

-- ---- files take bytes, and a key moment is begun

-- What is spelled and what waits is the same. Where a key moment is due the index has its room.
pub taken_growing : (old new : Growing) → IsGrowing old → new.tape.spelled ≡ old.tape.spelled → new.index.spelled ≡ old.index.spelled → new.waiting ≡ old.waiting → (new.is_key ≡ true → IsClear new.index) → IsGrowing new × (recorded_in new ≡ recorded_in old)
taken_growing old new h tape index waiting clear =
    let spelled : new.tape.spelled ≡ recording_bytes h.blocks = tape ∙ h.spelled in
    let r : IsRecorded h.blocks new.waiting (recorded_in old) = subst (λ (w : Block). IsRecorded h.blocks w (recorded_in old)) (sym waiting) h.recorded in
    let said : recorded_in new ≡ recorded_in old = recorded_is new h.blocks (recorded_in old) spelled r in (
      record {
        blocks = h.blocks;
        spelled = spelled;
        recorded = subst (IsRecorded h.blocks new.waiting) (sym said) r;
        moments = h.moments;
        of = h.of;
        noted = index ∙ h.noted;
        clear = clear;
      },
      said,
    )

-- ---- a block is spelled

-- The block that waited is one more of the recording's.
pub spells_growing : (old new : Growing) → IsGrowing old → new.tape.spelled ≡ old.tape.spelled ++ blocks_bytes (as_blocks old.waiting) → new.waiting ≡ record { said = []; time = old.waiting.time } → new.index ≡ old.index → new.is_key ≡ old.is_key
    → IsGrowing new × (recorded_in new ≡ recorded_in old)
spells_growing old new h tape waiting index key =
    let blocks : List Block = h.blocks ++ as_blocks old.waiting in
    let spelled : new.tape.spelled ≡ recording_bytes blocks = tape ∙ (ap (λ (xs : List ℕ). xs ++ blocks_bytes (as_blocks old.waiting)) h.spelled ∙ sym (spelled_behind h.blocks (as_blocks old.waiting))) in
    let r : IsRecorded blocks new.waiting (recorded_in old) = subst (λ (w : Block). IsRecorded blocks w (recorded_in old)) (sym waiting) (flush_keeps h.blocks old.waiting (recorded_in old) h.recorded) in
    let said : recorded_in new ≡ recorded_in old = recorded_is new blocks (recorded_in old) spelled r in (
      record {
        blocks = blocks;
        spelled = spelled;
        recorded = subst (IsRecorded blocks new.waiting) (sym said) r;
        moments = h.moments;
        of = stays h.moments h.blocks (as_blocks old.waiting) h.of;
        noted = ap (λ (t : Tape). t.spelled) index ∙ h.noted;
        clear = λ on. subst IsClear (sym index) (h.clear (sym key ∙ on));
      },
      said,
    )

pub no_bytes : (bytes : List ℕ) → length bytes ≡ 0 → bytes ≡ []
no_bytes [] e = refl
no_bytes (b ∷ bytes) e = absurd (omega (arith, e))

-- A block that waits and has bytes is one block.
pub as_one : (waiting : Block) → waiting.said ≢ [] → as_blocks waiting ≡ waiting ∷ []
as_one waiting some =
    elim (cases_eq (length waiting.said) 0) [
      | inl none ↦ absurd (some (no_bytes waiting.said none))
      | inr has ↦ rw (ne_eqb (length waiting.said) 0 has) refl
    ]

entries_more : (moments : List KeyMoment) (m : KeyMoment) → index_bytes moments ++ entry_bytes m ≡ index_bytes (moments ++ m ∷ [])
unfolding index_bytes
entries_more moments m =
    append_assoc index_line (entries_bytes moments) (entry_bytes m)
    ∙ ap (λ (xs : List ℕ). index_line ++ xs) (sym (flat_map-append entry_bytes moments (m ∷ []) ∙ ap (λ (xs : List ℕ). entries_bytes moments ++ xs) (append-nil (entry_bytes m))))

-- The index with the block that waited as one key moment more.
pub moments_more : (old : Growing) (index : List ℕ) (m : KeyMoment) → (h : IsGrowing old) → as_blocks old.waiting ≡ old.waiting ∷ [] → m ≡ record { time = old.waiting.time; place = length old.tape.spelled } → length old.tape.spelled < 2 ^ 64 → index ≡ old.index.spelled ++ entry_bytes m
    → IsIndexOf (h.moments ++ m ∷ []) (h.blocks ++ old.waiting ∷ []) × (index ≡ index_bytes (h.moments ++ m ∷ []))
moments_more old index m h one is short all =
    let parted : h.blocks ++ as_blocks old.waiting ≡ h.blocks ++ old.waiting ∷ [] = ap (λ (bs : List Block). h.blocks ++ bs) one in
    let are : AreBlocks (h.blocks ++ old.waiting ∷ []) = subst AreBlocks parted (flush_keeps h.blocks old.waiting (recorded_in old) h.recorded).in_order in
    let place : length old.tape.spelled ≡ length (recording_bytes h.blocks) = ap length h.spelled in
    let same : m ≡ moment_before h.blocks old.waiting = is ∙ ap (λ (n : ℕ). record { time = old.waiting.time; place = n }) place in (
      subst (λ (x : KeyMoment). IsIndexOf (h.moments ++ x ∷ []) (h.blocks ++ old.waiting ∷ [])) (sym same) (adds h.moments h.blocks old.waiting are (omega (arith, place, short)) h.of),
      all ∙ (ap (λ (xs : List ℕ). xs ++ entry_bytes m) h.noted ∙ entries_more h.moments m),
    )

-- The same where that block is a key moment: then it is one of the index, too.
pub notes_growing : (old new : Growing) (m : KeyMoment) → IsGrowing old → as_blocks old.waiting ≡ old.waiting ∷ [] → m ≡ record { time = old.waiting.time; place = length old.tape.spelled } → length old.tape.spelled < 2 ^ 64
    → new.tape.spelled ≡ old.tape.spelled ++ blocks_bytes (as_blocks old.waiting) → new.waiting ≡ record { said = []; time = old.waiting.time } → new.index.spelled ≡ old.index.spelled ++ entry_bytes m → new.is_key ≡ false
    → IsGrowing new × (recorded_in new ≡ recorded_in old)
notes_growing old new m h one is short tape waiting index off =
    let blocks : List Block = h.blocks ++ old.waiting ∷ [] in
    let parted : h.blocks ++ as_blocks old.waiting ≡ blocks = ap (λ (bs : List Block). h.blocks ++ bs) one in
    let spelled : new.tape.spelled ≡ recording_bytes blocks = tape ∙ (ap (λ (xs : List ℕ). xs ++ blocks_bytes (as_blocks old.waiting)) h.spelled ∙ (sym (spelled_behind h.blocks (as_blocks old.waiting)) ∙ ap recording_bytes parted)) in
    let flushed : IsRecorded blocks (record { said = []; time = old.waiting.time }) (recorded_in old) = subst (λ (bs : List Block). IsRecorded bs (record { said = []; time = old.waiting.time }) (recorded_in old)) parted (flush_keeps h.blocks old.waiting (recorded_in old) h.recorded) in
    let r : IsRecorded blocks new.waiting (recorded_in old) = subst (λ (w : Block). IsRecorded blocks w (recorded_in old)) (sym waiting) flushed in
    let said : recorded_in new ≡ recorded_in old = recorded_is new blocks (recorded_in old) spelled r in
    let more = moments_more old new.index.spelled m h one is short index in (
      record {
        blocks = blocks;
        spelled = spelled;
        recorded = subst (IsRecorded blocks new.waiting) (sym said) r;
        moments = h.moments ++ m ∷ [];
        of = more.0;
        noted = more.1;
        clear = λ on. absurd (let never : true ≡ false = sym on ∙ off in cc);
      },
      said,
    )

-- ---- what is promised

pub is_kept_now : (g : Growing) → IsTape g.tape → IsGrowing g → IsKept g
is_kept_now g t h =
    let stored : List ℕ = g.tape.stored in
    let cut : stored ++ t.left ≡ recording_bytes h.blocks = t.begins ∙ h.spelled in
    let later : List Block = blocks_from (rest_of stored) t.left in
    let parted : h.blocks ≡ blocks_in stored ++ later = sym (recording_is_read h.blocks h.recorded.in_order).0 ∙ (ap blocks_in (sym cut) ∙ (in_pieces stored t.left).0) in
    let said : said_in h.blocks ≡ said_in (blocks_in stored) ++ said_in later = ap said_in parted ∙ flat_map-append (λ b. map (λ byte. (byte, b.time)) b.said) (blocks_in stored) later in
    record {
      blocks = h.blocks;
      are = h.recorded.in_order;
      spelled = h.spelled;
      left = t.left;
      begins = cut;
      later = later;
      whole = parted;
      says = sym h.recorded.said ∙ (ap (λ (xs : List (ℕ × ℕ)). xs ++ stamp g.waiting.time g.waiting.said) said ∙ append_assoc (said_in (blocks_in stored)) (said_in later) (stamp g.waiting.time g.waiting.said));
      follows = h.recorded.follows;
      rest = t.rest;
      few = t.few;
      short = h.recorded.short;
    }

pub is_indexed_now : (g : Growing) → IsTape g.index → IsGrowing g → IsIndexed g
is_indexed_now g t h =
    record {
      blocks = h.blocks;
      are = h.recorded.in_order;
      spelled = h.spelled;
      moments = h.moments;
      of = h.of;
      noted = h.noted;
      left = t.left;
      begins = t.begins ∙ h.noted;
    }
