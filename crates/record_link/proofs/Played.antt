-- Who reads the file of a recording reads what was recorded: all of it, or from a key moment on what came after it.
use Rattle.std.proofs.Common.{◌≡◌, ℕ, List, [], ◌∷◌, ◌++◌, length, take, drop, map, sym, ap, subst, ◌∙◌, arith, append-nil, length-append}
use Rattle.std.proofs.Math.Seq.{take-append_seam, drop-append_seam}
use Rattle.std.proofs.lemmas.List.{nil_from_length}
use Rattle.std.proofs.lemmas.Grind.{flat_map-append}
use Rattle.recording.specs.Recording.{Block, AreBlocks, AreBlocksAfter, recording_bytes, blocks_bytes, said_in, line}
use Rattle.recording.specs.BlockReading.{blocks_in}
use Rattle.recording.specs.Waiting.{stamp}
use Rattle.recording.proofs.ReadBack.{recording_is_read}
use Rattle.recording.proofs.Recorded.{spelled_behind}
use Rattle.recording_index.specs.KeyMoments.{IsAt}
use Rattle.recording_index.specs.declared.moment.KeyMoment.{KeyMoment}
use Rattle.recording_index.proofs.Places.{leads}
use Rattle.record_link.specs.Growing.{Growing, IsKept, IsWhole, recorded_in, said_before}

nothing_behind : (some more : List Block) → some ++ more ≡ some → more ≡ []
nothing_behind some more is = nil_from_length more (omega (arith, ap length is, length-append some more))

pub whole_is_read : (g : Growing) → IsKept g → IsWhole g → said_in (blocks_in g.tape.stored) ≡ recorded_in g
whole_is_read g k w =
    let stored : List ℕ = g.tape.stored in
    let said : List (ℕ × ℕ) = said_in (blocks_in stored) in
    let all : stored ≡ recording_bytes k.blocks = sym (append-nil stored) ∙ (ap (λ (xs : List ℕ). stored ++ xs) (sym (k.rest w.fine ∙ w.sent)) ∙ k.begins) in
    let read : blocks_in stored ≡ k.blocks = ap blocks_in all ∙ (recording_is_read k.blocks k.are).0 in
    let none : k.later ≡ [] = nothing_behind (blocks_in stored) k.later (sym k.whole ∙ sym read) in
    sym (k.says
    ∙ (ap (λ (bs : List Block). said ++ (said_in bs ++ stamp g.waiting.time g.waiting.said)) none
    ∙ (ap (λ (xs : List ℕ). said ++ stamp g.waiting.time xs) w.none ∙ append-nil said)))

front_are : (last : ℕ) (earlier later : List Block) → AreBlocksAfter last (earlier ++ later) → AreBlocksAfter last earlier
front_are last [] later h = tt
front_are last (b ∷ earlier) later h = (h.0, h.1, h.2, front_are b.time earlier later h.3)

pub leads_on : (blocks : List Block) (m : KeyMoment) → AreBlocks blocks → (at : IsAt blocks m) → said_in (blocks_in (line ++ drop m.place (recording_bytes blocks))) ≡ drop (said_before (recording_bytes blocks) m) (said_in blocks)
unfolding said_before
leads_on blocks m h at =
    let back : List Block = at.block ∷ at.later in
    let place : m.place ≡ length (recording_bytes at.earlier) = ap (λ (x : KeyMoment). x.place) at.is in
    let all : recording_bytes blocks ≡ recording_bytes at.earlier ++ blocks_bytes back = ap recording_bytes at.all ∙ spelled_behind at.earlier back in
    let front : take m.place (recording_bytes blocks) ≡ recording_bytes at.earlier
    = ap (λ (n : ℕ). take n (recording_bytes blocks)) place ∙ (ap (take (length (recording_bytes at.earlier))) all ∙ take-append_seam (recording_bytes at.earlier) (blocks_bytes back)) in
    let are : AreBlocks at.earlier = front_are 0 at.earlier back (subst AreBlocks at.all h) in
    let before : length (said_in (blocks_in (take m.place (recording_bytes blocks)))) ≡ length (said_in at.earlier)
    = ap (λ (xs : List ℕ). length (said_in (blocks_in xs))) front ∙ ap (λ (bs : List Block). length (said_in bs)) (recording_is_read at.earlier are).0 in
    let parts : said_in blocks ≡ said_in at.earlier ++ said_in back = ap said_in at.all ∙ flat_map-append (λ b. map (λ byte. (byte, b.time)) b.said) at.earlier back in
    ap said_in (leads blocks m h at)
    ∙ sym (ap (λ (n : ℕ). drop n (said_in blocks)) before ∙ (ap (drop (length (said_in at.earlier))) parts ∙ drop-append_seam (said_in at.earlier) (said_in back)))
