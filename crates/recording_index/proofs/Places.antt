-- Where key moments lead, and that they stay right as a recording grows.
use Rattle.std.proofs.Common.{◌≡◌, ℕ, ◌+◌, ◌<◌, ◌≤◌, ◌^◌, List, [], ◌∷◌, ◌++◌, length, drop, refl, ap, subst, ◌∙◌, arith, append_assoc, length-append}
use Rattle.std.specs.Prelude.{All}
use Rattle.std.proofs.Math.Seq.{drop-append_seam}
use Rattle.std.proofs.lemmas.List.Elements.{All-append, All-head, All-tail, All-cons, All-nil}
use Rattle.recording.specs.Recording.{Block, AreBlocks, AreBlocksAfter, recording_bytes, blocks_bytes, line as recording_line}
use Rattle.recording.specs.BlockReading.{blocks_in}
use Rattle.recording.proofs.ReadBack.{recording_is_read}
use Rattle.recording.proofs.Recorded.{spelled_behind}
use Rattle.recording_index.specs.IndexBytes.{start, AreMomentsAfter}
use Rattle.recording_index.specs.KeyMoments.{IsAt, IsIndexOf, moment_before}
use Rattle.recording_index.specs.declared.moment.KeyMoment.{KeyMoment}

-- ---- where they lead

blocks_behind : (last : ℕ) (earlier later : List Block) (block : Block) → AreBlocksAfter last (earlier ++ block ∷ later) → AreBlocks (block ∷ later)
blocks_behind last [] later block h = (h.0, omega arith, h.2, h.3)
blocks_behind last (b ∷ earlier) later block h = blocks_behind b.time earlier later block h.3

from_line : (blocks : List Block) → recording_line ++ blocks_bytes blocks ≡ recording_bytes blocks
unfolding recording_bytes
from_line blocks = refl

bytes_behind : (blocks : List Block) (m : KeyMoment) → (at : IsAt blocks m) → drop m.place (recording_bytes blocks) ≡ blocks_bytes (at.block ∷ at.later)
bytes_behind blocks m at =
    let place : m.place ≡ length (recording_bytes at.earlier) = ap (λ (x : KeyMoment). x.place) at.is in
    let all : recording_bytes blocks ≡ recording_bytes at.earlier ++ blocks_bytes (at.block ∷ at.later) = ap recording_bytes at.all ∙ spelled_behind at.earlier (at.block ∷ at.later) in
    ap (λ (n : ℕ). drop n (recording_bytes blocks)) place
    ∙ (ap (drop (length (recording_bytes at.earlier))) all ∙ drop-append_seam (recording_bytes at.earlier) (blocks_bytes (at.block ∷ at.later)))

pub leads : (blocks : List Block) (m : KeyMoment) → AreBlocks blocks → (at : IsAt blocks m) → blocks_in (recording_line ++ drop m.place (recording_bytes blocks)) ≡ at.block ∷ at.later
leads blocks m h at =
    let parted : AreBlocks (at.earlier ++ at.block ∷ at.later) = subst AreBlocks at.all h in
    let rest : AreBlocks (at.block ∷ at.later) = blocks_behind 0 at.earlier at.later at.block parted in
    ap (λ (xs : List ℕ). blocks_in (recording_line ++ xs)) (bytes_behind blocks m at)
    ∙ (ap blocks_in (from_line (at.block ∷ at.later)) ∙ (recording_is_read (at.block ∷ at.later) rest).0)

-- ---- how they are added

at_stays : (blocks more : List Block) (m : KeyMoment) → IsAt blocks m → IsAt (blocks ++ more) m
at_stays blocks more m at =
    record {
      earlier = at.earlier;
      block = at.block;
      later = at.later ++ more;
      all = ap (λ (bs : List Block). bs ++ more) at.all ∙ append_assoc at.earlier (at.block ∷ at.later) more;
      is = at.is;
    }

all_stay : (blocks more : List Block) (moments : List KeyMoment) → All (IsAt blocks) moments → All (IsAt (blocks ++ more)) moments
all_stay blocks more [] h = All-nil (IsAt (blocks ++ more))
all_stay blocks more (m ∷ moments) h = All-cons (IsAt (blocks ++ more)) m moments (at_stays blocks more m (All-head (IsAt blocks) m moments h)) (all_stay blocks more moments (All-tail (IsAt blocks) m moments h))

pub stays : (moments : List KeyMoment) (blocks more : List Block) → IsIndexOf moments blocks → IsIndexOf moments (blocks ++ more)
stays moments blocks more h = record { in_order = h.in_order; each = all_stay blocks more moments h.each }

-- The last block's time is none before it.
time_from : (last : ℕ) (blocks : List Block) (block : Block) → AreBlocksAfter last (blocks ++ block ∷ []) → (last ≤ block.time) × (block.time < 2 ^ 32)
time_from last [] block h = (h.1, h.2)
time_from last (b ∷ blocks) block h =
    let more = time_from b.time blocks block h.3 in
    (omega (arith, h.1, more.0), more.1)

time_of_one : (last : ℕ) (earlier later : List Block) (b block : Block) → AreBlocksAfter last ((earlier ++ b ∷ later) ++ block ∷ []) → b.time ≤ block.time
time_of_one last [] later b block h = (time_from b.time later block h.3).0
time_of_one last (a ∷ earlier) later b block h = time_of_one a.time earlier later b block h.3

before_next : (blocks : List Block) (block : Block) (m : KeyMoment) → AreBlocks (blocks ++ block ∷ []) → IsAt blocks m → (m.time ≤ block.time) × (m.place ≤ length (recording_bytes blocks))
before_next blocks block m h at =
    let time : m.time ≡ at.block.time = ap (λ (x : KeyMoment). x.time) at.is in
    let place : m.place ≡ length (recording_bytes at.earlier) = ap (λ (x : KeyMoment). x.place) at.is in
    let parted : AreBlocks ((at.earlier ++ at.block ∷ at.later) ++ block ∷ []) = subst (λ (bs : List Block). AreBlocks (bs ++ block ∷ [])) at.all h in
    let late : at.block.time ≤ block.time = time_of_one 0 at.earlier at.later at.block block parted in
    let len : length (recording_bytes blocks) ≡ length (recording_bytes at.earlier) + length (blocks_bytes (at.block ∷ at.later))
    = ap (λ (bs : List Block). length (recording_bytes bs)) at.all ∙ (ap length (spelled_behind at.earlier (at.block ∷ at.later)) ∙ length-append (recording_bytes at.earlier) (blocks_bytes (at.block ∷ at.later))) in
    (omega (arith, time, late), omega (arith, place, len))

abbrev IsBefore : KeyMoment → KeyMoment → Type 0
IsBefore x m = (m.time ≤ x.time) × (m.place ≤ x.place)

all_before : (blocks : List Block) (block : Block) (moments : List KeyMoment) → AreBlocks (blocks ++ block ∷ []) → All (IsAt blocks) moments → All (IsBefore (moment_before blocks block)) moments
all_before blocks block [] h each = All-nil (IsBefore (moment_before blocks block))
all_before blocks block (m ∷ moments) h each =
    All-cons (IsBefore (moment_before blocks block)) m moments (before_next blocks block m h (All-head (IsAt blocks) m moments each)) (all_before blocks block moments h (All-tail (IsAt blocks) m moments each))

in_order_more : (before : KeyMoment) (moments : List KeyMoment) (x : KeyMoment) → AreMomentsAfter before moments → All (IsBefore x) moments → before.time ≤ x.time → before.place ≤ x.place → x.time < 2 ^ 32 → x.place < 2 ^ 64
    → AreMomentsAfter before (moments ++ x ∷ [])
in_order_more before [] x h each time place short near = (time, place, short, near, tt)
in_order_more before (m ∷ moments) x h each time place short near =
    let one : IsBefore x m = All-head (IsBefore x) m moments each in
    (h.0, h.1, h.2, h.3, in_order_more m moments x h.4 (All-tail (IsBefore x) m moments each) one.0 one.1 short near)

at_next : (blocks : List Block) (block : Block) → IsAt (blocks ++ block ∷ []) (moment_before blocks block)
at_next blocks block = record { earlier = blocks; block = block; later = []; all = refl; is = refl }

pub adds : (moments : List KeyMoment) (blocks : List Block) (block : Block) → AreBlocks (blocks ++ block ∷ []) → length (recording_bytes blocks) < 2 ^ 64 → IsIndexOf moments blocks
    → IsIndexOf (moments ++ moment_before blocks block ∷ []) (blocks ++ block ∷ [])
adds moments blocks block h near index =
    let time = time_from 0 blocks block h in
    record {
      in_order = in_order_more start moments (moment_before blocks block) index.in_order (all_before blocks block moments h index.each) (omega arith) (omega arith) time.1 near;
      each = All-append (IsAt (blocks ++ block ∷ [])) moments (moment_before blocks block ∷ []) (all_stay blocks (block ∷ []) moments index.each) (All-cons (IsAt (blocks ++ block ∷ [])) (moment_before blocks block) [] (at_next blocks block) (All-nil (IsAt (blocks ++ block ∷ []))));
    }
