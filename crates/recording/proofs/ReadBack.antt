-- What is written is read: each block, and all of them, however the bytes are cut.
use Rattle.std.proofs.Common.{◌≡◌, ℕ, suc, ◌<◌, ◌≤◌, ◌^◌, true, List, [], ◌∷◌, ◌++◌, length, take, length-take, append-nil, replicate, Ok, Err, refl, sym, ap, subst, ◌∙◌, arith, append_assoc}
use Rattle.std.specs.Int.{w32, to_be_bytes}
use Rattle.std.proofs.lemmas.Bool.{le-ltb}
use Rattle.std.proofs.lemmas.List.{length-replicate}
use Rattle.byte_reading.specs.Reading.{Reading, Done, Faulty, Want, ◌>>=◌, step, after, taken, wants_more, bytes, padding, u32, Spells}
use Rattle.raster.proofs.Spellings.{spells_bind, spells_then, spells_bytes}
use Rattle.raster.proofs.Pixels.{spells_u32}
use Rattle.recording.specs.Recording.{Block, line, padding_len, block_bytes, blocks_bytes, recording_bytes, last_time, AreBlocksAfter, AreBlocks}
use Rattle.recording.specs.BlockReading.{Found, timed, body, bounded_body, next_block, first_block, found, going_on, blocks_from, rest_from, blocks_in, rest_of}
use Rattle.recording.specs.declared.form.TheConstants.{LONGEST_READ}
use Rattle.recording.specs.Progress.{HasRead, Uses}
use Rattle.recording.proofs.Parts.{line_over}

-- ---- one block

spells_padding : {A : Type 0} (front bs : List ℕ) (rest : Reading A) (x : A) → Spells rest bs x → Spells (padding (length front) rest) (front ++ bs) x
spells_padding [] bs rest x h = h
spells_padding (b ∷ front) bs rest x h = let t = spells_padding front bs rest x h in record { whole = ap suc t.whole; says = t.says }

end_is_read : (last : ℕ) (b : Block) → last ≤ b.time → b.time < 2 ^ 32
    → Spells (padding (padding_len (length b.said)) (u32 >>= λ time. Done (timed last b.said time))) (replicate (padding_len (length b.said)) 0 ++ to_be_bytes w32 b.time) (Ok b)
end_is_read last b le lt =
    let p : ℕ = padding_len (length b.said) in
    let next : Reading Found = u32 >>= λ time. Done (timed last b.said time) in
    let in_time : Done (timed last b.said b.time) ≡ Done (Ok b) = rw (le-ltb b.time last le) refl in
    let time : Spells next (to_be_bytes w32 b.time) (Ok b) = spells_then u32 (λ t. Done (timed last b.said t)) (to_be_bytes w32 b.time) b.time (Ok b) (spells_u32 b.time lt) in_time in
    subst (λ (n : ℕ). Spells (padding n next) (replicate p 0 ++ to_be_bytes w32 b.time) (Ok b)) (length-replicate p 0) (spells_padding (replicate p 0) (to_be_bytes w32 b.time) next (Ok b) time)

pub block_is_read : (last : ℕ) (b : Block) → length b.said ≤ LONGEST_READ → last ≤ b.time → b.time < 2 ^ 32 → Spells (next_block last) (block_bytes b) (Ok b)
unfolding next_block block_bytes
block_is_read last b short le lt =
    let len : ℕ = length b.said in
    let end : List ℕ = replicate (padding_len len) 0 ++ to_be_bytes w32 b.time in
    let next : List ℕ → Reading Found = λ said. padding (padding_len len) (u32 >>= λ time. Done (timed last said time)) in
    let all : Spells (body last len) (b.said ++ end) (Ok b) = spells_bind (bytes len) next b.said end b.said (Ok b) (spells_bytes b.said) (end_is_read last b le lt) in
    let bounded : body last len ≡ bounded_body last len = sym (rw (le-ltb LONGEST_READ len short) refl) in
    spells_bind u32 (bounded_body last) (to_be_bytes w32 len) (b.said ++ end) len (Ok b) (spells_u32 len (omega (arith, short)))
    (subst (λ (r : Reading Found). Spells r (b.said ++ end) (Ok b)) bounded all)

-- ---- a stream, some bytes at a time

wants_from : (r : Reading Found) (b : ℕ) (xs : List ℕ) → taken r (b ∷ xs) ≡ suc (length xs) → wants_more r ≡ true
wants_from (Done x) b xs e = absurd (omega arith)
wants_from (Faulty f) b xs e = absurd (omega arith)
wants_from (Want more) b xs e = refl

open_found : (r : Reading Found) → wants_more r ≡ true → (found r ≡ []) × (going_on r ≡ r)
open_found (Done x) w = absurd cc
open_found (Faulty f) w = absurd cc
open_found (Want more) w = (refl, refl)

-- Bytes that are all taken of a block give it, where they end it, and then those of what follows.
pub blocks_step : (now : Reading Found) (b : ℕ) (xs ys : List ℕ) → taken now (b ∷ xs) ≡ suc (length xs)
    → (blocks_from now ((b ∷ xs) ++ ys) ≡ found (after now (b ∷ xs)) ++ blocks_from (going_on (after now (b ∷ xs))) ys)
    × (rest_from now ((b ∷ xs) ++ ys) ≡ rest_from (going_on (after now (b ∷ xs))) ys)
blocks_step (Done x) b xs ys e = absurd (omega arith)
blocks_step (Faulty f) b xs ys e = absurd (omega arith)
blocks_step (Want more) b [] ys e = (refl, refl)
blocks_step (Want more) b (c ∷ xs) ys e =
    let left : taken (more b) (c ∷ xs) ≡ suc (length xs) = omega (arith, e) in
    let open_now = open_found (more b) (wants_from (more b) c xs left) in
    let next = blocks_step (more b) c xs ys left in (
      ap (λ f. f ++ blocks_from (going_on (more b)) (c ∷ (xs ++ ys))) open_now.0 ∙ (ap (λ r. blocks_from r (c ∷ (xs ++ ys))) open_now.1 ∙ next.0),
      ap (λ r. rest_from r (c ∷ (xs ++ ys))) open_now.1 ∙ next.1,
    )

-- The same of a list that isn't empty.
pub blocks_some : (now : Reading Found) (xs ys : List ℕ) → 0 < length xs → taken now xs ≡ length xs
    → (blocks_from now (xs ++ ys) ≡ found (after now xs) ++ blocks_from (going_on (after now xs)) ys) × (rest_from now (xs ++ ys) ≡ rest_from (going_on (after now xs)) ys)
blocks_some now [] ys lt e = absurd (omega arith)
blocks_some now (b ∷ xs) ys lt e = blocks_step now b xs ys e

pub blocks_append : (now : Reading Found) (xs ys : List ℕ) → (blocks_from now (xs ++ ys) ≡ blocks_from now xs ++ blocks_from (rest_from now xs) ys) × (rest_from now (xs ++ ys) ≡ rest_from (rest_from now xs) ys)
blocks_append now [] ys = (refl, refl)
blocks_append now (b ∷ xs) ys =
    let more = blocks_append (going_on (step now b)) xs ys in
    (ap (λ t. found (step now b) ++ t) more.0 ∙ sym (append_assoc (found (step now b)) (blocks_from (going_on (step now b)) xs) (blocks_from (rest_from (going_on (step now b)) xs) ys)), more.1)

-- ---- whole recordings

some_bytes : (b : Block) → 0 < length (block_bytes b)
unfolding block_bytes
some_bytes b = omega arith

block_then : (last : ℕ) (b : Block) (more : List ℕ) → Spells (next_block last) (block_bytes b) (Ok b)
    → (blocks_from (next_block last) (block_bytes b ++ more) ≡ b ∷ blocks_from (next_block b.time) more) × (rest_from (next_block last) (block_bytes b ++ more) ≡ rest_from (next_block b.time) more)
block_then last b more h =
    let both = blocks_some (next_block last) (block_bytes b) more (some_bytes b) h.whole in
    (both.0 ∙ ap (λ r. found r ++ blocks_from (going_on r) more) h.says, both.1 ∙ ap (λ r. rest_from (going_on r) more) h.says)

pub blocks_are_read : (last : ℕ) (blocks : List Block) → AreBlocksAfter last blocks
    → (blocks_from (next_block last) (blocks_bytes blocks) ≡ blocks) × (rest_from (next_block last) (blocks_bytes blocks) ≡ next_block (last_time last blocks))
blocks_are_read last [] h = (refl, refl)
blocks_are_read last (b ∷ blocks) h =
    let one = block_then last b (blocks_bytes blocks) (block_is_read last b h.0 h.1 h.2) in
    let more = blocks_are_read b.time blocks h.3 in
    (one.0 ∙ ap (λ t. b ∷ t) more.0, one.1 ∙ more.1)

pub next_wants : (last : ℕ) → wants_more (next_block last) ≡ true
unfolding next_block
next_wants last = refl

line_taken : taken first_block line ≡ 12
unfolding first_block next_block
line_taken = refl

-- After the line there are blocks.
pub line_then : (more : List ℕ) → (blocks_in (line ++ more) ≡ blocks_from (next_block 0) more) × (rest_of (line ++ more) ≡ rest_from (next_block 0) more)
unfolding blocks_in rest_of
line_then more =
    let both = blocks_some first_block line more (omega arith) line_taken in
    let over : after first_block line ≡ next_block 0 = line_over line refl in
    let open_now = open_found (next_block 0) (next_wants 0) in (
      both.0 ∙ (ap (λ r. found r ++ blocks_from (going_on r) more) over ∙ (ap (λ f. f ++ blocks_from (going_on (next_block 0)) more) open_now.0 ∙ ap (λ r. blocks_from r more) open_now.1)),
      both.1 ∙ (ap (λ r. rest_from (going_on r) more) over ∙ ap (λ r. rest_from r more) open_now.1),
    )

pub recording_is_read : (blocks : List Block) → AreBlocks blocks → (blocks_in (recording_bytes blocks) ≡ blocks) × (rest_of (recording_bytes blocks) ≡ next_block (last_time 0 blocks))
unfolding recording_bytes
recording_is_read blocks h =
    let begins = line_then (blocks_bytes blocks) in
    let read = blocks_are_read 0 blocks h in
    (begins.0 ∙ read.0, begins.1 ∙ read.1)

pub in_pieces : (front back : List ℕ) → (blocks_in (front ++ back) ≡ blocks_in front ++ blocks_from (rest_of front) back) × (rest_of (front ++ back) ≡ rest_from (rest_of front) back)
unfolding blocks_in rest_of
in_pieces front back = blocks_append first_block front back

-- ---- a reader's steps

first_opens : (found first_block ≡ []) × (going_on first_block ≡ first_block)
unfolding first_block
first_opens = (refl, refl)

pub begins_read : HasRead [] [] first_block
unfolding blocks_in rest_of
begins_read = record { blocks = sym first_opens.0; rest = sym first_opens.1 }

fed_some : (fed : List ℕ) (given : List Block) (old new : Reading Found) (xs : List ℕ) → HasRead fed given old → taken old xs ≡ length xs → new ≡ after old xs → HasRead (fed ++ xs) given new
fed_some fed given old new [] h all goes = subst (λ (ys : List ℕ). HasRead ys given new) (sym (append-nil fed)) (subst (HasRead fed given) (sym goes) h)
fed_some fed given old new (b ∷ xs) h all goes =
    let open_now = open_found old (wants_from old b xs all) in
    let pieces = in_pieces fed (b ∷ xs) in
    let on : rest_of fed ≡ old = h.rest ∙ open_now.1 in
    let step_on = blocks_step old b xs [] all in
    let whole : (b ∷ xs) ++ [] ≡ b ∷ xs = append-nil (b ∷ xs) in
    let more : blocks_from old (b ∷ xs) ≡ found new = ap (blocks_from old) (sym whole) ∙ (step_on.0 ∙ (append-nil (found (after old (b ∷ xs))) ∙ ap found (sym goes))) in
    let left : rest_from old (b ∷ xs) ≡ going_on new = ap (rest_from old) (sym whole) ∙ (step_on.1 ∙ ap going_on (sym goes)) in
    let before : blocks_in fed ≡ given = h.blocks ∙ (ap (λ f. given ++ f) open_now.0 ∙ append-nil given) in
    record {
      blocks = pieces.0 ∙ (ap (λ f. f ++ blocks_from (rest_of fed) (b ∷ xs)) before ∙ ap (λ f. given ++ f) (ap (λ r. blocks_from r (b ∷ xs)) on ∙ more));
      rest = pieces.1 ∙ (ap (λ r. rest_from r (b ∷ xs)) on ∙ left);
    }

pub feeds_read : (fed : List ℕ) (given : List Block) (old new : Reading Found) (piece : List ℕ) (n : ℕ) → HasRead fed given old → Uses old new piece n → HasRead (fed ++ take n piece) given new
feeds_read fed given old new piece n h u =
    let long : length (take n piece) ≡ n = omega (arith, length-take n piece, u.fits) in
    fed_some fed given old new (take n piece) h (u.all ∙ sym long) u.goes_on

-- After what is whole nothing more is found at once.
settled : (now : Reading Found) → (found (going_on now) ≡ []) × (going_on (going_on now) ≡ going_on now)
settled (Done (Ok b)) = open_found (next_block b.time) (next_wants b.time)
settled (Done (Err bad)) = (refl, refl)
settled (Faulty f) = (refl, refl)
settled (Want more) = (refl, refl)

pub goes_on_read : (fed : List ℕ) (given : List Block) (now : Reading Found) → HasRead fed given now → HasRead fed (given ++ found now) (going_on now)
goes_on_read fed given now h =
    let still = settled now in
    record {
      blocks = h.blocks ∙ sym (ap (λ f. (given ++ found now) ++ f) still.0 ∙ append-nil (given ++ found now));
      rest = h.rest ∙ sym still.1;
    }
