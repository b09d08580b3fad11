-- The data of a connection's rectangles in ZRLE are one zlib stream.
use Rattle.std.proofs.Common.{◌≡◌, ℕ, ◌%◌, List, [], ◌∷◌, ◌++◌, ◌∙◌, length, Some, None, refl, sym, ap, subst, arith}
use Rattle.deflate.specs.Bits.{bits_of}
use Rattle.deflate.specs.Inflates.{Inflates}
use Rattle.deflate.specs.Inflates.Inflates.{none as no_block}
use Rattle.deflate.proofs.BitLists.{bits_of-append, bits_of-length}
use Rattle.deflate.proofs.Joined.{then_blocks}
use Rattle.zrle_codec.specs.Reading.{inflated, zlib_head}
use Rattle.zrle_answer.specs.Rectangle.{ZlibStream}
use Rattle.zrle_answer.specs.Followed.{AreReadInOrder, DataAreOneStream}
use Rattle.zrle_answer.specs.Followed.AreReadInOrder.{none, one_more}

-- Blocks behind other blocks, as bytes.
blocks_then : (before first middle others now : List ℕ) → Inflates before (bits_of first) middle → Inflates middle (bits_of others) now → Inflates before (bits_of (first ++ others)) now
blocks_then before first middle others now one two =
    let even : length (bits_of first) % 8 ≡ 0 = omega (arith, bits_of-length first) in
    subst (λ t. Inflates before t now) (sym (bits_of-append first others)) (then_blocks before (bits_of first) even one two)

-- No blocks lead nowhere.
no_blocks : (before : List ℕ) → Inflates before (bits_of []) before
unfolding bits_of
no_blocks before = no_block before

begun_is : (state : ZlibStream) (was first blocks : List ℕ) → state ≡ Some was → first ≡ zlib_head state ++ blocks → first ≡ blocks
begun_is None was first blocks e f = absurd cc
begun_is (Some bytes) was first blocks e f = f

-- In a stream that has begun.
goes_on : {before after : ZlibStream} {zlib_data : List ℕ} → (was now : List ℕ) → before ≡ Some was → after ≡ Some now → AreReadInOrder before zlib_data after → Inflates was (bits_of zlib_data) now
goes_on was now s t (none stream) =
    let same : was ≡ now = let e : Some was ≡ Some now = sym s ∙ t in cc in
    subst (λ n. Inflates was (bits_of []) n) same (no_blocks was)
goes_on was now s t (one_more format w h before between after first others canvas reads more) =
    let middle : List ℕ = inflated before ++ reads.tiles in
    let here : inflated before ≡ was = ap inflated s in
    let blocks : first ≡ reads.blocks = begun_is before was first reads.blocks s reads.begins in
    let one : Inflates was (bits_of first) middle =
    subst (λ u. Inflates u (bits_of first) middle) here (subst (λ u. Inflates (inflated before) (bits_of u) middle) (sym blocks) reads.inflates) in
    blocks_then was first middle others now one (goes_on middle now reads.leaves t more)

-- From the beginning.
from_none : {before after : ZlibStream} {zlib_data : List ℕ} → (now : List ℕ) → before ≡ None → after ≡ Some now → AreReadInOrder before zlib_data after
    → (blocks : List ℕ) × (zlib_data ≡ 0x78 ∷ 0x01 ∷ blocks) × Inflates [] (bits_of blocks) now
from_none now s t (none stream) = absurd (let e : None ≡ Some now = sym s ∙ t in cc)
from_none now s t (one_more format w h before between after first others canvas reads more) =
    let middle : List ℕ = inflated before ++ reads.tiles in
    let nothing : inflated before ≡ [] = ap inflated s in
    let head : first ≡ 0x78 ∷ 0x01 ∷ reads.blocks = reads.begins ∙ ap (λ state. zlib_head state ++ reads.blocks) s in
    let one : Inflates [] (bits_of reads.blocks) middle = subst (λ u. Inflates u (bits_of reads.blocks) middle) nothing reads.inflates in
    (reads.blocks ++ others, ap (λ u. u ++ others) head, blocks_then [] reads.blocks middle others now one (goes_on middle now reads.leaves t more))

pub data_are_one_stream : DataAreOneStream
data_are_one_stream zlib_data now k = from_none now refl refl k
