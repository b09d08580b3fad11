-- The lengths of runs and of packed rows are those that the RFC says.
use Rattle.std.proofs.Common.{◌≡◌, ℕ, zero, suc, ◌+◌, ◌-◌, ◌*◌, ◌/◌, ◌%◌, ◌<◌, ◌≤◌, nat_le, Bool, true, false, cond, List, [], ◌∷◌, ◌++◌, ◌∙◌, length, replicate, drop, refl, ap, arith, length-append, length-drop}
use Rattle.std.specs.List.{flat_map, range_with_len, sum}
use Rattle.std.proofs.lemmas.List.{length-take-le}
use Rattle.std.proofs.lemmas.List.Sums.{sum_by_push}
use Rattle.std.proofs.lemmas.List.Folds.{sum_by-replicate}
use Rattle.zrle_codec.specs.Tiles.{len_bytes, index_bits, packed_row, packed_rows, row_of}
use Rattle.zrle_codec.specs.Standard.{RunLengthsAreTheStandards, PackedLengthsAreTheStandards}
use Rattle.zrle_codec.proofs.Paletted.{row_inside}
use Rattle.zrle_codec.proofs.Unpacked.{packed-length}

one_more : (len : ℕ) → 1 ≤ len → sum (len_bytes len) + 1 ≡ len
unfolding len_bytes
one_more len some =
    let full : ℕ = (len - 1) / 255 in
    let last : ℕ = (len - 1) % 255 in
    let total : sum (replicate full 255 ++ last ∷ []) ≡ full * 255 + last = sum_by_push (λ x. x) (replicate full 255) last ∙ ap (λ n. n + last) (sum_by-replicate (λ x. x) full 255) in
    omega (arith, total, some)

pub run_lengths : RunLengthsAreTheStandards
unfolding len_bytes
run_lengths = record { one_more = one_more; of_1 = refl; of_255 = refl; of_256 = refl; of_257 = refl; of_510 = refl; of_511 = refl }

pieces-length : (f : ℕ → List ℕ) (a n m : ℕ) → ((y : ℕ) → a ≤ y → y < a + n → length (f y) ≡ m) → length (flat_map f (range_with_len a n)) ≡ m * n
pieces-length f a zero m each = omega arith
pieces-length f a (suc n) m each =
    let others = pieces-length f (a + 1) n m (λ y from to. each y (omega arith) (omega arith)) in
    omega (arith, length-append (f a) (flat_map f (range_with_len (a + 1) n)), each a (omega arith) (omega arith), others)

rows-length : (bits w h : ℕ) (indices : List ℕ) → length indices ≡ w * h → length (packed_rows bits w h indices) ≡ (w * bits + 7) / 8 * h
unfolding packed_rows
rows-length bits w h indices size =
    pieces-length (λ y. packed_row bits (row_of w indices y)) 0 h ((w * bits + 7) / 8)
    (λ y from to.
    let inside : y * w + w ≤ w * h = row_inside y h w (omega arith) in
    let row : length (row_of w indices y) ≡ w = length-take-le w (drop (y * w) indices) (omega (arith, length-drop (y * w) indices, size, inside)) in
    packed-length bits (row_of w indices y) ∙ ap (λ n. (n * bits + 7) / 8) row)

lengths_by : (one two : Bool) (w h n : ℕ) → n ≡ (w * cond one 1 (cond two 2 4) + 7) / 8 * h → n ≡ cond one ((w + 7) / 8 * h) (cond two ((w + 3) / 4 * h) ((w + 1) / 2 * h))
lengths_by true two w h n is = let same : (w * 1 + 7) / 8 ≡ (w + 7) / 8 = omega arith in is ∙ ap (λ k. k * h) same
lengths_by false true w h n is = let same : (w * 2 + 7) / 8 ≡ (w + 3) / 4 = omega arith in is ∙ ap (λ k. k * h) same
lengths_by false false w h n is = let same : (w * 4 + 7) / 8 ≡ (w + 1) / 2 = omega arith in is ∙ ap (λ k. k * h) same

pub packed_lengths : PackedLengthsAreTheStandards
unfolding index_bits
packed_lengths colours w h indices size =
    lengths_by (nat_le colours 2) (nat_le colours 4) w h (length (packed_rows (index_bits colours) w h indices)) (rows-length (index_bits colours) w h indices size)
