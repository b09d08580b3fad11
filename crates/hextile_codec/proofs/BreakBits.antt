-- The bits of a word of breaks. `TileMarks::four_breaks` puts it together.
use Rattle.std.proofs.Common.{◌≡◌, ℕ, zero, suc, Bool, true, false, not, max, List, get_or, refl, sym, ap, ◌∙◌, ◌+◌, ◌-◌, ◌*◌, ◌/◌, ◌%◌, ◌<◌, ◌≤◌, arith}
use Rattle.std.specs.Prelude.{◌==◌}
use Rattle.std.specs.Int.{bit_at}
use Rattle.std.specs.Int.Bits.{bit_or, bit_xor}
use Rattle.std.proofs.lemmas.Bool.{eqb-true, eq-eqb}
use Rattle.std.proofs.lemmas.Nat.{div-mul-add, mod-mul-add}
use Rattle.std.proofs.lemmas.Nat.Bits.{bit_at_or, bit_at_xor, bit_at-lt}
use Rattle.raster.specs.Screen.{Canvas}
use Rattle.hextile_codec.specs.declared.tile_marks.TileMarks.{TileMarks}
use Rattle.hextile_codec.specs.Bits.{bit_of}
use Rattle.hextile_codec.specs.Breaks.{IsUnbroken, mark_at}

-- Row r of word k has its bits there.
pub mark_here : (words : List ℕ) (k r x : ℕ) → r < 4 → mark_at words (4 * k + r) x ≡ bit_at (get_or words k 0) (r * 16 + x)
mark_here words k r x lt =
    let same : 4 * k + r ≡ k * 4 + r = omega arith in
    let down : (4 * k + r) / 4 ≡ k = ap (λ n. n / 4) same ∙ div-mul-add k 4 r lt in
    let rest : (4 * k + r) % 4 ≡ r = ap (λ n. n % 4) same ∙ mod-mul-add k 4 r lt in
    ap (λ i. bit_at (get_or words i 0) ((4 * k + r) % 4 * 16 + x)) down ∙ ap (λ i. bit_at (get_or words k 0) (i * 16 + x)) rest

-- And bits that were moved down are those of the row above.
pub mark_above : (words : List ℕ) (k r x moved : ℕ) → r < 4 → x < 16 → 0 < 4 * k + r → ((x : ℕ) → x < 16 → bit_at moved x ≡ bit_at (get_or words (k - 1) 0) (48 + x)) → ((p : ℕ) → 16 ≤ p → p < 64 → bit_at moved p ≡ bit_at (get_or words k 0) (p - 16))
    → bit_at moved (r * 16 + x) ≡ mark_at words (4 * k + r - 1) x
mark_above words k zero x moved lr lx some first others =
    let row : 4 * (k - 1) + 3 ≡ 4 * k + zero - 1 = omega (arith, some) in
    let place : zero * 16 + x ≡ x = omega arith in
    let last : 48 + x ≡ 3 * 16 + x = omega arith in
    ap (bit_at moved) place ∙ (first x lx ∙ (ap (bit_at (get_or words (k - 1) 0)) last ∙ (sym (mark_here words (k - 1) 3 x (omega arith)) ∙ ap (λ y. mark_at words y x) row)))
mark_above words k (suc r) x moved lr lx some first others =
    let row : 4 * k + r ≡ 4 * k + suc r - 1 = omega arith in
    let back : suc r * 16 + x - 16 ≡ r * 16 + x = omega arith in
    others (suc r * 16 + x) (omega arith) (omega (arith, lr, lx)) ∙ (ap (bit_at (get_or words k 0)) back ∙ (sym (mark_here words k r x (omega (arith, lr))) ∙ ap (λ y. mark_at words y x) row))

zero_bit : (b : Bool) → bit_of (not b) ≡ 0 → b ≡ true
zero_bit true e = refl
zero_bit false e = absurd cc

all_zero : (a b c d e : ℕ) → b < 2 → c < 2 → d < 2 → e < 2 → max (max a ((b + c) % 2)) ((d + e) % 2) ≡ 0 → (a ≡ 0) × (b ≡ c) × (d ≡ e)
all_zero a b c d e lb lc ld le z = (omega (arith, z), omega (arith, z, lb, lc), omega (arith, z, ld, le))

zero_all : (a b c d e : ℕ) → b < 2 → d < 2 → a ≡ 0 → b ≡ c → d ≡ e → max (max a ((b + c) % 2)) ((d + e) % 2) ≡ 0
zero_all a b c d e lb ld p q r = omega (arith, p, q, r, lb, ld)

module _ (canvas : Canvas) (marks : TileMarks) (y x p apart begins begins_moved ends ends_moved : ℕ)
    (different : bit_at apart p ≡ bit_of (not (canvas x y == canvas x (y - 1))))
    (begin : mark_at marks.begins y x ≡ bit_at begins p) (begin_above : bit_at begins_moved p ≡ mark_at marks.begins (y - 1) x)
    (end : mark_at marks.ends y x ≡ bit_at ends p) (end_above : bit_at ends_moved p ≡ mark_at marks.ends (y - 1) x) where
  abbrev word : ℕ
  word = bit_or (bit_or apart (bit_xor begins begins_moved)) (bit_xor ends ends_moved)

  word_bit : bit_at word p ≡ max (max (bit_at apart p) ((bit_at begins p + bit_at begins_moved p) % 2)) ((bit_at ends p + bit_at ends_moved p) % 2)
  word_bit =
      bit_at_or (bit_or apart (bit_xor begins begins_moved)) (bit_xor ends ends_moved) p
      ∙ (ap (λ n. max n (bit_at (bit_xor ends ends_moved) p)) (bit_at_or apart (bit_xor begins begins_moved) p)
      ∙ (ap (λ n. max (max (bit_at apart p) n) (bit_at (bit_xor ends ends_moved) p)) (bit_at_xor begins begins_moved p)
      ∙ ap (λ n. max (max (bit_at apart p) ((bit_at begins p + bit_at begins_moved p) % 2)) n) (bit_at_xor ends ends_moved p)))

  pub none_is : bit_at word p ≡ 0 → IsUnbroken canvas marks y x
  none_is z =
      let all = all_zero (bit_at apart p) (bit_at begins p) (bit_at begins_moved p) (bit_at ends p) (bit_at ends_moved p) (bit_at-lt begins p) (bit_at-lt begins_moved p) (bit_at-lt ends p) (bit_at-lt ends_moved p) (sym word_bit ∙ z) in
      (eqb-true (canvas x y) (canvas x (y - 1)) (zero_bit (canvas x y == canvas x (y - 1)) (sym different ∙ all.0)), begin ∙ (all.1 ∙ begin_above), end ∙ (all.2 ∙ end_above))

  pub is_none : IsUnbroken canvas marks y x → bit_at word p ≡ 0
  is_none u =
      word_bit
      ∙ zero_all (bit_at apart p) (bit_at begins p) (bit_at begins_moved p) (bit_at ends p) (bit_at ends_moved p) (bit_at-lt begins p) (bit_at-lt ends p) (different ∙ ap (λ b. bit_of (not b)) (eq-eqb (canvas x y) (canvas x (y - 1)) u.0))
      (sym begin ∙ (u.1 ∙ sym begin_above)) (sym end ∙ (u.2 ∙ sym end_above))
