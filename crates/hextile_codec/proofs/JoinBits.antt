-- The bits of runs that are joined to one above them. `TileMarks::four_joins` makes those of four rows.
use Rattle.std.proofs.Common.{◌≡◌, ℕ, min, Bool, true, false, ◌&&◌, not, get_or, refl, sym, ap, ◌∙◌, ◌+◌, ◌-◌, ◌*◌, ◌<◌, ◌≤◌, inl, inr, arith}
use Rattle.std.specs.Prelude.{◌==◌}
use Rattle.std.specs.Int.{bit_at}
use Rattle.std.specs.Int.Bits.{bit_and, bit_or}
use Rattle.std.proofs.lemmas.Bool.{cases_lt, eq-eqb, ne_eqb}
use Rattle.std.proofs.lemmas.Nat.Bits.{bit_at_and, bit_at_or, bit_at_ones, bit_at_ones_above, bit_at-lt, bit_at-zero}
use Rattle.raster.specs.Screen.{Canvas}
use Rattle.raster.specs.Encoding.{begins_run, run_from}
use Rattle.raster.proofs.Runs.{run_within, run_some}
use Rattle.joined_runs.specs.Joined.{is_below, stands_in}
use Rattle.hextile_codec.specs.declared.breaks.Breaks.{Breaks}
use Rattle.hextile_codec.specs.declared.tile_marks.TileMarks.{TileMarks}
use Rattle.hextile_codec.specs.Bits.{bit_of}
use Rattle.hextile_codec.specs.Breaks.{AreBreaks, mark_at}
use Rattle.hextile_codec.specs.Places.{joins_at}
use Rattle.hextile_codec.specs.Reach.{Reaches}
use Rattle.hextile_codec.specs.TileMarks.{AreTileMarks}
use Rattle.hextile_codec.proofs.BreakBits.{mark_here}
use Rattle.hextile_codec.proofs.MaskBits.{no_more}
use Rattle.hextile_codec.proofs.Unbroken.{its_end, no_end, unbroken_joins, joins_unbroken}

-- A bit that isn't set is 0.
not_set : (n p : ℕ) → (bit_at n p ≡ 1 → ⊥) → bit_at n p ≡ 0
not_set n p unset = elim (cases_lt 0 (bit_at n p)) [
  | inl some ↦ let few = bit_at-lt n p in absurd (unset (omega (arith, some, few)))
  | inr none ↦ omega (arith, none)
]

module _ (canvas : Canvas) (marks : TileMarks) (are : AreTileMarks canvas marks.background marks) (breaks : Breaks) (its : AreBreaks canvas marks breaks) (k r x : ℕ) (lk : k < 4) (lr : r < 4) (lx : x < 16) (top word : ℕ) (first : k ≡ 0 → top ≡ 65535) (others : 0 < k → top ≡ 0)
    (reached : (p : ℕ) → Reaches (bit_or (get_or breaks.words k 0) top) (get_or marks.ends k 0) p → bit_at word p ≡ 1) (only : (p : ℕ) → bit_at word p ≡ 1 → Reaches (bit_or (get_or breaks.words k 0) top) (get_or marks.ends k 0) p) where
  abbrev y : ℕ
  y = 4 * k + r

  abbrev p : ℕ
  p = 16 * r + x

  abbrev broken : ℕ
  broken = bit_or (get_or breaks.words k 0) top

  abbrev len : ℕ
  len = (run_from canvas 16 y x).area.w

  abbrev above : Bool
  above = stands_in canvas 16 (run_from canvas 16 y x) (y - 1)

  row : y < 16
  row = omega (arith, lk, lr)

  within : x + len ≤ 16
  within = run_within canvas 16 y x lx

  some_len : 0 < len
  some_len = run_some canvas 16 y x lx

  -- Below the first row the breaks tell.
  top_none : (i : ℕ) → 0 < y → bit_at top (r * 16 + i) ≡ 0
  top_none i some = elim (cases_lt 0 k) [
    | inl more ↦ ap (λ t. bit_at t (r * 16 + i)) (others more) ∙ bit_at-zero (r * 16 + i)
    | inr none ↦ ap (λ t. bit_at t (r * 16 + i)) (first (omega (arith, none))) ∙ bit_at_ones_above 16 (r * 16 + i) (omega (arith, some, none))
  ]

  broken_in : (i : ℕ) → 0 < y → bit_at broken (p + i) ≡ mark_at breaks.words y (x + i)
  broken_in i some =
      let place : p + i ≡ r * 16 + (x + i) = omega arith in
      ap (bit_at broken) place
      ∙ (bit_at_or (get_or breaks.words k 0) top (r * 16 + (x + i)) ∙ (no_more (bit_at (get_or breaks.words k 0) (r * 16 + (x + i))) (bit_at top (r * 16 + (x + i))) (top_none (x + i) some) ∙ sym (mark_here breaks.words k r (x + i) lr)))

  end_in : (i : ℕ) → bit_at (get_or marks.ends k 0) (p + i) ≡ mark_at marks.ends y (x + i)
  end_in i = let place : p + i ≡ r * 16 + (x + i) = omega arith in ap (bit_at (get_or marks.ends k 0)) place ∙ sym (mark_here marks.ends k r (x + i) lr)

  module _ (begins : begins_run canvas marks.background y x ≡ true) where
    -- In the first row all is broken.
    none_in_first : y ≡ 0 → bit_at word p ≡ 1 → ⊥
    none_in_first e set =
        let here : p + 0 ≡ p = omega arith in
        let top_row : top ≡ 65535 = first (omega (arith, e)) in
        let one : bit_at top p ≡ 1 = ap (λ t. bit_at t p) top_row ∙ bit_at_ones 16 p (omega (arith, e, lx)) in
        let none : bit_at broken p ≡ 0 = ap (bit_at broken) (sym here) ∙ (only p set).none 0 (omega arith) in
        let both = bit_at_or (get_or breaks.words k 0) top p in
        absurd (omega (arith, one, none, both))

    when_above : 0 < y → above ≡ true → bit_at word p ≡ 1
    when_above some e =
        let last : len - 1 + 1 ≡ len = omega (arith, some_len) in
        reached p
        (record {
          far = len - 1;
          near = omega (arith, within, some_len);
          end = end_in (len - 1) ∙ its_end canvas marks are y x (len - 1) row lx last;
          none = λ i le. broken_in i some ∙ joins_unbroken canvas marks are breaks its y x some row lx begins e i (omega (arith, le, some_len));
        })

    above_when : 0 < y → bit_at word p ≡ 1 → above ≡ true
    above_when some set =
        let seen : Reaches broken (get_or marks.ends k 0) p = only p set in
        let far : len ≤ seen.far + 1 = elim (cases_lt (seen.far + 1) len) [
          | inl less ↦ let none = end_in seen.far ∙ no_end canvas marks are y x seen.far row lx less in let one = seen.end in absurd (omega (arith, none, one))
          | inr le ↦ le
        ] in
        unbroken_joins canvas marks are breaks its y x some row lx begins (λ i lt. sym (broken_in i some) ∙ seen.none i (omega (arith, lt, far)))

    word_bit : bit_at word p ≡ bit_of (is_below canvas 16 (run_from canvas 16 y x))
    word_bit = elim (cases_lt 0 y) [
      | inl some ↦ let after : (y == 0) ≡ false = ne_eqb y 0 (λ e. absurd (omega (arith, e, some))) in by_above some above refl ∙ ap (λ b. bit_of (not b && above)) (sym after)
      | inr none ↦ let e : y ≡ 0 = omega (arith, none) in let front : (y == 0) ≡ true = eq-eqb y 0 e in not_set word p (λ set. none_in_first e set) ∙ ap (λ b. bit_of (not b && above)) (sym front)
    ]
      where
        by_above : 0 < y → (b : Bool) → above ≡ b → bit_at word p ≡ bit_of above
        by_above some true e = when_above some e ∙ ap bit_of (sym e)
        by_above some false e = not_set word p (λ set. let f : false ≡ true = sym e ∙ above_when some set in cc) ∙ ap bit_of (sym e)

  begin_bit : bit_at (get_or marks.begins k 0) p ≡ bit_of (begins_run canvas marks.background y x)
  begin_bit = (are k lk).begins r x lr lx

  pub joined_bit : bit_at (bit_and (get_or marks.begins k 0) word) (16 * r + x) ≡ bit_of (joins_at canvas marks.background (4 * k + r) x)
  joined_bit = bit_at_and (get_or marks.begins k 0) word p ∙ by_begins (begins_run canvas marks.background y x) refl
    where
      by_begins : (b : Bool) → begins_run canvas marks.background y x ≡ b → min (bit_at (get_or marks.begins k 0) p) (bit_at word p) ≡ bit_of (joins_at canvas marks.background y x)
      by_begins true e =
          let one : bit_at (get_or marks.begins k 0) p ≡ 1 = begin_bit ∙ ap bit_of e in
          let few = bit_at-lt word p in
          let least : min (bit_at (get_or marks.begins k 0) p) (bit_at word p) ≡ bit_at word p = omega (arith, one, few) in
          least ∙ (word_bit e ∙ ap (λ b. bit_of (b && is_below canvas 16 (run_from canvas 16 y x))) (sym e))
      by_begins false e =
          let none : bit_at (get_or marks.begins k 0) p ≡ 0 = begin_bit ∙ ap bit_of e in
          let least : min (bit_at (get_or marks.begins k 0) p) (bit_at word p) ≡ 0 = omega (arith, none) in
          least ∙ ap (λ b. bit_of (b && is_below canvas 16 (run_from canvas 16 y x))) (sym e)
