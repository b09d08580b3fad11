-- Words of four rows each: their bits by rows and columns, and the marks that they make.
use Rattle.std.proofs.Common.{◌≡◌, ℕ, suc, min, Bool, true, false, ◌&&◌, ◌||◌, not, List, ◌++◌, length, get_or, refl, sym, ap, ◌∙◌, ◌+◌, ◌-◌, ◌*◌, ◌/◌, ◌%◌, ◌^◌, ◌<◌, arith}
use Rattle.std.specs.Prelude.{◌==◌, count_ones, filter}
use Rattle.std.specs.Int.{bit_at}
use Rattle.std.specs.Int.Bits.{bit_and, bit_or}
use Rattle.std.specs.List.{flat_map, range_with_len}
use Rattle.std.proofs.lemmas.Bool.{ne_eqb}
use Rattle.std.proofs.lemmas.Grind.{flat_map-append}
use Rattle.std.proofs.lemmas.List.{length-map}
use Rattle.std.proofs.lemmas.Nat.{and_le_l, or_lt}
use Rattle.std.proofs.lemmas.Nat.Bits.{bit_at_and, bit_at_or, bit_at-suc, bit_at-pow_other, bit_at-pow_same, bit_at-lt}
use Rattle.std.proofs.Math.Nat.{mod-lt, mod-add-div', div-le_self}
use Rattle.raster.specs.Screen.{Canvas}
use Rattle.raster.specs.Encoding.{Subrect, runs_of_row}
use Rattle.joined_runs.specs.declared.rect_form.RectForm.TheVariants.{Joined}
use Rattle.joined_runs.specs.Joined.{joined_runs, runs_over, written}
use Rattle.joined_runs.proofs.WrittenParts.{written_append}
use Rattle.hextile_codec.specs.declared.marking.Marks.{Marks}
use Rattle.hextile_codec.specs.Bits.{bit_of}
use Rattle.hextile_codec.specs.Marks.{AreMarks, runs_of_rows}
use Rattle.hextile_codec.specs.Places.{AreBits, AreChanges, AreOthers, changes_at}
use Rattle.hextile_codec.proofs.BreakBits.{mark_here}
use Rattle.hextile_codec.proofs.MarkedRuns.{all_behind, begin_marked, begins_at, range_split, run_at}
use Rattle.hextile_codec.proofs.MaskBits.{no_more}
use Rattle.hextile_codec.proofs.RowMarks.{by_four}
use Rattle.hextile_codec.proofs.Tallies.{tally_filter, tally_ones}

pub are_bits : (test : ℕ → ℕ → Bool) (words : List ℕ) → ((k : ℕ) → k < 4 → (r x : ℕ) → r < 4 → x < 16 → bit_at (get_or words k 0) (16 * r + x) ≡ bit_of (test (4 * k + r) x)) → ((k : ℕ) → k < 4 → get_or words k 0 < 2 ^ 64) → AreBits test words
are_bits test words all few =
    record {
      bits = λ y x ly lx.
          let split = mod-add-div' y 4 in
          let whole : 4 * (y / 4) + y % 4 ≡ y = omega (arith, split) in
          let place : y % 4 * 16 + x ≡ 16 * (y % 4) + x = omega arith in
          ap (bit_at (get_or words (y / 4) 0)) place ∙ (all (y / 4) (omega (arith, ly, whole)) (y % 4) x (mod-lt y (omega arith)) lx ∙ ap (λ i. bit_of (test i x)) whole);
      few = few;
    }

-- Those of one word.
pub bit_here : (test : ℕ → ℕ → Bool) (words : List ℕ) → AreBits test words → (k r x : ℕ) → k < 4 → r < 4 → x < 16 → bit_at (get_or words k 0) (16 * r + x) ≡ bit_of (test (4 * k + r) x)
bit_here test words are k r x lk lr lx =
    let place : 16 * r + x ≡ r * 16 + x = omega arith in
    ap (bit_at (get_or words k 0)) place ∙ (sym (mark_here words k r x lr) ∙ are.bits (4 * k + r) x (omega (arith, lk, lr)) lx)

-- ---- marks over a background

both_bits : (a b : Bool) → min (bit_of a) (bit_of b) ≡ bit_of (b && a)
both_bits true true = refl
both_bits true false = refl
both_bits false true = refl
both_bits false false = refl

module _ (canvas : Canvas) (background : ℕ) (changes others : List ℕ) (ch : AreChanges canvas changes) (ot : AreOthers canvas background others) (k : ℕ) (lk : k < 4) where
  abbrev change : ℕ
  change = get_or changes k 0

  abbrev other : ℕ
  other = get_or others k 0

  abbrev last_bit : ℕ
  last_bit = 9223372036854775808

  abbrev ends : ℕ
  ends = bit_or (change / 2) last_bit

  changed : (r x : ℕ) → r < 4 → x < 16 → bit_at change (16 * r + x) ≡ bit_of (changes_at canvas (4 * k + r) x)
  changed r x lr lx = bit_here (changes_at canvas) changes ch k r x lk lr lx

  end_bit : (r x : ℕ) → r < 4 → x + 1 < 16 → bit_at ends (16 * r + x) ≡ bit_of (not (canvas x (4 * k + r) == canvas (x + 1) (4 * k + r)))
  end_bit r x lr lt =
      let p : ℕ = 16 * r + x in
      let none : bit_at last_bit p ≡ 0 = bit_at-pow_other 63 p (λ e. absurd (omega (arith, e, lt, lr))) in
      let next : suc p ≡ 16 * r + (x + 1) = omega arith in
      let after : (x + 1 == 0) ≡ false = ne_eqb (x + 1) 0 (λ e. absurd (omega (arith, e))) in
      let back : x + 1 - 1 ≡ x = omega arith in
      let is : changes_at canvas (4 * k + r) (x + 1) ≡ not (canvas x (4 * k + r) == canvas (x + 1) (4 * k + r)) =
      ap (λ b. b || not (canvas (x + 1 - 1) (4 * k + r) == canvas (x + 1) (4 * k + r))) after ∙ ap (λ i. not (canvas i (4 * k + r) == canvas (x + 1) (4 * k + r))) back in
      bit_at_or (change / 2) last_bit p ∙ (no_more (bit_at (change / 2) p) (bit_at last_bit p) none ∙ (sym (bit_at-suc change p) ∙ (ap (bit_at change) next ∙ (changed r (x + 1) lr lt ∙ ap bit_of is))))

  row_end : (r : ℕ) → r < 3 → bit_at ends (16 * r + 15) ≡ 1
  row_end r lt =
      let p : ℕ = 16 * r + 15 in
      let next : suc p ≡ 16 * (r + 1) + 0 = omega arith in
      let one : bit_at (change / 2) p ≡ 1 = sym (bit_at-suc change p) ∙ (ap (bit_at change) next ∙ changed (r + 1) 0 (omega (arith, lt)) (omega arith)) in
      let few = bit_at-lt last_bit p in
      bit_at_or (change / 2) last_bit p ∙ omega (arith, one, few)

  top_end : bit_at ends 63 ≡ 1
  top_end =
      let one : bit_at last_bit 63 ≡ 1 = bit_at-pow_same 63 in
      let few = bit_at-lt (change / 2) 63 in
      bit_at_or (change / 2) last_bit 63 ∙ omega (arith, one, few)

  pub word_marks : AreMarks canvas background (4 * k) (record { background = background; begins = bit_and change other; ends = ends })
  word_marks =
      record {
        begins = λ r x lr lx.
            bit_at_and change other (16 * r + x)
            ∙ (ap (λ n. min n (bit_at other (16 * r + x))) (changed r x lr lx)
            ∙ (ap (λ n. min (bit_of (changes_at canvas (4 * k + r) x)) n) (bit_here (λ y x. not (canvas x y == background)) others ot k r x lk lr lx) ∙ both_bits (changes_at canvas (4 * k + r) x) (not (canvas x (4 * k + r) == background))));
        ends = end_bit;
        last = λ r lr. by_four (λ r. bit_at ends (16 * r + 15) ≡ 1) (row_end 0 (omega arith)) (row_end 1 (omega arith)) (row_end 2 (omega arith)) top_end r lr;
        few = let le = and_le_l change other in let fits = ch.few k lk in omega (arith, le, fits);
        small = or_lt 64 (change / 2) last_bit (let le = div-le_self change 2 in let fits = ch.few k lk in omega (arith, le, fits)) (omega arith);
      }

-- ---- the runs of four words

module _ (canvas : Canvas) (background : ℕ) where
  pub rows_split : (y n m : ℕ) → runs_of_rows canvas background 16 y (n + m) ≡ runs_of_rows canvas background 16 y n ++ runs_of_rows canvas background 16 (y + n) m
  rows_split y n m = ap (flat_map (runs_of_row canvas background 16)) (range_split y n m) ∙ flat_map-append (runs_of_row canvas background 16) (range_with_len y n) (range_with_len (y + n) m)

  abbrev four : ℕ → List Subrect
  four y = runs_of_rows canvas background 16 y 4

  pub four_fours : runs_over canvas background 16 16 ≡ four 0 ++ (four 4 ++ (four 8 ++ four 12))
  four_fours = rows_split 0 4 12 ∙ ap (λ t. four 0 ++ t) (rows_split 4 4 8 ∙ ap (λ t. four 4 ++ t) (rows_split 8 4 4))

  pub joined_fours : joined_runs canvas background 16 16 ≡ written Joined canvas 16 16 (four 0) ++ (written Joined canvas 16 16 (four 4) ++ (written Joined canvas 16 16 (four 8) ++ written Joined canvas 16 16 (four 12)))
  joined_fours =
      let form : List Subrect → List Subrect = written Joined canvas 16 16 in
      ap form four_fours
      ∙ (written_append canvas 16 16 Joined (four 0) (four 4 ++ (four 8 ++ four 12))
      ∙ ap (λ t. form (four 0) ++ t) (written_append canvas 16 16 Joined (four 4) (four 8 ++ four 12) ∙ ap (λ t. form (four 4) ++ t) (written_append canvas 16 16 Joined (four 8) (four 12))))

  -- A word has a bit for each of its runs.
  pub word_count : (y : ℕ) (marks : Marks) → AreMarks canvas background y marks → count_ones marks.begins ≡ length (four y)
  word_count y marks are =
      let bits : (x : ℕ) → x < 64 → bit_at marks.begins x ≡ bit_of (begins_at canvas background y (0 + x)) = λ x lx. let here : x ≡ 0 + x = omega arith in begin_marked canvas background y marks are x lx ∙ ap (λ p. bit_of (begins_at canvas background y p)) here in
      tally_ones (begins_at canvas background y) 0 64 marks.begins are.few bits
      ∙ (sym (tally_filter (begins_at canvas background y) 0 64)
      ∙ (sym (length-map (filter (begins_at canvas background y) (range_with_len 0 64)) (run_at canvas y)) ∙ ap length (all_behind canvas background y)))
