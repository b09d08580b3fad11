-- A run of a whole tile, in two rows of which one is above the other. Where none of its positions is broken, both have it.
use Rattle.std.proofs.Common.{◌≡◌, ℕ, zero, suc, Bool, true, false, ◌&&◌, ◌||◌, not, get_or, refl, sym, ap, ◌∙◌, ◌+◌, ◌-◌, ◌*◌, ◌/◌, ◌%◌, ◌<◌, ◌≤◌, inl, inr, arith}
use Rattle.std.specs.Prelude.{◌==◌}
use Rattle.std.specs.Int.{bit_at}
use Rattle.std.proofs.lemmas.Bool.{cases_lt, and_parts, eqb-true, eq-eqb, ne_eqb}
use Rattle.std.proofs.Math.Nat.{mod-lt, mod-add-div'}
use Rattle.raster.specs.Screen.{Canvas}
use Rattle.raster.specs.Encoding.{begins_run, run_from}
use Rattle.raster.proofs.Runs.{run_within, run_some, front_passes, front_stops}
use Rattle.joined_runs.specs.Joined.{stands_in}
use Rattle.hextile_codec.specs.declared.breaks.Breaks.{Breaks}
use Rattle.hextile_codec.specs.declared.tile_marks.TileMarks.{TileMarks}
use Rattle.hextile_codec.specs.Bits.{bit_of}
use Rattle.hextile_codec.specs.Breaks.{AreBreaks, mark_at}
use Rattle.hextile_codec.specs.TileMarks.{AreTileMarks}
use Rattle.hextile_codec.proofs.Heights.{stands_by}

bit_same : (a b : Bool) → bit_of a ≡ bit_of b → a ≡ b
bit_same true true e = refl
bit_same false false e = refl
bit_same true false e = absurd cc
bit_same false true e = absurd cc

module _ (canvas : Canvas) (marks : TileMarks) (are : AreTileMarks canvas marks.background marks) where
  whole : (y : ℕ) → 4 * (y / 4) + y % 4 ≡ y
  whole y = let e = mod-add-div' y 4 in omega (arith, e)

  low : (y : ℕ) → y % 4 < 4
  low y = mod-lt y (omega arith)

  word : (y : ℕ) → y < 16 → y / 4 < 4
  word y lt = let w = whole y in omega (arith, w, lt)

  -- The bits of marks, by the rows that they stand for.
  begin_at : (y x : ℕ) → y < 16 → x < 16 → mark_at marks.begins y x ≡ bit_of (begins_run canvas marks.background y x)
  begin_at y x ly lx =
      let place : 16 * (y % 4) + x ≡ y % 4 * 16 + x = omega arith in
      ap (bit_at (get_or marks.begins (y / 4) 0)) (sym place) ∙ ((are (y / 4) (word y ly)).begins (y % 4) x (low y) lx ∙ ap (λ i. bit_of (begins_run canvas marks.background i x)) (whole y))

  end_at : (y x : ℕ) → y < 16 → x + 1 < 16 → mark_at marks.ends y x ≡ bit_of (not (canvas x y == canvas (x + 1) y))
  end_at y x ly lx =
      let place : 16 * (y % 4) + x ≡ y % 4 * 16 + x = omega arith in
      ap (bit_at (get_or marks.ends (y / 4) 0)) (sym place) ∙ ((are (y / 4) (word y ly)).ends (y % 4) x (low y) lx ∙ ap (λ i. bit_of (not (canvas x i == canvas (x + 1) i))) (whole y))

  end_last : (y : ℕ) → y < 16 → mark_at marks.ends y 15 ≡ 1
  end_last y ly =
      let place : 16 * (y % 4) + 15 ≡ y % 4 * 16 + 15 = omega arith in
      ap (bit_at (get_or marks.ends (y / 4) 0)) (sym place) ∙ (are (y / 4) (word y ly)).last (y % 4) (low y)

  abbrev len_at : ℕ → ℕ → ℕ
  len_at y x = (run_from canvas 16 y x).area.w

  -- Inside a run all values are the same.
  along : (y x i : ℕ) → i < len_at y x → canvas (x + i) y ≡ canvas x y
  along y x i lt = eqb-true (canvas (x + i) y) (canvas x y) (front_passes (λ k. canvas k y == canvas x y) x (16 - x) (x + i) (omega arith) (omega (arith, lt)))

  -- None ends inside it, and it ends at its last position.
  pub no_end : (y x i : ℕ) → y < 16 → x < 16 → i + 1 < len_at y x → mark_at marks.ends y (x + i) ≡ 0
  no_end y x i ly lx lt =
      let within = run_within canvas 16 y x lx in
      let next : x + i + 1 ≡ x + (i + 1) = omega arith in
      let here : canvas (x + i) y ≡ canvas x y = along y x i (omega (arith, lt)) in
      let there : canvas (x + i + 1) y ≡ canvas x y = ap (λ k. canvas k y) next ∙ along y x (i + 1) lt in
      end_at y (x + i) ly (omega (arith, lt, within)) ∙ ap (λ b. bit_of (not b)) (eq-eqb (canvas (x + i) y) (canvas (x + i + 1) y) (here ∙ sym there))

  pub its_end : (y x i : ℕ) → y < 16 → x < 16 → i + 1 ≡ len_at y x → mark_at marks.ends y (x + i) ≡ 1
  its_end y x i ly lx e =
      let within = run_within canvas 16 y x lx in
      elim (cases_lt (x + i + 1) 16) [
        | inl inside ↦
            let next : x + len_at y x ≡ x + i + 1 = omega (arith, e) in
            let stops : (canvas (x + i + 1) y == canvas x y) ≡ false = ap (λ k. canvas k y == canvas x y) (sym next) ∙ front_stops (λ k. canvas k y == canvas x y) x (16 - x) (omega (arith, e, inside)) in
            let here : canvas (x + i) y ≡ canvas x y = along y x i (omega (arith, e)) in
            let apart : (canvas (x + i) y == canvas (x + i + 1) y) ≡ false =
            ne_eqb (canvas (x + i) y) (canvas (x + i + 1) y) (λ same. let t : true ≡ false = sym (eq-eqb (canvas (x + i + 1) y) (canvas x y) (sym same ∙ here)) ∙ stops in cc) in
            end_at y (x + i) ly inside ∙ ap (λ b. bit_of (not b)) apart
        | inr last ↦ let place : x + i ≡ 15 = omega (arith, e, last, within) in ap (mark_at marks.ends y) place ∙ end_last y ly
      ]

  -- No run begins inside it.
  no_begin : (y x i : ℕ) → y < 16 → x < 16 → suc i < len_at y x → mark_at marks.begins y (x + suc i) ≡ 0
  no_begin y x i ly lx lt =
      let within = run_within canvas 16 y x lx in
      let back : x + suc i - 1 ≡ x + i = omega arith in
      let some : (x + suc i == 0) ≡ false = ne_eqb (x + suc i) 0 (λ e. absurd (omega (arith, e))) in
      let before : canvas (x + suc i - 1) y ≡ canvas (x + suc i) y = ap (λ k. canvas k y) back ∙ (along y x i (omega (arith, lt)) ∙ sym (along y x (suc i) lt)) in
      let same : (canvas (x + suc i - 1) y == canvas (x + suc i) y) ≡ true = eq-eqb (canvas (x + suc i - 1) y) (canvas (x + suc i) y) before in
      begin_at y (x + suc i) ly (omega (arith, lt, within)) ∙ ap bit_of (neither (not (canvas (x + suc i) y == marks.background)) (x + suc i == 0) (canvas (x + suc i - 1) y == canvas (x + suc i) y) some same)
    where
      neither : (a b c : Bool) → b ≡ false → c ≡ true → (a && (b || not c)) ≡ false
      neither true b c p q = rw (p, q) refl
      neither false b c p q = refl

  -- Two rows of which one is above the other, and a run that the one has.
  module _ (v x len : ℕ) (other : v ≡ marks.background → ⊥) (column : x < 16) where
    abbrev stands : ℕ → Bool
    stands y = ((canvas x y == v) && (((x == 0) || not (canvas (x - 1) y == v)) && (len_at y x == len)))

    by_marks : (y : ℕ) → (((canvas x y == v) && begins_run canvas marks.background y x) && (len_at y x == len)) ≡ stands y
    by_marks y = stands_by canvas marks.background v x y len other

    pub record IsIn (y : ℕ) : Type 0 where
      pub value : canvas x y ≡ v
      pub begins : begins_run canvas marks.background y x ≡ true
      pub long : len_at y x ≡ len

    parts : (y : ℕ) → stands y ≡ true → IsIn y
    parts y e =
        let all = and_parts ((canvas x y == v) && begins_run canvas marks.background y x) (len_at y x == len) (by_marks y ∙ e) in
        let two = and_parts (canvas x y == v) (begins_run canvas marks.background y x) all.0 in
        record { value = eqb-true (canvas x y) v two.0; begins = two.1; long = eqb-true (len_at y x) len all.1 }

    together : (y : ℕ) → IsIn y → stands y ≡ true
    together y is = sym (by_marks y) ∙ all_true (canvas x y == v) (begins_run canvas marks.background y x) (len_at y x == len) (eq-eqb (canvas x y) v is.value) is.begins (eq-eqb (len_at y x) len is.long)
      where
        all_true : (a b c : Bool) → a ≡ true → b ≡ true → c ≡ true → ((a && b) && c) ≡ true
        all_true a b c p q r = rw (p, q, r) refl

    -- At each of its positions the rows have the same value and marks.
    abbrev AreAlike : ℕ → ℕ → Type 0
    AreAlike y z = (i : ℕ) → i < len → (canvas (x + i) y ≡ canvas (x + i) z) × (mark_at marks.begins y (x + i) ≡ mark_at marks.begins z (x + i)) × (mark_at marks.ends y (x + i) ≡ mark_at marks.ends z (x + i))

    pub both_alike : (y z : ℕ) → y < 16 → z < 16 → stands y ≡ true → stands z ≡ true → AreAlike y z
    both_alike y z ly lz sy sz i lt =
        let a = parts y sy in
        let b = parts z sz in
        let ia : i < len_at y x = rw a.long lt in
        let ib : i < len_at z x = rw b.long lt in (
          along y x i ia ∙ (a.value ∙ sym (along z x i ib ∙ b.value)),
          begins_alike i ia ib a b,
          elim (cases_lt (i + 1) len) [
            | inl less ↦ no_end y x i ly column (rw a.long less) ∙ sym (no_end z x i lz column (rw b.long less))
            | inr le ↦
                let last : i + 1 ≡ len = omega (arith, lt, le) in
                its_end y x i ly column (last ∙ sym a.long) ∙ sym (its_end z x i lz column (last ∙ sym b.long))
          ],
        )
      where
        begins_alike : (i : ℕ) → i < len_at y x → i < len_at z x → IsIn y → IsIn z → mark_at marks.begins y (x + i) ≡ mark_at marks.begins z (x + i)
        begins_alike zero ia ib a b =
            let here : x + zero ≡ x = omega arith in
            ap (mark_at marks.begins y) here ∙ (begin_at y x ly column ∙ (ap bit_of (a.begins ∙ sym b.begins) ∙ sym (ap (mark_at marks.begins z) here ∙ begin_at z x lz column)))
        begins_alike (suc i) ia ib a b = no_begin y x i ly column ia ∙ sym (no_begin z x i lz column ib)

    pub alike_both : (y z : ℕ) → y < 16 → z < 16 → 0 < len → stands y ≡ true → AreAlike y z → stands z ≡ true
    alike_both y z ly lz some sy all =
        let a = parts y sy in
        let here : x + 0 ≡ x = omega arith in
        let first = all 0 some in
        let value : canvas x z ≡ v = ap (λ k. canvas k z) (sym here) ∙ (sym first.0 ∙ (ap (λ k. canvas k y) here ∙ a.value)) in
        let begins : begins_run canvas marks.background z x ≡ true =
        bit_same (begins_run canvas marks.background z x) true
        (sym (begin_at z x lz column) ∙ (ap (mark_at marks.begins z) (sym here) ∙ (sym first.1 ∙ (ap (mark_at marks.begins y) here ∙ (begin_at y x ly column ∙ ap bit_of a.begins))))) in
        let n : ℕ = len_at z x in
        let more = run_some canvas 16 z x column in
        let back : n - 1 + 1 ≡ n = omega (arith, more) in
        let last : len - 1 + 1 ≡ len = omega (arith, some) in
        let long : n ≡ len = elim (cases_lt n len) [
          | inl less ↦
              let one : mark_at marks.ends z (x + (n - 1)) ≡ 1 = its_end z x (n - 1) lz column back in
              let none : mark_at marks.ends y (x + (n - 1)) ≡ 0 = no_end y x (n - 1) ly column (rw a.long (omega (arith, back, less))) in
              let same = (all (n - 1) (omega (arith, less, more))).2 in
              absurd (omega (arith, one, none, same))
          | inr ge ↦ elim (cases_lt len n) [
            | inl greater ↦
                let one : mark_at marks.ends y (x + (len - 1)) ≡ 1 = its_end y x (len - 1) ly column (last ∙ sym a.long) in
                let none : mark_at marks.ends z (x + (len - 1)) ≡ 0 = no_end z x (len - 1) lz column (omega (arith, last, greater)) in
                let same = (all (len - 1) (omega (arith, some))).2 in
                absurd (omega (arith, one, none, same))
            | inr le ↦ omega (arith, ge, le)
          ]
        ] in
        together z (record { value = value; begins = begins; long = long })

-- ---- breaks

-- A run that begins in a row stands there.
pub its_row : (canvas : Canvas) (background y x : ℕ) → begins_run canvas background y x ≡ true → stands_in canvas 16 (run_from canvas 16 y x) y ≡ true
its_row canvas background y x b =
    let v : ℕ = canvas x y in
    let value : (v == v) ≡ true = eq-eqb v v refl in
    let len : ((run_from canvas 16 y x).area.w == (run_from canvas 16 y x).area.w) ≡ true = eq-eqb (run_from canvas 16 y x).area.w (run_from canvas 16 y x).area.w refl in
    let left = (and_parts (not (v == background)) ((x == 0) || not (canvas (x - 1) y == v)) b).1 in
    three (v == v) ((x == 0) || not (canvas (x - 1) y == v)) ((run_from canvas 16 y x).area.w == (run_from canvas 16 y x).area.w) value left len
  where
    three : (a b c : Bool) → a ≡ true → b ≡ true → c ≡ true → (a && (b && c)) ≡ true
    three a b c p q r = rw (p, q, r) refl

module _ (canvas : Canvas) (marks : TileMarks) (are : AreTileMarks canvas marks.background marks) (breaks : Breaks) (its : AreBreaks canvas marks breaks) (y x : ℕ) (some : 0 < y) (row : y < 16) (column : x < 16) (begins : begins_run canvas marks.background y x ≡ true) where
  abbrev len : ℕ
  len = (run_from canvas 16 y x).area.w

  other : canvas x y ≡ marks.background → ⊥
  other same = let apart : false ≡ true = sym (ap not (eq-eqb (canvas x y) marks.background same)) ∙ (and_parts (not (canvas x y == marks.background)) ((x == 0) || not (canvas (x - 1) y == canvas x y)) begins).0 in cc

  inside : x + len ≤ 16
  inside = run_within canvas 16 y x column

  before : y - 1 < 16
  before = omega (arith, row)

  -- The row above has a run, too, if none of its positions is broken; and the other way round.
  pub unbroken_joins : ((i : ℕ) → i < len → mark_at breaks.words y (x + i) ≡ 0) → stands_in canvas 16 (run_from canvas 16 y x) (y - 1) ≡ true
  unbroken_joins none =
      alike_both canvas marks are (canvas x y) x len other column y (y - 1) row before (run_some canvas 16 y x column) (its_row canvas marks.background y x begins) (λ i lt. its.none y (x + i) some row (omega (arith, lt, inside)) (none i lt))

  pub joins_unbroken : stands_in canvas 16 (run_from canvas 16 y x) (y - 1) ≡ true → (i : ℕ) → i < len → mark_at breaks.words y (x + i) ≡ 0
  joins_unbroken there i lt =
      its.only y (x + i) some row (omega (arith, lt, inside)) (both_alike canvas marks are (canvas x y) x len other column y (y - 1) row before (its_row canvas marks.background y x begins) there i lt)
