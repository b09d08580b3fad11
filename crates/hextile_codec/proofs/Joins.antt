-- Runs of a whole tile that are joined, row after row. `height` follows them down.
use Rattle.std.proofs.Common.{◌≡◌, ℕ, Bool, true, ◌&&◌, ◌||◌, not, refl, sym, ap, ◌∙◌, ◌-◌, ◌<◌, arith}
use Rattle.std.specs.Prelude.{◌==◌}
use Rattle.std.proofs.lemmas.Bool.{and_parts, eqb-true, eq-eqb, ne_eqb}
use Rattle.raster.specs.Screen.{Canvas}
use Rattle.raster.specs.Encoding.{begins_run, run_from}
use Rattle.joined_runs.specs.Joined.{stands_in}
use Rattle.hextile_codec.specs.Places.{joins_at}

all_three : (a b c : Bool) → a ≡ true → b ≡ true → c ≡ true → (a && (b && c)) ≡ true
all_three a b c p q r = rw (p, q, r) refl

module _ (canvas : Canvas) (background y x z : ℕ) (begins : begins_run canvas background y x ≡ true) (some : 0 < z) (above : stands_in canvas 16 (run_from canvas 16 y x) (z - 1) ≡ true) where
  abbrev v : ℕ
  v = canvas x y

  abbrev len_at : ℕ → ℕ
  len_at i = (run_from canvas 16 i x).area.w

  -- Nothing to the left of it has this value.
  abbrev first_of : ℕ → ℕ → Bool
  first_of i u = (x == 0) || not (canvas (x - 1) i == u)

  pub record Stands (i : ℕ) : Type 0 where
    pub value : canvas x i ≡ v
    pub first : first_of i v ≡ true
    pub long : len_at i ≡ len_at y

  parts : (i : ℕ) → stands_in canvas 16 (run_from canvas 16 y x) i ≡ true → Stands i
  parts i e =
      let one = and_parts (canvas x i == v) (first_of i v && (len_at i == len_at y)) e in
      let two = and_parts (first_of i v) (len_at i == len_at y) one.1 in
      record { value = eqb-true (canvas x i) v one.0; first = two.0; long = eqb-true (len_at i) (len_at y) two.1 }

  together : (i : ℕ) → Stands i → stands_in canvas 16 (run_from canvas 16 y x) i ≡ true
  together i s = all_three (canvas x i == v) (first_of i v) (len_at i == len_at y) (eq-eqb (canvas x i) v s.value) s.first (eq-eqb (len_at i) (len_at y) s.long)

  after_top : not (z == 0) ≡ true
  after_top = ap not (ne_eqb z 0 (λ e. absurd (omega (arith, e, some))))

  -- Where it is joined to the row above, which has it, the row has it.
  pub joined_stands : joins_at canvas background z x ≡ true → stands_in canvas 16 (run_from canvas 16 y x) z ≡ true
  joined_stands e =
      let up = parts (z - 1) above in
      let both = and_parts (begins_run canvas background z x) (not (z == 0) && stands_in canvas 16 (run_from canvas 16 z x) (z - 1)) e in
      let begun = and_parts (not (canvas x z == background)) (first_of z (canvas x z)) both.0 in
      let stood = (and_parts (not (z == 0)) (stands_in canvas 16 (run_from canvas 16 z x) (z - 1)) both.1).1 in
      let one = and_parts (canvas x (z - 1) == canvas x z) (first_of (z - 1) (canvas x z) && (len_at (z - 1) == len_at z)) stood in
      let two = and_parts (first_of (z - 1) (canvas x z)) (len_at (z - 1) == len_at z) one.1 in
      let value : canvas x z ≡ v = sym (eqb-true (canvas x (z - 1)) (canvas x z) one.0) ∙ up.value in
      together z (record { value = value; first = ap (first_of z) (sym value) ∙ begun.1; long = sym (eqb-true (len_at (z - 1)) (len_at z) two.1) ∙ up.long })

  -- And the other way round.
  pub stands_joined : stands_in canvas 16 (run_from canvas 16 y x) z ≡ true → joins_at canvas background z x ≡ true
  stands_joined e =
      let up = parts (z - 1) above in
      let here = parts z e in
      let other : not (canvas x z == background) ≡ true = ap (λ u. not (u == background)) here.value ∙ (and_parts (not (v == background)) (first_of y v) begins).0 in
      let begun : begins_run canvas background z x ≡ true = both_true (not (canvas x z == background)) (first_of z (canvas x z)) other (ap (first_of z) here.value ∙ here.first) in
      let stood : stands_in canvas 16 (run_from canvas 16 z x) (z - 1) ≡ true =
      all_three (canvas x (z - 1) == canvas x z) (first_of (z - 1) (canvas x z)) (len_at (z - 1) == len_at z) (eq-eqb (canvas x (z - 1)) (canvas x z) (up.value ∙ sym here.value)) (ap (first_of (z - 1)) here.value ∙ up.first)
      (eq-eqb (len_at (z - 1)) (len_at z) (up.long ∙ sym here.long)) in
      both_true (begins_run canvas background z x) (not (z == 0) && stands_in canvas 16 (run_from canvas 16 z x) (z - 1)) begun (both_true (not (z == 0)) (stands_in canvas 16 (run_from canvas 16 z x) (z - 1)) after_top stood)
    where
      both_true : (a b : Bool) → a ≡ true → b ≡ true → (a && b) ≡ true
      both_true a b p q = rw (p, q) refl
