-- The joined runs, drawn over their background, give the canvas back. So they may be written in place of the runs of
-- rows, and nothing that reads them has to know.
use Rattle.std.proofs.Common.{◌≡◌, ℕ, zero, suc, Bool, true, false, ◌||◌, ◌&&◌, not, List, length, refl, sym, ap, ◌∙◌, ◌+◌, ◌-◌, ◌<◌, ◌≤◌, arith, inl, inr}
use Rattle.std.specs.Prelude.{filter, ◌==◌, take_while}
use Rattle.std.specs.List.{range_with_len}
use Rattle.std.proofs.lemmas.Bool.{cases_lt, cases_eq, eq-eqb, eqb-true, and_parts, and_from, cases_Bool}
use Rattle.raster.specs.Screen.{Canvas, LooksLike}
use Rattle.raster.specs.Encoding.{Subrect, drawn, begins_run, run_from}
use Rattle.raster.proofs.Spellings.{Each, each_map, each_filter}
use Rattle.raster.proofs.Places.{Has, has_holds, holds_has}
use Rattle.raster.proofs.Runs.{SomeOf, some_map, some_filter, some_weaker, Agrees, HoldsHere, drawn_agrees, front_passes, front_within, front_reaches, run_agrees, started, run_reaches, each_run_over, some_run_over}
use Rattle.joined_runs.specs.Joined.{runs_over, stands_in, is_below, with_below, joined_runs}

-- What a row has where a run stands in it too.
pub record StandsIn (canvas : Canvas) (w : ℕ) (run : Subrect) (y : ℕ) : Type 0 where
  pub value : canvas run.area.x y ≡ run.value
  pub left : ((run.area.x == 0) || not (canvas (run.area.x - 1) y == run.value)) ≡ true
  pub width : (run_from canvas w y run.area.x).area.w ≡ run.area.w

pub stands_parts : (canvas : Canvas) (w : ℕ) (run : Subrect) (y : ℕ) → stands_in canvas w run y ≡ true → StandsIn canvas w run y
stands_parts canvas w run y e =
    let a = and_parts (canvas run.area.x y == run.value) (((run.area.x == 0) || not (canvas (run.area.x - 1) y == run.value)) && ((run_from canvas w y run.area.x).area.w == run.area.w)) e in
    let b = and_parts ((run.area.x == 0) || not (canvas (run.area.x - 1) y == run.value)) ((run_from canvas w y run.area.x).area.w == run.area.w) a.1 in
    record { value = eqb-true (canvas run.area.x y) run.value a.0; left = b.0; width = eqb-true (run_from canvas w y run.area.x).area.w run.area.w b.1 }

pub stands_from : (canvas : Canvas) (w : ℕ) (run : Subrect) (y : ℕ) → StandsIn canvas w run y → stands_in canvas w run y ≡ true
stands_from canvas w run y s =
    and_from (canvas run.area.x y == run.value) (((run.area.x == 0) || not (canvas (run.area.x - 1) y == run.value)) && ((run_from canvas w y run.area.x).area.w == run.area.w)) (eq-eqb (canvas run.area.x y) run.value s.value)
    (and_from ((run.area.x == 0) || not (canvas (run.area.x - 1) y == run.value)) ((run_from canvas w y run.area.x).area.w == run.area.w) s.left (eq-eqb (run_from canvas w y run.area.x).area.w run.area.w s.width))

module _ (canvas : Canvas) (background w h : ℕ) where
  -- How many rows below have the run.
  abbrev below : Subrect → ℕ
  below run = length (take_while (stands_in canvas w run) (range_with_len (run.area.y + 1) (h - (run.area.y + 1))))

  -- ---- where a joined run holds a position it has the canvas's value

  one_row : (x0 y0 x y : ℕ) → x0 ≤ x → x < x0 + (run_from canvas w y0 x0).area.w → y ≡ y0 → canvas x0 y0 ≡ canvas x y
  one_row x0 y0 x y lo hi e =
      run_agrees canvas w y0 x0 x y (holds_has (run_from canvas w y0 x0).area x y (record { left = lo; right = hi; top = omega (arith, e); bottom = omega (arith, e) }))

  pub joined_agrees : (x0 y0 x y : ℕ) → Agrees canvas x y (with_below canvas w h (run_from canvas w y0 x0))
  joined_agrees x0 y0 x y e =
      let run : Subrect = run_from canvas w y0 x0 in
      let in_it : Has (with_below canvas w h run).area x y = has_holds (with_below canvas w h run).area x y e in
      elim (cases_eq y y0) [
        | inl first ↦ one_row x0 y0 x y in_it.left in_it.right first
        | inr lower ↦
            let stands : stands_in canvas w run y ≡ true = front_passes (stands_in canvas w run) (y0 + 1) (h - (y0 + 1)) y (omega (arith, in_it.top)) (omega (arith, in_it.bottom)) in
            let parts : StandsIn canvas w run y = stands_parts canvas w run y stands in
            sym parts.value ∙ one_row x0 y x y in_it.left (rw parts.width in_it.right) refl
      ]

  -- ---- each run is joined to one that reaches it

  -- A run that has the ends and value of another, begins in its row or above, and stands in each row between.
  record Reaches (other : Subrect) (y : ℕ) (run : Subrect) : Type 0 where
    x : run.area.x ≡ other.area.x
    width : run.area.w ≡ other.area.w
    value : run.value ≡ other.value
    above : run.area.y ≤ y
    stands : (k : ℕ) → run.area.y < k → k ≤ y → stands_in canvas w run k ≡ true

  stands_as : (run other : Subrect) (y : ℕ) → run.area.x ≡ other.area.x → run.area.w ≡ other.area.w → run.value ≡ other.value → stands_in canvas w run y ≡ stands_in canvas w other y
  stands_as run other y a b c =
      ap (λ x. (canvas x y == run.value) && (((x == 0) || not (canvas (x - 1) y == run.value)) && ((run_from canvas w y x).area.w == run.area.w))) a
      ∙ (ap (λ n. (canvas other.area.x y == run.value) && (((other.area.x == 0) || not (canvas (other.area.x - 1) y == run.value)) && ((run_from canvas w y other.area.x).area.w == n))) b
      ∙ ap (λ v. (canvas other.area.x y == v) && (((other.area.x == 0) || not (canvas (other.area.x - 1) y == v)) && ((run_from canvas w y other.area.x).area.w == other.area.w))) c)

  -- A run stands in its own row.
  stands_itself : (x y : ℕ) → begins_run canvas background y x ≡ true → stands_in canvas w (run_from canvas w y x) y ≡ true
  stands_itself x y b =
      let parts = and_parts (not (canvas x y == background)) ((x == 0) || not (canvas (x - 1) y == canvas x y)) b in
      stands_from canvas w (run_from canvas w y x) y (record { value = refl; left = parts.1; width = refl })

  -- Where the row above has the run, one begins there.
  begins_above : (x y k : ℕ) → begins_run canvas background y x ≡ true → StandsIn canvas w (run_from canvas w y x) k → begins_run canvas background k x ≡ true
  begins_above x y k b s =
      let parts = and_parts (not (canvas x y == background)) ((x == 0) || not (canvas (x - 1) y == canvas x y)) b in
      let left : ((x == 0) || not (canvas (x - 1) k == canvas x k)) ≡ true = ap (λ v. (x == 0) || not (canvas (x - 1) k == v)) s.value ∙ s.left in
      and_from (not (canvas x k == background)) ((x == 0) || not (canvas (x - 1) k == canvas x k)) (ap (λ v. not (v == background)) s.value ∙ parts.0) left

  abbrev tops : List Subrect
  tops = filter (λ run. not (is_below canvas w run)) (runs_over canvas background w h)

  not_false : (b : Bool) → b ≡ false → not b ≡ true
  not_false true e = absurd cc
  not_false false e = refl

  no_row_above : (b : Bool) → (not true && b) ≡ true → ⊥
  no_row_above b e = cc

  reached : (x y : ℕ) → x < w → y < h → begins_run canvas background y x ≡ true → SomeOf (Reaches (run_from canvas w y x) y) tops
  reached x zero lx ly b =
      some_filter (Reaches (run_from canvas w 0 x) 0) (λ run. not (is_below canvas w run)) (runs_over canvas background w h)
      (some_run_over canvas background w h x 0 (λ run. (not (is_below canvas w run) ≡ true) × Reaches (run_from canvas w 0 x) 0 run) lx ly b
      (refl, record { x = refl; width = refl; value = refl; above = omega arith; stands = λ k lo hi. absurd (omega arith) }))
  reached x (suc y) lx ly b =
      elim (cases_Bool (is_below canvas w (run_from canvas w (suc y) x))) [
        | inl joined ↦
            let back : suc y - 1 ≡ y = omega arith in
            let run : Subrect = run_from canvas w (suc y) x in
            let stands : stands_in canvas w run y ≡ true = rw back at (and_parts (not (suc y == 0)) (stands_in canvas w run (suc y - 1)) joined).1 in
            let s : StandsIn canvas w run y = stands_parts canvas w run y stands in
            let above = reached x y lx (omega arith) (begins_above x (suc y) y b s) in
            some_weaker (Reaches (run_from canvas w y x) y) (Reaches run (suc y)) tops (λ other r. record {
              x = r.x;
              width = r.width ∙ s.width;
              value = r.value ∙ s.value;
              above = omega (arith, r.above);
              stands = λ k lo hi. elim (cases_lt k (suc y)) [
                | inl lt ↦ r.stands k lo (omega arith)
                | inr ge ↦ let last : k ≡ suc y = omega arith in rw last (stands_as other run (suc y) r.x (r.width ∙ s.width) (r.value ∙ s.value) ∙ stands_itself x (suc y) b)
              ];
            }) above
        | inr top ↦
            some_filter (Reaches (run_from canvas w (suc y) x) (suc y)) (λ run. not (is_below canvas w run)) (runs_over canvas background w h)
            (some_run_over canvas background w h x (suc y) (λ run. (not (is_below canvas w run) ≡ true) × Reaches (run_from canvas w (suc y) x) (suc y) run) lx ly b
            (not_false (is_below canvas w (run_from canvas w (suc y) x)) top, record { x = refl; width = refl; value = refl; above = omega arith; stands = λ k lo hi. absurd (omega arith) }))
      ]

  -- So it holds each position of it.
  reaches_down : (other run : Subrect) (y : ℕ) → y < h → Reaches other y run → y < run.area.y + (1 + below run)
  reaches_down other run y ly r =
      let f : y - run.area.y ≤ below run = front_reaches (stands_in canvas w run) (run.area.y + 1) (h - (run.area.y + 1)) (y - run.area.y) (omega (arith, r.above)) (λ k lo hi. r.stands k (omega arith) (omega (arith, r.above))) in
      omega (arith, f, r.above)

  pub joined_hold : (x y : ℕ) → x < w → y < h → (canvas x y ≡ background → ⊥) → SomeOf (HoldsHere x y) (joined_runs canvas background w h)
  joined_hold x y lx ly ne =
      let t = started canvas background y x ne in
      let other : Subrect = run_from canvas w y t.0 in
      let right : x < t.0 + other.area.w = run_reaches canvas w y x t.0 background lx t.1 in
      some_map (HoldsHere x y) (with_below canvas w h) tops
      (some_weaker (Reaches other y) (λ run. HoldsHere x y (with_below canvas w h run)) tops (λ run r.
      holds_has (with_below canvas w h run).area x y (record { left = omega (arith, r.x, t.1.before); right = omega (arith, r.x, r.width, right); top = r.above; bottom = reaches_down other run y ly r }))
      (reached t.0 y (omega (arith, t.1.before)) ly t.1.begins))

  -- ---- all of them

  -- What holds of each run of a position where one begins, joined with those below it, holds of each.
  pub each_joined : (P : Subrect → Type 0) → ((x y : ℕ) → x < w → y < h → P (with_below canvas w h (run_from canvas w y x))) → Each P (joined_runs canvas background w h)
  each_joined P f =
      each_map P (with_below canvas w h) tops (each_filter (λ run. P (with_below canvas w h run)) (λ run. not (is_below canvas w run)) (runs_over canvas background w h)
      (each_run_over canvas background w h (λ run. not (is_below canvas w run) ≡ true → P (with_below canvas w h run)) (λ x y lx ly b top. f x y lx ly)))

  pub joined_drawn : LooksLike w h (drawn (record { background = background; subrects = joined_runs canvas background w h })) canvas
  joined_drawn x y lx ly =
      drawn_agrees canvas (λ u v. background) (joined_runs canvas background w h) x y (each_joined (Agrees canvas x y) (λ x0 y0 a b. joined_agrees x0 y0 x y))
      (elim (cases_eq (canvas x y) background) [ inl e ↦ inl (sym e) | inr ne ↦ inr (joined_hold x y lx ly ne) ])

  -- It lies in the rectangle.
  pub joined_within : (x y : ℕ) → y < h → y + (with_below canvas w h (run_from canvas w y x)).area.h ≤ h
  joined_within x y ly = let f = front_within (stands_in canvas w (run_from canvas w y x)) (y + 1) (h - (y + 1)) in omega (arith, f)
