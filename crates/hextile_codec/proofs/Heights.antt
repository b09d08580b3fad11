-- A run of a whole tile, looked for in another row by where runs begin, and the marks of its words.
use Rattle.std.proofs.Common.{◌≡◌, ℕ, Bool, true, false, ◌&&◌, ◌||◌, not, refl, ap, ◌∙◌, ◌-◌}
use Rattle.std.specs.Prelude.{◌==◌}
use Rattle.std.proofs.lemmas.Bool.{eqb-true, ne_eqb}
use Rattle.raster.specs.Screen.{Canvas}
use Rattle.raster.specs.Encoding.{begins_run, run_from}
use Rattle.hextile_codec.specs.declared.marking.Marks.{Marks}
use Rattle.hextile_codec.specs.Marks.{AreMarks}

both_begin : (a n l m e : Bool) → a ≡ true → n ≡ true → m ≡ l → ((a && (n && m)) && e) ≡ (a && (l && e))
both_begin a n l m e p q s = rw (p, q, s) refl

neither : (a b l e : Bool) → a ≡ false → ((a && b) && e) ≡ (a && (l && e))
neither a b l e p = rw p refl

-- It stands in a row that shows its value where a run begins, of its length.
pub stands_by : (canvas : Canvas) (background v x y len : ℕ) → (v ≡ background → ⊥)
    → (((canvas x y == v) && begins_run canvas background y x) && ((run_from canvas 16 y x).area.w == len)) ≡ ((canvas x y == v) && (((x == 0) || not (canvas (x - 1) y == v)) && ((run_from canvas 16 y x).area.w == len)))
stands_by canvas background v x y len other = by_test (canvas x y == v) refl
  where
    by_test : (b : Bool) → (canvas x y == v) ≡ b
        → (((canvas x y == v) && begins_run canvas background y x) && ((run_from canvas 16 y x).area.w == len)) ≡ ((canvas x y == v) && (((x == 0) || not (canvas (x - 1) y == v)) && ((run_from canvas 16 y x).area.w == len)))
    by_test true e =
        let same : canvas x y ≡ v = eqb-true (canvas x y) v e in
        let apart : not (canvas x y == background) ≡ true = ap (λ c. not (c == background)) same ∙ ap not (ne_eqb v background other) in
        both_begin (canvas x y == v) (not (canvas x y == background)) ((x == 0) || not (canvas (x - 1) y == v)) ((x == 0) || not (canvas (x - 1) y == canvas x y)) ((run_from canvas 16 y x).area.w == len) e apart
        (ap (λ c. (x == 0) || not (canvas (x - 1) y == c)) same)
    by_test false e = neither (canvas x y == v) (begins_run canvas background y x) ((x == 0) || not (canvas (x - 1) y == v)) ((run_from canvas 16 y x).area.w == len) e

-- Marks are those of their words, whatever they say of the background.
pub same_marks : (canvas : Canvas) (background y : ℕ) (marks : Marks) → AreMarks canvas background y marks → AreMarks canvas background y (record { background = background; begins = marks.begins; ends = marks.ends })
same_marks canvas background y marks are = record { begins = are.begins; ends = are.ends; last = are.last; few = are.few; small = are.small }
