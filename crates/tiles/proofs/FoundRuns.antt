-- Where the tiles of a row lie that a walk looks for. `Walk::next` finds a run by it.
use Rattle.std.proofs.Common.{◌≡◌, ℕ, ◌+◌, ◌-◌, ◌*◌, ◌/◌, ◌%◌, ◌<◌, ◌≤◌, Bool, true, false, ap, sym, ◌∙◌, arith, inl, inr, ◌⊎◌}
use Rattle.std.specs.Prelude.{◌&&◌}
use Rattle.std.proofs.lemmas.Bool.{and_right, cases_lt}
use Rattle.std.proofs.lemmas.Bool.Decides.{nat_tests}
use Rattle.std.proofs.lemmas.Nat.{div-mul-add, mod-mul-add, div-add-mod'}
use Rattle.std.proofs.Math.Nat.{mul-le-mul_right, mod-lt}
use Rattle.raster.specs.declared.rect.Rect.{Rect}
use Rattle.raster.specs.Screen.{holds}
use Rattle.tiles.specs.Walk.{IsRowRun, is_in}

-- ---- the place of a tile

pub record IsPlace (row column across t : ℕ) : Type 0 where
  pub row_is : t / across ≡ row
  pub column_is : t % across ≡ column

pub place_of : (row across t : ℕ) → row * across ≤ t → t < row * across + across → IsPlace row (t - row * across) across t
place_of row across t from to =
    let column : t - row * across < across = omega arith in
    let place : row * across + (t - row * across) ≡ t = omega arith in
    record {
      row_is = ap (λ k. k / across) (sym place) ∙ div-mul-add row across (t - row * across) column;
      column_is = ap (λ k. k % across) (sym place) ∙ mod-mul-add row across (t - row * across) column;
    }

-- A tile's row and column.
pub row_of_tile : (across t : ℕ) → 0 < across → (t / across * across ≤ t) × (t < t / across * across + across)
row_of_tile across t some =
    let place : t / across * across + t % across ≡ t = div-add-mod' t across in
    let column : t % across < across = mod-lt t some in
    (omega (arith, place), omega (arith, place, column))

pub row_under : (t row across down : ℕ) → row < down → t < row * across + across → t < across * down
row_under t row across down low lt = let p : (row + 1) * across ≤ down * across = mul-le-mul_right across (omega arith) in omega (arith, p)

pub row_at_least : (t row across : ℕ) → 0 < across → row * across ≤ t → row ≤ t / across
row_at_least t row across some le =
    elim (cases_lt (t / across) row) [
      | inl less ↦ absurd (let up : (t / across + 1) * across ≤ row * across = mul-le-mul_right across (omega arith) in omega (arith, up, (row_of_tile across t some).1))
      | inr more ↦ more
    ]

-- ---- the test

and_yes : (a b : Bool) → a ≡ true → b ≡ true → (a && b) ≡ true
and_yes true b e f = f
and_yes false b e f = absurd cc

beside : (r : Rect) (x y : ℕ) → (x < r.x) ⊎ (r.x + r.w ≤ x) → holds r x y ≡ false
beside r x y out = grind (arith, nat_tests)

above_or_below : (r : Rect) (x y : ℕ) → (y < r.y) ⊎ (r.y + r.h ≤ y) → holds r x y ≡ false
above_or_below r x y out = grind (arith, nat_tests)

inside_it : (r : Rect) (x y : ℕ) → r.x ≤ x → x < r.x + r.w → r.y ≤ y → y < r.y + r.h → holds r x y ≡ true
inside_it r x y a b c d = grind (arith, nat_tests)

pub not_due : (due : ℕ → Bool) (met : Rect) (across t : ℕ) → due t ≡ false → is_in due met across t ≡ false
not_due due met across t e = ap (λ b. b && holds met (t % across) (t / across)) e

pub not_in_row : (due : ℕ → Bool) (met : Rect) (across row t : ℕ) → row * across ≤ t → t < row * across + across → (t < row * across + met.x) ⊎ (row * across + met.x + met.w ≤ t) → is_in due met across t ≡ false
not_in_row due met across row t from to out =
    let p = place_of row across t from to in
    and_right (due t) (holds met (t % across) (t / across)) (ap (λ k. holds met k (t / across)) p.column_is ∙ beside met (t - row * across) (t / across) (side out))
  where
    side : (t < row * across + met.x) ⊎ (row * across + met.x + met.w ≤ t) → (t - row * across < met.x) ⊎ (met.x + met.w ≤ t - row * across)
    side (inl l) = inl (omega arith)
    side (inr r) = inr (omega arith)

pub not_its_row : (due : ℕ → Bool) (met : Rect) (across t : ℕ) → (t / across < met.y) ⊎ (met.y + met.h ≤ t / across) → is_in due met across t ≡ false
not_its_row due met across t out = and_right (due t) (holds met (t % across) (t / across)) (above_or_below met (t % across) (t / across) out)

pub due_in_row : (due : ℕ → Bool) (met : Rect) (across row t : ℕ) → row * across + met.x ≤ t → t < row * across + met.x + met.w → met.x + met.w ≤ across → met.y ≤ row → row < met.y + met.h → due t ≡ true
    → is_in due met across t ≡ true
due_in_row due met across row t from to wide top bottom e =
    let p = place_of row across t (omega arith) (omega arith) in
    and_yes (due t) (holds met (t % across) (t / across)) e
    (ap (λ k. holds met k (t / across)) p.column_is ∙ (ap (λ k. holds met (t - row * across) k) p.row_is ∙ inside_it met (t - row * across) row (omega arith) (omega arith) top bottom))

-- A row in which none is due brings none.
pub row_without : (due : ℕ → Bool) (met : Rect) (across row from : ℕ) → ((t : ℕ) → row * across + met.x ≤ t → from ≤ t → t < row * across + met.x + met.w → due t ≡ false)
    → (t : ℕ) → from ≤ t → row * across ≤ t → t < row * across + across → is_in due met across t ≡ false
row_without due met across row from none t le lo hi =
    elim (cases_lt t (row * across + met.x)) [
      | inl left ↦ not_in_row due met across row t lo hi (inl left)
      | inr right ↦ elim (cases_lt t (row * across + met.x + met.w)) [
        | inl within ↦ not_due due met across t (none t right le within)
        | inr past ↦ not_in_row due met across row t lo hi (inr past)
      ]
    ]

-- The run that was found in a row.
pub row_run : (due : ℕ → Bool) (met : Rect) (across row next start end : ℕ) → met.x + met.w ≤ across → met.y ≤ row → row < met.y + met.h
    → row * across + met.x ≤ start → next ≤ start → start < end → end ≤ row * across + met.x + met.w
    → ((t : ℕ) → row * across + met.x ≤ t → next ≤ t → t < start → due t ≡ false)
    → ((t : ℕ) → start ≤ t → t < end → due t ≡ true)
    → (end < row * across + met.x + met.w → due end ≡ false)
    → IsRowRun (is_in due met across) (row * across) across next start end
row_run due met across row next start end wide top bottom left from some right none all stops =
    record {
      from = from;
      in_row = omega arith;
      some = some;
      within = omega arith;
      skipped = λ t le lo lt. elim (cases_lt t (row * across + met.x)) [
        | inl before ↦ not_in_row due met across row t lo (omega arith) (inl before)
        | inr in_part ↦ not_due due met across t (none t in_part le lt)
      ];
      taken = λ t lo hi. due_in_row due met across row t (omega arith) (omega arith) wide top bottom (all t lo hi);
      stops = elim (cases_lt end (row * across + across)) [
        | inl short ↦ inr (
          short,
          elim (cases_lt end (row * across + met.x + met.w)) [
            | inl within ↦ not_due due met across end (stops within)
            | inr past ↦ not_in_row due met across row end (omega arith) short (inr past)
          ],
        )
        | inr whole ↦ inl (omega arith)
      ];
    }
