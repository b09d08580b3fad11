-- Rows as wide as the screen, which stand one after the other. Such a copy moves them all by one call.
use Rattle.std.proofs.Common.{◌≡◌, ℕ, ◌+◌, ◌-◌, ◌*◌, ◌<◌, ◌≤◌, List, get_or, sym, ap, ◌∙◌, arith, inl, inr}
use Rattle.std.proofs.lemmas.Bool.{cases_lt}
use Rattle.std.proofs.Math.Nat.{mul-le-mul_right}
use Rattle.raster.specs.Moved.{IsMoved}
use Rattle.raster.specs.Screen.{Canvas, LooksLike, copy, value_at}
use Rattle.raster.proofs.Rows.{row_before, lay_inside, lay_outside}

-- An index of one of them, counted from the first.
row_place : (w y y0 j x : ℕ) → y ≡ y0 + j → y * w + x ≡ y0 * w + (j * w + x)
row_place w y y0 j x e = rw e (omega arith)

-- All of them are copied at once.
pub rows_copied : (w h x0 y0 n m sx sy : ℕ) (before new : List ℕ) → x0 ≡ 0 → sx ≡ 0 → n ≡ w
    → IsMoved before new (sy * w) (y0 * w) (m * w)
    → LooksLike w h (value_at w new) (copy (record { x = x0; y = y0; w = n; h = m }) sx sy (value_at w before))
rows_copied w h x0 y0 n m sx sy before new left source wide moved x y lx ly =
    let under : Canvas = value_at w before in
    elim (cases_lt y y0) [
      | inl above ↦
          moved.below (y * w + x) (row_before w x y y0 lx above) ∙ sym (lay_outside x0 y0 n m (λ a b. under (sx + a) (sy + b)) under x y (inr (inr (inl above))))
      | inr from ↦ elim (cases_lt y (y0 + m)) [
        | inl in_rows ↦
            let j : ℕ = y - y0 in
            let row : j < m = omega arith in
            let k : ℕ = j * w + x in
            let k_lt : k < m * w = row_before w x j m lx row in
            let place : y * w + x ≡ y0 * w + k = row_place w y y0 j x (omega arith) in
            let there : sy * w + k ≡ (sy + j) * w + (sx + (x - x0)) = simp (left, source) (omega arith) in
            ap (λ p. get_or new p 0) place ∙ (moved.inside k k_lt ∙ (ap (λ p. get_or before p 0) there ∙ sym (lay_inside x0 y0 n m (λ a b. under (sx + a) (sy + b)) under x y (omega arith) (omega arith) from in_rows)))
        | inr beneath ↦
            let after_rows : y0 * w + m * w ≤ y * w + x = omega (arith, mul-le-mul_right {m = y0 + m} {n = y} w beneath) in
            moved.past (y * w + x) after_rows ∙ sym (lay_outside x0 y0 n m (λ a b. under (sx + a) (sy + b)) under x y (inr (inr (inr beneath))))
      ]
    ]

-- They end where the screen ends, or before.
pub rows_fit : (w h y m : ℕ) → y + m ≤ h → y * w + m * w ≤ w * h
rows_fit w h y m le = let p : (y + m) * w ≤ h * w = mul-le-mul_right w le in omega (arith, p)
