-- Parts of the screen that show the same. A CopyRect brings what the run before it brought.
use Rattle.std.proofs.Common.{◌≡◌, ℕ, ◌+◌, ◌<◌, Bool, true, false, List, [], ◌∷◌, ◌++◌, refl, sym, ap, ◌∙◌, eq-eqb}
use Rattle.std.specs.Prelude.{◌&&◌}
use Rattle.raster.specs.Screen.{Canvas, values_of, value_at}
use Rattle.raster.proofs.Places.{values_at}
use Rattle.update_encoder.specs.Answer.{same_numbers}
use Rattle.update_encoder.proofs.AnswerLaws.{same_numbers_same}
use Rattle.raster.proofs.PixelRows.{map_same, row_at, values_more}

same_itself : (xs : List ℕ) → same_numbers xs xs ≡ true
same_itself [] = refl
same_itself (x ∷ xs) = ap (λ b. b && same_numbers xs xs) (eq-eqb x x refl) ∙ same_itself xs

-- The test of it.
pub are_same : (xs ys : List ℕ) → xs ≡ ys → true ≡ same_numbers xs ys
are_same xs ys e = sym (same_itself xs) ∙ ap (same_numbers xs) e

differ_by : (xs ys : List ℕ) (b : Bool) → same_numbers xs ys ≡ b → (xs ≡ ys → ⊥) → false ≡ b
differ_by xs ys true e ne = absurd (ne (same_numbers_same xs ys e))
differ_by xs ys false e ne = refl

pub differ : (xs ys : List ℕ) → (xs ≡ ys → ⊥) → false ≡ same_numbers xs ys
differ xs ys ne = differ_by xs ys (same_numbers xs ys) refl ne

-- One row more.
pub same_more : (w v m : ℕ) (a b : Canvas) → values_of w m a ≡ values_of v m b → row_at w a m ≡ row_at v b m → values_of w (m + 1) a ≡ values_of v (m + 1) b
same_more w v m a b sofar row =
    values_more w m a ∙ (ap (λ t. t ++ row_at w a m) sofar ∙ (ap (λ t. values_of v m b ++ t) row ∙ sym (values_more v m b)))

row_in_values : (w h m : ℕ) (a : Canvas) → m < h → row_at w (value_at w (values_of w h a)) m ≡ row_at w a m
row_in_values w h m a lt = map_same (λ k. value_at w (values_of w h a) k m) (λ k. a k m) w (λ i less. values_at w h a i m less lt)

-- Where all is the same, so is each row.
pub same_row : (w h m : ℕ) (a b : Canvas) → m < h → values_of w h a ≡ values_of w h b → row_at w a m ≡ row_at w b m
same_row w h m a b lt e = sym (row_in_values w h m a lt) ∙ (ap (λ values. row_at w (value_at w values) m) e ∙ row_in_values w h m b lt)
