-- The values of a tile as one list, row after row. The most frequent is found in it.
use Rattle.std.proofs.Common.{◌≡◌, ℕ, List, ◌++◌, length, take, drop, get_or, sym, ap, ◌∙◌, ◌+◌, ◌*◌, ◌<◌, ◌≤◌, arith}
use Rattle.std.proofs.Math.Seq.{take-add}
use Rattle.std.proofs.Math.Nat.{mul-le-mul_right}
use Rattle.std.proofs.lemmas.Grind.{same_number_lists}
use Rattle.std.proofs.lemmas.List.{length-take, length-drop, get_or-take, get_or-drop, take_all}
use Rattle.raster.specs.Screen.{Canvas, values_of}
use Rattle.raster.proofs.Places.{values_at, length_values}

-- One more row of them.
pub row_more : (canvas : Canvas) (w h y : ℕ) (row : List ℕ) → length row ≡ w → ((k : ℕ) → k < w → get_or row k 0 ≡ canvas k y) → y < h
    → take ((y + 1) * w) (values_of w h canvas) ≡ take (y * w) (values_of w h canvas) ++ row
row_more canvas w h y row size shows lt =
    let all : List ℕ = values_of w h canvas in
    let here : List ℕ = take w (drop (y * w) all) in
    let count : length all ≡ w * h = length_values w h canvas in
    let upto : (y + 1) * w ≤ h * w = mul-le-mul_right w (omega arith) in
    let long : length here ≡ w = omega (arith, length-take w (drop (y * w) all), length-drop (y * w) all, count, upto) in
    let same : here ≡ row =
    same_number_lists here row (long ∙ sym size)
    (λ k lk.
    let inside : k < w = omega (arith, long) in
    get_or-take w (drop (y * w) all) k 0 inside ∙ (get_or-drop (y * w) all k 0 ∙ (values_at w h canvas k y inside lt ∙ sym (shows k inside)))) in
    let next : (y + 1) * w ≡ y * w + w = omega arith in
    ap (λ m. take m all) next ∙ (take-add (y * w) w all ∙ ap (λ t. take (y * w) all ++ t) same)

pub all_rows : (canvas : Canvas) (w h y : ℕ) → h ≤ y → take (y * w) (values_of w h canvas) ≡ values_of w h canvas
all_rows canvas w h y le =
    let count : length (values_of w h canvas) ≡ w * h = length_values w h canvas in
    let upto : h * w ≤ y * w = mul-le-mul_right w le in
    take_all (y * w) (values_of w h canvas) (omega (arith, count, upto))
