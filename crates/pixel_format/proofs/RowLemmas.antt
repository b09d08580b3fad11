-- A row that is written piece by piece. A row is tinted so, and owes the bytes of all its colours.
use Rattle.std.proofs.Common.{◌≡◌, ℕ, ◌+◌, ◌*◌, ◌<◌, ◌≤◌, List, [], ◌∷◌, ◌++◌, length, get_or, take, refl, ap, sym, ◌∙◌, append_assoc, append-nil, arith}
use Rattle.std.proofs.lemmas.List.{take_more, length-take-le}
use Rattle.std.proofs.Math.Seq.{take-append-add, take-append_seam}
use Rattle.std.proofs.lemmas.Grind.{flat_map-append}
use Rattle.std.specs.List.{flat_map}

-- The front of a list in which a piece was put after its first k items.
pub front_of_put : (k n : ℕ) (out piece rest : List ℕ) → k ≤ length out → length piece ≡ n → take (k + n) (take k out ++ (piece ++ rest)) ≡ take k out ++ piece
front_of_put k n out piece rest le e =
    let a : length (take k out) ≡ k = length-take-le k out le in
    let b : length (take k out) + length piece ≡ k + n = omega (arith, a, e) in
    ap (λ (m : ℕ). take m (take k out ++ (piece ++ rest))) (sym b) ∙ take-append-add (take k out) (piece ++ rest) (length piece) ∙ ap (λ (t : List ℕ). take k out ++ t) (take-append_seam piece rest)

-- The pieces of one item more.
pub pieces_more : (f : ℕ → List ℕ) (xs : List ℕ) (i : ℕ) → i < length xs → flat_map f (take (i + 1) xs) ≡ flat_map f (take i xs) ++ f (get_or xs i 0)
pieces_more f xs i lt =
    ap (flat_map f) (take_more xs i 0 lt) ∙ flat_map-append f (take i xs) (get_or xs i 0 ∷ []) ∙ ap (λ (t : List ℕ). flat_map f (take i xs) ++ t) (append-nil (f (get_or xs i 0)))

-- A row of pieces of n items each, of which the first i are written, once the next is put after them.
pub piece_goes_on : (f : ℕ → List ℕ) (n : ℕ) (xs out rest : List ℕ) (i k : ℕ) → k ≡ n * i → k ≤ length out → length (f (get_or xs i 0)) ≡ n → i < length xs → take (n * i) out ≡ flat_map f (take i xs)
    → take (n * (i + 1)) (take k out ++ (f (get_or xs i 0) ++ rest)) ≡ flat_map f (take (i + 1) xs)
piece_goes_on f n xs out rest i k ek le e lt h =
    let m : n * (i + 1) ≡ k + n = omega (arith, ek) in
    let s : take k out ≡ flat_map f (take i xs) = ap (λ (j : ℕ). take j out) ek ∙ h in
    let here : List ℕ = f (get_or xs i 0) in
    rw m (front_of_put k n out here rest le e ∙ ap (λ (t : List ℕ). t ++ here) s ∙ sym (pieces_more f xs i lt))

-- The same where the piece was put at the front of what follows.
pub row_goes_on : (f : ℕ → List ℕ) (n : ℕ) (xs out rest after : List ℕ) (i k : ℕ) → k ≡ n * i → k ≤ length out → length (f (get_or xs i 0)) ≡ n → i < length xs → take (n * i) out ≡ flat_map f (take i xs)
    → take (n * (i + 1)) (take k out ++ ((f (get_or xs i 0) ++ rest) ++ after)) ≡ flat_map f (take (i + 1) xs)
row_goes_on f n xs out rest after i k ek le e lt h =
    rw (append_assoc (f (get_or xs i 0)) rest after) (piece_goes_on f n xs out (rest ++ after) i k ek le e lt h)

-- Rows of the same pieces are the same.
pub same_pieces : (f g : ℕ → List ℕ) (xs : List ℕ) → ((x : ℕ) → f x ≡ g x) → flat_map f xs ≡ flat_map g xs
same_pieces f g [] e = refl
same_pieces f g (x ∷ xs) e = rw (e x, same_pieces f g xs e) refl
