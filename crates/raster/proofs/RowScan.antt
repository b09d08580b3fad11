-- The runs of a row, found from the left one after another. Both encoders find them so.
use Rattle.std.proofs.Common.{◌≡◌, ℕ, zero, suc, Bool, true, false, not, cond, ◌&&◌, ◌||◌, List, [], ◌∷◌, ◌++◌, length, map, take, drop, get_or, refl, sym, ap, ◌∙◌, ◌+◌, ◌-◌, ◌*◌, ◌<◌, ◌≤◌, arith, inl, inr}
use Rattle.std.specs.Prelude.{filter, ◌⊎◌, ◌==◌, take_while}
use Rattle.std.specs.List.{range_with_len}
use Rattle.std.proofs.lemmas.Bool.{eq-eqb, ne_eqb, eqb-true}
use Rattle.std.proofs.lemmas.List.{length-take, length-drop, get_or-drop, take_all}
use Rattle.std.proofs.lemmas.List.Sums.{take_while-cons}
use Rattle.raster.specs.Screen.{Canvas, value_at}
use Rattle.raster.specs.Encoding.{Subrect, begins_run, run_from, runs_of_row}
use Rattle.raster.proofs.Rows.{row_of, row_at}
use Rattle.raster.proofs.Runs.{run_some, run_within, front_passes, front_stops}

-- The runs of row y that begin at x or after it.
abbrev pub runs_behind : Canvas → ℕ → ℕ → ℕ → ℕ → List Subrect
runs_behind canvas background w y x = map (run_from canvas w y) (filter (begins_run canvas background y) (range_with_len x (w - x)))

pub runs_behind_none : (canvas : Canvas) (background w y : ℕ) → runs_of_row canvas background w y ≡ runs_behind canvas background w y 0
runs_behind_none canvas background w y = let all : w - 0 ≡ w = omega arith in rw all refl

pub runs_behind_all : (canvas : Canvas) (background w y x : ℕ) → w ≤ x → runs_behind canvas background w y x ≡ []
runs_behind_all canvas background w y x le = let none : w - x ≡ 0 = omega arith in rw none refl

-- No run goes on from the position before.
abbrev pub IsFresh : Canvas → ℕ → ℕ → Type 0
IsFresh canvas y x = (x ≡ 0) ⊎ (canvas (x - 1) y ≡ canvas x y → ⊥)

pub filter_skips : (p : ℕ → Bool) (a n m : ℕ) → ((k : ℕ) → a ≤ k → k < a + n → p k ≡ false) → filter p (range_with_len a (n + m)) ≡ filter p (range_with_len (a + n) m)
filter_skips p a zero m f = let s : 0 + m ≡ m = omega arith in let t : a + 0 ≡ a = omega arith in rw (s, t) refl
filter_skips p a (suc n) m f =
    let s : suc n + m ≡ suc (n + m) = omega arith in
    let t : a + suc n ≡ a + 1 + n = omega arith in
    rw (s, t) (ap (λ b. cond b (a ∷ filter p (range_with_len (a + 1) (n + m))) (filter p (range_with_len (a + 1) (n + m)))) (f a (omega arith) (omega arith)) ∙ filter_skips p (a + 1) n m (λ k lo hi. f k (omega arith) (omega arith)))

-- Inside a run none begins.
inside_begins : (canvas : Canvas) (background w y x k : ℕ) → x < w → x < k → k < x + (run_from canvas w y x).area.w → begins_run canvas background y k ≡ false
inside_begins canvas background w y x k lx lo hi =
    let p : ℕ → Bool = λ i. canvas i y == canvas x y in
    let here : canvas k y ≡ canvas x y = eqb-true (canvas k y) (canvas x y) (front_passes p x (w - x) k (omega arith) hi) in
    let back : canvas (k - 1) y ≡ canvas x y = eqb-true (canvas (k - 1) y) (canvas x y) (front_passes p x (w - x) (k - 1) (omega arith) (omega arith)) in
    let some : (k == 0) ≡ false = ne_eqb k 0 (λ e. absurd (omega arith)) in
    let same : (canvas (k - 1) y == canvas k y) ≡ true = eq-eqb (canvas (k - 1) y) (canvas k y) (back ∙ sym here) in
    rw (some, same) (and_false (not (canvas k y == background)))
  where
    and_false : (b : Bool) → (b && false) ≡ false
    and_false true = refl
    and_false false = refl

fresh_begins : (canvas : Canvas) (background y x : ℕ) → IsFresh canvas y x → begins_run canvas background y x ≡ not (canvas x y == background)
fresh_begins canvas background y x (inl e) = rw (eq-eqb x 0 e) (and_true (not (canvas x y == background)))
  where
    and_true : (b : Bool) → (b && true) ≡ b
    and_true true = refl
    and_true false = refl
fresh_begins canvas background y x (inr d) = rw (ne_eqb (canvas (x - 1) y) (canvas x y) d) (or_true (x == 0) (not (canvas x y == background)))
  where
    or_true : (a b : Bool) → (b && (a || true)) ≡ b
    or_true true true = refl
    or_true true false = refl
    or_true false true = refl
    or_true false false = refl

-- At a fresh position: the run that begins there, if it is not of the background, and those after its end.
pub run_found : (canvas : Canvas) (background w y x : ℕ) → x < w → IsFresh canvas y x
    → runs_behind canvas background w y x ≡ cond (not (canvas x y == background)) (run_from canvas w y x ∷ []) [] ++ runs_behind canvas background w y (x + (run_from canvas w y x).area.w)
run_found canvas background w y x lx fresh =
    let len : ℕ = (run_from canvas w y x).area.w in
    let some : 0 < len = run_some canvas w y x lx in
    let within : x + len ≤ w = run_within canvas w y x lx in
    let p : ℕ → Bool = begins_run canvas background y in
    let all : w - x ≡ suc (len - 1 + (w - (x + len))) = omega arith in
    let after_run : x + 1 + (len - 1) ≡ x + len = omega arith in
    let rest : filter p (range_with_len (x + 1) (len - 1 + (w - (x + len)))) ≡ filter p (range_with_len (x + len) (w - (x + len))) =
    filter_skips p (x + 1) (len - 1) (w - (x + len)) (λ k lo hi. inside_begins canvas background w y x k lx (omega arith) (omega arith)) ∙ ap (λ i. filter p (range_with_len i (w - (x + len)))) after_run in
    let first : filter p (range_with_len x (suc (len - 1 + (w - (x + len))))) ≡ cond (not (canvas x y == background)) (x ∷ filter p (range_with_len (x + len) (w - (x + len)))) (filter p (range_with_len (x + len) (w - (x + len)))) =
    ap (λ t. cond (p x) (x ∷ t) t) rest ∙ ap (λ b. cond b (x ∷ filter p (range_with_len (x + len) (w - (x + len)))) (filter p (range_with_len (x + len) (w - (x + len))))) (fresh_begins canvas background y x fresh) in
    ap (λ n. map (run_from canvas w y) (filter p (range_with_len x n))) all ∙ (ap (map (run_from canvas w y)) first ∙ map_cond (not (canvas x y == background)) (run_from canvas w y) x (filter p (range_with_len (x + len) (w - (x + len)))))
  where
    map_cond : (b : Bool) (f : ℕ → Subrect) (x : ℕ) (xs : List ℕ) → map f (cond b (x ∷ xs) xs) ≡ cond b (f x ∷ []) [] ++ map f xs
    map_cond true f x xs = refl
    map_cond false f x xs = refl

-- After a run the position is fresh, if it is still in the row.
pub fresh_behind : (canvas : Canvas) (w y x : ℕ) → x < w → x + (run_from canvas w y x).area.w < w → IsFresh canvas y (x + (run_from canvas w y x).area.w)
fresh_behind canvas w y x lx inside =
    let p : ℕ → Bool = λ i. canvas i y == canvas x y in
    let len : ℕ = (run_from canvas w y x).area.w in
    let some : 0 < len = run_some canvas w y x lx in
    let last : canvas (x + len - 1) y ≡ canvas x y = eqb-true (canvas (x + len - 1) y) (canvas x y) (front_passes p x (w - x) (x + len - 1) (omega arith) (omega arith)) in
    let stops : p (x + len) ≡ false = front_stops p x (w - x) (omega arith) in
    inr (λ e. false_true (sym stops ∙ eq-eqb (canvas (x + len) y) (canvas x y) (sym e ∙ last)))
  where
    false_true : false ≡ true → ⊥
    false_true e = cc

-- How many values at the front of a list are one value.
pub front_of_list : (f : ℕ → ℕ) (v a : ℕ) (xs : List ℕ) → ((k : ℕ) → k < length xs → get_or xs k 0 ≡ f (a + k))
    → length (take_while (λ x. x == v) xs) ≡ length (take_while (λ k. f k == v) (range_with_len a (length xs)))
front_of_list f v a [] e = refl
front_of_list f v a (x ∷ xs) e =
    let here : x ≡ f a = let z : a + 0 ≡ a = omega arith in rw z at (e 0 (omega arith)) in
    let others = front_of_list f v (a + 1) xs (λ k lt. let z : a + suc k ≡ a + 1 + k = omega arith in rw z at (e (suc k) (omega arith))) in
    ap length (take_while-cons (λ z. z == v) x xs)
    ∙ (length_cond (x == v) x (take_while (λ z. z == v) xs)
    ∙ (ap (λ n. cond (x == v) (suc n) 0) others
    ∙ (ap (λ z. cond (z == v) (suc (length (take_while (λ k. f k == v) (range_with_len (a + 1) (length xs))))) 0) here
    ∙ (sym (length_cond (f a == v) a (take_while (λ k. f k == v) (range_with_len (a + 1) (length xs)))) ∙ sym (ap length (take_while-cons (λ k. f k == v) a (range_with_len (a + 1) (length xs))))))))
  where
    length_cond : (b : Bool) (x : ℕ) (xs : List ℕ) → length (cond b (x ∷ xs) []) ≡ cond b (suc (length xs)) 0
    length_cond true x xs = refl
    length_cond false x xs = refl

-- The run at x, found in what is left of the row's own values.
pub run_in_row : (values : List ℕ) (w y x : ℕ) → y * w + w ≤ length values → x < w
    → length (take_while (λ v. v == get_or (row_of values w y) x 0) (take (length (row_of values w y) - x) (drop x (row_of values w y)))) ≡ (run_from (value_at w values) w y x).area.w
run_in_row values w y x le lx =
    let row : List ℕ = row_of values w y in
    let canvas : Canvas = value_at w values in
    let size : length row ≡ w = omega (arith, length-take (y * w + w - y * w) (drop (y * w) values), length-drop (y * w) values) in
    let left : length (drop x row) ≡ w - x = omega (arith, length-drop x row, size) in
    ap (λ t. length (take_while (λ v. v == get_or row x 0) t)) (take_all (length row - x) (drop x row) (omega (arith, length-drop x row)))
    ∙ (front_of_list (λ k. canvas k y) (get_or row x 0) x (drop x row) (λ k lt. get_or-drop x row k 0 ∙ row_at values w y (x + k) (omega (arith, left)))
    ∙ (ap (λ n. length (take_while (λ k. canvas k y == get_or row x 0) (range_with_len x n))) left
    ∙ ap (λ v. length (take_while (λ k. canvas k y == v) (range_with_len x (w - x)))) (row_at values w y x lx)))

-- The two cases of what is found at a fresh position.
pub found_other : (canvas : Canvas) (background w y x : ℕ) → x < w → IsFresh canvas y x → (canvas x y ≡ background → ⊥)
    → runs_behind canvas background w y x ≡ run_from canvas w y x ∷ runs_behind canvas background w y (x + (run_from canvas w y x).area.w)
found_other canvas background w y x lx fresh ne =
    run_found canvas background w y x lx fresh
    ∙ ap (λ b. cond (not b) (run_from canvas w y x ∷ []) [] ++ runs_behind canvas background w y (x + (run_from canvas w y x).area.w)) (ne_eqb (canvas x y) background ne)

pub found_background : (canvas : Canvas) (background w y x : ℕ) → x < w → IsFresh canvas y x → canvas x y ≡ background
    → runs_behind canvas background w y x ≡ runs_behind canvas background w y (x + (run_from canvas w y x).area.w)
found_background canvas background w y x lx fresh e =
    run_found canvas background w y x lx fresh
    ∙ ap (λ b. cond (not b) (run_from canvas w y x ∷ []) [] ++ runs_behind canvas background w y (x + (run_from canvas w y x).area.w)) (eq-eqb (canvas x y) background e)
