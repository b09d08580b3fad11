-- Corners begin joined runs. `has_joined` counts them.
use Rattle.std.proofs.Common.{◌≡◌, ℕ, zero, suc, Bool, true, false, not, ◌&&◌, ◌||◌, cond, List, [], ◌∷◌, ◌++◌, length, length-append, map, refl, sym, ap, ◌∙◌, ◌+◌, ◌-◌, ◌≤◌, arith}
use Rattle.std.specs.Prelude.{◌==◌, filter}
use Rattle.std.specs.List.{flat_map, range_with_len}
use Rattle.std.proofs.lemmas.Bool.{and_parts}
use Rattle.std.proofs.lemmas.Grind.{flat_map-append}
use Rattle.std.proofs.lemmas.List.{append-nil, length-map, map-append}
use Rattle.std.proofs.lemmas.List.Elements.{filter-append}
use Rattle.raster.specs.Screen.{Canvas}
use Rattle.raster.specs.Encoding.{Subrect, begins_run, run_from, runs_of_row}
use Rattle.joined_runs.specs.declared.rect_form.RectForm.TheVariants.{Joined}
use Rattle.joined_runs.specs.Joined.{is_below, joined_runs, with_below, written}
use Rattle.joined_runs.proofs.WrittenParts.{written_append}
use Rattle.rre_codec.specs.Corners.{is_corner, corners_before}

pub range_parts : (a n m : ℕ) → range_with_len a (n + m) ≡ range_with_len a n ++ range_with_len (a + n) m
range_parts a zero m = let s : 0 + m ≡ m = omega arith in let t : a + 0 ≡ a = omega arith in rw (s, t) refl
range_parts a (suc n) m =
    let s : suc n + m ≡ suc (n + m) = omega arith in
    let t : a + suc n ≡ a + 1 + n = omega arith in
    rw (s, t) (ap (λ l. a ∷ l) (range_parts (a + 1) n m))

module _ (canvas : Canvas) (background w h : ℕ) where
  -- Of the runs of row y that begin in front of column n, those that aren't joined to one above.
  tops_before : ℕ → ℕ → List Subrect
  tops_before y n = filter (λ run. not (is_below canvas w run)) (map (run_from canvas w y) (filter (begins_run canvas background y) (range_with_len 0 n)))

  one_top : (y x : ℕ) → is_corner canvas background y x ≡ true → (begins_run canvas background y x ≡ true) × (not (is_below canvas w (run_from canvas w y x)) ≡ true)
  one_top y x e =
      let v : ℕ = canvas x y in
      let a = and_parts (not (x == 0)) ((not (v == background) && not (canvas (x - 1) y == v)) && not (canvas x (y - 1) == v)) e in
      let b = and_parts (not (v == background) && not (canvas (x - 1) y == v)) (not (canvas x (y - 1) == v)) a.1 in
      let d = and_parts (not (v == background)) (not (canvas (x - 1) y == v)) b.0 in (
        begun (not (v == background)) (x == 0) (not (canvas (x - 1) y == v)) d.0 d.1,
        apart (not (y == 0)) (canvas x (y - 1) == v) (((x == 0) || not (canvas (x - 1) (y - 1) == v)) && ((run_from canvas w (y - 1) x).area.w == (run_from canvas w y x).area.w)) b.1,
      )
    where
      begun : (a b c : Bool) → a ≡ true → c ≡ true → (a && (b || c)) ≡ true
      begun true true c p q = refl
      begun true false c p q = q
      begun false b c p q = absurd cc

      apart : (a b c : Bool) → not b ≡ true → not (a && (b && c)) ≡ true
      apart true false c e = refl
      apart false b c e = refl
      apart true true c e = absurd cc

  some_top : (y n : ℕ) → corners_before canvas background y n ≤ length (tops_before y n)
  unfolding tops_before
  some_top y zero = omega arith
  some_top y (suc n) =
      let one : n + 1 ≡ suc n = omega arith in
      let here : 0 + n ≡ n = omega arith in
      let q : ℕ → Bool = begins_run canvas background y in
      let g : ℕ → Subrect = run_from canvas w y in
      let r : Subrect → Bool = λ run. not (is_below canvas w run) in
      let range : range_with_len 0 (suc n) ≡ range_with_len 0 n ++ n ∷ [] = ap (range_with_len 0) (sym one) ∙ (range_parts 0 n 1 ∙ ap (λ k. range_with_len 0 n ++ k ∷ []) here) in
      let parts : tops_before y (suc n) ≡ tops_before y n ++ filter r (map g (filter q (n ∷ []))) =
      ap (λ l. filter r (map g (filter q l))) range
      ∙ (ap (λ l. filter r (map g l)) (filter-append q (range_with_len 0 n) (n ∷ []))
      ∙ (ap (filter r) (map-append g (filter q (range_with_len 0 n)) (filter q (n ∷ []))) ∙ filter-append r (map g (filter q (range_with_len 0 n))) (map g (filter q (n ∷ []))))) in
      let size = ap length parts ∙ length-append (tops_before y n) (filter r (map g (filter q (n ∷ [])))) in
      let rest = some_top y n in
      let last = last_top (is_corner canvas background y n) refl in
      omega (arith, size, rest, last)
    where
      found : (b c : Bool) → b ≡ true → not (is_below canvas w (run_from canvas w y n)) ≡ c → c ≡ true → 1 ≤ length (filter (λ run. not (is_below canvas w run)) (map (run_from canvas w y) (cond b (n ∷ []) [])))
      found true true p e q = rw e (omega arith)
      found true false p e q = absurd cc
      found false c p e q = absurd cc

      last_top : (b : Bool) → is_corner canvas background y n ≡ b → cond b 1 0 ≤ length (filter (λ run. not (is_below canvas w run)) (map (run_from canvas w y) (filter (begins_run canvas background y) (n ∷ []))))
      last_top false e = omega arith
      last_top true e =
          let t = one_top y n e in
          found (begins_run canvas background y n) (not (is_below canvas w (run_from canvas w y n))) t.0 refl t.1

  -- The joined runs that begin in the first rows.
  abbrev pub joined_before : ℕ → List Subrect
  joined_before y = written Joined canvas w h (flat_map (runs_of_row canvas background w) (range_with_len 0 y))

  row_has : (y : ℕ) → corners_before canvas background y w ≤ length (written Joined canvas w h (runs_of_row canvas background w y))
  unfolding tops_before
  row_has y = let size = length-map (tops_before y w) (with_below canvas w h) in let some = some_top y w in omega (arith, size, some)

  pub more_before : (y n : ℕ) → joined_before (y + n) ≡ joined_before y ++ written Joined canvas w h (flat_map (runs_of_row canvas background w) (range_with_len y n))
  more_before y n =
      let f : ℕ → List Subrect = runs_of_row canvas background w in
      let here : 0 + y ≡ y = omega arith in
      ap (λ l. written Joined canvas w h (flat_map f l)) (range_parts 0 y n)
      ∙ (ap (written Joined canvas w h) (flat_map-append f (range_with_len 0 y) (range_with_len (0 + y) n))
      ∙ (written_append canvas w h Joined (flat_map f (range_with_len 0 y)) (flat_map f (range_with_len (0 + y) n)) ∙ ap (λ k. joined_before y ++ written Joined canvas w h (flat_map f (range_with_len k n))) here))

  -- A row adds its corners at least.
  pub row_more : (y : ℕ) → length (joined_before y) + corners_before canvas background y w ≤ length (joined_before (y + 1))
  row_more y =
      let f : ℕ → List Subrect = runs_of_row canvas background w in
      let parts = ap length (more_before y 1) ∙ length-append (joined_before y) (written Joined canvas w h (flat_map f (range_with_len y 1))) in
      let one : length (written Joined canvas w h (flat_map f (range_with_len y 1))) ≡ length (written Joined canvas w h (f y)) = ap (λ l. length (written Joined canvas w h l)) (append-nil (f y)) in
      let has = row_has y in
      omega (arith, parts, one, has)

  -- All rows have as many at least as the first ones.
  pub upto : (y : ℕ) → y ≤ h → length (joined_before y) ≤ length (joined_runs canvas background w h)
  upto y le =
      let f : ℕ → List Subrect = runs_of_row canvas background w in
      let all : y + (h - y) ≡ h = omega (arith, le) in
      let parts = ap length (more_before y (h - y)) ∙ length-append (joined_before y) (written Joined canvas w h (flat_map f (range_with_len y (h - y)))) in
      let whole = ap (λ n. length (joined_before n)) all in
      omega (arith, parts, whole)
