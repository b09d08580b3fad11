-- A map that keeps a rectangle's values apart changes its form in nothing but the values, since a form asks of values
-- only whether two are the same. So the form of colours gives that of their pixel values.
use Rattle.std.proofs.Common.{◌≡◌, ℕ, zero, suc, Bool, true, false, cond, not, ◌&&◌, ◌||◌, List, [], ◌∷◌, ◌++◌, length, map, get_or, refl, sym, ap, ◌∙◌, ◌+◌, ◌-◌, ◌*◌, ◌/◌, ◌%◌, ◌<◌, ◌≤◌, arith, inl, inr}
use Rattle.std.specs.Prelude.{filter, ◌==◌, nat_le}
use Rattle.std.specs.List.{flat_map, list_all, range_with_len}
use Rattle.std.proofs.Math.Nat.{mul-le-mul, zero-mul}
use Rattle.std.proofs.lemmas.Bool.{cases_eq, eq-eqb, ne_eqb}
use Rattle.std.proofs.lemmas.List.{length-map}
use Rattle.std.proofs.lemmas.List.FromFn.{length-map-range_with_len}
use Rattle.pixel_format.specs.PixelFormat.{PixelFormat, tint}
use Rattle.pixel_format.proofs.Apart.{black}
use Rattle.raster.specs.Screen.{Canvas, LooksLike, values_of, kept}
use Rattle.raster.specs.Encoding.{Subrect, begins_run, run_from, runs_of_row}
use Rattle.raster.proofs.Spellings.{Each, each_map, each_range, each_weaker, each_filter}
use Rattle.raster.proofs.Values.{column_in, row_in}
use Rattle.raster.proofs.Runs.{each_run_over}
use Rattle.joined_runs.specs.declared.rect_form.RectForm.{RectForm}
use Rattle.joined_runs.specs.declared.rect_form.RectForm.TheVariants.{OfRows, Joined}
use Rattle.joined_runs.specs.Joined.{count_of, is_most_frequent, most_frequent, runs_over, stands_in, is_below, with_below, joined_runs, background_of, subrects_of}
use Rattle.joined_runs.specs.Tinted.{ShowsApart, tinted_subrect}
use Rattle.joined_runs.proofs.JoinedDrawn.{each_joined}
use Rattle.joined_runs.proofs.MostFrequent.{most_holds}
use Rattle.joined_runs.proofs.RowHas.{same_front}

-- Two values are the same after the map where they were before.
pub same_test : (f : ℕ → ℕ) (a b : ℕ) → (f a ≡ f b → a ≡ b) → (f a == f b) ≡ (a == b)
same_test f a b apart =
    elim (cases_eq a b) [
      | inl e ↦ eq-eqb (f a) (f b) (ap f e) ∙ sym (eq-eqb a b e)
      | inr ne ↦ ne_eqb (f a) (f b) (λ e. ne (apart e)) ∙ sym (ne_eqb a b ne)
    ]

-- What holds of each position inside a width and a height holds of each in the list of them, and so of the values
-- there.
each_position : (w h : ℕ) (P : ℕ → ℕ → Type 0) → ((x y : ℕ) → x < w → y < h → P x y) → Each (λ k. P (k % w) (k / w)) (range_with_len 0 (w * h))
each_position zero h P f = let none : 0 * h ≡ 0 = zero-mul h in rw none tt
each_position (suc w) h P f = each_range (λ k. P (k % suc w) (k / suc w)) 0 (suc w * h) (λ k lo hi. f (k % suc w) (k / suc w) (column_in (suc w) k (omega arith)) (row_in (suc w) h k (omega arith) (omega arith)))

each_of_values : (w h : ℕ) (canvas : Canvas) (P : ℕ → Type 0) → ((x y : ℕ) → x < w → y < h → P (canvas x y)) → Each P (values_of w h canvas)
each_of_values w h canvas P f = each_map P (λ k. canvas (k % w) (k / w)) (range_with_len 0 (w * h)) (each_position w h (λ x y. P (canvas x y)) f)

-- ---- lists of which each element is mapped

filter_map : {A B : Type 0} (p : B → Bool) (q : A → Bool) (g : A → B) (xs : List A) → Each (λ x. p (g x) ≡ q x) xs → filter p (map g xs) ≡ map g (filter q xs)
filter_map p q g [] h = refl
filter_map p q g (x ∷ xs) h =
    ap (λ b. cond b (g x ∷ filter p (map g xs)) (filter p (map g xs))) h.0
    ∙ (ap (λ t. cond (q x) (g x ∷ t) t) (filter_map p q g xs h.1) ∙ map_cond (q x) g x (filter q xs))
  where
    map_cond : {A B : Type 0} (b : Bool) (g : A → B) (x : A) (xs : List A) → cond b (g x ∷ map g xs) (map g xs) ≡ map g (cond b (x ∷ xs) xs)
    map_cond true g x xs = refl
    map_cond false g x xs = refl

all_map : (p q : ℕ → Bool) (g : ℕ → ℕ) (xs : List ℕ) → Each (λ x. p (g x) ≡ q x) xs → list_all p (map g xs) ≡ list_all q xs
all_map p q g [] h = refl
all_map p q g (x ∷ xs) h = ap (λ b. b && list_all p (map g xs)) h.0 ∙ ap (λ b. q x && b) (all_map p q g xs h.1)

map_same : (f u v : ℕ → ℕ) (xs : List ℕ) → Each (λ x. u x ≡ f (v x)) xs → map u xs ≡ map f (map v xs)
map_same f u v [] h = refl
map_same f u v (x ∷ xs) h = ap (λ t. t ∷ map u xs) h.0 ∙ ap (λ t. f (v x) ∷ t) (map_same f u v xs h.1)

map_swap : (g v u : Subrect → Subrect) (xs : List Subrect) → Each (λ x. v (g x) ≡ g (u x)) xs → map v (map g xs) ≡ map g (map u xs)
map_swap g v u [] h = refl
map_swap g v u (x ∷ xs) h = ap (λ t. t ∷ map v (map g xs)) h.0 ∙ ap (λ t. g (u x) ∷ t) (map_swap g v u xs h.1)

map_append : {A B : Type 0} (g : A → B) (xs ys : List A) → map g (xs ++ ys) ≡ map g xs ++ map g ys
map_append g [] ys = refl
map_append g (x ∷ xs) ys = ap (λ t. g x ∷ t) (map_append g xs ys)

-- ---- the most frequent value

-- No two values of a list are the same after the map that weren't before.
abbrev pub AreApart : (ℕ → ℕ) → List ℕ → Type 0
AreApart f values = Each (λ v. Each (λ u. f u ≡ f v → u ≡ v) values) values

module _ (f : ℕ → ℕ) (values : List ℕ) (apart : AreApart f values) where
  count_same : (v : ℕ) → Each (λ u. f u ≡ f v → u ≡ v) values → count_of (map f values) (f v) ≡ count_of values v
  count_same v each =
      ap length (filter_map (λ u. u == f v) (λ u. u == v) f values (each_weaker (λ u. f u ≡ f v → u ≡ v) (λ u. (f u == f v) ≡ (u == v)) values (λ u a. same_test f u v a) each))
      ∙ length-map (filter (λ u. u == v) values) f

  counts_same : Each (λ v. count_of (map f values) (f v) ≡ count_of values v) values
  counts_same = each_weaker (λ v. Each (λ u. f u ≡ f v → u ≡ v) values) (λ v. count_of (map f values) (f v) ≡ count_of values v) values count_same apart

  most_same : (v : ℕ) → count_of (map f values) (f v) ≡ count_of values v → is_most_frequent (map f values) (f v) ≡ is_most_frequent values v
  most_same v e =
      all_map (λ u. nat_le (count_of (map f values) u) (count_of (map f values) (f v))) (λ u. nat_le (count_of values u) (count_of values v)) f values
      (each_weaker (λ u. count_of (map f values) (f u) ≡ count_of values u) (λ u. nat_le (count_of (map f values) (f u)) (count_of (map f values) (f v)) ≡ nat_le (count_of values u) (count_of values v)) values
      (λ u d. ap (λ n. nat_le n (count_of (map f values) (f v))) d ∙ ap (λ n. nat_le (count_of values u) n) e) counts_same)

  first_of : f 0 ≡ 0 → (us : List ℕ) → get_or (map f us) 0 0 ≡ f (get_or us 0 0)
  first_of none [] = sym none
  first_of none (u ∷ us) = refl

  most_frequent_same : f 0 ≡ 0 → most_frequent (map f values) ≡ f (most_frequent values)
  most_frequent_same none =
      ap (λ us. get_or us 0 0) (filter_map (is_most_frequent (map f values)) (is_most_frequent values) f values
      (each_weaker (λ v. count_of (map f values) (f v) ≡ count_of values v) (λ v. is_most_frequent (map f values) (f v) ≡ is_most_frequent values v) values most_same counts_same))
      ∙ first_of none (filter (is_most_frequent values) values)

-- ---- the runs

-- A subrectangle with another value in its place.
abbrev pub recoloured : (ℕ → ℕ) → Subrect → Subrect
recoloured f s = record { value = f s.value; area = s.area }

-- No two values inside a rectangle are the same after the map that weren't before.
abbrev pub IsApart : (ℕ → ℕ) → ℕ → ℕ → Canvas → Type 0
IsApart f w h canvas = (x y u v : ℕ) → x < w → y < h → u < w → v < h → f (canvas x y) ≡ f (canvas u v) → canvas x y ≡ canvas u v

-- A canvas shows another with each value mapped, inside a width and a height.
module _ (f : ℕ → ℕ) (w h : ℕ) (canvas shown : Canvas) (apart : IsApart f w h canvas) (shows : LooksLike w h shown (kept f canvas)) where
  same_value : (x y u v : ℕ) → x < w → y < h → u < w → v < h → (shown x y == f (canvas u v)) ≡ (canvas x y == canvas u v)
  same_value x y u v lx ly lu lv = ap (λ n. n == f (canvas u v)) (shows x y lx ly) ∙ same_test f (canvas x y) (canvas u v) (apart x y u v lx ly lu lv)

  same_shown : (x y u v : ℕ) → x < w → y < h → u < w → v < h → (shown x y == shown u v) ≡ (canvas x y == canvas u v)
  same_shown x y u v lx ly lu lv = ap (λ n. shown x y == n) (shows u v lu lv) ∙ same_value x y u v lx ly lu lv

  len_same : (x y : ℕ) → x < w → y < h → (run_from shown w y x).area.w ≡ (run_from canvas w y x).area.w
  len_same x y lx ly = same_front (λ k. shown k y == shown x y) (λ k. canvas k y == canvas x y) x (w - x) (λ k lo hi. same_shown k y x y (omega arith) ly lx ly)

  run_same : (x y : ℕ) → x < w → y < h → run_from shown w y x ≡ recoloured f (run_from canvas w y x)
  run_same x y lx ly =
      ap (λ n. record { value = shown x y; area = record { x = x; y = y; w = n; h = 1 } }) (len_same x y lx ly)
      ∙ ap (λ v. record { value = v; area = (run_from canvas w y x).area }) (shows x y lx ly)

  -- ---- the runs of rows over a background that the map keeps apart from the others, too

  module _ (background : ℕ) (other : (x y : ℕ) → x < w → y < h → f (canvas x y) ≡ f background → canvas x y ≡ background) where
    begins_same : (x y : ℕ) → x < w → y < h → begins_run shown (f background) y x ≡ begins_run canvas background y x
    begins_same x y lx ly =
        ap (λ b. not b && ((x == 0) || not (shown (x - 1) y == shown x y))) (ap (λ n. n == f background) (shows x y lx ly) ∙ same_test f (canvas x y) background (other x y lx ly))
        ∙ ap (λ b. not (canvas x y == background) && ((x == 0) || not b)) (same_shown (x - 1) y x y (omega arith) ly lx ly)

    row_same : (y a n : ℕ) → y < h → a + n ≤ w
        → map (run_from shown w y) (filter (begins_run shown (f background) y) (range_with_len a n)) ≡ map (recoloured f) (map (run_from canvas w y) (filter (begins_run canvas background y) (range_with_len a n)))
    row_same y a zero ly le = refl
    row_same y a (suc n) ly le =
        let rest : List ℕ = filter (begins_run shown (f background) y) (range_with_len (a + 1) n) in
        ap (λ b. map (run_from shown w y) (cond b (a ∷ rest) rest)) (begins_same a y (omega arith) ly)
        ∙ one_more (begins_run canvas background y a) (run_from shown w y) (run_from canvas w y) a rest (filter (begins_run canvas background y) (range_with_len (a + 1) n)) (run_same a y (omega arith) ly) (row_same y (a + 1) n ly (omega arith))
      where
        one_more : (b : Bool) (g k : ℕ → Subrect) (x : ℕ) (us vs : List ℕ) → g x ≡ recoloured f (k x) → map g us ≡ map (recoloured f) (map k vs) → map g (cond b (x ∷ us) us) ≡ map (recoloured f) (map k (cond b (x ∷ vs) vs))
        one_more true g k x us vs e d = ap (λ t. t ∷ map g us) e ∙ ap (λ t. recoloured f (k x) ∷ t) d
        one_more false g k x us vs e d = d

    rows_same : (a n : ℕ) → a + n ≤ h → flat_map (runs_of_row shown (f background) w) (range_with_len a n) ≡ map (recoloured f) (flat_map (runs_of_row canvas background w) (range_with_len a n))
    rows_same a zero le = refl
    rows_same a (suc n) le =
        ap (λ t. t ++ flat_map (runs_of_row shown (f background) w) (range_with_len (a + 1) n)) (row_same a 0 w (omega arith) (omega arith))
        ∙ (ap (λ t. map (recoloured f) (runs_of_row canvas background w a) ++ t) (rows_same (a + 1) n (omega arith))
        ∙ sym (map_append (recoloured f) (runs_of_row canvas background w a) (flat_map (runs_of_row canvas background w) (range_with_len (a + 1) n))))

    runs_same : runs_over shown (f background) w h ≡ map (recoloured f) (runs_over canvas background w h)
    runs_same = rows_same 0 h (omega arith)

  -- ---- which of them are joined

  stands_same : (x y z : ℕ) → x < w → y < h → z < h → stands_in shown w (recoloured f (run_from canvas w y x)) z ≡ stands_in canvas w (run_from canvas w y x) z
  stands_same x y z lx ly lz =
      let run : Subrect = run_from canvas w y x in
      ap (λ b. b && (((x == 0) || not (shown (x - 1) z == f (canvas x y))) && ((run_from shown w z x).area.w == run.area.w))) (same_value x z x y lx lz lx ly)
      ∙ (ap (λ b. (canvas x z == canvas x y) && (((x == 0) || not b) && ((run_from shown w z x).area.w == run.area.w))) (same_value (x - 1) z x y (omega arith) lz lx ly)
      ∙ ap (λ n. (canvas x z == canvas x y) && (((x == 0) || not (canvas (x - 1) z == canvas x y)) && (n == run.area.w))) (len_same x z lx lz))

  below_same : (x y : ℕ) → x < w → y < h → is_below shown w (recoloured f (run_from canvas w y x)) ≡ is_below canvas w (run_from canvas w y x)
  below_same x y lx ly = ap (λ b. not (y == 0) && b) (stands_same x y (y - 1) lx ly (omega arith))

  joined_same : (x y : ℕ) → x < w → y < h → with_below shown w h (recoloured f (run_from canvas w y x)) ≡ recoloured f (with_below canvas w h (run_from canvas w y x))
  joined_same x y lx ly =
      let run : Subrect = run_from canvas w y x in
      ap (λ n. record { value = f run.value; area = record { x = run.area.x; y = run.area.y; w = run.area.w; h = 1 + n } })
      (same_front (stands_in shown w (recoloured f run)) (stands_in canvas w run) (y + 1) (h - (y + 1)) (λ k lo hi. stands_same x y k lx ly (omega arith)))

  all_joined_same : (background : ℕ)
      → map (with_below shown w h) (filter (λ run. not (is_below shown w run)) (map (recoloured f) (runs_over canvas background w h))) ≡ map (recoloured f) (joined_runs canvas background w h)
  all_joined_same background =
      let all : List Subrect = runs_over canvas background w h in
      ap (map (with_below shown w h)) (filter_map (λ run. not (is_below shown w run)) (λ run. not (is_below canvas w run)) (recoloured f) all
      (each_run_over canvas background w h (λ run. not (is_below shown w (recoloured f run)) ≡ not (is_below canvas w run)) (λ x y lx ly b. ap not (below_same x y lx ly))))
      ∙ map_swap (recoloured f) (with_below shown w h) (with_below canvas w h) (filter (λ run. not (is_below canvas w run)) all)
      (each_filter (λ run. with_below shown w h (recoloured f run) ≡ recoloured f (with_below canvas w h run)) (λ run. not (is_below canvas w run)) all
      (each_run_over canvas background w h (λ run. not (is_below canvas w run) ≡ true → with_below shown w h (recoloured f run) ≡ recoloured f (with_below canvas w h run)) (λ x y lx ly b top. joined_same x y lx ly)))

  -- ---- both forms

  values_same : values_of w h shown ≡ map f (values_of w h canvas)
  values_same = map_same f (λ k. shown (k % w) (k / w)) (λ k. canvas (k % w) (k / w)) (range_with_len 0 (w * h)) (each_position w h (λ x y. shown x y ≡ f (canvas x y)) shows)

  values_apart : AreApart f (values_of w h canvas)
  values_apart = each_of_values w h canvas (λ v. Each (λ u. f u ≡ f v → u ≡ v) (values_of w h canvas)) (λ u v lu lv. each_of_values w h canvas (λ b. f b ≡ f (canvas u v) → b ≡ canvas u v) (λ x y lx ly. apart x y u v lx ly lu lv))

  pub background_same : f 0 ≡ 0 → 0 < w → 0 < h → (runs : RectForm) → background_of runs w h shown ≡ f (background_of runs w h canvas)
  background_same none lw lh OfRows = shows 0 0 lw lh
  background_same none lw lh Joined = ap most_frequent values_same ∙ most_frequent_same f (values_of w h canvas) values_apart none

  background_apart : (runs : RectForm) (x y : ℕ) → x < w → y < h → f (canvas x y) ≡ f (background_of runs w h canvas) → canvas x y ≡ background_of runs w h canvas
  background_apart OfRows x y lx ly e = apart x y 0 0 lx ly (omega arith) (omega arith) e
  background_apart Joined x y lx ly e =
      let values : List ℕ = values_of w h canvas in
      let some : 0 < length values = let area : 1 * 1 ≤ w * h = mul-le-mul {n₁ = 1} {m₁ = 1} {n₂ = w} {m₂ = h} (omega arith) (omega arith) in omega (arith, area, length-map-range_with_len (λ k. canvas (k % w) (k / w)) 0 (w * h)) in
      most_holds (λ b. f (canvas x y) ≡ f b → canvas x y ≡ b) values some (each_of_values w h canvas (λ b. f (canvas x y) ≡ f b → canvas x y ≡ b) (λ u v lu lv. apart x y u v lx ly lu lv)) e

  -- Each subrectangle has the value of a position.
  each_subrect : (runs : RectForm) (P : Subrect → Type 0) → ((x y : ℕ) (s : Subrect) → x < w → y < h → s.value ≡ canvas x y → P s) → Each P (subrects_of runs w h canvas)
  each_subrect OfRows P g = each_run_over canvas (canvas 0 0) w h P (λ x y lx ly b. g x y (run_from canvas w y x) lx ly refl)
  each_subrect Joined P g = each_joined canvas (background_of Joined w h canvas) w h P (λ x y lx ly. g x y (with_below canvas w h (run_from canvas w y x)) lx ly refl)

  pub subrects_apart : (runs : RectForm) → Each (λ s. Each (λ t. f t.value ≡ f s.value → t.value ≡ s.value) (subrects_of runs w h canvas)) (subrects_of runs w h canvas)
  subrects_apart runs =
      each_subrect runs (λ s. Each (λ t. f t.value ≡ f s.value → t.value ≡ s.value) (subrects_of runs w h canvas)) (λ x y s lx ly es.
      each_subrect runs (λ t. f t.value ≡ f s.value → t.value ≡ s.value) (λ u v t lu lv et e. et ∙ (apart u v x y lu lv lx ly (ap f (sym et) ∙ (e ∙ ap f es)) ∙ sym es)))

  pub subrects_same : f 0 ≡ 0 → 0 < w → 0 < h → (runs : RectForm) → subrects_of runs w h shown ≡ map (recoloured f) (subrects_of runs w h canvas)
  subrects_same none lw lh OfRows = ap (λ b. runs_over shown b w h) (background_same none lw lh OfRows) ∙ runs_same (canvas 0 0) (background_apart OfRows)
  subrects_same none lw lh Joined =
      let background : ℕ = background_of Joined w h canvas in
      ap (λ b. joined_runs shown b w h) (background_same none lw lh Joined)
      ∙ (ap (λ ss. map (with_below shown w h) (filter (λ run. not (is_below shown w run)) ss)) (runs_same background (background_apart Joined)) ∙ all_joined_same background)

-- ---- colours in a format that keeps them apart

module _ (format : PixelFormat) (w h : ℕ) (colours shown : Canvas) (is : ShowsApart format w h colours shown) where
  colours_apart : IsApart (tint format) w h colours
  colours_apart x y u v lx ly lu lv e = is.apart (colours x y) (colours u v) (is.are_colours x y lx ly) (is.are_colours u v lu lv) e

  pub background_tinted : (runs : RectForm) → background_of runs w h shown ≡ tint format (background_of runs w h colours)
  background_tinted runs = background_same (tint format) w h colours shown colours_apart is.shows (black format) is.wide is.high runs

  pub subrects_tinted : (runs : RectForm) → subrects_of runs w h shown ≡ map (tinted_subrect format) (subrects_of runs w h colours)
  subrects_tinted runs = subrects_same (tint format) w h colours shown colours_apart is.shows (black format) is.wide is.high runs

  -- No two subrectangles have one pixel value that have different colours.
  pub colours_apart_in : (runs : RectForm) → Each (λ s. Each (λ t. tint format t.value ≡ tint format s.value → t.value ≡ s.value) (subrects_of runs w h colours)) (subrects_of runs w h colours)
  colours_apart_in runs = subrects_apart (tint format) w h colours shown colours_apart is.shows runs
