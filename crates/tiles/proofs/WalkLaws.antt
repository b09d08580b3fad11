-- What a walk over the runs of an area has left after a run, and where there is none. `Walk::next` keeps a place, and
-- owes the definition's list.
use Rattle.std.proofs.Common.{◌≡◌, ℕ, suc, zero, ◌+◌, ◌-◌, ◌*◌, ◌/◌, ◌%◌, ◌<◌, ◌≤◌, Bool, true, false, cond, List, [], ◌∷◌, ◌++◌, length, map, refl, ap, sym, subst, ◌∙◌, arith, inl, inr, ◌⊎◌, eq-eqb, ◌≢◌}
use Rattle.std.specs.Prelude.{nat_le, not, ◌&&◌, ◌||◌, ◌==◌, filter, take_while}
use Rattle.std.specs.List.{flat_map, range_with_len}
use Rattle.std.proofs.Math.Nat.{mul-le-mul_right}
use Rattle.std.proofs.Math.Path.{fun_ext}
use Rattle.std.proofs.lemmas.Bool.{cases_lt, cases_eq, ne_eqb, and_parts, le-leb, lt-leb}
use Rattle.std.proofs.lemmas.List.Sums.{take_while-cons}
use Rattle.raster.specs.declared.rect.Rect.{Rect}
use Rattle.raster.specs.Screen.{IsWithin, common, holds, meets, tile_count, tile_rect, tiles_across}
use Rattle.raster.proofs.Runs.{front_passes, front_reaches, front_within}
use Rattle.tiles.specs.Touched.{begins_run, run_from, runs, runs_of_row}
use Rattle.tiles.proofs.FoundRuns.{row_under, place_of}
use Rattle.tiles.proofs.RunLaws.{part_by}
use Rattle.tiles.specs.Walk.{Walking, IsDone, IsFound, IsNextRun, brings, is_in, runs_left, tiles_rect}
use Rattle.raster.specs.declared.tile.TheConstants.{TILE_SIDE}

-- ---- what is made of one number after another

flat_none : {A : Type 0} (f : ℕ → List A) (n a : ℕ) → ((k : ℕ) → a ≤ k → k < a + n → f k ≡ []) → flat_map f (range_with_len a n) ≡ []
flat_none f zero a none = refl
flat_none f (suc n) a none =
    ap (λ (xs : List _). xs ++ flat_map f (range_with_len (a + 1) n)) (none a (omega arith) (omega arith)) ∙ flat_none f n (a + 1) (λ k lo hi. none k (omega arith) (omega arith))

flat_same : {A : Type 0} (f g : ℕ → List A) (n a : ℕ) → ((k : ℕ) → a ≤ k → k < a + n → f k ≡ g k) → flat_map f (range_with_len a n) ≡ flat_map g (range_with_len a n)
flat_same f g zero a same = refl
flat_same f g (suc n) a same =
    ap (λ (xs : List _). xs ++ flat_map f (range_with_len (a + 1) n)) (same a (omega arith) (omega arith))
    ∙ ap (λ (xs : List _). g a ++ xs) (flat_same f g n (a + 1) (λ k lo hi. same k (omega arith) (omega arith)))

-- Nothing is made before the number at, where one more is made first; after it both make the same.
flat_take : {A : Type 0} (f g : ℕ → List A) (x : A) (n a at : ℕ) → a ≤ at → at < a + n
    → ((k : ℕ) → a ≤ k → k < at → f k ≡ []) → ((k : ℕ) → a ≤ k → k < at → g k ≡ []) → f at ≡ x ∷ g at → ((k : ℕ) → at < k → k < a + n → f k ≡ g k)
    → flat_map f (range_with_len a n) ≡ x ∷ flat_map g (range_with_len a n)
flat_take f g x zero a at lo hi none none2 here same = absurd (omega arith)
flat_take f g x (suc n) a at lo hi none none2 here same =
    elim (cases_lt a at) [
      | inl less ↦
          ap (λ (xs : List _). xs ++ flat_map f (range_with_len (a + 1) n)) (none a (omega arith) less)
          ∙ (flat_take f g x n (a + 1) at (omega arith) (omega arith) (λ k l h. none k (omega arith) h) (λ k l h. none2 k (omega arith) h) here (λ k l h. same k l (omega arith))
          ∙ ap (λ (xs : List _). x ∷ (xs ++ flat_map g (range_with_len (a + 1) n))) (sym (none2 a (omega arith) less)))
      | inr more ↦
          (let is : at ≡ a = omega arith in
          ap (λ (xs : List _). xs ++ flat_map f (range_with_len (a + 1) n)) (ap f (sym is) ∙ (here ∙ ap (λ k. x ∷ g k) is))
          ∙ ap (λ (xs : List _). x ∷ (g a ++ xs)) (flat_same f g n (a + 1) (λ k l h. same k (omega arith) (omega arith))))
    ]

-- What is kept of some numbers, one list a number.
kept_flat : {A : Type 0} (g : ℕ → A) (p : ℕ → Bool) (xs : List ℕ) → map g (filter p xs) ≡ flat_map (λ k. cond (p k) (g k ∷ []) []) xs
kept_flat g p [] = refl
kept_flat g p (x ∷ xs) = kept_one (p x) (filter p xs) (kept_flat g p xs)
  where
    kept_one : (b : Bool) (ys : List ℕ) → map g ys ≡ flat_map (λ k. cond (p k) (g k ∷ []) []) xs → map g (cond b (x ∷ ys) ys) ≡ cond b (g x ∷ []) [] ++ flat_map (λ k. cond (p k) (g k ∷ []) []) xs
    kept_one true ys e = ap (λ (zs : List _). g x ∷ zs) e
    kept_one false ys e = e

front_same : (p q : ℕ → Bool) (n a : ℕ) → ((k : ℕ) → a ≤ k → k < a + n → p k ≡ q k) → take_while p (range_with_len a n) ≡ take_while q (range_with_len a n)
front_same p q zero a same = refl
front_same p q (suc n) a same =
    take_while-cons p a (range_with_len (a + 1) n)
    ∙ (ap (λ b. cond b (a ∷ take_while p (range_with_len (a + 1) n)) []) (same a (omega arith) (omega arith))
    ∙ (ap (λ (xs : List ℕ). cond (q a) (a ∷ xs) []) (front_same p q n (a + 1) (λ k lo hi. same k (omega arith) (omega arith)))
    ∙ sym (take_while-cons q a (range_with_len (a + 1) n))))

-- ---- one row

-- The run that begins at tile t, if one does.
abbrev tile_runs : (ℕ → Bool) → ℕ → ℕ → ℕ → List Rect
tile_runs p across row t = cond (begins_run p (row * across) t) (run_from p across row t ∷ []) []

row_flat : (p : ℕ → Bool) (across row : ℕ) → runs_of_row p across row ≡ flat_map (tile_runs p across row) (range_with_len (row * across) across)
row_flat p across row = kept_flat (run_from p across row) (begins_run p (row * across)) (range_with_len (row * across) across)

begins_not : (p : ℕ → Bool) (first t : ℕ) → p t ≡ false → begins_run p first t ≡ false
begins_not p first t e = ap (λ b. b && ((t == first) || not (p (t - 1)))) e

none_begins : (p : ℕ → Bool) (across row t : ℕ) → begins_run p (row * across) t ≡ false → tile_runs p across row t ≡ []
none_begins p across row t e = ap (λ b. cond b (run_from p across row t ∷ []) []) e

row_none : (p : ℕ → Bool) (across row : ℕ) → ((t : ℕ) → row * across ≤ t → t < row * across + across → p t ≡ false) → runs_of_row p across row ≡ []
row_none p across row none =
    row_flat p across row ∙ flat_none (tile_runs p across row) across (row * across) (λ t lo hi. none_begins p across row t (begins_not p (row * across) t (none t lo hi)))

-- Where both tests let the same tiles through from a tile on, and no run goes on into it, both have the same runs from
-- there on.
begins_same : (p q : ℕ → Bool) (first t : ℕ) → p t ≡ q t → (t ≡ first) ⊎ (p (t - 1) ≡ q (t - 1)) → begins_run p first t ≡ begins_run q first t
begins_same p q first t e (inl f) =
    ap (λ b. b && ((t == first) || not (p (t - 1)))) e ∙ (ap (λ b. q t && (b || not (p (t - 1)))) (eq-eqb t first f) ∙ ap (λ b. q t && (b || not (q (t - 1)))) (sym (eq-eqb t first f)))
begins_same p q first t e (inr f) =
    ap (λ b. b && ((t == first) || not (p (t - 1)))) e ∙ ap (λ b. q t && ((t == first) || not b)) f

run_same : (p q : ℕ → Bool) (across row t : ℕ) → ((k : ℕ) → t ≤ k → k < row * across + across → p k ≡ q k) → t ≤ row * across + across → run_from p across row t ≡ run_from q across row t
run_same p q across row t same le =
    ap (λ (xs : List ℕ). the_run (length xs)) (front_same p q (row * across + across - t) t (λ k lo hi. same k lo (omega arith)))
  where
    the_run : ℕ → Rect
    the_run n = record { x = (t - row * across) * TILE_SIDE; y = row * TILE_SIDE; w = n * TILE_SIDE; h = TILE_SIDE }

tile_same : (p q : ℕ → Bool) (across row t : ℕ) → begins_run p (row * across) t ≡ begins_run q (row * across) t → run_from p across row t ≡ run_from q across row t → tile_runs p across row t ≡ tile_runs q across row t
tile_same p q across row t e f =
    ap (λ b. cond b (run_from p across row t ∷ []) []) e ∙ ap (λ (r : Rect). cond (begins_run q (row * across) t) (r ∷ []) []) f

row_same : (p q : ℕ → Bool) (across row : ℕ) → ((t : ℕ) → row * across ≤ t → t < row * across + across → p t ≡ q t) → runs_of_row p across row ≡ runs_of_row q across row
row_same p q across row same =
    row_flat p across row
    ∙ (flat_same (tile_runs p across row) (tile_runs q across row) across (row * across) (λ t lo hi.
    tile_same p q across row t (begins_same p q (row * across) t (same t lo hi) (back t lo hi)) (run_same p q across row t (λ k l h. same k (omega arith) h) (omega arith)))
    ∙ sym (row_flat q across row))
  where
    back : (t : ℕ) → row * across ≤ t → t < row * across + across → (t ≡ row * across) ⊎ (p (t - 1) ≡ q (t - 1))
    back t lo hi =
        elim (cases_eq t (row * across)) [
          | inl e ↦ inl e
          | inr ne ↦ inr (same (t - 1) (omega arith) (omega arith))
        ]

-- ---- what is left

-- The test by which what is left is made into runs.
abbrev left_passes : Walking → (ℕ → Bool) → ℕ → ℕ → Bool
left_passes walk due s t = (nat_le s t && due t) && meets walk.area (tile_rect walk.width walk.height t)

passes_from : (walk : Walking) (due : ℕ → Bool) (s t : ℕ) → s ≤ t → left_passes walk due s t ≡ brings walk due t
passes_from walk due s t le = ap (λ b. (b && due t) && meets walk.area (tile_rect walk.width walk.height t)) (le-leb s t le)

passes_before : (walk : Walking) (due : ℕ → Bool) (s t : ℕ) → t < s → left_passes walk due s t ≡ false
passes_before walk due s t lt = ap (λ b. (b && due t) && meets walk.area (tile_rect walk.width walk.height t)) (lt-leb s t lt)

abbrev pub at_tile : Walking → ℕ → Walking
at_tile walk s = record { width = walk.width; height = walk.height; area = walk.area; next = s }

-- Tiles that don't pass may be left out.
pub left_skip : (walk : Walking) (due : ℕ → Bool) (s : ℕ) → walk.next ≤ s → ((t : ℕ) → walk.next ≤ t → t < s → brings walk due t ≡ false) → runs_left walk due ≡ runs_left (at_tile walk s) due
left_skip walk due s le skipped =
    ap (λ (p : ℕ → Bool). map (common walk.area) (flat_map (runs_of_row p (tiles_across walk.width)) (range_with_len 0 (tiles_across walk.height)))) (fun_ext same)
  where
    same : (t : ℕ) → left_passes walk due walk.next t ≡ left_passes walk due s t
    same t =
        elim (cases_lt t walk.next) [
          | inl before ↦ passes_before walk due walk.next t before ∙ sym (passes_before walk due s t (omega arith))
          | inr from ↦ elim (cases_lt t s) [
            | inl below ↦ passes_from walk due walk.next t from ∙ (skipped t from below ∙ sym (passes_before walk due s t below))
            | inr past ↦ passes_from walk due walk.next t from ∙ sym (passes_from walk due s t past)
          ]
        ]

-- Where no tile passes nothing is left.
pub left_none : (walk : Walking) (due : ℕ → Bool) → ((t : ℕ) → walk.next ≤ t → t < tile_count walk.width walk.height → brings walk due t ≡ false) → runs_left walk due ≡ []
left_none walk due done =
    ap (λ (rs : List Rect). map (common walk.area) rs) (flat_none (runs_of_row (left_passes walk due walk.next) (tiles_across walk.width)) (tiles_across walk.height) 0
    (λ row lo hi. row_none (left_passes walk due walk.next) (tiles_across walk.width) row (λ t from to. none t row hi to)))
  where
    none : (t row : ℕ) → row < 0 + tiles_across walk.height → t < row * tiles_across walk.width + tiles_across walk.width → left_passes walk due walk.next t ≡ false
    none t row hi to =
        elim (cases_lt t walk.next) [
          | inl before ↦ passes_before walk due walk.next t before
          | inr from ↦ passes_from walk due walk.next t from ∙ done t from (row_under t row (tiles_across walk.width) (tiles_across walk.height) (omega arith) to)
        ]

-- ---- a run is taken

begins_now : (p : ℕ → Bool) (first t : ℕ) → p t ≡ true → (t ≡ first) ⊎ (p (t - 1) ≡ false) → begins_run p first t ≡ true
begins_now p first t e (inl f) = ap (λ b. b && ((t == first) || not (p (t - 1)))) e ∙ ap (λ b. b || not (p (t - 1))) (eq-eqb t first f)
begins_now p first t e (inr f) = ap (λ b. b && ((t == first) || not (p (t - 1)))) e ∙ (ap (λ b. (t == first) || not b) f ∙ or_true (t == first))
  where
    or_true : (b : Bool) → (b || true) ≡ true
    or_true true = refl
    or_true false = refl

goes_on : (p : ℕ → Bool) (first t : ℕ) → t ≢ first → p (t - 1) ≡ true → begins_run p first t ≡ false
goes_on p first t ne e = ap (λ b. p t && (b || not (p (t - 1)))) (ne_eqb t first ne) ∙ (ap (λ b. p t && not b) e ∙ and_none (p t))
  where
    and_none : (b : Bool) → (b && false) ≡ false
    and_none true = refl
    and_none false = refl

-- This many pass from a tile on, and then none or the end of the row.
front_is : (p : ℕ → Bool) (s n m : ℕ) → n ≤ m → ((t : ℕ) → s ≤ t → t < s + n → p t ≡ true) → (n ≡ m) ⊎ (p (s + n) ≡ false) → length (take_while p (range_with_len s m)) ≡ n
front_is p s n m le all stops =
    let reaches : n ≤ length (take_while p (range_with_len s m)) = front_reaches p s m n le all in
    let within : length (take_while p (range_with_len s m)) ≤ m = front_within p s m in
    elim (cases_lt n (length (take_while p (range_with_len s m)))) [
      | inl more ↦ absurd (no_more more within stops)
      | inr least ↦ omega (arith, reaches, least)
    ]
  where
    no_more : n < length (take_while p (range_with_len s m)) → length (take_while p (range_with_len s m)) ≤ m → (n ≡ m) ⊎ (p (s + n) ≡ false) → ⊥
    no_more more within (inl e) = omega (arith, more, within, e)
    no_more more within (inr e) = let passes : true ≡ false = sym (front_passes p s m (s + n) (omega arith) (omega (arith, more))) ∙ e in cc

abbrev run_rect : ℕ → ℕ → ℕ → ℕ → Rect
run_rect across row s n = record { x = (s - row * across) * TILE_SIDE; y = row * TILE_SIDE; w = n * TILE_SIDE; h = TILE_SIDE }

row_take : (p q : ℕ → Bool) (across row s n : ℕ) → row * across ≤ s → 0 < n → s + n ≤ row * across + across
    → ((t : ℕ) → t < s → p t ≡ false) → ((t : ℕ) → t < s + n → q t ≡ false)
    → ((t : ℕ) → s ≤ t → t < s + n → p t ≡ true) → ((t : ℕ) → s + n ≤ t → p t ≡ q t)
    → (s + n ≡ row * across + across) ⊎ (p (s + n) ≡ false)
    → runs_of_row p across row ≡ record { x = (s - row * across) * TILE_SIDE; y = row * TILE_SIDE; w = n * TILE_SIDE; h = TILE_SIDE } ∷ runs_of_row q across row
row_take p q across row s n from some to before taken all later stops =
    row_flat p across row
    ∙ (flat_take (tile_runs p across row) (tile_runs q across row) (run_rect across row s n) across (row * across) s from (omega arith)
    (λ t lo lt. none_begins p across row t (begins_not p (row * across) t (before t lt)))
    (λ t lo lt. none_begins q across row t (begins_not q (row * across) t (taken t (omega arith))))
    here behind
    ∙ ap (λ (rs : List Rect). run_rect across row s n ∷ rs) (sym (row_flat q across row)))
  where
    side : (s ≡ row * across) ⊎ (p (s - 1) ≡ false)
    side = elim (cases_lt (row * across) s) [ inl more ↦ inr (before (s - 1) (omega arith)) | inr at_first ↦ inl (omega arith) ]

    ends : (n ≡ row * across + across - s) ⊎ (p (s + n) ≡ false)
    ends = elim stops [ inl e ↦ inl (omega arith) | inr e ↦ inr e ]

    run_is : run_from p across row s ≡ run_rect across row s n
    run_is = ap (λ k. run_rect across row s k) (front_is p s n (row * across + across - s) (omega arith) all ends)

    here : tile_runs p across row s ≡ run_rect across row s n ∷ tile_runs q across row s
    here =
        ap (λ b. cond b (run_from p across row s ∷ []) []) (begins_now p (row * across) s (all s (omega arith) (omega arith)) side)
        ∙ (ap (λ (r : Rect). r ∷ []) run_is ∙ ap (λ (rs : List Rect). run_rect across row s n ∷ rs) (sym (none_begins q across row s (begins_not q (row * across) s (taken s (omega arith))))))

    neither : (t : ℕ) → begins_run p (row * across) t ≡ false → begins_run q (row * across) t ≡ false → tile_runs p across row t ≡ tile_runs q across row t
    neither t e f = none_begins p across row t e ∙ sym (none_begins q across row t f)

    at_end : (t : ℕ) → t ≡ s + n → t < row * across + across → tile_runs p across row t ≡ tile_runs q across row t
    at_end t e hi =
        elim stops [
          | inl last ↦ absurd (omega arith)
          | inr stop ↦
              let none : p t ≡ false = ap p e ∙ stop in
              neither t (begins_not p (row * across) t none) (begins_not q (row * across) t (sym (later t (omega arith)) ∙ none))
        ]

    behind : (t : ℕ) → s < t → t < row * across + across → tile_runs p across row t ≡ tile_runs q across row t
    behind t lt hi =
        elim (cases_lt t (s + n)) [
          | inl within ↦
              let ne : t ≢ row * across = omega arith in
              neither t (goes_on p (row * across) t ne (all (t - 1) (omega arith) (omega arith))) (begins_not q (row * across) t (taken t within))
          | inr past ↦ elim (cases_lt (s + n) t) [
            | inl beyond ↦
                tile_same p q across row t (begins_same p q (row * across) t (later t past) (inr (later (t - 1) (omega arith))))
                (run_same p q across row t (λ k l h. later k (omega arith)) (omega arith))
            | inr last ↦ at_end t (omega arith) hi
          ]
        ]

-- The first run is the one from the next tile on, where that passes.
pub left_take : (walk : Walking) (due : ℕ → Bool) (row n : ℕ) → row < tiles_across walk.height → row * tiles_across walk.width ≤ walk.next → 0 < n
    → walk.next + n ≤ row * tiles_across walk.width + tiles_across walk.width
    → ((t : ℕ) → walk.next ≤ t → t < walk.next + n → brings walk due t ≡ true)
    → (walk.next + n ≡ row * tiles_across walk.width + tiles_across walk.width) ⊎ (brings walk due (walk.next + n) ≡ false)
    → runs_left walk due ≡ common walk.area (record { x = (walk.next - row * tiles_across walk.width) * TILE_SIDE; y = row * TILE_SIDE; w = n * TILE_SIDE; h = TILE_SIDE }) ∷ runs_left (at_tile walk (walk.next + n)) due
left_take walk due row n low from some to taken stops =
    let across : ℕ = tiles_across walk.width in
    let s : ℕ = walk.next in
    let p : ℕ → Bool = left_passes walk due s in
    let q : ℕ → Bool = left_passes walk due (s + n) in
    let later : (t : ℕ) → s + n ≤ t → p t ≡ q t = λ t le. passes_from walk due s t (omega arith) ∙ sym (passes_from walk due (s + n) t le) in
    let here : runs_of_row p across row ≡ record { x = (s - row * across) * TILE_SIDE; y = row * TILE_SIDE; w = n * TILE_SIDE; h = TILE_SIDE } ∷ runs_of_row q across row =
    row_take p q across row s n from some to (λ t lt. passes_before walk due s t lt) (λ t lt. passes_before walk due (s + n) t lt) (λ t lo hi. passes_from walk due s t lo ∙ taken t lo hi) later
    (elim stops [ inl e ↦ inl e | inr e ↦ inr (passes_from walk due s (s + n) (omega arith) ∙ e) ]) in
    let above : (k t : ℕ) → k < row → t < k * across + across → t < row * across = λ k t lt hi. (let up : (k + 1) * across ≤ row * across = mul-le-mul_right across (omega arith) in omega (arith, up)) in
    let below : (k t : ℕ) → row < k → k * across ≤ t → s + n ≤ t = λ k t lt lo. (let up : (row + 1) * across ≤ k * across = mul-le-mul_right across (omega arith) in omega (arith, up)) in
    ap (λ (rs : List Rect). map (common walk.area) rs)
    (flat_take (runs_of_row p across) (runs_of_row q across) (record { x = (s - row * across) * TILE_SIDE; y = row * TILE_SIDE; w = n * TILE_SIDE; h = TILE_SIDE }) (tiles_across walk.height) 0 row (omega arith) (omega (arith, low))
    (λ k _ lt. row_none p across k (λ t a b. passes_before walk due s t (omega (arith, above k t lt b))))
    (λ k _ lt. row_none q across k (λ t a b. passes_before walk due (s + n) t (omega (arith, above k t lt b))))
    here
    (λ k lt hi. row_same p q across k (λ t a b. later t (below k t lt a))))

-- ---- the run that was found

-- A rectangle of tiles has just those that the area meets.
abbrev pub IsBox : Walking → Rect → Type 0
IsBox walk met = (t : ℕ) → t < tile_count walk.width walk.height → holds met (t % tiles_across walk.width) (t / tiles_across walk.width) ≡ meets walk.area (tile_rect walk.width walk.height t)

brings_in : (walk : Walking) (due : ℕ → Bool) (met : Rect) (t : ℕ) → IsBox walk met → t < tile_count walk.width walk.height → is_in due met (tiles_across walk.width) t ≡ brings walk due t
brings_in walk due met t box lt = ap (λ b. due t && b) (box t lt)

pub nothing_found : (walk : Walking) (due : ℕ → Bool) (met : Rect) → IsBox walk met
    → ((t : ℕ) → walk.next ≤ t → t < tile_count walk.width walk.height → is_in due met (tiles_across walk.width) t ≡ false) → IsDone walk due
nothing_found walk due met box none t from lt = sym (brings_in walk due met t box lt) ∙ none t from lt

-- What was found in the rectangle of tiles, of the area.
pub record IsTaken (walk : Walking) (due : ℕ → Bool) (first end : ℕ) : Type 0 where
  pub row : ℕ
  pub low : row < tiles_across walk.height
  pub from : walk.next ≤ first
  pub in_row : row * tiles_across walk.width ≤ first
  pub some : first < end
  pub within : end ≤ row * tiles_across walk.width + tiles_across walk.width
  pub there : end ≤ tile_count walk.width walk.height
  pub skipped : (t : ℕ) → walk.next ≤ t → t < first → brings walk due t ≡ false
  pub taken : (t : ℕ) → first ≤ t → t < end → brings walk due t ≡ true
  pub stops : (end ≡ row * tiles_across walk.width + tiles_across walk.width) ⊎ (brings walk due end ≡ false)

pub is_taken : (walk : Walking) (due : ℕ → Bool) (met : Rect) (first end : ℕ) → IsBox walk met
    → IsFound (is_in due met (tiles_across walk.width)) (tiles_across walk.width) (tiles_across walk.height) walk.next first end → IsTaken walk due first end
is_taken walk due met first end box found =
    let across : ℕ = tiles_across walk.width in
    let there : end ≤ tile_count walk.width walk.height = omega (arith, row_under (end - 1) found.row across (tiles_across walk.height) found.low (omega (arith, found.some, found.within)), found.some) in
    record {
      row = found.row;
      low = found.low;
      from = found.from;
      in_row = found.in_row;
      some = found.some;
      within = found.within;
      there = there;
      skipped = λ t lo hi. sym (brings_in walk due met t box (omega (arith, there, found.some))) ∙ found.skipped t lo hi;
      taken = λ t lo hi. sym (brings_in walk due met t box (omega (arith, there))) ∙ found.taken t lo hi;
      stops = elim found.stops [
        | inl last ↦ inl last
        | inr stop ↦ inr (sym (brings_in walk due met end box (row_under end found.row across (tiles_across walk.height) found.low stop.0)) ∙ stop.1)
      ];
    }

pub next_run : (walk : Walking) (due : ℕ → Bool) (first end : ℕ) → IsWithin walk.area walk.width walk.height → IsTaken walk due first end
    → IsNextRun walk due (record { first = first; count = end - first; area = common walk.area (tiles_rect walk.width first (end - first)) })
next_run walk due first end on t =
    let across : ℕ = tiles_across walk.width in
    let place = place_of t.row across first t.in_row (omega (arith, t.some, t.within)) in
    let met = (and_parts (due first) (meets walk.area (tile_rect walk.width walk.height first)) (t.taken first (omega arith) t.some)).1 in
    record {
      from = t.from;
      some = omega (arith, t.some);
      row = omega (arith, place.column_is, t.within, t.in_row, t.some);
      there = omega (arith, t.there, t.some);
      skipped = t.skipped;
      taken = λ k lo hi. t.taken k lo (omega (arith, t.some));
      area = refl;
      part = part_by walk.area walk.width walk.height (first % across) (first / across) (end - first) on (omega (arith, t.some)) met;
    }

pub left_behind : (walk : Walking) (due : ℕ → Bool) (first end : ℕ) → IsTaken walk due first end
    → runs_left walk due ≡ common walk.area (tiles_rect walk.width first (end - first)) ∷ runs_left (at_tile walk end) due
left_behind walk due first end t =
    let across : ℕ = tiles_across walk.width in
    let n : ℕ = end - first in
    let whole : first + n ≡ end = omega (arith, t.some) in
    let place = place_of t.row across first t.in_row (omega (arith, t.some, t.within)) in
    left_skip walk due first t.from t.skipped
    ∙ (left_take (at_tile walk first) due t.row n t.low t.in_row (omega (arith, t.some)) (omega (arith, whole, t.within)) (λ k lo hi. t.taken k lo (omega (arith, whole)))
    (elim t.stops [ inl last ↦ inl (omega (arith, whole, last)) | inr stop ↦ inr (ap (brings walk due) whole ∙ stop) ])
    ∙ (ap (λ (k : ℕ). common walk.area (record { x = k * TILE_SIDE; y = t.row * TILE_SIDE; w = n * TILE_SIDE; h = TILE_SIDE }) ∷ runs_left (at_tile walk (first + n)) due) (sym place.column_is)
    ∙ (ap (λ (k : ℕ). common walk.area (record { x = first % across * TILE_SIDE; y = k * TILE_SIDE; w = n * TILE_SIDE; h = TILE_SIDE }) ∷ runs_left (at_tile walk (first + n)) due) (sym place.row_is)
    ∙ ap (λ (k : ℕ). common walk.area (tiles_rect walk.width first n) ∷ runs_left (at_tile walk k) due) whole)))

-- The same of numbers that are those of the walk.
pub found_there : (walk : Walking) (due : ℕ → Bool) (met : Rect) (across h first end : ℕ) → across ≡ tiles_across walk.width → h ≡ walk.height → IsBox walk met
    → IsFound (is_in due met across) across (tiles_across h) walk.next first end → IsTaken walk due first end
found_there walk due met across h first end wide high box found =
    is_taken walk due met first end box
    (subst (λ (a : ℕ). IsFound (is_in due met a) a (tiles_across walk.height) walk.next first end) wide (subst (λ (b : ℕ). IsFound (is_in due met across) across (tiles_across b) walk.next first end) high found))

pub none_there : (walk : Walking) (due : ℕ → Bool) (met : Rect) (across w h : ℕ) → across ≡ tiles_across walk.width → w ≡ walk.width → h ≡ walk.height → IsBox walk met
    → ((t : ℕ) → walk.next ≤ t → t < tile_count w h → is_in due met across t ≡ false) → IsDone walk due
none_there walk due met across w h wide same high box none =
    nothing_found walk due met box
    (λ t from lt. ap (λ (a : ℕ). is_in due met a t) (sym wide) ∙ none t from (subst (λ (a : ℕ). t < tile_count a h) (sym same) (subst (λ (b : ℕ). t < tile_count walk.width b) (sym high) lt)))

-- ---- all runs

-- At the beginning all runs are left.
pub left_at_first : (walk : Walking) (due : ℕ → Bool) → walk.next ≡ 0 → runs_left walk due ≡ runs walk.width walk.height walk.area due
left_at_first walk due first =
    ap (λ (p : ℕ → Bool). map (common walk.area) (flat_map (runs_of_row p (tiles_across walk.width)) (range_with_len 0 (tiles_across walk.height))))
    (fun_ext (λ t. ap (λ b. (b && due t) && meets walk.area (tile_rect walk.width walk.height t)) (le-leb walk.next t (omega (arith, first)))))

-- Where two tests say the same of each tile, the runs are the same.
pub same_runs : (w h : ℕ) (area : Rect) (p q : ℕ → Bool) → ((t : ℕ) → t < tile_count w h → p t ≡ q t) → runs w h area p ≡ runs w h area q
same_runs w h area p q same =
    ap (λ (rs : List Rect). map (common area) rs)
    (flat_same (runs_of_row (λ t. p t && meets area (tile_rect w h t)) (tiles_across w)) (runs_of_row (λ t. q t && meets area (tile_rect w h t)) (tiles_across w)) (tiles_across h) 0
    (λ row lo hi. row_same (λ t. p t && meets area (tile_rect w h t)) (λ t. q t && meets area (tile_rect w h t)) (tiles_across w) row
    (λ t from to. ap (λ b. b && meets area (tile_rect w h t)) (same t (row_under t row (tiles_across w) (tiles_across h) (omega arith) to)))))
