-- The runs of tiles depend on which tiles of the screen are due, and so does whether there are any. A cut marks tiles
-- of the screen alone.
use Rattle.std.proofs.Common.{◌≡◌, ℕ, zero, suc, ◌+◌, ◌-◌, ◌*◌, ◌<◌, ◌≤◌, Bool, true, false, cond, List, [], ◌∷◌, ◌++◌, length, refl, sym, ap, subst, ◌∙◌, arith}
use Rattle.std.specs.Prelude.{map, filter, take_while, ◌&&◌, ◌||◌, ◌==◌, not, max}
use Rattle.std.specs.List.{flat_map, list_all, list_any, range_with_len}
use Rattle.std.proofs.lemmas.Bool.Decides.{nat_tests}
use Rattle.std.proofs.lemmas.Bool.{eqb-true}
use Rattle.std.proofs.lemmas.List.Sums.{take_while-cons}
use Rattle.std.proofs.Math.Nat.{mul-le-mul_right, mul_comm}
use Rattle.raster.specs.declared.rect.Rect.{Rect}
use Rattle.raster.specs.Screen.{IsWithin, holds, meets, common, tiles_across, tile_count, tile_rect}
use Rattle.raster.proofs.Places.{Has, holds_has, has_holds, meets_at, tile_of, tile_of_there, tile_of_has}
use Rattle.raster.proofs.Spellings.{Each}
use Rattle.tiles.specs.Touched.{runs, runs_of_row, run_from, begins_run}
use Rattle.tiles.specs.Brings.{IsPart, some_holds}
use Rattle.tiles.proofs.RunLaws.{InSome, runs_cover, runs_within}
use Rattle.tiles.proofs.Brought.{runs_bring_the_due}
use Rattle.raster.specs.declared.tile.TheConstants.{TILE_SIDE}

-- ---- tests that agree on a range

pub any_same : (p q : ℕ → Bool) (n a : ℕ) → ((t : ℕ) → a ≤ t → t < a + n → p t ≡ q t) → list_any p (range_with_len a n) ≡ list_any q (range_with_len a n)
any_same p q zero a e = refl
any_same p q (suc n) a e =
    ap (λ b. b || list_any p (range_with_len (a + 1) n)) (e a (omega arith) (omega arith))
    ∙ ap (λ b. q a || b) (any_same p q n (a + 1) (λ t lo hi. e t (omega arith) (omega arith)))

pub all_same : (p q : ℕ → Bool) (n a : ℕ) → ((t : ℕ) → a ≤ t → t < a + n → p t ≡ q t) → list_all p (range_with_len a n) ≡ list_all q (range_with_len a n)
all_same p q zero a e = refl
all_same p q (suc n) a e =
    ap (λ b. b && list_all p (range_with_len (a + 1) n)) (e a (omega arith) (omega arith))
    ∙ ap (λ b. q a && b) (all_same p q n (a + 1) (λ t lo hi. e t (omega arith) (omega arith)))

prefix_same : (p q : ℕ → Bool) (n a : ℕ) → ((t : ℕ) → a ≤ t → t < a + n → p t ≡ q t) → take_while p (range_with_len a n) ≡ take_while q (range_with_len a n)
prefix_same p q zero a e = refl
prefix_same p q (suc n) a e =
    take_while-cons p a (range_with_len (a + 1) n)
    ∙ (ap (λ b. cond b (a ∷ take_while p (range_with_len (a + 1) n)) []) (e a (omega arith) (omega arith))
    ∙ (ap (λ ts. cond (q a) (a ∷ ts) []) (prefix_same p q n (a + 1) (λ t lo hi. e t (omega arith) (omega arith)))
    ∙ sym (take_while-cons q a (range_with_len (a + 1) n))))

abbrev mapped : (ℕ → Rect) → Bool → ℕ → List ℕ → List Rect
mapped f b t ts = map f (cond b (t ∷ ts) ts)

head_in : (f : ℕ → Rect) (b : Bool) (t : ℕ) (ts : List ℕ) → mapped f b t ts ≡ cond b (f t ∷ map f ts) (map f ts)
head_in f true t ts = refl
head_in f false t ts = refl

pick_same : (f g : ℕ → Rect) (p q : ℕ → Bool) (n a : ℕ) → ((t : ℕ) → a ≤ t → t < a + n → (f t ≡ g t) × (p t ≡ q t))
    → map f (filter p (range_with_len a n)) ≡ map g (filter q (range_with_len a n))
pick_same f g p q zero a e = refl
pick_same f g p q (suc n) a e =
    let here : (f a ≡ g a) × (p a ≡ q a) = e a (omega arith) (omega arith) in
    let fs : List Rect = map f (filter p (range_with_len (a + 1) n)) in
    let others : fs ≡ map g (filter q (range_with_len (a + 1) n)) = pick_same f g p q n (a + 1) (λ t lo hi. e t (omega arith) (omega arith)) in
    head_in f (p a) a (filter p (range_with_len (a + 1) n))
    ∙ (ap (λ b. cond b (f a ∷ fs) fs) here.1
    ∙ (ap (λ r. cond (q a) (r ∷ fs) fs) here.0
    ∙ (ap (λ rs. cond (q a) (g a ∷ rs) rs) others ∙ sym (head_in g (q a) a (filter q (range_with_len (a + 1) n))))))

rows_same : (f g : ℕ → List Rect) (n a : ℕ) → ((row : ℕ) → a ≤ row → row < a + n → f row ≡ g row) → flat_map f (range_with_len a n) ≡ flat_map g (range_with_len a n)
rows_same f g zero a e = refl
rows_same f g (suc n) a e =
    ap (λ rs. rs ++ flat_map f (range_with_len (a + 1) n)) (e a (omega arith) (omega arith))
    ∙ ap (λ rs. g a ++ rs) (rows_same f g n (a + 1) (λ t lo hi. e t (omega arith) (omega arith)))

-- ---- runs

begins_by : (p q : ℕ → Bool) (first t : ℕ) (b : Bool) → (t == first) ≡ b → p t ≡ q t → (b ≡ false → p (t - 1) ≡ q (t - 1)) → begins_run p first t ≡ begins_run q first t
begins_by p q first t true e here before =
    ap (λ b. b && ((t == first) || not (p (t - 1)))) here
    ∙ (ap (λ b. q t && (b || not (p (t - 1)))) e ∙ sym (ap (λ b. q t && (b || not (q (t - 1)))) e))
begins_by p q first t false e here before =
    ap (λ b. b && ((t == first) || not (p (t - 1)))) here ∙ ap (λ b. q t && ((t == first) || not b)) (before refl)

not_first : (t first : ℕ) → (t == first) ≡ false → first ≤ t → first < t
not_first t first e le = grind (arith, nat_tests)

row_same : (p q : ℕ → Bool) (across row : ℕ) → ((t : ℕ) → row * across ≤ t → t < row * across + across → p t ≡ q t) → runs_of_row p across row ≡ runs_of_row q across row
row_same p q across row e =
    let first : ℕ = row * across in
    pick_same (run_from p across row) (run_from q across row) (begins_run p first) (begins_run q first) across first
    (λ t lo hi. (
      ap (λ ts. record { x = (t - first) * TILE_SIDE; y = row * TILE_SIDE; w = length ts * TILE_SIDE; h = TILE_SIDE })
          (prefix_same p q (first + across - t) t (λ u from to. e u (omega (arith, lo, from)) (omega (arith, lo, hi, to)))),
      begins_by p q first t (t == first) refl (e t lo hi)
          (λ later. (let behind : first < t = not_first t first later lo in e (t - 1) (omega (arith, behind)) (omega (arith, behind, hi)))),
    ))

row_there : (row across down t : ℕ) → row < down → t < row * across + across → t < across * down
row_there row across down t lt up =
    let whole : (row + 1) * across ≤ down * across = mul-le-mul_right across (omega arith) in
    let more : (row + 1) * across ≡ row * across + across = omega arith in
    omega (arith, whole, more, up, mul_comm across down)

pub runs_same : (w h : ℕ) (area : Rect) (p q : ℕ → Bool) → ((t : ℕ) → t < tile_count w h → p t ≡ q t) → runs w h area p ≡ runs w h area q
runs_same w h area p q e =
    let across : ℕ = tiles_across w in
    let in_area : (ℕ → Bool) → ℕ → Bool = λ due t. due t && meets area (tile_rect w h t) in
    ap (map (common area))
    (rows_same (runs_of_row (in_area p) across) (runs_of_row (in_area q) across) (tiles_across h) 0
    (λ row lo hi.
    row_same (in_area p) (in_area q) across row
    (λ t from to. ap (λ b. b && meets area (tile_rect w h t)) (e t (row_there row across (tiles_across h) t (omega (arith, hi)) to)))))

-- ---- whether there are any

and_both : (a b : Bool) → (a && b) ≡ true → (a ≡ true) × (b ≡ true)
and_both true b e = (refl, e)
and_both false b e = absurd cc

both_and : (a b : Bool) → a ≡ true → b ≡ true → (a && b) ≡ true
both_and true b e f = f
both_and false b e f = absurd cc

any_by : (p : ℕ → Bool) (a t : ℕ) (rest b c : Bool) → p a ≡ b → (t == a) ≡ c → p t ≡ true → (c ≡ false → rest ≡ true) → (p a || rest) ≡ true
any_by p a t rest true c here at e more = ap (λ d. d || rest) here
any_by p a t rest false true here at e more = absurd (let same : t ≡ a = eqb-true t a at in let passes : p a ≡ true = ap p (sym same) ∙ e in cc)
any_by p a t rest false false here at e more = ap (λ d. d || rest) here ∙ more refl

any_at : (p : ℕ → Bool) (n a t : ℕ) → a ≤ t → t < a + n → p t ≡ true → list_any p (range_with_len a n) ≡ true
any_at p zero a t lo hi e = absurd (omega arith)
any_at p (suc n) a t lo hi e =
    any_by p a t (list_any p (range_with_len (a + 1) n)) (p a) (t == a) refl refl e
    (λ later. (let behind : a < t = not_first t a later lo in any_at p n (a + 1) t (omega (arith, behind)) (omega (arith, hi)) e))

none_first : (p : ℕ → Bool) (a : ℕ) (rest b : Bool) → p a ≡ b → (p a ≡ true → ⊥) → rest ≡ false → (p a || rest) ≡ false
none_first p a rest true here not_here e = absurd (not_here here)
none_first p a rest false here not_here e = ap (λ d. d || rest) here ∙ e

no_test : (p : ℕ → Bool) (n a : ℕ) → ((t : ℕ) → a ≤ t → t < a + n → p t ≡ true → ⊥) → list_any p (range_with_len a n) ≡ false
no_test p zero a e = refl
no_test p (suc n) a e =
    none_first p a (list_any p (range_with_len (a + 1) n)) (p a) refl (e a (omega arith) (omega arith)) (no_test p n (a + 1) (λ t lo hi. e t (omega arith) (omega arith)))

-- Rectangles that meet have a position in common.
meets_where : (a b c d e f g k : ℕ) → meets (record { x = a; y = b; w = c; h = d }) (record { x = e; y = f; w = g; h = k }) ≡ true
    → ((max a e < a + c) × (max a e < e + g)) × ((max b f < b + d) × (max b f < f + k))
meets_where a b c d e f g k m = ((grind (arith, nat_tests), grind (arith, nat_tests)), (grind (arith, nat_tests), grind (arith, nat_tests)))

some_there : (w h : ℕ) (area : Rect) (due : ℕ → Bool) (t : ℕ) → t < tile_count w h → (meets area (tile_rect w h t) && due t) ≡ true → runs w h area due ≡ [] → ⊥
some_there w h area due t lt e none =
    let both : (meets area (tile_rect w h t) ≡ true) × (due t ≡ true) = and_both (meets area (tile_rect w h t)) (due t) e in
    let r : Rect = tile_rect w h t in
    let at = meets_where area.x area.y area.w area.h r.x r.y r.w r.h both.0 in
    let x : ℕ = max area.x r.x in
    let y : ℕ = max area.y r.y in
    let inside : InSome (runs w h area due) x y =
    runs_cover w h area due t x y lt both.1 (record { left = omega arith; right = at.0.0; top = omega arith; bottom = at.1.0 }) (record { left = omega arith; right = at.0.1; top = omega arith; bottom = at.1.1 }) in
    let nowhere : InSome [] x y = subst (λ rs. InSome rs x y) none inside in
    nowhere

-- The first run lies in a tile that is due.
first_is_due : (w h : ℕ) (area : Rect) (due : ℕ → Bool) (r : Rect) (rs : List Rect) → w ≤ 4096 → h ≤ 4096 → IsWithin area w h → runs w h area due ≡ r ∷ rs
    → list_any (λ t. meets area (tile_rect w h t) && due t) (range_with_len 0 (tile_count w h)) ≡ true
first_is_due w h area due r rs lw lh on e =
    let part : IsPart w h r = (subst (λ l. Each (IsPart w h) l) e (runs_within w h area due on)).0 in
    let lx : r.x < w = omega (arith, part.inside.across, part.wide) in
    let ly : r.y < h = omega (arith, part.inside.down, part.high) in
    let t : ℕ = tile_of w r.x r.y in
    let there : t < tile_count w h = tile_of_there w h r.x r.y lx ly in
    let tile : Has (tile_rect w h t) r.x r.y = tile_of_has w h r.x r.y lx ly in
    let corner : holds r r.x r.y ≡ true = holds_has r r.x r.y (record { left = omega arith; right = omega (arith, part.wide); top = omega arith; bottom = omega (arith, part.high) }) in
    let some : some_holds (runs w h area due) r.x r.y ≡ true = ap (λ l. some_holds l r.x r.y) e ∙ ap (λ b. b || some_holds rs r.x r.y) corner in
    let both = and_both (holds area r.x r.y) (due t) (sym ((runs_bring_the_due w h area due lw lh on).exactly t r.x r.y there (holds_has (tile_rect w h t) r.x r.y tile)) ∙ some) in
    let met : meets area (tile_rect w h t) ≡ true = meets_at area (tile_rect w h t) r.x r.y (has_holds area r.x r.y both.0) tile in
    any_at (λ u. meets area (tile_rect w h u) && due u) (tile_count w h) 0 t (omega arith) (omega (arith, there)) (both_and (meets area (tile_rect w h t)) (due t) met both.1)

not_zero_by : (n : ℕ) (b : Bool) → (n == 0) ≡ b → (n ≡ 0 → ⊥) → (n == 0) ≡ false
not_zero_by n true e some = absurd (some (eqb-true n 0 e))
not_zero_by n false e some = e

pub not_zero : (n : ℕ) → (n ≡ 0 → ⊥) → (n == 0) ≡ false
not_zero n some = not_zero_by n (n == 0) refl some

none_by : (w h : ℕ) (area : Rect) (due : ℕ → Bool) (found : List Rect) → w ≤ 4096 → h ≤ 4096 → IsWithin area w h → runs w h area due ≡ found
    → (length found == 0) ≡ not (list_any (λ t. meets area (tile_rect w h t) && due t) (range_with_len 0 (tile_count w h)))
none_by w h area due [] lw lh on e =
    sym (ap not (no_test (λ t. meets area (tile_rect w h t) && due t) (tile_count w h) 0 (λ t lo hi passes. some_there w h area due t (omega (arith, hi)) passes e)))
none_by w h area due (r ∷ rs) lw lh on e = not_zero (length (r ∷ rs)) (λ z. absurd (omega (arith, z))) ∙ sym (ap not (first_is_due w h area due r rs lw lh on e))

-- There is no run exactly where no tile that meets the area is due.
pub no_run : (w h : ℕ) (area : Rect) (due : ℕ → Bool) → w ≤ 4096 → h ≤ 4096 → IsWithin area w h
    → (length (runs w h area due) == 0) ≡ not (list_any (λ t. meets area (tile_rect w h t) && due t) (range_with_len 0 (tile_count w h)))
no_run w h area due lw lh on = none_by w h area due (runs w h area due) lw lh on refl
