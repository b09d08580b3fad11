-- A screen that was behind takes the tiles that it lacks from one that is newer, run by run, but for those that a patch
-- brings, and then shows what that shows after the patch. `Board::catch_up` copies nothing else.
use Rattle.std.proofs.Common.{◌≡◌, ℕ, zero, suc, ◌+◌, ◌-◌, ◌*◌, ◌/◌, ◌%◌, ◌<◌, ◌≤◌, ◌⊎◌, Bool, true, false, List, [], ◌∷◌, take, drop, Option, Some, None, refl, ap, sym, ◌∙◌, subst, arith, inl, inr}
use Rattle.std.specs.Prelude.{◌&&◌, ◌||◌, not, nat_lt, if◌then◌else◌}
use Rattle.std.specs.List.{list_any}
use Rattle.std.proofs.lemmas.Bool.{and_left, and_parts, and_right, both_ways, cases_Bool, cases_lt, lt-ltb, le-ltb}
use Rattle.std.proofs.lemmas.List.{drop_all, length-take}
use Rattle.std.proofs.lemmas.Nat.{div-add-mod'}
use Rattle.raster.specs.declared.rect.Rect.{Rect}
use Rattle.raster.specs.Screen.{Canvas, LooksLike, common, holds, lay, meets, part_of, tile_count, tile_rect, tiles_across, value_at, whole_screen}
use Rattle.raster.specs.Update.{NumberedText, Paint, Put, Update, Paints, Bell, Cut, after_paint, after_paints, last_text, last_text_from, painted, paints_of, screen}
use Rattle.raster.proofs.Places.{Has, common_has, has_holds, holds_has, meets_at, tile_of, tile_of_has, tile_of_there}
use Rattle.tiles.specs.Grid.{IsCaughtUp, IsTouched, Stamps, is_lacked, is_newer, stamp_at}
use Rattle.tiles.specs.Touched.{last_touch, last_touch_from, touches}
use Rattle.tiles.specs.Walk.{IsDone, IsNextRun, Walking, tiles_rect}
use Rattle.tiles.specs.declared.walk.Run.{Run}
use Rattle.tiles.proofs.Brought.{has_common_right}
use Rattle.tiles.proofs.Ranges.{same_test}
use Rattle.tiles.proofs.RunTiles.{lay_in, tile_in_run, walk_at}
use Rattle.tiles.proofs.Touching.{or_left, or_right}
use Rattle.tiles.proofs.Untouched.{due_where_touched, untouched_stays}
use Rattle.painter.specs.Kept.{is_later}
use Rattle.painter.specs.Newer.{TookTiles}
use Rattle.painter.specs.Patch.{ShowsOver, SizedUpdate, tile_paints, tile_area}
use Rattle.painter.proofs.PaintingLaws.{whole_meets}
use Rattle.painter.proofs.TilePuts.{its_tile, meets_common}

-- A walk over the whole screen of a grid, at this tile.
abbrev pub on_screen : Stamps → ℕ → Walking
on_screen grid next = walk_at grid.width grid.height (whole_screen grid.width grid.height) next

-- Of the tiles before next those that are due were taken.
abbrev pub HasTaken : Stamps → (ℕ → Bool) → List ℕ → List ℕ → ℕ → List ℕ → Type 0
HasTaken grid due newer old next new =
    (t x y : ℕ) → t < tile_count grid.width grid.height → Has (tile_rect grid.width grid.height t) x y
    → value_at grid.width new x y ≡ (if nat_lt t next && due t then value_at grid.width newer x y else value_at grid.width old x y)

-- ---- a run more

-- A tile of which a position lies in a run is one of the run's.
run_has_tile : (w h first count t x y : ℕ) → Has (tile_rect w h t) x y → Has (tiles_rect w first count) x y → (first ≤ t) × (t < first + count)
run_has_tile w h first count t x y tile run =
    let across : ℕ = tiles_across w in
    let place : first / across * across + first % across ≡ first = div-add-mod' first across in
    let here : t / across * across + t % across ≡ t = div-add-mod' t across in
    let row : t / across ≡ first / across = omega (arith, tile.top, tile.bottom, run.top, run.bottom) in
    let rows : t / across * across ≡ first / across * across = ap (λ k. k * across) row in
    let low : first % across ≤ t % across = omega (arith, tile.right, run.left) in
    let high : t % across < first % across + count = omega (arith, tile.left, run.right) in
    (omega (arith, place, here, rows, low), omega (arith, place, here, rows, high))

lay_out : (r : Rect) (w : ℕ) (over under : List ℕ) (x y : ℕ) → holds r x y ≡ false → lay r (part_of r (value_at w over)) (value_at w under) x y ≡ value_at w under x y
lay_out r w over under x y out = ap (λ b. if b then value_at w over (r.x + (x - r.x)) (r.y + (y - r.y)) else value_at w under x y) out

and_left_true : (a b : Bool) → a ≡ true → b ≡ (a && b)
and_left_true true b e = refl
and_left_true false b e = absurd cc

both : (a b : Bool) → a ≡ true → b ≡ true → (a && b) ≡ true
both true b e f = f
both false b e f = absurd cc

first_of : (a b : Bool) → (a && b) ≡ false → b ≡ true → a ≡ false
first_of true b e f = absurd (both_ways b e f)
first_of false b e f = refl

chosen : {A : Type 0} (b : Bool) (p q : A) → b ≡ true → (if b then p else q) ≡ p
chosen true p q e = refl
chosen false p q e = absurd cc

other : {A : Type 0} (b : Bool) (p q : A) → b ≡ false → (if b then p else q) ≡ q
other true p q e = absurd cc
other false p q e = refl

-- What a tile of which no position lies in the run that is next is said to have.
same_as_before : (grid : Stamps) (due : ℕ → Bool) (next : ℕ) (run : Run) (t x y : ℕ) → 0 < grid.width → IsNextRun (on_screen grid next) due run → t < tile_count grid.width grid.height → Has (tile_rect grid.width grid.height t) x y
    → holds run.area x y ≡ false → (nat_lt t next && due t) ≡ (nat_lt t (run.first + run.count) && due t)
same_as_before grid due next run t x y some is lt has outside =
    elim (cases_lt t next) [
      | inl before ↦
          sym (and_left_true (nat_lt t next) (due t) (lt-ltb t next before))
          ∙ and_left_true (nat_lt t (run.first + run.count)) (due t) (lt-ltb t (run.first + run.count) (omega (arith, before, is.from, is.some)))
      | inr from ↦ and_left (nat_lt t next) (due t) (le-ltb t next from) ∙ sym (later from)
    ]
  where
    lx : x < grid.width
    lx = omega (arith, has.left, has.right)

    ly : y < grid.height
    ly = omega (arith, has.top, has.bottom)

    on : Has (whole_screen grid.width grid.height) x y
    on = record { left = omega arith; right = omega (arith, lx); top = omega arith; bottom = omega (arith, ly) }

    in_area : run.first ≤ t → t < run.first + run.count → Has run.area x y
    in_area lo hi =
        subst (λ (r : Rect). Has r x y) (sym is.area)
        (common_has (whole_screen grid.width grid.height) (tiles_rect grid.width run.first run.count) x y on (tile_in_run grid.width grid.height run.first run.count t x y is.row lo hi has))

    later : next ≤ t → (nat_lt t (run.first + run.count) && due t) ≡ false
    later from = elim (cases_lt t run.first) [
      | inl skipped ↦
          and_right (nat_lt t (run.first + run.count)) (due t)
          (first_of (due t) (meets (whole_screen grid.width grid.height) (tile_rect grid.width grid.height t)) (is.skipped t from skipped) (whole_meets grid.width grid.height t some lt))
      | inr begun ↦ elim (cases_lt t (run.first + run.count)) [
        | inl inside ↦ absurd (both_ways (holds run.area x y) outside (holds_has run.area x y (in_area begun inside)))
        | inr behind ↦ and_left (nat_lt t (run.first + run.count)) (due t) (le-ltb t (run.first + run.count) behind)
      ]
    ]

-- A tile of which a position lies in the run is one of it, and due.
newer_inside : (grid : Stamps) (due : ℕ → Bool) (next : ℕ) (run : Run) (t x y : ℕ) → IsNextRun (on_screen grid next) due run → Has (tile_rect grid.width grid.height t) x y → holds run.area x y ≡ true
    → (nat_lt t (run.first + run.count) && due t) ≡ true
newer_inside grid due next run t x y is has inside =
    let in_run : Has (common (whole_screen grid.width grid.height) (tiles_rect grid.width run.first run.count)) x y = subst (λ (r : Rect). Has r x y) is.area (has_holds run.area x y inside) in
    let near = run_has_tile grid.width grid.height run.first run.count t x y has (has_common_right (whole_screen grid.width grid.height) (tiles_rect grid.width run.first run.count) x y in_run) in
    both (nat_lt t (run.first + run.count)) (due t) (lt-ltb t (run.first + run.count) near.1)
    (and_parts (due t) (meets (whole_screen grid.width grid.height) (tile_rect grid.width grid.height t)) (is.taken t near.0 near.1)).0

-- What was taken before the tile next, and then the run that is next, is all before the tile after that.
pub taken_more : (grid : Stamps) (due : ℕ → Bool) (newer old mid new : List ℕ) (next : ℕ) (run : Run) → 0 < grid.width → IsNextRun (on_screen grid next) due run
    → LooksLike grid.width grid.height (value_at grid.width new) (lay run.area (part_of run.area (value_at grid.width newer)) (value_at grid.width mid))
    → HasTaken grid due newer old next mid → HasTaken grid due newer old (run.first + run.count) new
taken_more grid due newer old mid new next run some is shows was t x y lt has =
    shows x y (omega (arith, has.left, has.right)) (omega (arith, has.top, has.bottom)) ∙ at_place
  where
    at_place : lay run.area (part_of run.area (value_at grid.width newer)) (value_at grid.width mid) x y ≡ (if nat_lt t (run.first + run.count) && due t then value_at grid.width newer x y else value_at grid.width old x y)
    at_place = elim (cases_Bool (holds run.area x y)) [
      | inl inside ↦
          lay_in run.area grid.width newer mid x y (has_holds run.area x y inside)
          ∙ sym (chosen (nat_lt t (run.first + run.count) && due t) (value_at grid.width newer x y) (value_at grid.width old x y) (newer_inside grid due next run t x y is has inside))
      | inr outside ↦
          lay_out run.area grid.width newer mid x y outside
          ∙ (was t x y lt has ∙ ap (λ (b : Bool). if b then value_at grid.width newer x y else value_at grid.width old x y) (same_as_before grid due next run t x y some is lt has outside))
    ]

-- ---- the end

-- Once no tile is left that is due, all was taken.
pub all_taken : (grid : Stamps) (due : ℕ → Bool) (newer old new : List ℕ) (next : ℕ) → 0 < grid.width → IsDone (on_screen grid next) due → HasTaken grid due newer old next new → TookTiles grid.width grid.height due newer old new
all_taken grid due newer old new next some done was t x y lt in_tile =
    was t x y lt (has_holds (tile_rect grid.width grid.height t) x y in_tile) ∙ ap (λ (b : Bool). if b then value_at grid.width newer x y else value_at grid.width old x y) same
  where
    same : (nat_lt t next && due t) ≡ due t
    same = elim (cases_lt t next) [
      | inl before ↦ sym (and_left_true (nat_lt t next) (due t) (lt-ltb t next before))
      | inr from ↦
          let none : due t ≡ false = first_of (due t) (meets (whole_screen grid.width grid.height) (tile_rect grid.width grid.height t)) (done t from lt) (whole_meets grid.width grid.height t some lt) in
          and_right (nat_lt t next) (due t) none ∙ sym none
    ]

-- ---- what a board that is behind lacks

-- A grid of the first n updates has no tile that was touched after them.
not_newer : (r : Rect) (us : List Update) (n : ℕ) → nat_lt n (last_touch r (take n us)) ≡ false
not_newer r us n =
    let few = length-take n us in
    sym (due_where_touched r (take n us) n) ∙ ap (list_any (touches r)) (drop_all n (take n us) (omega (arith, few)))

lacked_if : (a b touched : Bool) (n m k : ℕ) → n < m → nat_lt n k ≡ false → (a && not (nat_lt n (if touched then m else k))) ≡ (a && not touched)
lacked_if a b true n m k lt e = ap (λ (c : Bool). a && not c) (lt-ltb n m lt)
lacked_if a b false n m k lt e = ap (λ (c : Bool). a && not c) e

-- Of the grids of a board that is behind, before and after the next patch has touched its tiles, and of the newer one.
pub record AreGrids (w h n m : ℕ) (us : List Update) (u : Update) (was marked newer : Stamps) : Type 0 where
  pub few : n < m
  pub was_at : (t : ℕ) → t < tile_count w h → stamp_at was t ≡ last_touch (tile_rect w h t) (take n us)
  pub marked_at : (t : ℕ) → t < tile_count w h → stamp_at marked t ≡ (if touches (tile_rect w h t) u then m else stamp_at was t)
  pub newer_at : (t : ℕ) → t < tile_count w h → stamp_at newer t ≡ last_touch (tile_rect w h t) us

-- What is lacked are the tiles that are newer, but for those of the patch.
lacked_is : (w h n m : ℕ) (us : List Update) (u : Update) (was marked newer : Stamps) → AreGrids w h n m us u was marked newer → (t : ℕ) → t < tile_count w h
    → is_lacked marked newer n t ≡ (is_newer newer n t && not (touches (tile_rect w h t) u))
lacked_is w h n m us u was marked newer are t lt =
    ap (λ k. is_newer newer n t && not (nat_lt n k)) (are.marked_at t lt)
    ∙ lacked_if (is_newer newer n t) true (touches (tile_rect w h t) u) n m (stamp_at was t) are.few (ap (nat_lt n) (are.was_at t lt) ∙ not_newer (tile_rect w h t) us n)

-- ---- its stamps

none_from : (r : Rect) (last next : ℕ) (us : List Update) → list_any (touches r) us ≡ false → last_touch_from r last next us ≡ last
none_from r last next [] e = refl
none_from r last next (u ∷ us) e =
    ap (λ b. last_touch_from r (if b then next else last) (next + 1) us) (or_left (touches r u) (list_any (touches r) us) e)
    ∙ none_from r last (next + 1) us (or_right (touches r u) (list_any (touches r) us) e)

stays_from : (r : Rect) (last next n : ℕ) (us : List Update) → list_any (touches r) (drop n us) ≡ false → last_touch_from r last next us ≡ last_touch_from r last next (take n us)
stays_from r last next zero us e = none_from r last next us e
stays_from r last next (suc n) [] e = refl
stays_from r last next (suc n) (u ∷ us) e = stays_from r (if touches r u then next else last) (next + 1) n us e

-- What wasn't touched after n was last touched when it was by the first n updates.
last_stays : (r : Rect) (us : List Update) (n : ℕ) → nat_lt n (last_touch r us) ≡ false → last_touch r us ≡ last_touch r (take n us)
last_stays r us n e = stays_from r 0 1 n us (due_where_touched r us n ∙ e)

stamp_if : (touched newer lacked : Bool) (m new was : ℕ) → lacked ≡ (newer && not touched) → (newer ≡ false → new ≡ was)
    → (if lacked then new else (if touched then m else was)) ≡ (if touched then m else new)
stamp_if true newer lacked m new was e f = ap (λ b. if b then new else m) (e ∙ and_right newer false refl)
stamp_if false true lacked m new was e f = ap (λ b. if b then new else was) e
stamp_if false false lacked m new was e f = ap (λ b. if b then new else was) e ∙ sym (f refl)

-- Once it is caught up its grid is the newer one, touched by the patch.
pub grid_caught_up : (n m : ℕ) (us : List Update) (u : Update) (was marked newer new : Stamps) → newer.width ≡ marked.width → newer.height ≡ marked.height
    → AreGrids newer.width newer.height n m us u was marked newer → IsCaughtUp newer n marked new → IsTouched (λ t. touches (tile_rect newer.width newer.height t) u) m newer new
grid_caught_up n m us u was marked newer new wide high are caught =
    record {
      width = caught.width ∙ sym wide;
      height = caught.height ∙ sym high;
      each = λ t lt.
          let r : Rect = tile_rect newer.width newer.height t in
          let there : t < tile_count marked.width marked.height = subst (λ h. t < tile_count marked.width h) high (subst (λ w. t < tile_count w newer.height) wide lt) in
          caught.each t there
          ∙ (ap (λ k. if is_lacked marked newer n t then stamp_at newer t else k) (are.marked_at t lt)
          ∙ stamp_if (touches r u) (is_newer newer n t) (is_lacked marked newer n t) m (stamp_at newer t) (stamp_at was t)
          (lacked_is newer.width newer.height n m us u was marked newer are t lt)
          (λ old. are.newer_at t lt ∙ (last_stays r us n (ap (nat_lt n) (sym (are.newer_at t lt)) ∙ old) ∙ sym (are.was_at t lt))));
    }

-- ---- its text

texts_after : (last : Option NumberedText) (next m : ℕ) (us : List Update) → m < next → (last_text_from last next us ≡ last) ⊎ (is_later (last_text_from last next us) m ≡ true)
texts_after last next m [] lt = inl refl
texts_after last next m (Paints size ps ∷ us) lt = texts_after last (next + 1) m us (omega arith)
texts_after last next m (Bell ∷ us) lt = texts_after last (next + 1) m us (omega arith)
texts_after last next m (Cut text ∷ us) lt =
    let there : Option NumberedText = Some (record { text = text; number = next }) in
    elim (texts_after there (next + 1) m us (omega arith)) [
      | inl same ↦ inr (ap (λ (o : Option NumberedText). is_later o m) same ∙ lt-ltb m next lt)
      | inr later ↦ inr later
    ]

text_behind : (last : Option NumberedText) (next k m : ℕ) (us : List Update) → next + k ≡ suc m → (last_text_from last next us ≡ last_text_from last next (take k us)) ⊎ (is_later (last_text_from last next us) m ≡ true)
text_behind last next zero m us e = texts_after last next m us (omega arith)
text_behind last next (suc k) m [] e = inl refl
text_behind last next (suc k) m (Paints size ps ∷ us) e = text_behind last (next + 1) k m us (omega arith)
text_behind last next (suc k) m (Bell ∷ us) e = text_behind last (next + 1) k m us (omega arith)
text_behind last next (suc k) m (Cut text ∷ us) e = text_behind (Some (record { text = text; number = next })) (next + 1) k m us (omega arith)

-- Where no text came after n, the last one is that of the first n updates.
pub text_caught_up : (us : List Update) (n : ℕ) (newer was : Option NumberedText) → newer ≡ last_text us → was ≡ last_text (take n us) → (if is_later newer n then newer else was) ≡ newer
text_caught_up us n newer was is old = elim (cases_Bool (is_later newer n)) [
  | inl later ↦ ap (λ (b : Bool). if b then newer else was) later
  | inr stays ↦
      ap (λ (b : Bool). if b then newer else was) stays
      ∙ (old ∙ (elim (text_behind None 1 n n us (omega arith)) [
        | inl same ↦ sym same
        | inr later ↦ absurd (both_ways (is_later newer n) stays (ap (λ (o : Option NumberedText). is_later o n) is ∙ later))
      ] ∙ sym is))
]

-- ---- its colours

-- At a position of a tile that the patch doesn't touch.
caught_at : (w h n t : ℕ) (grid : Stamps) (newer old new : List ℕ) (us : List Update) (x y : ℕ) → stamp_at grid t ≡ last_touch (tile_rect w h t) us → holds (tile_rect w h t) x y ≡ true
    → value_at w newer x y ≡ screen us x y → value_at w old x y ≡ screen (take n us) x y → value_at w new x y ≡ (if is_newer grid n t then value_at w newer x y else value_at w old x y)
    → value_at w new x y ≡ value_at w newer x y
caught_at w h n t grid newer old new us x y stamp in_tile shows showed took =
    took ∙ elim (cases_Bool (is_newer grid n t)) [
      | inl touched ↦ chosen (is_newer grid n t) (value_at w newer x y) (value_at w old x y) touched
      | inr untouched ↦
          other (is_newer grid n t) (value_at w newer x y) (value_at w old x y) untouched
          ∙ (showed ∙ (sym (untouched_stays (tile_rect w h t) us n x y (no_later untouched) in_tile) ∙ sym shows))
    ]
  where
    no_later : is_newer grid n t ≡ false → last_touch (tile_rect w h t) us ≤ n
    no_later e = elim (cases_lt n (stamp_at grid t)) [
      | inl less ↦ absurd (both_ways (nat_lt n (stamp_at grid t)) e (lt-ltb n (stamp_at grid t) less))
      | inr more ↦ omega (arith, more, stamp)
    ]

untouched_and : (a b c : Bool) → c ≡ false → (a && not c) ≡ a
untouched_and true b c e = ap not e
untouched_and false b c e = refl

-- Once what is lacked was taken, it looks like the newer one wherever the patch doesn't touch.
pub agrees : (w h n m : ℕ) (us : List Update) (u : Update) (was marked newer : Stamps) (over old new : List ℕ) → AreGrids w h n m us u was marked newer
    → TookTiles w h (is_lacked marked newer n) over old new → LooksLike w h (value_at w over) (screen us) → LooksLike w h (value_at w old) (screen (take n us))
    → (t x y : ℕ) → t < tile_count w h → x < w → y < h → holds (tile_rect w h t) x y ≡ true → touches (tile_rect w h t) u ≡ false → value_at w new x y ≡ value_at w over x y
agrees w h n m us u was marked newer over old new are took shows showed t x y lt lx ly in_tile out =
    caught_at w h n t newer over old new us x y (are.newer_at t lt) in_tile (shows x y lx ly) (showed x y lx ly)
    (took t x y lt in_tile ∙ ap (λ (b : Bool). if b then value_at w over x y else value_at w old x y) (lacked_is w h n m us u was marked newer are t lt ∙ untouched_and (is_newer newer n t) true (touches (tile_rect w h t) u) out))

-- ---- what the patch paints

kept_by : (b : Bool) (k i j : ℕ) → i ≡ j → (if b then k else i) ≡ (if b then k else j)
kept_by b k i j e = ap (λ l. if b then k else l) e

-- Two screens that agree at a position still do after the same tiles.
agree_after : (w h : ℕ) (ts colours : List ℕ) (c d : Canvas) (x y : ℕ) → c x y ≡ d x y → after_paints c (tile_paints w h ts colours) x y ≡ after_paints d (tile_paints w h ts colours) x y
agree_after w h [] colours c d x y e = e
agree_after w h (t ∷ ts) colours c d x y e =
    let r : Rect = tile_rect w h t in
    let now : List ℕ = take (tile_area w h t) colours in
    agree_after w h ts (drop (tile_area w h t) colours) (after_paint c (Put r now)) (after_paint d (Put r now)) x y (kept_by (holds r x y) (value_at r.w now (x - r.x) (y - r.y)) (c x y) (d x y) e)

painted_same : (b : Bool) (k i j : ℕ) → b ≡ true → (if b then k else i) ≡ (if b then k else j)
painted_same true k i j e = refl
painted_same false k i j e = absurd cc

painted_not : (b : Bool) (k i j : ℕ) → b ≡ false → i ≡ j → (if b then k else i) ≡ (if b then k else j)
painted_not true k i j e f = absurd cc
painted_not false k i j e f = f

or_of : (a b : Bool) → a ≡ false → b ≡ false → (a || b) ≡ false
or_of true b e f = absurd cc
or_of false b e f = f

-- They also do where they agree at each position that none of the tiles holds.
agree_outside : (w h : ℕ) (ts colours : List ℕ) (c d : Canvas) (x y : ℕ) → (list_any (λ p. holds (painted p) x y) (tile_paints w h ts colours) ≡ false → c x y ≡ d x y)
    → after_paints c (tile_paints w h ts colours) x y ≡ after_paints d (tile_paints w h ts colours) x y
agree_outside w h [] colours c d x y f = f refl
agree_outside w h (t ∷ ts) colours c d x y f =
    let r : Rect = tile_rect w h t in
    let now : List ℕ = take (tile_area w h t) colours in
    let more : List ℕ = drop (tile_area w h t) colours in
    elim (cases_Bool (holds r x y)) [
      | inl inside ↦ agree_after w h ts more (after_paint c (Put r now)) (after_paint d (Put r now)) x y (painted_same (holds r x y) (value_at r.w now (x - r.x) (y - r.y)) (c x y) (d x y) inside)
      | inr outside ↦
          agree_outside w h ts more (after_paint c (Put r now)) (after_paint d (Put r now)) x y
          (λ none. painted_not (holds r x y) (value_at r.w now (x - r.x) (y - r.y)) (c x y) (d x y) outside (f (or_of (holds r x y) (list_any (λ p. holds (painted p) x y) (tile_paints w h ts more)) outside none)))
    ]

-- A tile meets another just where it holds a position of that.
holds_as_meets : (w h k t x y : ℕ) → Has (tile_rect w h t) x y → holds (tile_rect w h k) x y ≡ meets (tile_rect w h k) (tile_rect w h t)
holds_as_meets w h k t x y has =
    same_test (holds (tile_rect w h k) x y) (meets (tile_rect w h k) (tile_rect w h t))
    (λ e. meets_at (tile_rect w h k) (tile_rect w h t) x y (has_holds (tile_rect w h k) x y e) has)
    (λ e.
    let both = meets_common (tile_rect w h k) (tile_rect w h t) e in
    let same : t ≡ k = its_tile w h t _ _ both.1 ∙ sym (its_tile w h k _ _ both.0) in
    subst (λ i. holds (tile_rect w h i) x y ≡ true) same (holds_has (tile_rect w h t) x y has))

held_as_met : (w h : ℕ) (ts colours : List ℕ) (t x y : ℕ) → Has (tile_rect w h t) x y
    → list_any (λ p. holds (painted p) x y) (tile_paints w h ts colours) ≡ list_any (λ p. meets (painted p) (tile_rect w h t)) (tile_paints w h ts colours)
held_as_met w h [] colours t x y has = refl
held_as_met w h (k ∷ ts) colours t x y has =
    ap (λ b. b || list_any (λ p. holds (painted p) x y) (tile_paints w h ts (drop (tile_area w h k) colours))) (holds_as_meets w h k t x y has)
    ∙ ap (λ b. meets (tile_rect w h k) (tile_rect w h t) || b) (held_as_met w h ts (drop (tile_area w h k) colours) t x y has)

met_by_paints : (r : Rect) (u : Update) → list_any (λ p. meets (painted p) r) (paints_of u) ≡ touches r u
met_by_paints r u = refl

-- Over a screen that looks like another but for the tiles that the patch touches, it shows what it does over that.
pub shows_over : (patch : SizedUpdate) (ts tiles over mid new : List ℕ) → tile_paints patch.width patch.height ts tiles ≡ paints_of patch.update
    → ((t x y : ℕ) → t < tile_count patch.width patch.height → x < patch.width → y < patch.height → holds (tile_rect patch.width patch.height t) x y ≡ true
    → touches (tile_rect patch.width patch.height t) patch.update ≡ false → value_at patch.width mid x y ≡ value_at patch.width over x y)
    → ShowsOver patch mid new → ShowsOver patch over new
shows_over patch ts tiles over mid new are same shows before looks x y lx ly =
    shows (value_at patch.width mid) (λ i j li lj. refl) x y lx ly
    ∙ (ap (λ (ps : List Paint). after_paints (value_at patch.width mid) ps x y) (sym are)
    ∙ (agree_outside w h ts tiles (value_at w mid) before x y at_place ∙ ap (λ (ps : List Paint). after_paints before ps x y) are))
  where
    w : ℕ
    w = patch.width

    h : ℕ
    h = patch.height

    t : ℕ
    t = tile_of w x y

    has : Has (tile_rect w h t) x y
    has = tile_of_has w h x y lx ly

    at_place : list_any (λ p. holds (painted p) x y) (tile_paints w h ts tiles) ≡ false → value_at w mid x y ≡ before x y
    at_place none =
        same t x y (tile_of_there w h x y lx ly) lx ly (holds_has (tile_rect w h t) x y has)
        (sym (ap (λ (ps : List Paint). list_any (λ p. meets (painted p) (tile_rect w h t)) ps) are) ∙ (sym (held_as_met w h ts tiles t x y has) ∙ none))
        ∙ looks x y lx ly
