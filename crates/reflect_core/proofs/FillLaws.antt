-- How far a cut is filled from a board, run by run, and that it is a cut of the board's updates in the end. `Cut::fill`
-- marks the due tiles, and shares the board's colours or copies theirs.
use Rattle.std.proofs.Common.{◌≡◌, ℕ, suc, ◌+◌, ◌-◌, ◌<◌, ◌≤◌, Bool, true, false, List, [], ◌∷◌, length, get_or, take, Some, refl, ap, sym, ◌∙◌, subst, arith, inl, inr}
use Rattle.std.specs.Prelude.{◌&&◌, ◌||◌, not, is_some, slice_get, if◌then◌else◌, None}
use Rattle.std.specs.List.{list_all, range_with_len}
use Rattle.std.proofs.lemmas.Bool.{both_ways, cases_Bool, cases_lt}
use Rattle.std.proofs.lemmas.List.{take_all}
use Rattle.std.proofs.lemmas.List.Folds.{list_all_at}
use Rattle.std.proofs.lemmas.List.Sums.{list_all-from_AllPass}
use Rattle.std.proofs.lemmas.List.FromFn.{length-range_with_len, get_or-range_with_len}
use Rattle.copy_log.specs.Notes.{paints}
use Rattle.painter.specs.Board.{BoardStands, Posted}
use Rattle.raster.specs.declared.rect.Rect.{Rect}
use Rattle.raster.specs.Screen.{IsWithin, LooksLike, holds, lay, meets, part_of, tile_count, tile_rect, value_at}
use Rattle.raster.specs.Update.{Update, screen, bells, last_size, last_text}
use Rattle.raster.proofs.Places.{Has, common_has, has_holds}
use Rattle.tiles.specs.Grid.{GridStands, Stamps, due_at}
use Rattle.tiles.specs.Have.{SentTiles, sent_at}
use Rattle.tiles.specs.Touched.{is_due_since}
use Rattle.tiles.specs.Walk.{IsDone, IsNextRun, Walking, tiles_rect}
use Rattle.tiles.specs.declared.walk.Run.{Run}
use Rattle.tiles.proofs.GridLaws.{due_stands}
use Rattle.tiles.proofs.RunTiles.{lay_in, tile_in_run, walk_at}
use Rattle.reflect_core.specs.declared.cut.Cut.{Cut}
use Rattle.reflect_core.specs.Fill.{IsWhetherSent, TookRun}
use Rattle.reflect_core.specs.Source.{IsCutOf, due_in, was_sent_if_due}

-- Tile t is due by its stamp, and meets the area.
abbrev pub lacks : Stamps → SentTiles → Rect → ℕ → Bool
lacks grid have area t = due_at grid have t && meets area (tile_rect have.width have.height t)

-- A walk over the runs of the area, at this tile.
abbrev pub at_tile : SentTiles → Rect → ℕ → Walking
at_tile have area next = walk_at have.width have.height area next

-- Each of the tiles before next that a test lets through was sent, or one of all wasn't.
abbrev pub AllSent : (ℕ → Bool) → SentTiles → ℕ → Bool → Type 0
AllSent test have next true = (t : ℕ) → t < next → test t ≡ true → is_some (sent_at have t) ≡ true
AllSent test have next false = (t : ℕ) × (t < tile_count have.width have.height) × (test t ≡ true) × (is_some (sent_at have t) ≡ false)

-- The cut has taken what is due of the tiles before next.
pub record IsFilled (grid : Stamps) (colours : List ℕ) (have : SentTiles) (area : Rect) (next : ℕ) (cut : Cut) : Type 0 where
  pub width : cut.width ≡ have.width
  pub height : cut.height ≡ have.height
  pub done : (t : ℕ) → t < next → t < tile_count have.width have.height → slice_get cut.due.items t ≡ Some (lacks grid have area t)
  pub left : (t : ℕ) → next ≤ t → t < tile_count have.width have.height → slice_get cut.due.items t ≡ Some false
  pub sent : AllSent (lacks grid have area) have next cut.all_were_sent
  pub shows : (t x y : ℕ) → t < next → lacks grid have area t ≡ true → Has area x y → Has (tile_rect have.width have.height t) x y → value_at cut.width cut.colours.items x y ≡ value_at cut.width colours x y

-- ---- the walk

-- A run is the next one, or none is left, of the same walk, by the same stamps and the same tiles.
pub next_of : (walk walk' : Walking) (grid grid' : Stamps) (have have' : SentTiles) (run : Run) → walk ≡ walk' → grid ≡ grid' → have ≡ have' → IsNextRun walk (due_at grid have) run → IsNextRun walk' (due_at grid' have') run
next_of walk walk' grid grid' have have' run p q r is =
    subst (λ v. IsNextRun walk' (due_at grid' v) run) r (subst (λ g. IsNextRun walk' (due_at g have) run) q (subst (λ w. IsNextRun w (due_at grid have) run) p is))

pub done_of : (walk walk' : Walking) (grid grid' : Stamps) (have have' : SentTiles) → walk ≡ walk' → grid ≡ grid' → have ≡ have' → IsDone walk (due_at grid have) → IsDone walk' (due_at grid' have')
done_of walk walk' grid grid' have have' p q r is =
    subst (λ v. IsDone walk' (due_at grid' v)) r (subst (λ g. IsDone walk' (due_at g have)) q (subst (λ w. IsDone w (due_at grid have)) p is))

-- ---- a run more

all_sent_more : (grid : Stamps) (have : SentTiles) (area : Rect) (next : ℕ) (run : Run) (all sent : Bool) → IsNextRun (at_tile have area next) (due_at grid have) run
    → IsWhetherSent have run.first (run.first + run.count) sent → AllSent (lacks grid have area) have next all → AllSent (lacks grid have area) have (run.first + run.count) (all && sent)
all_sent_more grid have area next run true true is whether before = λ t lt due.
    elim (cases_lt t next) [
      | inl old ↦ before t old due
      | inr from ↦ elim (cases_lt t run.first) [
        | inl skipped ↦ absurd (both_ways (lacks grid have area t) (is.skipped t from skipped) due)
        | inr inside ↦ whether t inside lt
      ]
    ]
all_sent_more grid have area next run true false is whether before = (whether.0, omega (arith, whether.2, is.there), is.taken whether.0 whether.1 whether.2, whether.3)
all_sent_more grid have area next run false sent is whether before = before

lay_kept : (r : Rect) (w : ℕ) (over under : List ℕ) (x y : ℕ) → value_at w under x y ≡ value_at w over x y → lay r (part_of r (value_at w over)) (value_at w under) x y ≡ value_at w over x y
lay_kept r w over under x y same = elim (cases_Bool (holds r x y)) [
  | inl inside ↦ lay_in r w over under x y (has_holds r x y inside)
  | inr outside ↦ ap (λ b. if b then value_at w over (r.x + (x - r.x)) (r.y + (y - r.y)) else value_at w under x y) outside ∙ same
]

-- What was filled before the tile next, and then took the run that is next, is filled before the tile after that.
pub filled_more : (grid : Stamps) (colours : List ℕ) (have : SentTiles) (area : Rect) (next : ℕ) (run : Run) (old new : Cut) → IsWithin area have.width have.height
    → IsFilled grid colours have area next old → IsNextRun (at_tile have area next) (due_at grid have) run → TookRun colours have run old new → IsFilled grid colours have area (run.first + run.count) new
filled_more grid colours have area next run old new on was is took =
    record {
      width = took.width ∙ was.width;
      height = took.height ∙ was.height;
      done = λ t lt there. elim (cases_lt t run.first) [
        | inl before ↦ took.before t before ∙ earlier t before there
        | inr from ↦ took.inside t from lt ∙ ap (λ (b : Bool). Some b) (sym (is.taken t from lt))
      ];
      left = λ t le there. took.behind t le ∙ was.left t (omega (arith, is.from, is.some)) there;
      sent = subst (AllSent (lacks grid have area) have (run.first + run.count)) (sym took.sent.2) (all_sent_more grid have area next run old.all_were_sent took.sent.0 is took.sent.1 was.sent);
      shows = λ t x y lt due in_area in_tile.
          let lx : x < old.width = omega (arith, was.width, in_area.right, on.across) in
          let ly : y < old.height = omega (arith, was.height, in_area.bottom, on.down) in
          took.shows x y lx ly ∙ (laid t x y lt due in_area in_tile ∙ ap (λ w. value_at w colours x y) (sym took.width));
    }
  where
    earlier : (t : ℕ) → t < run.first → t < tile_count have.width have.height → slice_get old.due.items t ≡ Some (lacks grid have area t)
    earlier t before there = elim (cases_lt t next) [
      | inl done ↦ was.done t done there
      | inr from ↦ was.left t from there ∙ ap (λ (b : Bool). Some b) (sym (is.skipped t from before))
    ]

    laid : (t x y : ℕ) → t < run.first + run.count → lacks grid have area t ≡ true → Has area x y → Has (tile_rect have.width have.height t) x y
        → lay run.area (part_of run.area (value_at old.width colours)) (value_at old.width old.colours.items) x y ≡ value_at old.width colours x y
    laid t x y lt due in_area in_tile = elim (cases_lt t next) [
      | inl done ↦ lay_kept run.area old.width colours old.colours.items x y (was.shows t x y done due in_area in_tile)
      | inr from ↦ elim (cases_lt t run.first) [
        | inl before ↦ absurd (both_ways (lacks grid have area t) (is.skipped t from before) due)
        | inr inside ↦
            lay_in run.area old.width colours old.colours.items x y
            (subst (λ (r : Rect). Has r x y) (sym is.area) (common_has area (tiles_rect have.width run.first run.count) x y in_area (tile_in_run have.width have.height run.first run.count t x y is.row inside lt in_tile)))
      ]
    ]

-- ---- the end

passes : (due sent : Bool) → (due ≡ true → sent ≡ true) → (not due || sent) ≡ true
passes true sent h = h refl
passes false sent h = refl

fails : (due sent : Bool) → due ≡ true → sent ≡ false → (not due || sent) ≡ false
fails true sent e f = f
fails false sent e f = absurd cc

number_in_range : (n k d : ℕ) → k < length (range_with_len 0 n) → get_or (range_with_len 0 n) k d ≡ k
number_in_range n k d lt = get_or-range_with_len 0 n k d (rw (sym (length-range_with_len 0 n)) lt) ∙ omega arith

all_is : (test : ℕ → Bool) (have : SentTiles) (next : ℕ) (all : Bool) → ((t : ℕ) → next ≤ t → t < tile_count have.width have.height → test t ≡ false) → AllSent test have next all
    → all ≡ list_all (λ t. not (test t) || is_some (sent_at have t)) (range_with_len 0 (tile_count have.width have.height))
all_is test have next true done sent =
    let n : ℕ = tile_count have.width have.height in
    sym (list_all-from_AllPass (λ t. not (test t) || is_some (sent_at have t)) (range_with_len 0 n) (λ k d lt.
    let lt' : k < n = rw (sym (length-range_with_len 0 n)) lt in
    ap (λ t. not (test t) || is_some (sent_at have t)) (number_in_range n k d lt)
    ∙ passes (test k) (is_some (sent_at have k)) (λ due. elim (cases_lt k next) [
      | inl before ↦ sent k before due
      | inr from ↦ absurd (both_ways (test k) (done k from lt') due)
    ])))
all_is test have next false done sent =
    let n : ℕ = tile_count have.width have.height in
    let there : sent.0 < length (range_with_len 0 n) = rw length-range_with_len sent.1 in
    sym (list_all_at (λ t. not (test t) || is_some (sent_at have t)) (range_with_len 0 n) sent.0 0 there
    (ap (λ t. not (test t) || is_some (sent_at have t)) (number_in_range n sent.0 0 there) ∙ fails (test sent.0) (is_some (sent_at have sent.0)) sent.2 sent.3))

pub and_swap : (a b : Bool) → (a && b) ≡ (b && a)
and_swap true true = refl
and_swap true false = refl
and_swap false true = refl
and_swap false false = refl

-- By the stamps of a grid the same tiles are due as by the updates that it stands for.
pub lacks_is : (grid : Stamps) (have : SentTiles) (area : Rect) (us : List Update) (t : ℕ) → grid.width ≡ have.width → grid.height ≡ have.height → GridStands grid us → t < tile_count have.width have.height
    → lacks grid have area t ≡ due_in have area us t
lacks_is grid have area us t wide high stands lt =
    let there : t < tile_count grid.width grid.height = rw (wide, high) lt in
    let due : due_at grid have t ≡ is_due_since (tile_rect have.width have.height t) (sent_at have t) us = due_stands grid have us t stands there ∙ (λ i. is_due_since (tile_rect (wide i) (high i) t) (sent_at have t) us) in
    ap (λ (b : Bool). b && meets area (tile_rect have.width have.height t)) due ∙ and_swap (is_due_since (tile_rect have.width have.height t) (sent_at have t) us) (meets area (tile_rect have.width have.height t))

list_all_same : (f g : ℕ → Bool) (n : ℕ) → ((t : ℕ) → t < n → f t ≡ g t) → list_all f (range_with_len 0 n) ≡ list_all g (range_with_len 0 n)
list_all_same f g n same = over (range_with_len 0 n) (λ k lt. ap f (number_in_range n k 0 lt) ∙ (same k (rw (sym (length-range_with_len 0 n)) lt) ∙ sym (ap g (number_in_range n k 0 lt))))
  where
    over : (xs : List ℕ) → ((k : ℕ) → k < length xs → f (get_or xs k 0) ≡ g (get_or xs k 0)) → list_all f xs ≡ list_all g xs
    over [] each = refl
    over (x ∷ xs) each = (let head : f x ≡ g x = each 0 (omega arith) in let rest = over xs (λ k lt. each (suc k) (omega arith)) in (λ i. head i && rest i))

-- What has taken all that is due of a board, and passes on no copies, is a cut of all the board's updates.
pub cut_of_board : (board : Posted) (us : List Update) (area : Rect) (have : SentTiles) (next : ℕ) (cut : Cut) → board.width ≡ have.width → board.height ≡ have.height
    → board.grid.width ≡ have.width → board.grid.height ≡ have.height → IsWithin area have.width have.height → cut.number ≡ board.number → cut.host_size ≡ board.size → cut.bells ≡ board.bells → cut.text ≡ board.text
    → cut.passed.copies ≡ [] → IsFilled board.grid board.colours have area next cut → IsDone (at_tile have area next) (due_at board.grid have) → BoardStands board us → IsCutOf us (length us) area have None cut
cut_of_board board us area have next cut wide high grid_wide grid_high on number size bell text none filled done stands =
    record {
      known = omega arith;
      number = number ∙ stands.number;
      size = size ∙ (stands.size ∙ ap last_size same);
      bells = bell ∙ (stands.bells ∙ ap bells same);
      text = text ∙ (stands.text ∙ ap last_text same);
      copies = ap paints none;
      due = λ t lt. marks t lt ∙ (ap (λ (b : Bool). Some b) (lacks_is board.grid have area us t grid_wide grid_high stands.grid lt) ∙ ap (λ vs. Some (due_in have area vs t)) same);
      all_were_sent = all_is (lacks board.grid have area) have next cut.all_were_sent done filled.sent
          ∙ (list_all_same (λ t. not (lacks board.grid have area t) || is_some (sent_at have t)) (was_sent_if_due have area us) (tile_count have.width have.height)
          (λ t lt. ap (λ (b : Bool). not b || is_some (sent_at have t)) (lacks_is board.grid have area us t grid_wide grid_high stands.grid lt))
          ∙ ap (λ vs. list_all (was_sent_if_due have area vs) (range_with_len 0 (tile_count have.width have.height))) same);
      colours = λ t x y lt due in_area in_tile. colour t x y lt (lacks_is board.grid have area us t grid_wide grid_high stands.grid lt ∙ (ap (λ vs. due_in have area vs t) same ∙ due)) (has_holds area x y in_area) (has_holds (tile_rect have.width have.height t) x y in_tile)
          ∙ ap (λ vs. screen vs x y) same;
    }
  where
    same : us ≡ take (length us) us
    same = sym (take_all (length us) us (omega arith))

    marks : (t : ℕ) → t < tile_count have.width have.height → slice_get cut.due.items t ≡ Some (lacks board.grid have area t)
    marks t lt = elim (cases_lt t next) [
      | inl before ↦ filled.done t before lt
      | inr from ↦ filled.left t from lt ∙ ap (λ (b : Bool). Some b) (sym (done t from lt))
    ]

    shown : LooksLike have.width have.height (value_at have.width board.colours) (screen us)
    shown = subst (λ h. LooksLike have.width h (value_at have.width board.colours) (screen us)) high (subst (λ w. LooksLike w board.height (value_at w board.colours) (screen us)) wide stands.screen)

    colour : (t x y : ℕ) → t < tile_count have.width have.height → lacks board.grid have area t ≡ true → Has area x y → Has (tile_rect have.width have.height t) x y → value_at cut.width cut.colours.items x y ≡ screen us x y
    colour t x y lt due in_area in_tile = elim (cases_lt t next) [
      | inl before ↦
          filled.shows t x y before due in_area in_tile ∙ (ap (λ w. value_at w board.colours x y) filled.width
          ∙ shown x y (omega (arith, in_area.right, on.across)) (omega (arith, in_area.bottom, on.down)))
      | inr from ↦ absurd (both_ways (lacks board.grid have area t) (done t from lt) due)
    ]
