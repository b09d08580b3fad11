-- A board that was behind, and took of one that is newer what it lacked and the patch doesn't bring, is that after one
-- update more. `Board::catch_up` makes it of the board's fields.
use Rattle.std.proofs.Common.{◌≡◌, ℕ, ◌+◌, ◌<◌, ◌∷◌, [], ◌++◌, List, take, true, false, Option, refl, sym, subst, ◌∙◌, arith}
use Rattle.std.specs.Int.{from_bool}
use Rattle.std.specs.Prelude.{if◌then◌else◌}
use Rattle.std.proofs.lemmas.List.{length-take}
use Rattle.raster.specs.Screen.{LooksLike, holds, tile_count, tile_rect, value_at}
use Rattle.raster.specs.declared.size.Size.{Size}
use Rattle.raster.specs.Update.{NumberedText, Update, paints_of, screen, size_after_update}
use Rattle.tiles.specs.Grid.{IsCaughtUp, IsTouched, Stamps, is_lacked, stamp_at}
use Rattle.tiles.specs.Touched.{last_touch, touches}
use Rattle.copy_log.specs.Notes.{Log, LogStands}
use Rattle.painter.specs.Board.{BoardStands, Posted}
use Rattle.painter.specs.Kept.{is_later, newer}
use Rattle.painter.specs.Newer.{TookTiles}
use Rattle.painter.specs.Patch.{ShowsOver, SizedUpdate, is_bell, text_of, tile_paints}
use Rattle.painter.proofs.NewerLaws.{AreGrids, agrees, grid_caught_up, shows_over, text_caught_up}
use Rattle.painter.proofs.ViewLaws.{stands-push}

pub looks_at : (w h v k : ℕ) (colours : List ℕ) (us : List Update) → w ≡ v → h ≡ k → LooksLike w h (value_at w colours) (screen us) → LooksLike v k (value_at v colours) (screen us)
looks_at w h v k colours us wide high looks =
    subst (λ q. LooksLike v q (value_at v colours) (screen us)) high (subst (λ p. LooksLike p h (value_at p colours) (screen us)) wide looks)

pub stands_at : (w h v k : ℕ) (grid : Stamps) (us : List Update) → w ≡ v → h ≡ k → ((t : ℕ) → t < tile_count w h → stamp_at grid t ≡ last_touch (tile_rect w h t) us)
    → (t : ℕ) → t < tile_count v k → stamp_at grid t ≡ last_touch (tile_rect v k t) us
stands_at w h v k grid us wide high each =
    subst (λ q. (t : ℕ) → t < tile_count v q → stamp_at grid t ≡ last_touch (tile_rect v q t) us) high
    (subst (λ p. (t : ℕ) → t < tile_count p h → stamp_at grid t ≡ last_touch (tile_rect p h t) us) wide each)

marked_at : (w h v k n : ℕ) (was marked : Stamps) (u : Update) → w ≡ v → h ≡ k → ((t : ℕ) → t < tile_count w h → stamp_at marked t ≡ (if touches (tile_rect w h t) u then n else stamp_at was t))
    → (t : ℕ) → t < tile_count v k → stamp_at marked t ≡ (if touches (tile_rect v k t) u then n else stamp_at was t)
marked_at w h v k n was marked u wide high each =
    subst (λ q. (t : ℕ) → t < tile_count v q → stamp_at marked t ≡ (if touches (tile_rect v q t) u then n else stamp_at was t)) high
    (subst (λ p. (t : ℕ) → t < tile_count p h → stamp_at marked t ≡ (if touches (tile_rect p h t) u then n else stamp_at was t)) wide each)

-- Wherever the patch doesn't touch, the one screen looks like the other.
abbrev Agree : ℕ → ℕ → Update → List ℕ → List ℕ → Type 0
Agree w h u mid over =
    (t x y : ℕ) → t < tile_count w h → x < w → y < h → holds (tile_rect w h t) x y ≡ true → touches (tile_rect w h t) u ≡ false → value_at w mid x y ≡ value_at w over x y

agree_at : (w h v k : ℕ) (u : Update) (mid over : List ℕ) → w ≡ v → h ≡ k → Agree w h u mid over → Agree v k u mid over
agree_at w h v k u mid over wide high agree = subst (λ q. Agree v q u mid over) high (subst (λ p. Agree p h u mid over) wide agree)

pub board_caught_up : (behind ahead : Posted) (patch : SizedUpdate) (marked touched : Stamps) (ts tiles mid new : List ℕ) (count : ℕ) (last : Option NumberedText) (text : Option (List ℕ)) (larger : Option Size) (noted : Log) (us : List Update)
    → ahead.width ≡ behind.width → ahead.height ≡ behind.height → ahead.grid.width ≡ ahead.width → ahead.grid.height ≡ ahead.height → behind.grid.width ≡ behind.width → behind.grid.height ≡ behind.height
    → (patch.width ≡ behind.width) × (patch.height ≡ behind.height)
    → IsTouched (λ t. touches (tile_rect behind.grid.width behind.grid.height t) patch.update) (ahead.number + 1) behind.grid marked
    → TookTiles ahead.grid.width ahead.grid.height (is_lacked marked ahead.grid behind.number) ahead.colours behind.colours mid
    → tile_paints patch.width patch.height ts tiles ≡ paints_of patch.update → ShowsOver patch mid new → IsCaughtUp ahead.grid behind.number marked touched
    → last ≡ (if is_later ahead.text behind.number then ahead.text else behind.text) → count ≡ from_bool (is_bell patch.update) → text ≡ text_of patch.update → larger ≡ size_after_update ahead.size patch.update → LogStands noted (us ++ patch.update ∷ [])
    → BoardStands behind (take behind.number us) → BoardStands ahead us
    → BoardStands (record { width = behind.width; height = behind.height; number = ahead.number + 1; size = larger; colours = new; grid = touched; bells = ahead.bells + count; text = newer last (ahead.number + 1) text; log = noted }) (us ++ patch.update ∷ [])
board_caught_up behind ahead patch marked touched ts tiles mid new count last text larger noted us wide high ahead_wide ahead_high behind_wide behind_high size touches_it took are shows caught is_last is_count is_text is_size notes stood stands =
    subst (λ (t : Option NumberedText). BoardStands (record { width = behind.width; height = behind.height; number = m; size = larger; colours = new; grid = touched; bells = ahead.bells + count; text = newer t m text; log = noted }) (us ++ u ∷ []))
    (sym (is_last ∙ text_caught_up us n ahead.text behind.text stands.text stood.text))
    (subst (λ q. BoardStands (record { width = behind.width; height = q; number = m; size = larger; colours = new; grid = touched; bells = ahead.bells + count; text = newer ahead.text m text; log = noted }) (us ++ u ∷ [])) high
    (subst (λ p. BoardStands (record { width = p; height = ahead.height; number = m; size = larger; colours = new; grid = touched; bells = ahead.bells + count; text = newer ahead.text m text; log = noted }) (us ++ u ∷ [])) wide all))
  where
    u : Update
    u = patch.update

    n : ℕ
    n = behind.number

    m : ℕ
    m = ahead.number + 1

    w : ℕ
    w = ahead.grid.width

    h : ℕ
    h = ahead.grid.height

    grid_wide : behind.grid.width ≡ w
    grid_wide = behind_wide ∙ (sym wide ∙ sym ahead_wide)

    grid_high : behind.grid.height ≡ h
    grid_high = behind_high ∙ (sym high ∙ sym ahead_high)

    grids : AreGrids w h n m us u behind.grid marked ahead.grid
    grids = record {
      few = (let few = length-take n us in omega (arith, few, stood.number, stands.number));
      was_at = stands_at behind.grid.width behind.grid.height w h behind.grid (take n us) grid_wide grid_high stood.grid.each;
      marked_at = marked_at behind.grid.width behind.grid.height w h m behind.grid marked u grid_wide grid_high touches_it.each;
      newer_at = stands.grid.each;
    }

    agree : Agree w h u mid ahead.colours
    agree = agrees w h n m us u behind.grid marked ahead.grid ahead.colours behind.colours mid grids took
        (looks_at ahead.width ahead.height w h ahead.colours us (sym ahead_wide) (sym ahead_high) stands.screen)
        (looks_at behind.width behind.height w h behind.colours (take n us) (sym wide ∙ sym ahead_wide) (sym high ∙ sym ahead_high) stood.screen)

    over : ShowsOver patch ahead.colours new
    over = shows_over patch ts tiles ahead.colours mid new are
        (agree_at w h patch.width patch.height u mid ahead.colours (ahead_wide ∙ (wide ∙ sym size.0)) (ahead_high ∙ (high ∙ sym size.1)) agree) shows

    grid : IsTouched (λ t. touches (tile_rect w h t) u) m ahead.grid touched
    grid = grid_caught_up n m us u behind.grid marked ahead.grid touched (sym grid_wide ∙ sym touches_it.width) (sym grid_high ∙ sym touches_it.height) grids caught

    all : BoardStands (record { width = ahead.width; height = ahead.height; number = m; size = larger; colours = new; grid = touched; bells = ahead.bells + count; text = newer ahead.text m text; log = noted }) (us ++ u ∷ [])
    all = stands-push ahead patch ahead.width ahead.height ahead.number ahead.bells count ahead.colours new ahead.grid touched ahead.text text ahead.size larger ahead.log noted us refl (size.0 ∙ sym wide, size.1 ∙ sym high) over grid is_count is_text is_size (λ was. notes) stands
