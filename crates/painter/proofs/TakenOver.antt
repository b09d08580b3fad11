-- A board that was behind, and took of one that is newer all that it lacked, stands for all of that one's updates.
-- `Board::take_over` makes it of the board's fields.
use Rattle.std.proofs.Common.{◌≡◌, ℕ, ◌+◌, List, take, Option, refl, sym, ◌∙◌, arith}
use Rattle.std.specs.Prelude.{if◌then◌else◌}
use Rattle.raster.specs.Screen.{LooksLike, tile_rect, value_at}
use Rattle.raster.specs.Update.{Bell, NumberedText, Update, screen}
use Rattle.raster.proofs.Places.{holds_has, tile_of, tile_of_has, tile_of_there}
use Rattle.tiles.specs.Grid.{is_lacked}
use Rattle.copy_log.specs.Notes.{Log, LogStands}
use Rattle.painter.specs.Board.{BoardStands, Posted}
use Rattle.painter.specs.Kept.{is_later}
use Rattle.painter.specs.Newer.{TookTiles}
use Rattle.painter.proofs.CaughtUp.{looks_at, stands_at}
use Rattle.painter.proofs.NewerLaws.{AreGrids, agrees, text_caught_up}

module _ (behind ahead : Posted) (mid : List ℕ) (us : List Update) (wide : ahead.width ≡ behind.width) (high : ahead.height ≡ behind.height) (ahead_wide : ahead.grid.width ≡ ahead.width) (ahead_high : ahead.grid.height ≡ ahead.height) (behind_wide : behind.grid.width ≡ behind.width) (behind_high : behind.grid.height ≡ behind.height) (took : TookTiles ahead.grid.width ahead.grid.height (is_lacked behind.grid ahead.grid behind.number) ahead.colours behind.colours mid) (stood : BoardStands behind (take behind.number us)) (stands : BoardStands ahead us) where
  abbrev w : ℕ
  w = ahead.grid.width

  abbrev h : ℕ
  h = ahead.grid.height

  abbrev n : ℕ
  n = behind.number

  grid_wide : behind.grid.width ≡ w
  grid_wide = behind_wide ∙ (sym wide ∙ sym ahead_wide)

  grid_high : behind.grid.height ≡ h
  grid_high = behind_high ∙ (sym high ∙ sym ahead_high)

  -- A Bell touches no tile, so none is left out.
  grids : AreGrids w h n (n + 1) us Bell behind.grid behind.grid ahead.grid
  grids = record {
    few = omega arith;
    was_at = stands_at behind.grid.width behind.grid.height w h behind.grid (take n us) grid_wide grid_high stood.grid.each;
    marked_at = λ t lt. refl;
    newer_at = stands.grid.each;
  }

  looks : LooksLike w h (value_at w mid) (screen us)
  looks x y lx ly =
      let newer : LooksLike w h (value_at w ahead.colours) (screen us) = looks_at ahead.width ahead.height w h ahead.colours us (sym ahead_wide) (sym ahead_high) stands.screen in
      agrees w h n (n + 1) us Bell behind.grid behind.grid ahead.grid ahead.colours behind.colours mid grids took newer
      (looks_at behind.width behind.height w h behind.colours (take n us) (sym wide ∙ sym ahead_wide) (sym high ∙ sym ahead_high) stood.screen)
      (tile_of w x y) x y (tile_of_there w h x y lx ly) lx ly (holds_has (tile_rect w h (tile_of w x y)) x y (tile_of_has w h x y lx ly)) refl
      ∙ newer x y lx ly

  pub board_taken_over : (last : Option NumberedText) (log : Log) → LogStands log us → last ≡ (if is_later ahead.text behind.number then ahead.text else behind.text)
      → BoardStands (record { width = behind.width; height = behind.height; number = ahead.number; size = ahead.size; colours = mid; grid = ahead.grid; bells = ahead.bells; text = last; log = log }) us
  board_taken_over last log notes is =
      record {
        number = stands.number;
        size = stands.size;
        screen = looks_at w h behind.width behind.height mid us (ahead_wide ∙ wide) (ahead_high ∙ high) looks;
        grid = stands.grid;
        bells = stands.bells;
        text = is ∙ (text_caught_up us n ahead.text behind.text stands.text stood.text ∙ stands.text);
        log = notes;
      }
