-- The choices of tiles by their kept forms, one after the other.
use Rattle.std.proofs.Common.{◌≡◌, true, false, ℕ, suc, ◌+◌, ◌<◌, List, [], ◌∷◌, ◌++◌, length, map, Option, Some, None, below_more, subst, sym, ap, ◌∙◌, arith, length-append}
use Rattle.std.specs.Prelude.{slice_index_or, Result, Ok, Err}
use Rattle.std.specs.Result.{is_err, OnErr, OnOk}
use Rattle.std.proofs.Math.ListN.{get_or-append}
use Rattle.std.proofs.Math.Seq.{get_or-append_seam}
use Rattle.pixel_format.specs.PixelFormat.{PixelFormat}
use Rattle.raster.specs.declared.rect.Rect.{Rect}
use Rattle.raster.specs.Screen.{Canvas, part_of, tile_count, tile_rect}
use Rattle.raster.specs.Encoding.{Carried, Subrect}
use Rattle.joined_runs.specs.declared.rect_form.RectForm.TheVariants.{Joined}
use Rattle.joined_runs.specs.Joined.{tile_bytes_as}
use Rattle.hextile_codec.specs.declared.kept.TileForm.{TileForm}
use Rattle.hextile_codec.specs.declared.tile_kind.TileChoice.{TileChoice}
use Rattle.joined_runs.specs.Tinted.{tinted_subrect}
use Rattle.hextile_codec.specs.TileKinds.{IsChosen, subrect_of}
use Rattle.hextile_codec.specs.Chosen.{AreChosenBy, IsChosenBy, carried_to}

-- What holds of an answer that is no error, and what holds of one that is.
pub when_ok : {E P : Type 0} (answer : Result (Unit {0}) E) → is_err answer ≡ false → OnOk answer P → P
when_ok (Ok x) is p = p
when_ok (Err e) is p = absurd cc

pub when_err : {E P : Type 0} (answer : Result (Unit {0}) E) → is_err answer ≡ true → OnErr answer P → P
when_err (Ok x) is p = absurd cc
when_err (Err e) is p = p

-- What a tile leaves is carried to the next.
pub carried_on : (format : PixelFormat) (w h k : ℕ) (shown : Canvas) (before : Carried) (tile : Rect) → tile ≡ tile_rect w h k → before ≡ carried_to format w h shown k
    → (tile_bytes_as Joined format before tile.w tile.h (part_of tile shown)).1 ≡ carried_to format w h shown (k + 1)
carried_on format w h k shown before tile is so =
    let next : k + 1 ≡ suc k = omega arith in
    ap (λ (t : Rect). (tile_bytes_as Joined format before t.w t.h (part_of t shown)).1) is
    ∙ (ap (λ (b : Carried). (tile_bytes_as Joined format b (tile_rect w h k).w (tile_rect w h k).h (part_of (tile_rect w h k) shown)).1) so ∙ sym (ap (carried_to format w h shown) next))

pub chosen_at : (format : PixelFormat) (w h k : ℕ) (shown : Canvas) (before : Carried) (tile : Rect) (found : List Subrect) (choice : TileChoice) → tile ≡ tile_rect w h k → before ≡ carried_to format w h shown k
    → IsChosen Joined format before tile.w tile.h (part_of tile shown) found choice → IsChosen Joined format (carried_to format w h shown k) (tile_rect w h k).w (tile_rect w h k).h (part_of (tile_rect w h k) shown) found choice
chosen_at format w h k shown before tile found choice is so chosen =
    subst (λ (t : Rect). IsChosen Joined format (carried_to format w h shown k) t.w t.h (part_of t shown) found choice) is
    (subst (λ (b : Carried). IsChosen Joined format b tile.w tile.h (part_of tile shown) found choice) so chosen)

pub chosen_of : (format : PixelFormat) (w h k : ℕ) (shown : Canvas) (before : Carried) (tile : Rect) (found : List Subrect) (choice : TileChoice) → tile ≡ tile_rect w h k → before ≡ carried_to format w h shown k
    → IsChosen Joined format (carried_to format w h shown k) (tile_rect w h k).w (tile_rect w h k).h (part_of (tile_rect w h k) shown) found choice → IsChosen Joined format before tile.w tile.h (part_of tile shown) found choice
chosen_of format w h k shown before tile found choice is so chosen =
    subst (λ (b : Carried). IsChosen Joined format b tile.w tile.h (part_of tile shown) found choice) (sym so)
    (subst (λ (t : Rect). IsChosen Joined format (carried_to format w h shown k) t.w t.h (part_of t shown) found choice) (sym is) chosen)

pub chosen_by : (format : PixelFormat) (w h k : ℕ) (shown : Canvas) (before : Carried) (tile : Rect) (forms : List (Option TileForm)) (form : TileForm) (choice : TileChoice) → tile ≡ tile_rect w h k → before ≡ carried_to format w h shown k
    → slice_index_or forms k None ≡ Some form → IsChosenBy format w h shown forms k choice
    → IsChosen Joined format before tile.w tile.h (part_of tile shown) (map (tinted_subrect format) (map subrect_of form.runs.items)) choice
chosen_by format w h k shown before tile forms form choice is so kept by =
    let found : Some by.form ≡ Some form = sym by.kept ∙ kept in
    let same : by.form ≡ form = cc in
    subst (λ (f : TileForm). IsChosen Joined format before tile.w tile.h (part_of tile shown) (map (tinted_subrect format) (map subrect_of f.runs.items)) choice) same
    (chosen_of format w h k shown before tile _ choice is so by.chosen)

-- What is chosen of tile k, whose form is found, by what was chosen of all tiles.
pub choice_at : (format : PixelFormat) (w h k : ℕ) (shown : Canvas) (before : Carried) (tile : Rect) (forms : List (Option TileForm)) (form : TileForm) (choices : List TileChoice) (none : TileChoice) → AreChosenBy format w h shown forms choices
    → length choices ≡ tile_count w h → k < tile_count w h → tile ≡ tile_rect w h k → before ≡ carried_to format w h shown k → slice_index_or forms k None ≡ Some form
    → IsChosen Joined format before tile.w tile.h (part_of tile shown) (map (tinted_subrect format) (map subrect_of form.runs.items)) (slice_index_or choices k none)
choice_at format w h k shown before tile forms form choices none are all inside is so kept =
    chosen_by format w h k shown before tile forms form (slice_index_or choices k none) is so kept (are k none (omega (arith, inside, all)))

pub one_more : (format : PixelFormat) (w h k : ℕ) (shown : Canvas) (forms : List (Option TileForm)) (choices : List TileChoice) (choice : TileChoice) → length choices ≡ k
    → AreChosenBy format w h shown forms choices → IsChosenBy format w h shown forms k choice → AreChosenBy format w h shown forms (choices ++ choice ∷ [])
one_more format w h k shown forms choices choice size are here = λ t none known.
    let all : List TileChoice = choices ++ choice ∷ [] in
    let len : length all ≡ length choices + 1 = length-append choices (choice ∷ []) in
    let before : (j : ℕ) → j < length choices → IsChosenBy format w h shown forms j (slice_index_or all j none) = λ j lt. rw (get_or-append choices (choice ∷ []) none j lt) (are j none lt) in
    let last : IsChosenBy format w h shown forms (length choices) (slice_index_or all (length choices) none) = rw (get_or-append_seam choices choice [] none, size) here in
    below_more (λ j. IsChosenBy format w h shown forms j (slice_index_or all j none)) (length choices) before last t (omega (arith, known, len))
