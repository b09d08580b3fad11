-- Forms of the tiles of some colours: they are listed tile by tile, and serve a canvas that shows the colours in a format
-- which keeps these apart.
use Rattle.std.proofs.Common.{◌≡◌, ℕ, zero, suc, ◌+◌, ◌<◌, List, [], ◌∷◌, ◌++◌, length, Option, None, below_more, true, cond, ap, ◌∙◌, arith, length-append}
use Rattle.std.specs.Prelude.{IfSome, slice_index_or}
use Rattle.std.proofs.Math.ListN.{get_or-append}
use Rattle.std.proofs.Math.Seq.{get_or-append_seam}
use Rattle.pixel_format.specs.PixelFormat.{PixelFormat, KeepsApart, tint}
use Rattle.raster.specs.declared.rect.Rect.{Rect}
use Rattle.raster.specs.Screen.{Canvas, LooksLike, part_of, tile_count, tile_rect, value_at}
use Rattle.raster.proofs.HextileSpelled.{IsTile, tile_lies}
use Rattle.joined_runs.specs.Tinted.{ShowsApart, tinted}
use Rattle.hextile_codec.specs.declared.kept.TileForm.{TileForm}
use Rattle.hextile_codec.specs.declared.source.PixelSource.{PixelSource}
use Rattle.hextile_codec.specs.Sources.{shows}
use Rattle.hextile_codec.specs.Kept.{AreFormsOf, AreKept, FormStands}
use Rattle.hextile_codec.proofs.KeptForms.{if_some}

tile_shows : (format : PixelFormat) (w h : ℕ) (colours shown : Canvas) (tile : Rect) (form : TileForm) → KeepsApart format → LooksLike w h shown (tinted format colours) → IsTile w h tile
    → FormStands form tile.w tile.h (part_of tile colours) → ShowsApart format tile.w tile.h (part_of tile colours) (part_of tile shown)
tile_shows format w h colours shown tile form apart looks lies stands =
    record {
      apart = apart;
      wide = lies.w_some;
      high = lies.h_some;
      are_colours = stands.are_colours;
      shows = λ x y across down. looks (tile.x + x) (tile.y + y) (omega (arith, lies.across)) (omega (arith, lies.down));
    }

some_wide : (w h k : ℕ) → k < tile_count w h → 0 < w
some_wide zero h k lt = absurd (omega arith)
some_wide (suc w) h k lt = omega arith

pub forms_kept : (format : PixelFormat) (w h : ℕ) (colours shown : Canvas) (forms : List (Option TileForm)) → KeepsApart format → LooksLike w h shown (tinted format colours)
    → AreFormsOf w h colours forms → AreKept format w h shown forms
forms_kept format w h colours shown forms apart looks are = λ k lt inside.
    let tile : Rect = tile_rect w h k in
    if_some _ _ (slice_index_or forms k None)
    (λ form stands. (part_of tile colours, stands, tile_shows format w h colours shown tile form apart looks (tile_lies w h k (some_wide w h k inside) inside) stands)) (are k lt inside)

-- ---- how they are made

-- The form of tile k, if there is one, is that of these colours.
abbrev pub IsFormOf : ℕ → ℕ → Canvas → ℕ → Option TileForm → Type 0
IsFormOf w h colours k form = IfSome form (λ f. FormStands f (tile_rect w h k).w (tile_rect w h k).h (part_of (tile_rect w h k) colours))

pub more_forms : (w h : ℕ) (colours : Canvas) (forms : List (Option TileForm)) (form : Option TileForm) → AreFormsOf w h colours forms → IsFormOf w h colours (length forms) form
    → AreFormsOf w h colours (forms ++ form ∷ [])
more_forms w h colours forms form are here = λ t known inside.
    let all : List (Option TileForm) = forms ++ form ∷ [] in
    let len : length all ≡ length forms + 1 = length-append forms (form ∷ []) in
    let before : (k : ℕ) → k < length forms → k < tile_count w h → IsFormOf w h colours k (slice_index_or all k None) = λ k lt there. rw (get_or-append forms (form ∷ []) None k lt) (are k lt there) in
    let last : length forms < tile_count w h → IsFormOf w h colours (length forms) (slice_index_or all (length forms) None) = λ there. rw (get_or-append_seam forms form [] None) here in
    below_more (λ k. k < tile_count w h → IsFormOf w h colours k (slice_index_or all k None)) (length forms) before last t (omega (arith, known, len)) inside

pub source_shows : (format : PixelFormat) (s : PixelSource) (w h : ℕ) → s.area.x ≡ 0 → s.area.y ≡ 0 → s.are_colours ≡ true → LooksLike w h (shows format s) (tinted format (value_at s.width s.numbers.now))
source_shows format s w h left top colours = λ x y across down.
    let screen : Canvas = value_at s.width s.numbers.now in
    let at_x : s.area.x + x ≡ x = omega (arith, left) in
    let at_y : s.area.y + y ≡ y = omega (arith, top) in
    ap (λ b. cond b (tint format (screen (s.area.x + x) (s.area.y + y))) (screen (s.area.x + x) (s.area.y + y))) colours
    ∙ (ap (λ u. tint format (screen u (s.area.y + y))) at_x ∙ ap (λ v. tint format (screen x v)) at_y)
