-- A form that is kept of a tile is that of the colours which the tile shows. So it is chosen by in place of a look.
use Rattle.std.proofs.Common.{◌≡◌, ℕ, ◌<◌, ◌≤◌, List, length, Option, Some, None, refl, subst, sym, arith}
use Rattle.std.specs.Prelude.{IfNone, IfSome, slice_index_or}
use Rattle.pixel_format.specs.PixelFormat.{PixelFormat}
use Rattle.raster.specs.declared.rect.Rect.{Rect}
use Rattle.raster.specs.Screen.{Canvas, part_of, tile_count, tile_rect}
use Rattle.joined_runs.specs.declared.rect_form.RectForm.TheVariants.{OfRows, Joined}
use Rattle.joined_runs.specs.Joined.{subrects_of}
use Rattle.joined_runs.specs.Tinted.{ShowsApart}
use Rattle.joined_runs.proofs.SameTiles.{few_subrects}
use Rattle.hextile_codec.specs.declared.kept.TileForm.{TileForm}
use Rattle.hextile_codec.specs.Kept.{AreKept, FormStands}

-- What follows for any answer follows for this one, if there is one.
pub if_some : {A : Type 0} (P Q : A → Type 0) (answer : Option A) → ((x : A) → P x → Q x) → IfSome answer P → IfSome answer Q
if_some P Q None f h = h
if_some P Q (Some x) f h = f x h

-- What holds anyway holds where there is none.
pub if_none : {A : Type 0} (P : Type 0) (answer : Option A) → P → IfNone answer P
if_none P None h = h
if_none P (Some x) h = tt

-- And what holds where there is none holds if there is none.
pub none_is : {A : Type 0} (P : Type 0) (answer : Option A) → ((x : A) → answer ≡ Some x → ⊥) → IfNone answer P → P
none_is P None none h = h
none_is P (Some x) none h = absurd (none x refl)

-- What holds of one of two lists holds of the list that is the one where there is an answer, and else the other.
pub of_either : {A B : Type 0} (answer : Option A) (P : List B → Type 0) (X : Type 0) (x : X) (list : X → List B) (one : X → A → List B) (other : List B)
    → IfSome answer (λ a. (y : X) → list y ≡ one y a) → IfNone answer ((y : X) → list y ≡ other) → IfSome answer (λ a. P (one x a)) → IfNone answer (P other) → P (list x)
of_either (Some a) P X x list one other is none kept seen = subst P (sym (is x)) kept
of_either None P X x list one other some is kept seen = subst P (sym (is x)) seen

-- It has few subrectangles in both forms.
pub few_counts : (form : TileForm) (w h : ℕ) (colours : Canvas) → 0 < w → w ≤ 16 → 0 < h → h ≤ 16 → FormStands form w h colours → (form.joined.count ≤ 255) × (form.rows.count ≤ 255)
few_counts form w h colours sw lw sh lh stands =
    let joined : length (subrects_of Joined w h colours) ≤ 255 = few_subrects Joined colours w h sw lw sh lh in
    let rows : length (subrects_of OfRows w h colours) ≤ 255 = few_subrects OfRows colours w h sw lw sh lh in
    (omega (arith, joined, stands.joined.count), omega (arith, rows, stands.rows.count))

pub kept_of : (format : PixelFormat) (w h k : ℕ) (tile : Rect) (shown : Canvas) (forms : List (Option TileForm)) (form : TileForm)
    → AreKept format w h shown forms → k < length forms → k < tile_count w h → tile ≡ tile_rect w h k → slice_index_or forms k None ≡ Some form
    → (colours : Canvas) × FormStands form tile.w tile.h colours × ShowsApart format tile.w tile.h colours (part_of tile shown)
kept_of format w h k tile shown forms form kept lt inside is some = rw is (rw some at (kept k lt inside))
