-- What a cut says to a session whose tiles stand for its events. A session's answer is made of what a cut says.
use Rattle.std.proofs.Common.{◌≡◌, ℕ, ◌<◌, Bool, Option, Some, List, take, ap, ◌∙◌}
use Rattle.std.specs.Prelude.{slice_get, ◌&&◌}
use Rattle.raster.specs.declared.rect.Rect.{Rect}
use Rattle.raster.specs.Screen.{meets, tile_count, tile_rect}
use Rattle.raster.specs.Update.{Update}
use Rattle.tiles.proofs.HaveLaws.{sent_at_stands}
use Rattle.tiles.specs.Have.{SentTiles, HaveStands, sent_at}
use Rattle.tiles.specs.Touched.{Event, is_due, is_due_since, last_sent}
use Rattle.copy_log.specs.Passed.{IsSamePassed, Passed}
use Rattle.reflect_core.specs.Source.{IsCutOf, copies_in, due_in, passed_on, passed_to, still_due_in}
use Rattle.reflect_core.specs.declared.cut.Cut.{Cut}
use Rattle.reflect_core.proofs.PassLaws.{same_passed_on}

-- Tile t of a screen of w by h meets the area, and is due by these events.
abbrev pub due_by : ℕ → ℕ → Rect → List Event → List Update → ℕ → Bool
due_by w h area es us t = meets area (tile_rect w h t) && is_due (tile_rect w h t) es us

due_is : (have : SentTiles) (area : Rect) (es : List Event) (us : List Update) (t : ℕ) → HaveStands have es → t < tile_count have.width have.height
    → due_in have area us t ≡ due_by have.width have.height area es us t
due_is have area es us t s lt =
    ap (λ (o : Option ℕ). meets area (tile_rect have.width have.height t) && is_due_since (tile_rect have.width have.height t) o us) (sent_at_stands have es t s lt)

-- What is passed on by these events.
abbrev pub passed_by : ℕ → ℕ → Rect → List Event → Option ℕ → List Update → Passed
passed_by w h area es since us = passed_on w h area (λ t. last_sent (tile_rect w h t) es) since us

-- Tile t is still due behind that, by these events.
abbrev pub still_due_by : ℕ → ℕ → Rect → List Event → Option ℕ → List Update → ℕ → Bool
still_due_by w h area es since us t = (passed_by w h area es since us).lacks t && due_by w h area es us t

-- What is passed on to a viewer that has these tiles is what is passed on by the events.
pub passed_is : (have : SentTiles) (area : Rect) (es : List Event) (since : Option ℕ) (us : List Update) → HaveStands have es
    → IsSamePassed have.width have.height (passed_by have.width have.height area es since us) (passed_to have area since us)
passed_is have area es since us s =
    same_passed_on have.width have.height area (λ t. last_sent (tile_rect have.width have.height t) es) (sent_at have) since us (λ t lt. sent_at_stands have es t s lt)

pub still_due_is : (have : SentTiles) (area : Rect) (es : List Event) (since : Option ℕ) (us : List Update) (t : ℕ) → HaveStands have es → t < tile_count have.width have.height
    → still_due_in have area since us t ≡ still_due_by have.width have.height area es since us t
still_due_is have area es since us t s lt =
    ap (λ b. b && due_in have area us t) ((passed_is have area es since us s).lacks t lt)
    ∙ ap (λ b. (passed_by have.width have.height area es since us).lacks t && b) (due_is have area es us t s lt)

-- The copies of a cut are those that are passed on by the events.
pub copies_passed : (us : List Update) (n : ℕ) (area : Rect) (have : SentTiles) (since : Option ℕ) (cut : Cut) (es : List Event) → HaveStands have es → IsCutOf us n area have since cut
    → copies_in cut ≡ (passed_by have.width have.height area es since (take n us)).copies
copies_passed us n area have since cut es s is = is.copies ∙ (passed_is have area es since (take n us) s).copies

-- The tiles that it marks are those still due by the events.
pub marks_due : (us : List Update) (n : ℕ) (area : Rect) (have : SentTiles) (since : Option ℕ) (cut : Cut) (es : List Event) → HaveStands have es → IsCutOf us n area have since cut
    → (t : ℕ) → t < tile_count have.width have.height → slice_get cut.due.items t ≡ Some (still_due_by have.width have.height area es since (take n us) t)
marks_due us n area have since cut es s is t lt = is.due t lt ∙ ap (λ (b : Bool). Some b) (still_due_is have area es since (take n us) t s lt)
