-- What a viewer has, by what its session did. A session keeps numbers in place of its events.
use Rattle.std.proofs.Common.{◌≡◌, ℕ, ◌<◌, Bool, true, false, List, ◌∷◌, Option, Some, None, refl, sym, ◌∙◌, ap}
use Rattle.std.specs.Prelude.{unwrap_or, if◌then◌else◌}
use Rattle.raster.specs.Screen.{tile_count, tile_rect}
use Rattle.raster.specs.declared.rect.Rect.{Rect}
use Rattle.tiles.specs.Have.{SentTiles, HaveStands, sent_at}
use Rattle.tiles.specs.Touched.{Event, Requested, last_sent}
use Rattle.tiles.proofs.Marks.{IsMarked}

-- An incremental request changes nothing of it.
pub stands_incremental : (have : SentTiles) (area : Rect) (es : List Event) → HaveStands have es → HaveStands have (Requested true area ∷ es)
stands_incremental have area es s = record { each = s.each }

-- The number of a tile is the one that the events say.
pub sent_at_stands : (have : SentTiles) (es : List Event) (t : ℕ) → HaveStands have es → t < tile_count have.width have.height
    → sent_at have t ≡ last_sent (tile_rect have.width have.height t) es
sent_at_stands have es t s lt = ap (λ o. unwrap_or o None) (s.each t lt)

some_if : (b : Bool) (value other : Option ℕ) → (if b then Some value else Some other) ≡ Some (if b then value else other)
some_if true value other = refl
some_if false value other = refl

-- Where the tiles that the test lets through were marked, and a further event says of each tile just that, the tiles
-- stand for it too.
pub stands_marked : (passes : ℕ → Bool) (value : Option ℕ) (have : SentTiles) (new : List (Option ℕ)) (es more : List Event)
    → IsMarked passes value (tile_count have.width have.height) have.sent new
    → ((t : ℕ) → last_sent (tile_rect have.width have.height t) more ≡ (if passes t then value else last_sent (tile_rect have.width have.height t) es))
    → HaveStands have es → HaveStands (record { width = have.width; height = have.height; sent = new }) more
stands_marked passes value have new es more m says s =
    record {
      each = λ t lt.
          m.each t lt
          ∙ (ap (λ o. if passes t then Some value else o) (s.each t lt)
          ∙ (some_if (passes t) value (last_sent (tile_rect have.width have.height t) es) ∙ ap Some (sym (says t))));
    }
