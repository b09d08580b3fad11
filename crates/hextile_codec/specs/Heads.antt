-- A tile's head: what is known of one of its spellings before masks and the colours that are left off.
use Rattle.std.specs.Prelude.{◌≡◌, ℕ, List, length, Option, MatchOption}
use Rattle.raster.specs.Screen.{Canvas}
use Rattle.raster.specs.Encoding.{Subrect}
use Rattle.joined_runs.specs.declared.rect_form.RectForm.{RectForm}
use Rattle.joined_runs.specs.declared.rect_form.RectForm.TheVariants.{OfRows, Joined}
use Rattle.joined_runs.specs.Joined.{background_of, subrects_of}
use Rattle.hextile_codec.specs.declared.tile_kind.Head.{Head}
use Rattle.hextile_codec.specs.declared.joining.Backgrounds.{Backgrounds}
use Rattle.hextile_codec.specs.TileKinds.{kind_of, HasMany, IsFoundAs}

-- The head of a tile in a form.
pub record IsHeadOf (form : RectForm) (w h : ℕ) (canvas : Canvas) (head : Head) : Type 0 where
  pub background : head.background ≡ background_of form w h canvas
  pub kind : head.kind ≡ kind_of (subrects_of form w h canvas)
  pub count : head.count ≡ length (subrects_of form w h canvas)

-- The joined runs of a tile were found, its backgrounds in both forms, and how many runs its rows have.
pub record AreFound (w h : ℕ) (canvas : Canvas) (found : List Subrect) (backgrounds : Backgrounds) : Type 0 where
  pub joined : IsFoundAs Joined w h canvas found backgrounds.joined
  pub rows : backgrounds.rows ≡ background_of OfRows w h canvas
  pub count : backgrounds.count ≡ length (subrects_of OfRows w h canvas)

-- What a search in both forms answers: that there are too many subrectangles in each, or the backgrounds.
abbrev pub AreSearched : ℕ → ℕ → Canvas → ℕ → List Subrect → Option Backgrounds → Type 0
AreSearched w h canvas enough found answer = MatchOption answer (HasMany Joined w h canvas enough × HasMany OfRows w h canvas enough) (AreFound w h canvas found)
