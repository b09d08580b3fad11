-- What the reflector knows of a tile before it writes it.
use Rattle.std.specs.Prelude.{◌≡◌, ℕ, ◌+◌, ◌*◌, ◌/◌, ◌<◌, ◌≤◌, Bool, true, false, ◌==◌, if◌then◌else◌, List, [], ◌∷◌, length, Option, Some, None, MatchOption}
use Rattle.std.specs.List.{list_all}
use Rattle.pixel_format.specs.PixelFormat.{PixelFormat, pixel_len}
use Rattle.raster.specs.Screen.{Canvas, values_of}
use Rattle.raster.specs.Encoding.{Subrect, Carried, nothing_carried, raw_bytes, unless_said, drawn_bytes}
use Rattle.joined_runs.specs.declared.rect_form.RectForm.{RectForm}
use Rattle.joined_runs.specs.Joined.{background_of, subrects_of, tile_bytes_as}
use Rattle.hextile_codec.specs.declared.runs.Run.{Run}
use Rattle.hextile_codec.specs.declared.tile_kind.TileKind.{TileKind}
use Rattle.hextile_codec.specs.declared.tile_kind.TileKind.TheVariants.{Raw, Plain, TwoColours, Coloured}
use Rattle.hextile_codec.specs.declared.tile_kind.TileChoice.{TileChoice}

-- A run, as a subrectangle.
abbrev pub subrect_of : Run → Subrect
subrect_of run = record { value = run.value; area = record { x = run.x; y = run.y; w = run.len; h = run.high } }

-- A run, as a subrectangle this high.
abbrev pub subrect_as_high : Run → ℕ → Subrect
subrect_as_high run high = record { value = run.value; area = record { x = run.x; y = run.y; w = run.len; h = high } }

-- It lies in a tile.
pub record IsSmall (run : Run) : Type 0 where
  pub x : run.x < 16
  pub y : run.y < 16
  pub some : 0 < run.len
  pub most : run.len ≤ 16
  pub high : (0 < run.high) × (run.high ≤ 16)

-- A tile has at least one column and row, and at most 16.
pub record IsTileSize (w h : ℕ) : Type 0 where
  pub w_some : 0 < w
  pub w_most : w ≤ 16
  pub h_some : 0 < h
  pub h_most : h ≤ 16

-- All runs have the value of the first.
abbrev pub has_one_value : List Subrect → Bool
has_one_value [] = true
has_one_value (s ∷ ss) = list_all (λ t. t.value == s.value) ss

-- What a tile of these runs is that isn't Raw.
abbrev pub kind_of : List Subrect → TileKind
kind_of [] = Plain
kind_of (s ∷ ss) = if has_one_value (s ∷ ss) then TwoColours s.value else Coloured

-- How many bytes it has.
abbrev pub drawn_len : PixelFormat → Carried → ℕ → TileKind → ℕ → ℕ
drawn_len format before background Raw count = 1 + length (unless_said format before.background background)
drawn_len format before background Plain count = 1 + length (unless_said format before.background background)
drawn_len format before background (TwoColours foreground) count =
    1 + length (unless_said format before.background background) + length (unless_said format before.foreground foreground) + 1 + 2 * count
drawn_len format before background Coloured count = 1 + length (unless_said format before.background background) + 1 + (pixel_len format + 2) * count

-- What a tile of a kind leaves for the next.
abbrev pub leaves_of : TileKind → ℕ → Carried
leaves_of Raw background = nothing_carried
leaves_of Plain background = record { background = Some background; foreground = None }
leaves_of (TwoColours foreground) background = record { background = Some background; foreground = Some foreground }
leaves_of Coloured background = record { background = Some background; foreground = None }

-- A run of a row of a tile of w by h.
pub record IsRowRun (w h : ℕ) (run : Run) : Type 0 where
  pub column : run.x < w
  pub row : run.y < h
  pub flat : run.high ≡ 1

-- The subrectangles of a tile in a form were found, and its background.
pub record IsFoundAs (form : RectForm) (w h : ℕ) (canvas : Canvas) (found : List Subrect) (shown : ℕ) : Type 0 where
  pub background : shown ≡ background_of form w h canvas
  pub all : found ≡ subrects_of form w h canvas

-- There are this many of them at least, of more values than one.
pub record HasMany (form : RectForm) (w h : ℕ) (canvas : Canvas) (enough : ℕ) : Type 0 where
  pub many : enough ≤ length (subrects_of form w h canvas)
  pub mixed : has_one_value (subrects_of form w h canvas) ≡ false

-- What a search answers: that there are too many of them, or the background, where they were found.
abbrev pub IsSearched : RectForm → ℕ → ℕ → Canvas → ℕ → List Subrect → Option ℕ → Type 0
IsSearched form w h canvas enough found answer = MatchOption answer (HasMany form w h canvas enough) (IsFoundAs form w h canvas found)

-- This many subrectangles of more values than one have more bytes than the pixels.
abbrev pub enough_of : PixelFormat → ℕ → ℕ → ℕ
enough_of format w h = (1 + pixel_len format * (w * h)) / (pixel_len format + 2) + 1

-- The bytes of a tile are these, its pixels or the drawing of its subrectangles.
abbrev pub IsWrittenAs : RectForm → PixelFormat → Carried → ℕ → ℕ → Canvas → List Subrect → ℕ → TileKind → List ℕ → Type 0
IsWrittenAs form format before w h canvas found background Raw bytes = bytes ≡ 1 ∷ raw_bytes format (values_of w h canvas)
IsWrittenAs form format before w h canvas found background kind bytes =
    (bytes ≡ drawn_bytes format before background found) × (kind ≡ kind_of found) × (found ≡ subrects_of form w h canvas)

-- A choice says how many bytes a tile has in a form, what it leaves, and what they are.
pub record IsChosen (form : RectForm) (format : PixelFormat) (before : Carried) (w h : ℕ) (canvas : Canvas) (found : List Subrect) (choice : TileChoice) : Type 0 where
  pub len : choice.len ≡ length (tile_bytes_as form format before w h canvas).0
  pub leaves : leaves_of choice.kind choice.background ≡ (tile_bytes_as form format before w h canvas).1
  pub written : IsWrittenAs form format before w h canvas found choice.background choice.kind (tile_bytes_as form format before w h canvas).0
