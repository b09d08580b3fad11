-- In a format that keeps colours apart, the kind of a tile of pixel values is that of its colours. So what is found
-- once in a tile's colours serves each such format.
use Rattle.std.proofs.Common.{◌≡◌, ℕ, Bool, true, false, cond, ◌&&◌, List, [], ◌∷◌, length, map, refl, sym, ap, ◌∙◌}
use Rattle.std.specs.Prelude.{◌==◌}
use Rattle.std.specs.List.{list_all}
use Rattle.std.proofs.lemmas.List.{length-map}
use Rattle.pixel_format.specs.PixelFormat.{PixelFormat, tint}
use Rattle.raster.specs.Screen.{Canvas}
use Rattle.raster.specs.Encoding.{Subrect}
use Rattle.raster.proofs.Spellings.{Each}
use Rattle.joined_runs.specs.declared.rect_form.RectForm.{RectForm}
use Rattle.joined_runs.specs.Joined.{subrects_of}
use Rattle.joined_runs.specs.Tinted.{ShowsApart, tinted_subrect}
use Rattle.joined_runs.proofs.Recoloured.{background_tinted, same_test, subrects_tinted, colours_apart_in}
use Rattle.hextile_codec.specs.declared.tile_kind.Head.{Head}
use Rattle.hextile_codec.specs.declared.tile_kind.TileKind.TheVariants.{TwoColours, Coloured}
use Rattle.hextile_codec.specs.Apart.{tinted_head, tinted_kind}
use Rattle.hextile_codec.specs.Heads.{IsHeadOf}
use Rattle.hextile_codec.specs.TileKinds.{has_one_value, kind_of}

all_same : (format : PixelFormat) (value : ℕ) (ss : List Subrect) → Each (λ t. tint format t.value ≡ tint format value → t.value ≡ value) ss
    → list_all (λ t. t.value == tint format value) (map (tinted_subrect format) ss) ≡ list_all (λ t. t.value == value) ss
all_same format value [] h = refl
all_same format value (s ∷ ss) h =
    ap (λ b. b && list_all (λ t. t.value == tint format value) (map (tinted_subrect format) ss)) (same_test (tint format) s.value value h.0)
    ∙ ap (λ b. (s.value == value) && b) (all_same format value ss h.1)

-- No two subrectangles have one pixel value that have different colours.
abbrev pub AreApart : PixelFormat → List Subrect → Type 0
AreApart format ss = Each (λ s. Each (λ t. tint format t.value ≡ tint format s.value → t.value ≡ s.value) ss) ss

pub kind_same : (format : PixelFormat) (ss : List Subrect) → AreApart format ss → kind_of (map (tinted_subrect format) ss) ≡ tinted_kind format (kind_of ss)
kind_same format [] h = refl
kind_same format (s ∷ ss) h =
    ap (λ b. cond b (TwoColours (tint format s.value)) Coloured) (all_same format s.value ss h.0.1) ∙ by_kind (has_one_value (s ∷ ss)) s.value
  where
    by_kind : (b : Bool) (value : ℕ) → cond b (TwoColours (tint format value)) Coloured ≡ tinted_kind format (cond b (TwoColours value) Coloured)
    by_kind true value = refl
    by_kind false value = refl

pub kind_tinted : (form : RectForm) (format : PixelFormat) (w h : ℕ) (colours shown : Canvas) → ShowsApart format w h colours shown → kind_of (subrects_of form w h shown) ≡ tinted_kind format (kind_of (subrects_of form w h colours))
kind_tinted form format w h colours shown is = ap kind_of (subrects_tinted format w h colours shown is form) ∙ kind_same format (subrects_of form w h colours) (colours_apart_in format w h colours shown is form)

pub head_tinted : (form : RectForm) (format : PixelFormat) (w h : ℕ) (colours shown : Canvas) (head : Head) → ShowsApart format w h colours shown → IsHeadOf form w h colours head → IsHeadOf form w h shown (tinted_head format head)
head_tinted form format w h colours shown head is of =
    record {
      background = ap (tint format) of.background ∙ sym (background_tinted format w h colours shown is form);
      kind = ap (tinted_kind format) of.kind ∙ sym (kind_tinted form format w h colours shown is);
      count = of.count ∙ sym (ap length (subrects_tinted format w h colours shown is form) ∙ length-map (subrects_of form w h colours) (tinted_subrect format));
    }
