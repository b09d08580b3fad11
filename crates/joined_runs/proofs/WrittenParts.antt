-- What is written for runs is written for each of them, one after another. The encoders write it so.
use Rattle.std.proofs.Common.{◌≡◌, ℕ, Bool, true, false, cond, not, List, [], ◌∷◌, ◌++◌, map, refl, sym, ap, ◌∙◌, append_assoc}
use Rattle.std.specs.Prelude.{filter}
use Rattle.std.specs.List.{flat_map}
use Rattle.raster.specs.Screen.{Canvas}
use Rattle.raster.specs.Encoding.{Subrect}
use Rattle.joined_runs.specs.declared.rect_form.RectForm.{RectForm}
use Rattle.joined_runs.specs.declared.rect_form.RectForm.TheVariants.{OfRows, Joined}
use Rattle.joined_runs.specs.Joined.{is_below, with_below, written}

module _ (canvas : Canvas) (w h : ℕ) where
  one_of : (b : Bool) (s : Subrect) (ss : List Subrect) → map (with_below canvas w h) (cond b (s ∷ ss) ss) ≡ map (with_below canvas w h) (cond b (s ∷ []) []) ++ map (with_below canvas w h) ss
  one_of true s ss = refl
  one_of false s ss = refl

  pub written_first : (runs : RectForm) (s : Subrect) (ss : List Subrect) → written runs canvas w h (s ∷ ss) ≡ written runs canvas w h (s ∷ []) ++ written runs canvas w h ss
  written_first OfRows s ss = refl
  written_first Joined s ss = one_of (not (is_below canvas w s)) s (filter (λ run. not (is_below canvas w run)) ss)

  pub written_none : (runs : RectForm) → written runs canvas w h [] ≡ []
  written_none OfRows = refl
  written_none Joined = refl

  pub written_append : (runs : RectForm) (ss ts : List Subrect) → written runs canvas w h (ss ++ ts) ≡ written runs canvas w h ss ++ written runs canvas w h ts
  written_append runs [] ts = sym (ap (λ t. t ++ written runs canvas w h ts) (written_none runs))
  written_append runs (s ∷ ss) ts =
      written_first runs s (ss ++ ts)
      ∙ (ap (λ t. written runs canvas w h (s ∷ []) ++ t) (written_append runs ss ts)
      ∙ (sym (append_assoc (written runs canvas w h (s ∷ [])) (written runs canvas w h ss) (written runs canvas w h ts)) ∙ ap (λ t. t ++ written runs canvas w h ts) (sym (written_first runs s ss))))

  pub written_rows : (runs : RectForm) (f : ℕ → List Subrect) (ys : List ℕ) → written runs canvas w h (flat_map f ys) ≡ flat_map (λ y. written runs canvas w h (f y)) ys
  written_rows runs f [] = written_none runs
  written_rows runs f (y ∷ ys) = written_append runs (f y) (flat_map f ys) ∙ ap (λ t. written runs canvas w h (f y) ++ t) (written_rows runs f ys)
