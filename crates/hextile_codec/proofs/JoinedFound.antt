-- The runs of a tile, joined one after another. `join` goes through them once.
use Rattle.std.proofs.Common.{◌≡◌, ℕ, List, [], ◌∷◌, ◌++◌, length, map, take, get_or, refl, sym, ap, ◌∙◌, ◌+◌, ◌<◌}
use Rattle.std.specs.List.{All}
use Rattle.std.proofs.lemmas.List.{take_more, map_push}
use Rattle.std.proofs.lemmas.List.Elements.{All-nil, All-cons}
use Rattle.raster.specs.Screen.{Canvas}
use Rattle.raster.specs.Encoding.{Subrect}
use Rattle.raster.proofs.Spellings.{Each}
use Rattle.joined_runs.specs.declared.rect_form.RectForm.TheVariants.{Joined}
use Rattle.joined_runs.specs.Joined.{runs_over, written}
use Rattle.joined_runs.specs.Found as whole
use Rattle.raster.proofs.Runs.{each_run_over}
use Rattle.joined_runs.proofs.WrittenParts.{written_append}
use Rattle.hextile_codec.specs.declared.runs.Run.{Run}
use Rattle.hextile_codec.specs.TileKinds.{IsRowRun, subrect_of}

-- A run is the same in both crates.
pub same_run : (run : Run) (x y len : ℕ) → x ≡ run.x → y ≡ run.y → len ≡ run.len → run.high ≡ 1 → whole.subrect_of (record { value = run.value; x = x; y = y; len = len }) ≡ subrect_of run
same_run run x y len a b c d = rw (a, b, c, d) refl

pub same_high : (run : Run) (x y len high : ℕ) → x ≡ run.x → y ≡ run.y → len ≡ run.len
    → whole.subrect_as_high (record { value = run.value; x = x; y = y; len = len }) high ≡ subrect_of (record { value = run.value; x = run.x; y = run.y; len = run.len; high = high })
same_high run x y len high a b c = rw (a, b, c) refl

module _ (canvas : Canvas) (w h : ℕ) where
  -- One more is joined.
  pub join_more : (runs joined now : List Run) (i : ℕ) (none : Run) → i < length runs → map subrect_of joined ≡ written Joined canvas w h (map subrect_of (take i runs))
      → map subrect_of now ≡ map subrect_of joined ++ written Joined canvas w h (subrect_of (get_or runs i none) ∷ []) → map subrect_of now ≡ written Joined canvas w h (map subrect_of (take (i + 1) runs))
  join_more runs joined now i none lt so more =
      let run : Run = get_or runs i none in
      more
      ∙ (ap (λ t. t ++ written Joined canvas w h (subrect_of run ∷ [])) so
      ∙ (sym (written_append canvas w h Joined (map subrect_of (take i runs)) (subrect_of run ∷ []))
      ∙ ap (written Joined canvas w h) (sym (map_push subrect_of (take i runs) run) ∙ ap (map subrect_of) (sym (take_more runs i none lt)))))

  abbrev is_row : Subrect → Type 0
  is_row s = (s.area.x < w) × (s.area.y < h) × (s.area.h ≡ 1)

  all_rows : (rs : List Run) → Each is_row (map subrect_of rs) → All (IsRowRun w h) rs
  all_rows [] e = All-nil (IsRowRun w h)
  all_rows (r ∷ rs) e = All-cons (IsRowRun w h) r rs (record { column = e.0.0; row = e.0.1; flat = e.0.2 }) (all_rows rs e.1)

  pub row_runs : (background : ℕ) (rs : List Run) → map subrect_of rs ≡ runs_over canvas background w h → All (IsRowRun w h) rs
  row_runs background rs e = all_rows rs (rw e (each_run_over canvas background w h is_row (λ x y lx ly b. (lx, ly, refl))))
