-- A tile of one value has that as its background, and no run. `find_joined` answers it at once.
use Rattle.std.proofs.Common.{◌≡◌, ℕ, List, [], sym, ap, ◌∙◌, subst, ◌*◌, ◌%◌, ◌/◌, ◌<◌, inl, inr, arith}
use Rattle.std.specs.List.{range_with_len}
use Rattle.std.proofs.lemmas.Bool.{cases_eq}
use Rattle.std.proofs.lemmas.Nat.{mul-lt}
use Rattle.raster.specs.Screen.{Canvas, values_of}
use Rattle.raster.specs.Encoding.{Subrect}
use Rattle.raster.proofs.Places.{length_values}
use Rattle.raster.proofs.Runs.{SomeOf, some_run_over, started}
use Rattle.raster.proofs.Spellings.{Each, each_map, each_range}
use Rattle.raster.proofs.Values.{column_in, row_in}
use Rattle.joined_runs.specs.declared.rect_form.RectForm.TheVariants.{Joined}
use Rattle.joined_runs.specs.Joined.{most_frequent, runs_over, written}
use Rattle.joined_runs.proofs.MostFrequent.{most_holds}
use Rattle.hextile_codec.specs.TileKinds.{IsFoundAs}

module _ (canvas : Canvas) (w h v : ℕ) (wide : 0 < w) (high : 0 < h) (none : runs_over canvas v w h ≡ []) where
  shows_one : (x y : ℕ) → x < w → y < h → canvas x y ≡ v
  shows_one x y lx ly = elim (cases_eq (canvas x y) v) [
    | inl e ↦ e
    | inr ne ↦
        let t = started canvas v y x ne in
        absurd (subst (λ (ss : List Subrect). SomeOf (λ s. Unit {0}) ss) none (some_run_over canvas v w h t.0 y (λ s. Unit {0}) (omega (arith, t.1.before, lx)) ly t.1.begins tt))
  ]

  each_one : Each (λ u. u ≡ v) (values_of w h canvas)
  each_one =
      each_map (λ u. u ≡ v) (λ k. canvas (k % w) (k / w)) (range_with_len 0 (w * h))
      (each_range (λ k. canvas (k % w) (k / w) ≡ v) 0 (w * h) (λ k lo hi. shows_one (k % w) (k / w) (column_in w k wide) (row_in w h k wide (omega (arith, hi)))))

  is_background : v ≡ most_frequent (values_of w h canvas)
  is_background =
      let some : 0 * 0 < w * h = mul-lt 0 0 w h wide high in
      sym (most_holds (λ u. u ≡ v) (values_of w h canvas) (omega (arith, some, length_values w h canvas)) each_one)

  pub plain_found : (found : List Subrect) → found ≡ [] → IsFoundAs Joined w h canvas found v
  plain_found found e =
      record { background = is_background; all = e ∙ sym (ap (λ n. written Joined canvas w h (runs_over canvas n w h)) (sym is_background) ∙ ap (written Joined canvas w h) none) }
