-- Runs of equal values.
use Rattle.std.proofs.Common.{◌≡◌, ℕ, ◌+◌, ◌≤◌, ◌<◌, List, [], ◌∷◌, ◌++◌, ◌∙◌, length, take, drop, replicate, refl, sym, ap, arith, length-drop}
use Rattle.std.specs.Prelude.{slice_index}
use Rattle.std.proofs.Math.Seq.{take-add}
use Rattle.std.proofs.lemmas.List.{append-nil, length-take-le, length-replicate, get_or-replicate, get_or-take, get_or-drop, flat_map_more}
use Rattle.std.proofs.lemmas.List.FromFn.{fill_by_all}
use Rattle.std.proofs.lemmas.List.Elements.{All-append, All-replicate, All-from_get_or}
use Rattle.std.proofs.lemmas.Grind.{flat_map-append}
use Rattle.zrle_codec.specs.Tiles.{Run, run_shows}
use Rattle.zrle_codec.specs.Appends.{AppendsRuns}

-- a list of equal values
pub all_same : (xs : List ℕ) (n v : ℕ) → length xs ≡ n → ((k : ℕ) → k < n → slice_index xs k ≡ v) → xs ≡ replicate n v
all_same xs n v size same =
    fill_by_all (λ k. v) xs n 0 size same ∙ sym (fill_by_all (λ k. v) (replicate n v) n 0 (length-replicate n v) (λ k lt. get_or-replicate n k v 0 lt))

-- equal values from a place on
pub run_same : (values : List ℕ) (from n : ℕ) → from + n ≤ length values → ((k : ℕ) → from ≤ k → k < from + n → slice_index values k ≡ slice_index values from)
    → take n (drop from values) ≡ replicate n (slice_index values from)
run_same values from n inside same =
    all_same (take n (drop from values)) n (slice_index values from) (length-take-le n (drop from values) (omega (arith, length-drop from values)))
    (λ k lt. get_or-take n (drop from values) k 0 lt ∙ (get_or-drop from values k 0 ∙ same (from + k) (omega arith) (omega arith)))

pub no_runs : (spelled : Run → List ℕ) (old : List ℕ) → AppendsRuns spelled old old []
no_runs spelled old = record {
  runs = [];
  some = All-from_get_or (λ r. 1 ≤ r.len) [] (record { value = 0; len = 0 }) (λ i lt. absurd (omega arith));
  shows = refl;
  appended = sym (append-nil old);
}

pub then_run : (spelled : Run → List ℕ) (old new newer values : List ℕ) (from n v : ℕ) → 1 ≤ n → take n (drop from values) ≡ replicate n v
    → AppendsRuns spelled old new (take from values) → newer ≡ new ++ spelled (record { value = v; len = n }) → AppendsRuns spelled old newer (take (from + n) values)
unfolding run_shows
then_run spelled old new newer values from n v some same before put =
    let run : Run = record { value = v; len = n } in
    record {
      runs = before.runs ++ run ∷ [];
      some = All-append (λ r. 1 ≤ r.len) before.runs (run ∷ []) before.some (All-replicate (λ r. 1 ≤ r.len) 1 run some);
      shows =
          flat_map-append run_shows before.runs (run ∷ [])
          ∙ (ap (λ t. t ++ (replicate n v ++ [])) before.shows
          ∙ (ap (λ t. take from values ++ t) (append-nil (replicate n v) ∙ sym same) ∙ sym (take-add from n values)));
      appended = put ∙ (ap (λ t. t ++ spelled run) before.appended ∙ flat_map_more spelled old before.runs run);
    }
