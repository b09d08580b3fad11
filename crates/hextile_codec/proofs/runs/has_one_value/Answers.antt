use Rattle.std.proofs.Common.{◌≡◌, List, ◌∷◌, ap, ◌∙◌, sym, map, rules, tests}
use Rattle.std.specs.Prelude.{◌==◌}
use Rattle.std.specs.List.{list_all}
use Rattle.std.proofs.lemmas.Iterator.{YieldsList-from_slice}
use Rattle.std.proofs.lemmas.Iterator.Search.{all_from_yields_List}
use Rattle.std.proofs.lemmas.List.Folds.{list_all-map}
use Rattle.raster.specs.Encoding.{Subrect}
use Rattle.hextile_codec.specs.declared.runs.Run.{Run}
use Rattle.hextile_codec.specs.TileKinds.{subrect_of, has_one_value}
use Rattle.hextile_codec.proofs.runs.has_one_value.Goals as goal

-- The runs after the first are compared with it.
by_first : (first : Run) (others runs : List Run) → runs ≡ first ∷ others → list_all (λ (run : Run). run.value == first.value) others ≡ has_one_value (map subrect_of runs)
by_first first others runs e = sym (ap (λ (rs : List Run). has_one_value (map subrect_of rs)) e ∙ list_all-map (λ (s : Subrect). s.value == first.value) subrect_of others)

pub returns-in-Some : goal.returns-in-Some
returns-in-Some c =
    let first : Run = c.in-Some.first.now in
    let others : List Run = c.in-Some.others.now in
    let all : c.all.result ≡ list_all (λ (run : Run). run.value == first.value) others =
    all_from_yields_List (λ (run : Run). run.value == first.value) _ _ _ c.all.ensures.ran (YieldsList-from_slice others c.iter.ensures.rest) (λ x b q k. search (rules, tests)) in
    let split = c.in-Some.ensures.cases in
    all ∙ by_first first others c.args.runs.now split.0
