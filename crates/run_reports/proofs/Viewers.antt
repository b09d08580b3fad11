-- Lines of viewers, one after the other. `put_viewers` puts them so.
use Rattle.std.proofs.Common.{◌≡◌, ◌∙◌, ◌<◌, ◌+◌, ◌++◌, ◌∷◌, ap, get_or, length, refl, take, List, [], ℕ}
use Rattle.std.proofs.lemmas.List.{take_more}
use Rattle.run_reports.specs.State.{after_viewer, after_viewers}
use Rattle.run_reports.specs.declared.report.ViewerReport.{ViewerReport}

viewers_behind : (before : List ℕ) (some more : List ViewerReport) → after_viewers before (some ++ more) ≡ after_viewers (after_viewers before some) more
viewers_behind before [] more = refl
viewers_behind before (v ∷ some) more = viewers_behind (after_viewer before v) some more

-- the line of one viewer more
pub one_more : (before : List ℕ) (viewers : List ViewerReport) (k : ℕ) (v : ViewerReport) → k < length viewers
    → after_viewers before (take (k + 1) viewers) ≡ after_viewer (after_viewers before (take k viewers)) (get_or viewers k v)
one_more before viewers k v lt =
    ap (λ vs. after_viewers before vs) (take_more viewers k v lt) ∙ viewers_behind before (take k viewers) (get_or viewers k v ∷ [])
