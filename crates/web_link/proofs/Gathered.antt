-- Steps of a link that gives bytes on together.
use Rattle.std.proofs.Common.{◌≡◌, ℕ, List, ◌++◌, take, drop, sym, ap, ◌∙◌, append_assoc}
use Rattle.std.proofs.lemmas.List.{take-append-drop}
use Rattle.link.specs.Links.{LinkState}
use Rattle.web_link.specs.Gathering.{Gathered, Gathers}

-- The link below was given the first of what is kept.
pub gathers_sent : (w : Gathered) (below : LinkState) (kept : List ℕ) (n : ℕ) → Gathers w → below ≡ record w.below { given = w.below.given ++ take n w.kept } → kept ≡ drop n w.kept
    → Gathers (record w { below = below; kept = kept })
gathers_sent w below kept n k e u =
    let g : below.given ≡ w.below.given ++ take n w.kept = ap (λ (l : LinkState). l.given) e in
    record {
      taken = k.taken ∙ sym (ap (λ (l : LinkState). l.taken) e);
      given = k.given ∙ (ap (λ x. w.below.given ++ x) (sym (take-append-drop n w.kept)) ∙ (sym (append_assoc w.below.given (take n w.kept) (drop n w.kept)) ∙ (ap (λ x. x ++ drop n w.kept) (sym g) ∙ ap (λ x. below.given ++ x) (sym u))));
    }
