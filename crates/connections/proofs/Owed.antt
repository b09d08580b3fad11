-- Two conversations that go on alike, and go on: bytes that the owner owes or that are ahead of it go first, and behind
-- them the same bytes go in both.
use Rattle.std.proofs.Common.{◌≡◌, ℕ, List, [], ◌++◌, ◌+◌, ◌≤◌, length, take, drop, refl, sym, ap, ◌∙◌, append_assoc, append-nil}
use Rattle.std.proofs.Math.Seq.{drop-drop}
use Rattle.std.proofs.lemmas.List.{take-append-drop, drop_all}
use Rattle.connections.specs.Greetings.{GoOnAlike}

-- Bytes that go from those that wait, behind those that have gone: both together stay the same.
gone : (before first own : List ℕ) (n k : ℕ) → first ≡ take k (drop n own) → before ++ drop n own ≡ (before ++ first) ++ drop (n + k) own
gone before first own n k e =
    sym (append_assoc before first (drop (n + k) own)
    ∙ ap (λ l. before ++ l) (ap (λ l. l ++ drop (n + k) own) e ∙ ap (λ l. take k (drop n own) ++ l) (sym (drop-drop k n own)) ∙ take-append-drop k (drop n own)))

-- Nothing has gone below.
pub gone_alike : (before first own belows exchanged after : List ℕ) (n k : ℕ) → first ≡ take k (drop n own) → after ≡ before ++ first
    → GoOnAlike (before ++ drop n own) own belows exchanged → GoOnAlike (after ++ drop (n + k) own) own belows exchanged
gone_alike before first own belows exchanged after n k e a alike =
    record { rest = alike.rest; owner = ap (λ l. l ++ drop (n + k) own) a ∙ sym (gone before first own n k e) ∙ alike.owner; below = alike.below }

-- The same has gone in both, and nothing waits.
pub more_alike : (before own belows exchanged more after below_after : List ℕ) (n : ℕ) → length own ≤ n → after ≡ before ++ more → below_after ≡ belows ++ more
    → GoOnAlike (before ++ drop n own) own belows exchanged → GoOnAlike (after ++ drop n own) own below_after exchanged
more_alike before own belows exchanged more after below_after n all a b alike =
    let none = drop_all n own all in
    record {
      rest = alike.rest ++ more;
      owner = ap (λ l. after ++ l) none ∙ append-nil after ∙ a ∙ ap (λ l. l ++ more) (sym (append-nil before) ∙ ap (λ l. before ++ l) (sym none) ∙ alike.owner) ∙ append_assoc own alike.rest more;
      below = b ∙ ap (λ l. l ++ more) alike.below ∙ append_assoc exchanged alike.rest more;
    }
