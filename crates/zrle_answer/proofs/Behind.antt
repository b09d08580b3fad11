-- What is written behind the old bytes of a longer list, of which the rest is cut off.
use Rattle.std.proofs.Common.{◌≡◌, ℕ, ◌+◌, ◌≤◌, List, ◌++◌, ◌∙◌, length, take, sym, ap, arith, length-append}
use Rattle.std.proofs.Math.Seq.{take-append-add}
use Rattle.std.proofs.lemmas.List.{take-append-le, take-take, length-take-le, take_all}

-- What is kept of a longer list that was written to from a place on.
kept : (lent now post rest : List ℕ) (len before used : ℕ) → before ≤ length lent → before + used ≤ len → used ≤ length now
    → take (before + used) (take len ((take before lent ++ (now ++ post)) ++ rest)) ≡ take before lent ++ take used now
kept lent now post rest len before used inside within short =
    let front : List ℕ = take before lent in
    let size : length front ≡ before = length-take-le before lent inside in
    take-take (before + used) len ((front ++ (now ++ post)) ++ rest) within
    ∙ (take-append-le (before + used) (front ++ (now ++ post)) rest (omega (arith, length-append front (now ++ post), length-append now post, size))
    ∙ (ap (λ n. take (n + used) (front ++ (now ++ post))) (sym size)
    ∙ (take-append-add front (now ++ post) used
    ∙ ap (λ t. front ++ t) (take-append-le used now post short))))

-- The old bytes, where a list begins with them.
old_front : (old lent rest : List ℕ) (n before : ℕ) → before ≡ length old → before ≤ n → lent ≡ take n old ++ rest → take before lent ≡ old
old_front old lent rest n before size le is =
    let all : take n old ≡ old = take_all n old (omega arith) in
    ap (λ t. take before t) (is ∙ ap (λ t. t ++ rest) all)
    ∙ (ap (λ k. take k (old ++ rest)) size ∙ (take-append-le (length old) old rest (omega arith) ∙ take_all (length old) old (omega arith)))

pub written_behind : (old lent now post rest tail new bytes : List ℕ) (n len before used : ℕ) → before ≡ length old → before ≤ n → lent ≡ take n old ++ rest → before ≤ length lent → before + used ≤ len → used ≤ length now
    → new ≡ take (before + used) (take len ((take before lent ++ (now ++ post)) ++ tail)) → take used now ≡ bytes → new ≡ old ++ bytes
written_behind old lent now post rest tail new bytes n len before used size le is inside within short cut front =
    cut ∙ (kept lent now post tail len before used inside within short ∙ (ap (λ t. t ++ take used now) (old_front old lent rest n before size le is) ∙ ap (λ t. old ++ t) front))
