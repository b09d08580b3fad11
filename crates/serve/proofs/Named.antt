-- Hosts that are let in since an origin names them.
use Rattle.std.proofs.Common.{◌≡◌, ◌∷◌, ◌++◌, ◌∙◌, ◌<◌, ◌⊎◌, [], ap, arith, get_or, inl, inr, length, List, map, rules, subst, sym, ℕ}
use Rattle.std.specs.List.{All, Contains}
use Rattle.std.proofs.lemmas.List.{append_assoc, append-nil, get_or-map, length-map}
use Rattle.std.proofs.lemmas.List.Elements.{All-nil, All-push, All-weaker, Contains-append_left, Contains-push, Contains-push_cases}
use Rattle.serve.specs.Origins.{AddsNamed, IsAnOrigin, IsNamed, IsOrigin}
use Rattle.serve.proofs.Splits.{same_host}

-- An item of a list is one of the texts.
pub listed : {A : Type 0} (text : A → List ℕ) (items : List A) (i : ℕ) (item : A) → i < length items → item ≡ get_or items i item → Contains (map text items) (text item)
listed text items i item within is = (i, simp length-map within, get_or-map text items i item (text item) within ∙ ap text (sym is))

-- No origin was looked at, and no host added.
pub none : (hosts : List (List ℕ)) → AddsNamed [] hosts hosts
none hosts = record {
  more = [];
  added = sym (append-nil hosts);
  named = All-nil (IsNamed []);
  each = λ host is. absurd (omega (arith, is.2.1));
}

still : (before : List (List ℕ)) (origin host : List ℕ) → IsNamed before host → IsNamed (before ++ origin ∷ []) host
still before origin host (one, scheme, listed, is) = (one, scheme, Contains-append_left before (origin ∷ []) one listed, is)

-- One more origin was looked at, and the host added that it names.
pub one_more : (before old hosts new : List (List ℕ)) (origin scheme host : List ℕ) → AddsNamed before old hosts → IsOrigin origin scheme host → new ≡ hosts ++ host ∷ [] → AddsNamed (before ++ origin ∷ []) old new
one_more before old hosts new origin scheme host adds is e = record {
  more = adds.more ++ host ∷ [];
  added = e ∙ (ap (λ xs. xs ++ host ∷ []) adds.added ∙ append_assoc old adds.more (host ∷ []));
  named = All-push (IsNamed (before ++ origin ∷ [])) adds.more host (All-weaker (IsNamed before) (IsNamed (before ++ origin ∷ [])) (still before origin) adds.more adds.named) (origin, scheme, Contains-push before origin, is);
  each = λ other named. go other named.0 named.1 named.3 (Contains-push_cases before origin named.0 named.2);
}
  where
    go : (other one its : List ℕ) → IsOrigin one its other → Contains before one ⊎ (origin ≡ one) → Contains (adds.more ++ host ∷ []) other
    go other one its known (inl earlier) = Contains-append_left adds.more (host ∷ []) other (adds.each other (one, its, earlier, known))
    go other one its known (inr same) = subst (λ h. Contains (adds.more ++ host ∷ []) h) (same_host origin scheme host its other is (subst (λ o. IsOrigin o its other) (sym same) known)) (Contains-push adds.more host)

-- One more text was looked at, which is no origin.
pub none_more : (before old hosts : List (List ℕ)) (origin : List ℕ) → AddsNamed before old hosts → (IsAnOrigin origin → ⊥) → AddsNamed (before ++ origin ∷ []) old hosts
none_more before old hosts origin adds never = record {
  more = adds.more;
  added = adds.added;
  named = All-weaker (IsNamed before) (IsNamed (before ++ origin ∷ [])) (still before origin) adds.more adds.named;
  each = λ other named. go other named.0 named.1 named.3 (Contains-push_cases before origin named.0 named.2);
}
  where
    go : (other one its : List ℕ) → IsOrigin one its other → Contains before one ⊎ (origin ≡ one) → Contains adds.more other
    go other one its known (inl earlier) = adds.each other (one, its, earlier, known)
    go other one its known (inr same) = absurd (never (its, other, subst (λ o. IsOrigin o its other) (sym same) known))
