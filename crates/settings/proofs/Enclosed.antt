-- Texts in square brackets. `ip_of` reads the one in them where the whole writes no address.
use Rattle.std.proofs.Common.{◌≡◌, ◌∙◌, ◌++◌, ap, inl, inr, subst, sym, List, ℕ}
use Rattle.std.specs.Prelude.{codes}
use Rattle.std.specs.Net.Grammar.{IsIpText}
use Rattle.std.specs.declared.net.ip_addr.IpAddr.{IpAddr}
use Rattle.std.proofs.lemmas.List.{append_cancel_left, append_cancel_right}
use Rattle.settings.specs.Addresses.{IsBindText, IsBracketed}

-- what both are cut off of is in brackets
pub bracketed : (text rest inner : List ℕ) → text ≡ codes "[" ++ rest → rest ≡ inner ++ codes "]" → IsBracketed text inner
bracketed text rest inner front end = front ∙ ap (λ r. codes "[" ++ r) end

pub no_front : (text : List ℕ) → ((rest : List ℕ) → text ≡ codes "[" ++ rest → ⊥) → (inner : List ℕ) → IsBracketed text inner → ⊥
no_front text lacks inner is = lacks (inner ++ codes "]") is

pub no_end : (text rest : List ℕ) → text ≡ codes "[" ++ rest → ((front : List ℕ) → rest ≡ front ++ codes "]" → ⊥)
    → (inner : List ℕ) → IsBracketed text inner → ⊥
no_end text rest front lacks inner is = lacks inner (append_cancel_left (codes "[") rest (inner ++ codes "]") (sym front ∙ is))

-- a text is in brackets round one text at most
same_inner : (text a b : List ℕ) → IsBracketed text a → IsBracketed text b → a ≡ b
same_inner text a b is also =
    append_cancel_right a b (codes "]") (append_cancel_left (codes "[") (a ++ codes "]") (b ++ codes "]") (sym is ∙ also))

pub is_neither : (text : List ℕ) (ip : IpAddr) → (IsIpText text ip → ⊥) → ((inner : List ℕ) → IsBracketed text inner → ⊥) → IsBindText text ip → ⊥
is_neither text ip whole none (inl is) = whole is
is_neither text ip whole none (inr in_some) = none in_some.0 in_some.1

pub is_no_bind_text : (text inner : List ℕ) (ip : IpAddr) → (IsIpText text ip → ⊥) → IsBracketed text inner → (IsIpText inner ip → ⊥) → IsBindText text ip → ⊥
is_no_bind_text text inner ip whole bracketed within (inl is) = whole is
is_no_bind_text text inner ip whole bracketed within (inr in_some) =
    within (subst (λ (t : List ℕ). IsIpText t ip) (same_inner text in_some.0 inner in_some.1 bracketed) in_some.2)
