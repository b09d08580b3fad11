-- One more hash is one more source at the end of the policy.
use Rattle.std.proofs.Common.{◌≡◌, ℕ, ◌+◌, ◌<◌, List, ◌∷◌, [], ◌++◌, length, map, take, get_or, sym, ◌∙◌, ap, append_assoc, append-nil, arith}
use Rattle.std.specs.List.{flat_map}
use Rattle.std.specs.String.{string_bytes}
use Rattle.std.proofs.lemmas.Grind.{flat_map-append}
use Rattle.std.proofs.lemmas.List.{map_more}
use Rattle.web_site.specs.Policies.{source, own_files}
use Rattle.web_site.proofs.policy.policy_of.Goals as goal

one_more : {A B C : Type 0} (f : B → List C) (g : A → B) (base : List C) (xs : List A) (i : ℕ) (d : A) → i < length xs
    → base ++ flat_map f (map g (take (i + 1) xs)) ≡ (base ++ flat_map f (map g (take i xs))) ++ f (g (get_or xs i d))
one_more f g base xs i d lt =
    rw (map_more g xs i d lt, flat_map-append f (map g (take i xs)) (g (get_or xs i d) ∷ []), append-nil (f (g (get_or xs i d))))
    (sym (append_assoc base (flat_map f (map g (take i xs))) (f (g (get_or xs i d)))))

hash_added : {A : Type 0} (g : A → List ℕ) (base old new text : List ℕ) (xs : List A) (i : ℕ) (d : A) → i < length xs → d ≡ get_or xs i d → text ≡ g d
    → old ≡ base ++ flat_map source (map g (take i xs)) → new ≡ old ++ source text → new ≡ base ++ flat_map source (map g (take (i + 1) xs))
hash_added g base old new text xs i d lt is same before added =
    added ∙ (ap (λ x. x ++ source text) before ∙ (ap (λ x. (base ++ flat_map source (map g (take i xs))) ++ source x) (same ∙ ap g is) ∙ sym (one_more source g base xs i d lt)))

pub loop-hash-preserved : goal.loop-hash-preserved
loop-hash-preserved c =
    hash_added string_bytes own_files c.loop-hash.policy.items c.add_source.new.policy.items c.as_str.result.now c.args.hashes.now c.loop-hash.hash-index c.hash-item.result (omega (arith, c.loop-hash-test.true)) c.hash-item.is
    c.as_str.ensures.value c.loop-hash.invariant c.in_ok-add_source.ensures
