-- One more origin was looked at. It names a host, which was added, or it is none.
use Rattle.std.proofs.Common.{◌≡◌, ◌∷◌, ◌++◌, ◌∙◌, ◌+◌, [], ap, get_or, List, map, None, Some, subst, sym, take, ℕ}
use Rattle.std.specs.String.{string_bytes}
use Rattle.std.proofs.lemmas.List.{map-append, take_all, take_more}
use Rattle.serve.specs.Origins.{AddsNamed, IsAnOrigin, IsOrigin}
use Rattle.serve.proofs.Named.{none, none_more, one_more}
use Rattle.serve.proofs.origins.add_hosts.Goals as goal
use Rattle.serve.proofs.origins.add_hosts.Goals.{in-Some+in_ok-from_str+in_ok-push, in_default}

pub loop-origin-init : goal.loop-origin-init
loop-origin-init c = none (map string_bytes c.args.hosts.now.items)

pub loop-origin-preserved : goal.loop-origin-preserved
loop-origin-preserved c =
    let item = c.origin-item.result in
    let origins = c.args.origins.now in
    let i = c.loop-origin.origin-index in
    let before = map string_bytes (take i origins) in
    let old = map string_bytes c.args.hosts.now.items in
    let now = map string_bytes c.loop-origin.hosts.items in
    let new = map string_bytes c.match-authority_of.hosts.items in
    let seen : map string_bytes (take (i + 1) origins) ≡ before ++ string_bytes item ∷ [] =
    ap (map string_bytes) (take_more origins i item c.loop-origin-test.true ∙ ap (λ one. take i origins ++ one ∷ []) (sym c.origin-item.is)) ∙ map-append string_bytes (take i origins) (item ∷ []) in
    let adds : AddsNamed (before ++ string_bytes item ∷ []) old new =
    elim c.match-authority_of.branch [
      | in-Some+in_ok-from_str+in_ok-push w ↦ (
          let host = w.in_ok-from_str.field-0 in
          let pushed = ap (λ hosts. map string_bytes hosts.items) w.hosts-is ∙ (ap (map string_bytes) w.in_ok-push.ensures.items ∙ map-append string_bytes c.loop-origin.hosts.items (host ∷ [])) in
          let is : IsOrigin (string_bytes item) w.in-Some.ensures.0 (string_bytes host) =
          subst (λ text. IsOrigin text w.in-Some.ensures.0 (string_bytes host)) c.as_str.ensures.value
          (subst (λ text. IsOrigin c.as_str.result.now w.in-Some.ensures.0 text) (sym w.in_ok-from_str.ensures.ok) w.in-Some.ensures.1) in
          one_more before old now new (string_bytes item) w.in-Some.ensures.0 (string_bytes host) c.loop-origin.invariant is pushed)
      | in_default w ↦ (
          let never : IsAnOrigin (string_bytes item) → ⊥ = subst (λ text. IsAnOrigin text → ⊥) c.as_str.ensures.value w.in_default.ensures in
          subst (λ hosts. AddsNamed (before ++ string_bytes item ∷ []) old (map string_bytes hosts.items)) (sym w.hosts-is) (none_more before old now (string_bytes item) c.loop-origin.invariant never))
    ] in
    subst (λ texts. AddsNamed texts old new) (sym seen) adds
