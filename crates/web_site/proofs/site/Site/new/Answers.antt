-- The hashes of the policy are those that were found.
use Rattle.std.proofs.Common.{map, ap, ◌∙◌}
use Rattle.std.specs.String.{string_bytes}
use Rattle.http.specs.FieldValue.{FieldValue}
use Rattle.web_site.specs.Policies.{policy_of}
use Rattle.web_site.proofs.site.Site.new.Goals as goal

pub returns-clause-policy : goal.returns-clause-policy
returns-clause-policy c = (
  map string_bytes c.in_ok-hashes.hashes.items,
  ap (λ (v : FieldValue). v.bytes) c.in-Ok.ensures.ok ∙ (c.as_slice-2.ensures.value ∙ (c.in_ok-policy.ensures ∙ ap (λ hs. policy_of (map string_bytes hs)) c.as_slice.ensures.value)),
)
