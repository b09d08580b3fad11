-- Who may open a link (RFC 6455, 4.2.2 and 10.2).
use Rattle.std.specs.Prelude.{Bool, false, ◌&&◌, List, [], ◌∷◌, codes}
use Rattle.std.specs.List.{list_all}
use Rattle.http.specs.FieldValue.{FieldValue}
use Rattle.http.specs.HeaderMap.{Entries, get_all}
use Rattle.web_site.specs.Listed.{lists}
use Rattle.web_site.specs.declared.admission.Admission.{Admission}

-- The fields of a request: each name with its values.
abbrev pub Fields : Type 0
Fields = Entries FieldValue

-- A request names one Host, which is listed.
abbrev pub comes_to : Admission → List FieldValue → Bool
comes_to a [] = false
comes_to a (host ∷ []) = lists a.hosts.items host.bytes
comes_to a (host ∷ other ∷ others) = false

-- A request names no Origin that isn't listed.
abbrev pub comes_from : Admission → List FieldValue → Bool
comes_from a origins = list_all (λ origin. lists a.origins.items origin.bytes) origins

-- The Host is listed, and the Origin is listed or missing.
abbrev pub may_open : Admission → Fields → Bool
may_open a fields = comes_to a (get_all fields (codes "host")) && comes_from a (get_all fields (codes "origin"))
