-- The opening handshake of a client (RFC 6455, 4.2.1), and who may open a link by it.
use Rattle.std.specs.Prelude.{◌≡◌, ℕ, Bool, List, [], ◌∷◌, codes, Option, None, Some, IsTrue, IsSomeAnd}
use Rattle.std.specs.List.{list_any}
use Rattle.http.specs.FieldValue.{FieldValue}
use Rattle.http.specs.HeaderMap.{get_all}
use Rattle.http.specs.Uri.{uri_authority}
use Rattle.http.specs.declared.request.Parts.{Parts}
use Rattle.http.specs.declared.version.TheConstants.Version.{HTTP_11}
use Rattle.websocket.specs.Headers.{has_token}
use Rattle.websocket.specs.Handshake.{IsValidKey}
use Rattle.web_site.specs.Admissions.{Fields, may_open}
use Rattle.web_site.specs.declared.admission.Admission.{Admission}

-- The value of a field, where the field is there exactly once.
abbrev pub only : List FieldValue → Option (List ℕ)
only [] = None
only (v ∷ []) = Some v.bytes
only (v ∷ w ∷ vs) = None

-- One of the values of a field has this token, in upper or lower case.
abbrev pub names : List FieldValue → List ℕ → Bool
names values token = list_any (λ v. has_token v.bytes token) values

-- The fields ask for a WebSocket.
abbrev pub asks_websocket : Fields → Bool
asks_websocket fields = names (get_all fields (codes "upgrade")) (codes "websocket")

-- The head is that of a request that asks this server for a WebSocket, in HTTP/1.1.
pub record IsHandshake (head : Parts) : Type 0 where
  pub method : head.method ≡ codes "GET"
  pub version : head.version ≡ HTTP_11
  pub here : uri_authority head.uri ≡ None
  pub upgrade : IsTrue (asks_websocket head.headers)
  pub connection : IsTrue (names (get_all head.headers (codes "connection")) (codes "upgrade"))

-- The key of the handshake.
abbrev pub key_in : Fields → Option (List ℕ)
key_in fields = only (get_all fields (codes "sec-websocket-key"))

-- The version of the protocol is 13.
abbrev pub IsThirteen : Fields → Type 0
IsThirteen fields = only (get_all fields (codes "sec-websocket-version")) ≡ Some (codes "13")

-- The Host is listed, the Origin is listed or missing, and the request is a handshake of version 13 with a valid key.
pub record Opens (a : Admission) (head : Parts) : Type 0 where
  pub admitted : IsTrue (may_open a head.headers)
  pub handshake : IsHandshake head
  pub thirteen : IsThirteen head.headers
  pub key : IsSomeAnd (key_in head.headers) IsValidKey
