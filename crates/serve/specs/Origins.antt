-- Under which names a web port is known (own).
use Rattle.std.specs.Prelude.{◌≡◌, ◌==◌, ◌++◌, ◌∷◌, ◌<◌, ◌≢◌, [], EachIndex, if◌then◌else◌, codes, decimal, length, ℕ, List, map, slice_index}
use Rattle.std.specs.List.{All, Contains}
use Rattle.std.specs.Net.Socket.{socket_ip, socket_port}
use Rattle.std.specs.Net.Text.{ip_text}
use Rattle.std.specs.declared.net.ip_addr.IpAddr.{IpAddr}
use Rattle.std.specs.declared.net.ip_addr.IpAddr.TheVariants as Ip
use Rattle.std.specs.declared.net.socket_addr.SocketAddr.{SocketAddr}

-- An IP address as the host of a URL: one of IPv6 stands in square brackets (RFC 3986, section 3.2.2).
abbrev pub url_host : IpAddr → List ℕ
url_host (Ip.V4 ip) = ip_text (Ip.V4 ip)
url_host (Ip.V6 ip) = codes "[" ++ ip_text (Ip.V6 ip) ++ codes "]"

-- A host with its port, as a browser spells it: 80 is left out, the port of http (RFC 9110, section 4.2.1).
abbrev pub spelled : List ℕ → ℕ → List ℕ
spelled host port = if port == 80 then host else host ++ (codes ":" ++ decimal port)

-- The hosts of a port at this address: those of its own machine, and the address itself.
abbrev pub own_hosts : SocketAddr → List (List ℕ)
own_hosts address =
    let port = socket_port address in
    spelled (codes "127.0.0.1") port ∷ spelled (codes "localhost") port ∷ spelled (codes "[::1]") port ∷ spelled (url_host (socket_ip address)) port ∷ []

-- The origin of the pages that come from this host over http (RFC 6454, section 6.2).
abbrev pub origin_over_http : List ℕ → List ℕ
origin_over_http host = codes "http://" ++ host

-- The origins whose pages are let in: those that are named, or the port's own where none is.
abbrev pub origins_let_in : SocketAddr → List (List ℕ) → List (List ℕ)
origins_let_in address [] = map origin_over_http (own_hosts address)
origins_let_in address (origin ∷ others) = origin ∷ others

-- A scheme, or a host, perhaps with a port: it isn't empty, and has no slash and no at sign.
abbrev pub IsPart : List ℕ → Type 0
IsPart text = (0 < length text) × EachIndex text (λ k. (slice_index text k ≢ 47) × (slice_index text k ≢ 64))

-- The text is an origin: a scheme, and behind it a host, perhaps with a port (RFC 6454, section 6.2).
pub record IsOrigin (text scheme authority : List ℕ) : Type 0 where
  pub parts : text ≡ scheme ++ (codes "://" ++ authority)
  pub scheme_is : IsPart scheme
  pub authority_is : IsPart authority

abbrev pub IsAnOrigin : List ℕ → Type 0
IsAnOrigin text = (scheme : List ℕ) × (authority : List ℕ) × IsOrigin text scheme authority

-- One of these origins names the host.
abbrev pub IsNamed : List (List ℕ) → List ℕ → Type 0
IsNamed origins host = (origin : List ℕ) × (scheme : List ℕ) × Contains origins origin × IsOrigin origin scheme host

-- To these hosts those were added that the origins name, and no others.
pub record AddsNamed (origins old new : List (List ℕ)) : Type 0 where
  pub more : List (List ℕ)
  pub added : new ≡ old ++ more
  pub named : All (IsNamed origins) more
  pub each : (host : List ℕ) → IsNamed origins host → Contains more host
