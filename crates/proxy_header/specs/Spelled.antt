-- What a proxy sends, and what it may not send (the PROXY protocol, section 2.2).
use Rattle.std.specs.Prelude.{◌≡◌, ◌≢◌, ℕ, ◌+◌, ◌/◌, ◌^◌, ◌<◌, true, false, List, [], ◌∷◌, ◌++◌, length, take, slice_index, None, Ok, Err}
use Rattle.std.specs.Int.{w16, to_be_bytes}
use Rattle.byte_reading.specs.Reading.{Spells}
use Rattle.proxy_header.specs.declared.address.Ip.{Ip}
use Rattle.proxy_header.specs.declared.address.Ip.TheVariants.{V4, V6}
use Rattle.proxy_header.specs.declared.origin.Origin.{Origin}
use Rattle.proxy_header.specs.declared.origin.Origin.TheVariants.{Peer, Ipv4, Ipv6}
use Rattle.proxy_header.specs.declared.origin.Refusal.TheVariants as why
use Rattle.proxy_header.specs.Header.{signature, block_len, is_family, told, header}

-- The two ends of a connection over IPv4 or IPv6.
pub record Ends : Type 0 where
  pub ip : Ip
  pub source : List ℕ
  pub destination : List ℕ
  pub source_port : ℕ
  pub destination_port : ℕ

abbrev pub address_len : Ip → ℕ
address_len V4 = 4
address_len V6 = 16

pub record AreEnds (ends : Ends) : Type 0 where
  pub source : length ends.source ≡ address_len ends.ip
  pub destination : length ends.destination ≡ address_len ends.ip
  pub source_port : ends.source_port < 2 ^ 16
  pub destination_port : ends.destination_port < 2 ^ 16

-- A stream over IPv4 or over IPv6.
abbrev pub family_of : Ip → ℕ
family_of V4 = 0x11
family_of V6 = 0x21

abbrev pub source_of : Ip → List ℕ → ℕ → Origin
source_of V4 address port = Ipv4 address port
source_of V6 address port = Ipv6 address port

abbrev pub ends_bytes : Ends → List ℕ
ends_bytes ends = ends.source ++ (ends.destination ++ (to_be_bytes w16 ends.source_port ++ to_be_bytes w16 ends.destination_port))

-- A header with this command and family, the length of what follows them, and that.
abbrev pub header_bytes : ℕ → ℕ → List ℕ → List ℕ
header_bytes command family counted = signature ++ command ∷ family ∷ (to_be_bytes w16 (length counted) ++ counted)

-- Each header that a proxy sends is read, to its last byte, as what it means.
pub record HeadersAreRead : Type 0 where
  -- A connection, and further fields.
  pub proxied : (ends : Ends) (fields : List ℕ) → AreEnds ends → length (ends_bytes ends ++ fields) < 2 ^ 16
      → Spells header (header_bytes 0x21 (family_of ends.ip) (ends_bytes ends ++ fields)) (Ok (source_of ends.ip ends.source ends.source_port))
  -- A connection that isn't a stream over IPv4 or IPv6.
  pub untold : (family : ℕ) (counted : List ℕ) → is_family family ≡ true → told family ≡ None → length counted < 2 ^ 16
      → Spells header (header_bytes 0x21 family counted) (Ok Peer)
  -- The proxy itself.
  pub local : (family : ℕ) (counted : List ℕ) → length counted < 2 ^ 16 → Spells header (header_bytes 0x20 family counted) (Ok Peer)

-- Bytes that are no header are refused at the first byte that shows it.
pub record BadHeadersAreRefused : Type 0 where
  pub bad_signature : (count byte : ℕ) → count < 12 → byte ≢ slice_index signature count → Spells header (take count signature ++ byte ∷ []) (Err why.Signature)
  pub bad_version : (command : ℕ) → command / 16 ≢ 2 → Spells header (signature ++ command ∷ []) (Err why.Version)
  pub bad_command : (command : ℕ) → command / 16 ≡ 2 → command ≢ 0x20 → command ≢ 0x21 → Spells header (signature ++ command ∷ []) (Err why.Command)
  pub bad_family : (family : ℕ) → is_family family ≡ false → Spells header (signature ++ 0x21 ∷ family ∷ []) (Err why.Family)
  pub short_length : (ip : Ip) (count : ℕ) → count < block_len ip → Spells header (signature ++ 0x21 ∷ family_of ip ∷ to_be_bytes w16 count) (Err why.Length)
