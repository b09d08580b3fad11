-- The definition computes headers that HAProxy 2.6 sent, and bytes that are no header.
use Rattle.std.proofs.Common.{◌≡◌, ℕ, List, [], ◌∷◌, ◌++◌, length, Ok, Err, refl}
use Rattle.byte_reading.specs.Reading.{Reading, Done, after, taken, Spells}
use Rattle.proxy_header.specs.Header.{Answer, signature, header}
use Rattle.proxy_header.specs.declared.origin.Origin.{Origin}
use Rattle.proxy_header.specs.declared.origin.Origin.TheVariants.{Peer, Ipv4, Ipv6}
use Rattle.proxy_header.specs.declared.origin.Refusal.{Refusal}
use Rattle.proxy_header.specs.declared.origin.Refusal.TheVariants as why

-- The version of RFB follows: none of it is taken.
abbrev pub rfb : List ℕ
rfb = 0x52 ∷ 0x46 ∷ 0x42 ∷ 0x20 ∷ 0x30 ∷ 0x30 ∷ 0x33 ∷ 0x2e ∷ 0x30 ∷ 0x30 ∷ 0x38 ∷ 0x0a ∷ []

-- The first so many of these bytes are the header, and tell this.
pub record Tells (bytes : List ℕ) (count : ℕ) (origin : Origin) : Type 0 where
  pub says : after header bytes ≡ Done (Ok origin)
  pub used : taken header bytes ≡ count

-- `send-proxy-v2`, from 127.0.0.5 port 40123.
abbrev pub over_ipv4 : List ℕ
over_ipv4 = signature ++ 0x21 ∷ 0x11 ∷ 0 ∷ 12 ∷ 127 ∷ 0 ∷ 0 ∷ 5 ∷ 127 ∷ 0 ∷ 0 ∷ 1 ∷ 0x9c ∷ 0xbb ∷ 0xb3 ∷ 0x56 ∷ []

pub from_ipv4 : Tells (over_ipv4 ++ rfb) 28 (Ipv4 (127 ∷ 0 ∷ 0 ∷ 5 ∷ []) 40123)
from_ipv4 = record { says = refl; used = refl }

-- From ::1 port 40124.
abbrev pub loopback : List ℕ
loopback = 0 ∷ 0 ∷ 0 ∷ 0 ∷ 0 ∷ 0 ∷ 0 ∷ 0 ∷ 0 ∷ 0 ∷ 0 ∷ 0 ∷ 0 ∷ 0 ∷ 0 ∷ 1 ∷ []

pub from_ipv6 : Tells (signature ++ 0x21 ∷ 0x21 ∷ 0 ∷ 36 ∷ loopback ++ loopback ++ 0x9c ∷ 0xbc ∷ 0xb3 ∷ 0x56 ∷ rfb) 52 (Ipv6 loopback 40124)
from_ipv6 = record { says = refl; used = refl }

-- With a checksum among further fields, from 127.0.0.6 port 40125.
pub with_fields : Tells (signature ++ 0x21 ∷ 0x11 ∷ 0 ∷ 22 ∷ 127 ∷ 0 ∷ 0 ∷ 6 ∷ 127 ∷ 0 ∷ 0 ∷ 1 ∷ 0x9c ∷ 0xbd ∷ 0xb3 ∷ 0x57 ∷ 3 ∷ 0 ∷ 4 ∷ 0xea ∷ 0x56 ∷ 0xf9 ∷ 0xd1 ∷ 5 ∷ 0 ∷ 0 ∷ rfb) 38 (Ipv4 (127 ∷ 0 ∷ 0 ∷ 6 ∷ []) 40125)
with_fields = record { says = refl; used = refl }

-- A check of a server, by which HAProxy speaks for itself.
pub of_a_check : Tells (signature ++ 0x20 ∷ 0 ∷ 0 ∷ 0 ∷ rfb) 16 Peer
of_a_check = record { says = refl; used = refl }

-- LOCAL ignores its family and what it counts. UNSPEC, a datagram and a Unix socket are read past.
pub local_with_more : Tells (signature ++ 0x20 ∷ 0xff ∷ 0 ∷ 2 ∷ 9 ∷ 9 ∷ rfb) 18 Peer
local_with_more = record { says = refl; used = refl }

pub unspecified : Tells (signature ++ 0x21 ∷ 0 ∷ 0 ∷ 3 ∷ 9 ∷ 9 ∷ 9 ∷ rfb) 19 Peer
unspecified = record { says = refl; used = refl }

pub datagram : Tells (signature ++ 0x21 ∷ 0x12 ∷ 0 ∷ 0 ∷ rfb) 16 Peer
datagram = record { says = refl; used = refl }

-- ---- what is refused, at its last byte

pub a_version_of_rfb : Spells header (0x52 ∷ []) (Err why.Signature)
a_version_of_rfb = record { whole = refl; says = refl }

-- PROXY TCP4, of version 1.
pub version_1 : Spells header (0x50 ∷ []) (Err why.Signature)
version_1 = record { whole = refl; says = refl }

pub other_last_byte : Spells header (13 ∷ 10 ∷ 13 ∷ 10 ∷ 0 ∷ 13 ∷ 10 ∷ 81 ∷ 85 ∷ 73 ∷ 84 ∷ 11 ∷ []) (Err why.Signature)
other_last_byte = record { whole = refl; says = refl }

pub version_3 : Spells header (signature ++ 0x31 ∷ []) (Err why.Version)
version_3 = record { whole = refl; says = refl }

pub command_2 : Spells header (signature ++ 0x22 ∷ []) (Err why.Command)
command_2 = record { whole = refl; says = refl }

pub family_4 : Spells header (signature ++ 0x21 ∷ 0x41 ∷ []) (Err why.Family)
family_4 = record { whole = refl; says = refl }

pub transport_3 : Spells header (signature ++ 0x21 ∷ 0x13 ∷ []) (Err why.Family)
transport_3 = record { whole = refl; says = refl }

pub eleven_bytes_of_ipv4 : Spells header (signature ++ 0x21 ∷ 0x11 ∷ 0 ∷ 11 ∷ []) (Err why.Length)
eleven_bytes_of_ipv4 = record { whole = refl; says = refl }

pub thirty_five_of_ipv6 : Spells header (signature ++ 0x21 ∷ 0x21 ∷ 0 ∷ 35 ∷ []) (Err why.Length)
thirty_five_of_ipv6 = record { whole = refl; says = refl }
