-- A header of version 2 of the PROXY protocol, byte by byte (its section 2.2).
use Rattle.std.specs.Prelude.{ℕ, ◌-◌, ◌+◌, ◌/◌, ◌%◌, ◌==◌, ◌&&◌, nat_le, nat_lt, if◌then◌else◌, Bool, List, [], ◌∷◌, take, slice_index, Option, Some, None, Result, Ok, Err}
use Rattle.std.specs.Int.{w16, from_be_bytes}
use Rattle.byte_reading.specs.Reading.{Reading, Done, Want, ◌>>=◌, bytes, padding, u16}
use Rattle.proxy_header.specs.declared.address.Ip.{Ip}
use Rattle.proxy_header.specs.declared.address.Ip.TheVariants.{V4, V6}
use Rattle.proxy_header.specs.declared.origin.Origin.{Origin}
use Rattle.proxy_header.specs.declared.origin.Origin.TheVariants.{Peer, Ipv4, Ipv6}
use Rattle.proxy_header.specs.declared.origin.Refusal.{Refusal}
use Rattle.proxy_header.specs.declared.origin.Refusal.TheVariants as why
use Rattle.proxy_header.specs.declared.state.Command.{Command}
use Rattle.proxy_header.specs.declared.state.Command.TheVariants.{Local, Proxy}

-- Where the connection came from, or why the header is refused.
abbrev pub Answer : Type 0
Answer = Result Origin Refusal

abbrev pub refused : Refusal → Reading Answer
refused reason = Done (Err reason)

-- CR LF CR LF NUL CR LF QUIT LF
abbrev pub signature : List ℕ
signature = 13 ∷ 10 ∷ 13 ∷ 10 ∷ 0 ∷ 13 ∷ 10 ∷ 81 ∷ 85 ∷ 73 ∷ 84 ∷ 10 ∷ []

-- Exactly these bytes, or a refusal at the first byte that differs.
abbrev pub exactly : List ℕ → Reading Answer → Reading Answer
exactly [] rest = rest
exactly (b ∷ bs) rest = Want (λ byte. if byte == b then exactly bs rest else refused why.Signature)

-- A block of addresses is the source's, the destination's, the source's port and the destination's: over IPv4 of 4, 4,
-- 2 and 2 bytes, over IPv6 of 16, 16, 2 and 2.
abbrev pub block_len : Ip → ℕ
block_len V4 = 12
block_len V6 = 36

abbrev pub port_at : List ℕ → ℕ → ℕ
port_at block i = from_be_bytes w16 (slice_index block i ∷ slice_index block (i + 1) ∷ [])

abbrev pub origin_in : Ip → List ℕ → Origin
origin_in V4 block = Ipv4 (take 4 block) (port_at block 8)
origin_in V6 block = Ipv6 (take 16 block) (port_at block 32)

-- This many bytes are left that aren't looked at, such as further fields (TLVs).
abbrev pub read_past : ℕ → Origin → Reading Answer
read_past left origin = padding left (Done (Ok origin))

abbrev pub addresses : Ip → ℕ → Reading Answer
addresses ip rest = bytes (block_len ip) >>= λ block. read_past rest (origin_in ip block)

-- What the length counts: the block of addresses and all that follows it. Where no address is told that is used here,
-- all of this is read past.
abbrev pub block : Option Ip → ℕ → Reading Answer
block None count = read_past count Peer
block (Some ip) count = if nat_lt count (block_len ip) then refused why.Length else addresses ip (count - block_len ip)

-- The high four bits are the family: unspecified, IPv4, IPv6 or Unix; the low ones the transport: unspecified, stream
-- or datagram.
abbrev pub is_family : ℕ → Bool
is_family byte = nat_le (byte / 16) 3 && nat_le (byte % 16) 2

-- A stream over IPv4, or over IPv6.
abbrev pub told : ℕ → Option Ip
told byte = if byte == 0x11 then Some V4 else (if byte == 0x21 then Some V6 else None)

-- LOCAL speaks for the proxy itself: its family is ignored, and what follows is read past.
abbrev pub speaks : Command → ℕ → Reading Answer
speaks Local byte = u16 >>= block None
speaks Proxy byte = if is_family byte then (u16 >>= block (told byte)) else refused why.Family

-- The high four bits are the version, 2; the low ones the command: LOCAL is 0 and PROXY 1.
abbrev pub after_command : ℕ → Reading Answer
after_command byte =
    if byte == 0x20 then Want (speaks Local) else (if byte == 0x21 then Want (speaks Proxy) else (if byte / 16 == 2 then refused why.Command else refused why.Version))

abbrev pub header : Reading Answer
header = exactly signature (Want after_command)
