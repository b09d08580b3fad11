-- Where a newcomer comes from, and what is said and heard before it is a viewer.
use Rattle.std.specs.Prelude.{◌≡◌, ◌≤◌, ◌<◌, ℕ, Bool, true, false, List, [], ◌∷◌, ◌++◌, length, take, Option, Some, None, Result, Ok, Err, IsSomeAnd}
use Rattle.std.specs.Net.Addr.{IsV4And, IsV6And, IsCanonicalOf, MatchIp, ipv4_octets, ipv6_segments, segments_of}
use Rattle.std.specs.Net.Socket.{IsPlainSocket, socket_ip}
use Rattle.std.specs.declared.net.ip_addr.IpAddr.{IpAddr}
use Rattle.std.specs.declared.net.socket_addr.SocketAddr.{SocketAddr}
use Rattle.byte_reading.specs.Reading.{after, whole_of}
use Rattle.proxy_header.specs.Header.{Answer, header}
use Rattle.proxy_header.specs.declared.origin.Origin.{Origin}
use Rattle.proxy_header.specs.declared.origin.Origin.TheVariants.{Peer, Ipv4, Ipv6}
use Rattle.proxy_header.specs.declared.origin.Refusal.{Refusal}
use Rattle.rfb_wire.specs.Handshake.{version}
use Rattle.connections.specs.Keys.{question, is_locked, HasUnlocked}
use Rattle.connections.specs.declared.key.Key.{Key}
use Rattle.connections.specs.declared.key.Key.TheVariants.{Open, Locked}

-- The address that the system tells is the proxy's, even where it is an IPv6 address with the proxy's IPv4 address
-- inside.
abbrev pub IsOf : IpAddr → SocketAddr → Type 0
IsOf proxy address = MatchIp (socket_ip address) (λ ip. proxy ≡ socket_ip address) (λ ip. IsCanonicalOf ip proxy)

-- The peer is the believed proxy.
abbrev pub IsFromProxy : Option IpAddr → Option SocketAddr → Type 0
IsFromProxy proxy peer = IsSomeAnd proxy (λ ip. IsSomeAnd peer (λ address. IsOf ip address))

-- Where a newcomer comes from: what the system tells, whether a proxy's header is read first, and the bytes of the
-- header that came.
pub record Whence : Type 0 where
  pub peer : Option SocketAddr
  pub is_proxied : Bool
  pub front : List ℕ

-- Both are the same newcomer; more of its header may have come since.
pub record IsSameComer (old new : Whence) : Type 0 where
  pub peer : new.peer ≡ old.peer
  pub proxied : new.is_proxied ≡ old.is_proxied

-- The address that a header tells, of a connection whose peer has this one.
abbrev pub IsTold : Option SocketAddr → Origin → Option SocketAddr → Type 0
IsTold peer Peer address = address ≡ peer
IsTold peer (Ipv4 octets port) address =
    IsSomeAnd address (λ a. IsPlainSocket a port × IsV4And (socket_ip a) (λ ip. ipv4_octets ip ≡ octets))
IsTold peer (Ipv6 octets port) address =
    IsSomeAnd address (λ a. IsPlainSocket a port × IsV6And (socket_ip a) (λ ip. ipv6_segments ip ≡ segments_of octets))

-- What is known of an address, given what the header has told by now: nothing yet, why the header is refused, or the
-- address that it tells.
abbrev pub IsKnownBy : Option SocketAddr → Option Answer → Option (Result (Option SocketAddr) Refusal) → Type 0
IsKnownBy peer None known = known ≡ None
IsKnownBy peer (Some (Err why)) known = known ≡ Some (Err why)
IsKnownBy peer (Some (Ok origin)) known =
    (address : Option SocketAddr) × (known ≡ Some (Ok address)) × IsTold peer origin address

-- What is known of a newcomer's address. Where the newcomer doesn't come from the proxy, the system tells the address
-- at once.
abbrev pub IsKnown : Whence → Option (Result (Option SocketAddr) Refusal) → Type 0
IsKnown whence known = by whence.is_proxied
  where
    by : Bool → Type 0
    by true = IsKnownBy whence.peer (whole_of (after header whence.front)) known
    by false = known ≡ Some (Ok whence.peer)

-- How far the greeting of a newcomer has gone: where it comes from, the key of the port and the challenge that is this
-- newcomer's, how many bytes of the version were said to it, the bytes of its own version that have come, how many
-- bytes of the question were said, the bytes that it has answered, and what the socket has sent and received.
pub record Begun : Type 0 where
  pub whence : Whence
  pub key : Key
  pub challenge : List ℕ
  pub said : ℕ
  pub own : List ℕ
  pub asked : ℕ
  pub answered : List ℕ
  pub sent : List ℕ
  pub received : List ℕ

-- The version is said from its first byte on, and at a locked port the question after it. What has come is the header
-- of a proxy, where one is believed, then the newcomer's own version, and then its answer. Nothing is said or heard
-- before its turn. The newcomer's version is heard after the whole of ours; the question is asked after the newcomer's
-- version, which is then the same as ours; the choice is heard after the list of types; the challenge is said after the
-- choice, which is then type 2; and what answers the challenge is heard after the whole of it.
pub record IsGreeting (b : Begun) : Type 0 where
  pub said : b.sent ≡ take b.said version ++ take b.asked (question b.challenge)
  pub heard : b.received ≡ b.whence.front ++ (b.own ++ b.answered)
  pub most : b.said ≤ 12
  pub in_turn : 0 < length b.own → b.said ≡ 12
  pub most_asked : b.asked ≤ 18
  pub locked : 0 < b.asked → is_locked b.key ≡ true
  pub after_version : 0 < b.asked → b.own ≡ version
  pub choice_in_turn : 0 < length b.answered → 2 ≤ b.asked
  pub after_choice : 2 < b.asked → take 1 b.answered ≡ 2 ∷ []
  pub answer_in_turn : 1 < length b.answered → b.asked ≡ 18

-- Both are the greeting of the same newcomer at the same port, with the same challenge. It may have gone on since.
pub record IsSameGreeting (old new : Begun) : Type 0 where
  pub comer : IsSameComer old.whence new.whence
  pub key : new.key ≡ old.key
  pub challenge : new.challenge ≡ old.challenge

-- An owner has said or heard its own beginning, and the socket below what was exchanged in place of that. After these
-- the same bytes follow for both.
pub record GoOnAlike (owners : List ℕ) (beginning : List ℕ) (belows : List ℕ) (exchanged : List ℕ) : Type 0 where
  pub rest : List ℕ
  pub owner : owners ≡ beginning ++ rest
  pub below : belows ≡ exchanged ++ rest

-- What contracts see of a socket by which a newcomer was greeted: what its owner has sent and received by it; what the
-- socket below has sent and received; the bytes with which the owner has to begin, and those of them that it still
-- owes; the bytes that the owner hears first, and those of them that are still ahead of it; the header of a proxy that
-- came before; and what the socket below said and heard in place of the two beginnings.
pub record Greeted : Type 0 where
  pub sent : List ℕ
  pub received : List ℕ
  pub below_sent : List ℕ
  pub below_received : List ℕ
  pub spoken : List ℕ
  pub owed : List ℕ
  pub shown : List ℕ
  pub ahead : List ℕ
  pub front : List ℕ
  pub said : List ℕ
  pub heard : List ℕ

-- What the owner has sent and still owes is its beginning and then some bytes. The socket below has sent what was said
-- in place of that beginning, and then the same bytes. It is likewise for what was received, where the header of a
-- proxy may have come before all else.
pub record Matches (g : Greeted) : Type 0 where
  pub sent : GoOnAlike (g.sent ++ g.owed) g.spoken g.below_sent g.said
  pub received : GoOnAlike (g.received ++ g.ahead) g.shown g.below_received (g.front ++ g.heard)

-- A socket by which nothing was said or heard before.
abbrev pub untouched : Greeted
untouched =
    record {
      sent = [];
      received = [];
      below_sent = [];
      below_received = [];
      spoken = [];
      owed = [];
      shown = [];
      ahead = [];
      front = [];
      said = [];
      heard = [];
    }

-- At an open port: the whole version was said, which the owner still has to say, and twelve bytes were heard, all of
-- which are ahead of the owner.
pub record IsWelcome (g : Greeted) : Type 0 where
  pub said : g.said ≡ version
  pub owed : g.owed ≡ version
  pub len : length g.heard ≡ 12
  pub ahead : g.ahead ≡ g.heard

-- At a locked port: the owner speaks and hears as at an open one. It has still to say the version and the one security
-- type 1, None, and the version and the choice of that type are ahead of it (RFC 6143, 7.1.2).
pub record IsUnlocked (g : Greeted) : Type 0 where
  pub owed : g.owed ≡ version ++ 1 ∷ 1 ∷ []
  pub ahead : g.ahead ≡ version ++ 1 ∷ []

-- The newcomer was greeted at a port with this key, and nothing more was said or heard.
abbrev pub IsGreeted : Key → Greeted → Type 0
IsGreeted Open g = IsWelcome g
IsGreeted (Locked password) g = IsUnlocked g
