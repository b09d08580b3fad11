-- What the recorder of a session says to it, as a viewer (RFC 6143, 7.1 to 7.3 and 7.5). Which requests it makes is our
-- own.
use Rattle.std.specs.Prelude.{◌≡◌, ◌⊎◌, ◌≤◌, ℕ, Bool, true, false, List, [], ◌∷◌, ◌++◌, length, take, drop, Option, Some, None}
use Rattle.std.specs.List.{flat_map}
use Rattle.pixel_format.specs.PixelFormat.{host_format}
use Rattle.raster.specs.declared.rect.Rect.{Rect}
use Rattle.byte_reading.specs.Reading.{after, taken, whole_of, wants_more}
use Rattle.rfb_wire.specs.Handshake.{Joined, host_hello, said_to_host}
use Rattle.rfb_wire.specs.Joining.{ahead, HasHeard}
use Rattle.rfb_wire.specs.Writing.{set_pixel_format_bytes, set_encodings_bytes, request_bytes}
use Rattle.rfb_wire.specs.declared.host_talk.HostTalk.{HostTalk}
use Rattle.link.specs.Moment.{AllIsSaid}

-- All of the session's screen.
abbrev pub whole_screen : Joined → Rect
whole_screen joined = record { x = 0; y = 0; w = joined.w; h = joined.h }

-- Requests of it, each for what has changed (true) or for all of it (false).
abbrev pub requests_bytes : Joined → List Bool → List ℕ
requests_bytes joined kinds = flat_map (λ incremental. request_bytes incremental (whole_screen joined)) kinds

-- What stands before the first request: full colour, and the encodings Hextile, RRE and Raw, of which each rectangle
-- can be read by itself.
abbrev pub choices : List ℕ
choices = set_pixel_format_bytes host_format ++ set_encodings_bytes (5 ∷ 2 ∷ 0 ∷ [])

-- What a session of this size is told after the handshake, by so many requests.
abbrev pub told_to : Joined → List Bool → List ℕ
told_to joined [] = []
told_to joined (kind ∷ kinds) = choices ++ requests_bytes joined (kind ∷ kinds)

-- The same of a session, once it has told its size.
abbrev pub told_by_now : Option Joined → List Bool → List ℕ
told_by_now None kinds = []
told_by_now (Some joined) kinds = told_to joined kinds

-- All that the recorder says to a session that has said these bytes of its handshake: as much of a viewer's side,
-- without a password, as must have been said by then, and then these requests.
abbrev pub said_after : List Bool → List ℕ → List ℕ
said_after kinds heard = said_to_host None heard ++ told_by_now (whole_of (after (host_hello None) heard)) kinds

-- The first request is for all of the screen.
abbrev pub BeginsWhole : List Bool → Type 0
BeginsWhole [] = Unit {0}
BeginsWhole (kind ∷ kinds) = kind ≡ false

-- ---- what is promised

-- The session has given these bytes: first its handshake so far, which was heard, and then later bytes, if the
-- handshake is whole or at fault. What was said to it is a beginning of all that the recorder says, with requests of
-- these kinds.
pub record SaysSoFar (given said : List ℕ) (kinds : List Bool) : Type 0 where
  pub heard : List ℕ
  pub later : List ℕ
  pub parts : given ≡ heard ++ later
  pub one : taken (host_hello None) heard ≡ length heard
  pub past : (later ≡ []) ⊎ (wants_more (after (host_hello None) heard) ≡ false)
  pub first : BeginsWhole kinds
  pub count : ℕ
  pub says : said ≡ take count (said_after kinds heard)

-- ---- what is kept of it

-- What contracts see of what the recorder says: the handshake, whether a request was made, all that the session has
-- taken so far, and what of the messages it hasn't taken.
pub record Talk : Type 0 where
  pub hello : HostTalk
  pub is_asked : Bool
  pub taken : List ℕ
  pub pending : List ℕ

-- Before the first request the handshake is said, as far as it was sent. After it the whole handshake was sent, and
-- then come the messages of these requests.
abbrev pub Stands : Bool → Talk → List ℕ → List Bool → Type 0
Stands false t heard kinds = (t.taken ≡ take t.hello.sent (said_to_host None heard)) × (t.pending ≡ []) × (kinds ≡ [])
Stands true t heard kinds = (joined : Joined) × (others : List Bool) × (kinds ≡ false ∷ others) × (whole_of (ahead t.hello) ≡ Some joined) × (drop t.hello.sent (said_to_host None heard) ≡ []) × (t.taken ++ t.pending ≡ said_to_host None heard ++ told_to joined kinds)

-- The recorder has heard this of the handshake, and has made requests of these kinds.
pub record IsSaying (t : Talk) (heard : List ℕ) (kinds : List Bool) : Type 0 where
  pub talk : HasHeard t.hello heard
  pub one : taken (host_hello None) heard ≡ length heard
  pub none : t.hello.password ≡ None
  pub most : t.hello.sent ≤ length (said_to_host None heard)
  pub stands : Stands t.is_asked t heard kinds

-- The handshake is whole, and the session has taken all that was said: a request may be made.
pub record IsFree (t : Talk) (joined : Joined) : Type 0 where
  pub whole : whole_of (ahead t.hello) ≡ Some joined
  pub said : AllIsSaid t.hello
  pub none : t.pending ≡ []
