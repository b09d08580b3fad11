-- How a link of binary messages is related to the link below it, which carries their frames (RFC 6455, 5.2 to 5.6).
use Rattle.std.specs.Prelude.{◌≡◌, ◌≢◌, ◌≤◌, ◌⊎◌, ℕ, true, false, List, [], ◌∷◌, ◌++◌}
use Rattle.std.specs.Int.{w16, to_be_bytes}
use Rattle.websocket.specs.declared.protocol.frame.coding.Control.TheVariants.{Close, Ping}
use Rattle.websocket.specs.Frame.{encode_frame}
use Rattle.link.specs.Links.{LinkState}
use Rattle.web_frames.specs.Frames.{IsBetween, Standing, fresh, after_bytes, data_in, control_header}
use Rattle.web_frames.specs.declared.position.Breach.{Breach}
use Rattle.web_frames.specs.declared.position.Breach.TheVariants.{Protocol, Text}
use Rattle.web_frames.specs.declared.position.Position.TheVariants.{Head, Payload, Ended}
use Rattle.web_frames.specs.declared.position.FrameKind.TheVariants.{Data}
use Rattle.web_link.specs.declared.saying.Saying.{Saying}
use Rattle.web_link.specs.declared.saying.Saying.TheVariants.{Between, Inside, Closed}

-- What contracts see of it: the link below, this link, how its reader of frames stands, what is to go to the link below
-- before all else, and how far it is in the frames that it sends.
pub record Web : Type 0 where
  pub wire : LinkState
  pub carried : LinkState
  pub reader : Standing
  pub unsent : List ℕ
  pub saying : Saying

-- The close code where a frame of the client is refused (7.4.1).
abbrev pub close_code : Breach → ℕ
close_code Protocol = 1002
close_code Text = 1003

-- A client that reads the frames of the link stands between two of them, has still to read this much of a payload, or
-- has read a close frame.
abbrev pub StandsAt : Saying → Standing → Type 0
StandsAt Between s = (s.masked ≡ false) × (s.position ≡ Head) × (s.head ≡ []) × (s.begun ≡ false)
StandsAt (Inside left) s =
    (s.masked ≡ false) × (s.position ≡ Payload Data) × (s.head ≡ []) × (s.begun ≡ false) × (s.key ≡ 0 ∷ 0 ∷ 0 ∷ 0 ∷ []) × (s.left ≡ left) × (1 ≤ left)
StandsAt Closed s = s.position ≡ Ended

-- From these bytes a client reads exactly these data, and is then at this point of the frames.
pub record Says (bytes given : List ℕ) (saying : Saying) : Type 0 where
  pub said : data_in (fresh false) bytes ≡ given
  pub stands : StandsAt saying (after_bytes (fresh false) bytes)

-- The bytes that were taken are those of the binary messages in the frames that the link below took from a client. The
-- bytes that were given are those that a client reads in what the link below was given, followed by what is unsent.
pub record Carries (w : Web) : Type 0 where
  pub reads : w.reader ≡ after_bytes (fresh true) w.wire.taken
  pub taken : w.carried.taken ≡ data_in (fresh true) w.wire.taken
  pub says : Says (w.wire.given ++ w.unsent) w.carried.given w.saying

-- Both ends stand between two messages, and nothing is unsent.
abbrev pub IsAtRest : Web → Type 0
IsAtRest w = (w.saying ≡ Between) × (w.unsent ≡ []) × IsBetween w.reader

-- Where nothing is unsent and no message is begun, a close frame with this code follows (5.5.1).
abbrev pub SaysClose : ℕ → (old new : Web) → Type 0
SaysClose code old new = old.saying ≡ Between → old.unsent ≡ [] → new.wire.given ++ new.unsent ≡ old.wire.given ++ encode_frame (control_header Close) (to_be_bytes w16 code)

-- Where nothing is unsent and no message is begun, an empty ping follows (5.5.2).
abbrev pub SaysPing : (old new : Web) → Type 0
SaysPing old new = old.saying ≡ Between → old.unsent ≡ [] → new.wire.given ++ new.unsent ≡ old.wire.given ++ encode_frame (control_header Ping) []

-- Where something is unsent or a message is begun, no ping follows: what is sent, and what is to be sent, stays the
-- same.
abbrev pub SaysNoMore : (old new : Web) → Type 0
SaysNoMore old new = (old.saying ≢ Between) ⊎ (old.unsent ≢ []) → new.wire.given ++ new.unsent ≡ old.wire.given ++ old.unsent
