-- What is true of a join at every moment: what was taken from the host so far, and what it was given by now (own).
use Rattle.std.specs.Prelude.{◌≡◌, ◌≤◌, ℕ, Bool, true, false, List, [], ◌++◌, Option, Some, None, length, take, drop}
use Rattle.byte_reading.specs.Reading.{after, taken, whole_of, fault_of, Spells}
use Rattle.rfb_wire.specs.Handshake.{Joined, host_hello, said_to_host}
use Rattle.rfb_wire.specs.Joining.{ahead, HasHeard}
use Rattle.rfb_wire.specs.declared.host_talk.HostTalk.{HostTalk}
use Rattle.link.specs.Links.{LinkState}
use Rattle.link.specs.Joins.{first_messages}

-- ---- what is promised

-- What a host is told once it is joined: the first messages.
abbrev pub told_to : Option Joined → List ℕ
told_to None = []
told_to (Some joined) = first_messages joined

-- All that a client with this password tells a host that has said these bytes: as much of the client's side of the
-- handshake as must have been said by then, and the first messages once the host's side is whole.
abbrev pub told_after : Option (List ℕ) → List ℕ → List ℕ
told_after password heard = said_to_host password heard ++ told_to (whole_of (after (host_hello password) heard))

-- What was taken from the host so far is the beginning of a handshake, a whole handshake, or a handshake up to the byte
-- that shows a fault; no byte after that was taken. What the host was given so far is the beginning of all that it is
-- told.
pub record JoinsSoFar (password : Option (List ℕ)) (old new : LinkState) : Type 0 where
  pub heard : List ℕ
  pub took : new.taken ≡ old.taken ++ heard
  pub one : taken (host_hello password) heard ≡ length heard
  pub count : ℕ
  pub gave : new.given ≡ old.given ++ take count (told_after password heard)

-- ---- what a join keeps

-- The host's handshake is heard: these bytes were taken so far, and so much was given of what is said to it.
pub record HearsSoFar (old now : LinkState) (hello : HostTalk) : Type 0 where
  pub heard : List ℕ
  pub took : now.taken ≡ old.taken ++ heard
  pub talk : HasHeard hello heard
  pub count : taken (host_hello hello.password) heard ≡ length heard
  pub gave : now.given ≡ old.given ++ take hello.sent (said_to_host hello.password heard)
  pub most : hello.sent ≤ length (said_to_host hello.password heard)

-- The handshake was heard, all was said, and these many of the first messages' bytes were given.
pub record TellsSoFar (password : Option (List ℕ)) (old now : LinkState) (joined : Joined) (messages : List ℕ) (given : ℕ) : Type 0 where
  pub heard : List ℕ
  pub took : now.taken ≡ old.taken ++ heard
  pub spells : Spells (host_hello password) heard joined
  pub spelled : messages ≡ first_messages joined
  pub gave : now.given ≡ old.given ++ (said_to_host password heard ++ take given messages)

-- The handshake is being heard (false), or the first messages are being told.
abbrev pub IsJoining : Bool → (old now : LinkState) → HostTalk → List ℕ → ℕ → Type 0
IsJoining false old now hello messages given = HearsSoFar old now hello
IsJoining true old now hello messages given = (joined : Joined) × TellsSoFar hello.password old now joined messages given

-- ---- what a loop over its steps keeps

-- Nothing of the handshake was heard or said.
pub record IsUnheard (hello : HostTalk) : Type 0 where
  pub heard : HasHeard hello []
  pub whole : ahead hello ≡ host_hello hello.password
  pub sent : hello.sent ≡ 0

-- The handshake is heard, and has no fault. The link neither failed nor ended.
pub record IsHearing (old now : LinkState) (hello : HostTalk) : Type 0 where
  pub so_far : HearsSoFar old now hello
  pub fine : fault_of (ahead hello) ≡ None
  pub failed : now.failed ≡ old.failed
  pub ended : now.ended ≡ old.ended

-- All that was to be said by now was said.
abbrev pub AllIsSaid : HostTalk → Type 0
AllIsSaid hello = (stream : List ℕ) → HasHeard hello stream → fault_of (ahead hello) ≡ None → drop hello.sent (said_to_host hello.password stream) ≡ []

-- The handshake is whole, and all was said.
pub record IsHeard (old now : LinkState) (hello : HostTalk) (joined : Joined) : Type 0 where
  pub hearing : IsHearing old now hello
  pub whole : whole_of (ahead hello) ≡ Some joined
  pub said : AllIsSaid hello

-- The first messages are told. The link neither failed nor ended.
pub record IsTelling (password : Option (List ℕ)) (old now : LinkState) (joined : Joined) (messages : List ℕ) (given : ℕ) : Type 0 where
  pub so_far : TellsSoFar password old now joined messages given
  pub failed : now.failed ≡ old.failed
  pub ended : now.ended ≡ old.ended
