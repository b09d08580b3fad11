-- How a host's handshake stands in mid-course.
use Rattle.std.specs.Prelude.{◌≡◌, ℕ, ◌≤◌, ◌<◌, Bool, true, false, List, [], ◌∷◌, ◌++◌, Option, length, drop, is_none, if◌then◌else◌}
use Rattle.byte_reading.specs.Reading.{Reading, Done, Faulty, ◌>>=◌, step, after, bytes, padding, u32, fault_of}
use Rattle.fault.specs.declared.kinds.Fault.TheVariants as fault
use Rattle.rfb_wire.specs.Handshake.{Joined, version, host_version, security_types, chosen, chosen_type, refused, challenge, security, security_result, kept_name, host_init, host_hello, answer_to}
use Rattle.rfb_wire.specs.declared.host_talk.Stage.{Stage}
use Rattle.rfb_wire.specs.declared.host_talk.Stage.TheVariants as at
use Rattle.rfb_wire.specs.declared.host_talk.HostTalk.{HostTalk}

-- How each part of the handshake goes on at a stage, where these bytes of the stage's field have been read. A part
-- after that field is still to come, and a part before it is done. Here: the version.
abbrev pub version_ahead : Stage → List ℕ → Reading (Unit {0})
version_ahead at.Version begun = after host_version begun
version_ahead at.BadVersion begun = Faulty fault.BadVersion
version_ahead _ begun = Done tt

-- How the security types go on, with this password. Once they are read, this one was chosen. Before a challenge it is
-- VNC Authentication, which is 2.
abbrev pub types_ahead : Option (List ℕ) → (kind : ℕ) → Stage → ℕ → List ℕ → Reading ℕ
types_ahead password kind at.Version wanted begun = security_types password
types_ahead password kind at.BadVersion wanted begun = security_types password
types_ahead password kind at.TypeCount wanted begun = after (security_types password) begun
types_ahead password kind at.ReasonLength wanted begun = after (u32 >>= refused) begun
types_ahead password kind at.Reason wanted begun = after (bytes wanted >>= λ reason. Faulty (fault.HostRefused reason)) begun
types_ahead password kind at.Refused wanted begun = Faulty (fault.HostRefused begun)
types_ahead password kind at.Types wanted begun = after (bytes wanted >>= λ types. chosen_type (chosen password types)) begun
types_ahead password kind at.NoNone wanted begun = Faulty fault.NoNone
types_ahead password kind at.Challenge wanted begun = Done 2
types_ahead password kind _ wanted begun = Done kind

-- How the challenge of a type goes on. Once it is read, this one was asked.
abbrev pub challenge_ahead : (asked : List ℕ) → Stage → List ℕ → (kind : ℕ) → Reading (List ℕ)
challenge_ahead asked at.Version begun kind = challenge kind
challenge_ahead asked at.BadVersion begun kind = challenge kind
challenge_ahead asked at.TypeCount begun kind = challenge kind
challenge_ahead asked at.ReasonLength begun kind = challenge kind
challenge_ahead asked at.Reason begun kind = challenge kind
challenge_ahead asked at.Refused begun kind = challenge kind
challenge_ahead asked at.Types begun kind = challenge kind
challenge_ahead asked at.NoNone begun kind = challenge kind
challenge_ahead asked at.Challenge begun kind = after (challenge kind) begun
challenge_ahead asked _ begun kind = Done asked

-- How SecurityResult goes on.
abbrev pub result_ahead : Stage → List ℕ → Reading (Unit {0})
result_ahead at.Version begun = security_result
result_ahead at.BadVersion begun = security_result
result_ahead at.TypeCount begun = security_result
result_ahead at.ReasonLength begun = security_result
result_ahead at.Reason begun = security_result
result_ahead at.Refused begun = security_result
result_ahead at.Types begun = security_result
result_ahead at.NoNone begun = security_result
result_ahead at.Challenge begun = security_result
result_ahead at.SecurityResult begun = after security_result begun
result_ahead at.Failed begun = Faulty fault.SecurityFailed
result_ahead _ begun = Done tt

-- How ServerInit goes on.
abbrev pub init_ahead : Stage → (w h rest wanted : ℕ) → List ℕ → Reading Joined
init_ahead at.Size w h rest wanted begun = after host_init begun
init_ahead at.BadScreen w h rest wanted begun = Faulty fault.BadScreen
init_ahead at.Format w h rest wanted begun = after (padding 16 (u32 >>= kept_name w h)) begun
init_ahead at.NameLength w h rest wanted begun = after (u32 >>= kept_name w h) begun
init_ahead at.Name w h rest wanted begun = after (bytes wanted >>= λ name. padding rest (Done (record { w = w; h = h; name = name }))) begun
init_ahead at.Rest w h rest wanted begun = padding rest (Done (record { w = w; h = h; name = begun }))
init_ahead at.Joined w h rest wanted begun = Done (record { w = w; h = h; name = begun })
init_ahead _ w h rest wanted begun = host_init

-- How reading the version goes on, for a handshake in the code.
abbrev pub version_of : HostTalk → Reading (Unit {0})
version_of talk = version_ahead talk.stage talk.field.items

-- How reading its security types goes on.
abbrev pub types_of : HostTalk → (kind : ℕ) → Reading ℕ
types_of talk kind = types_ahead talk.password kind talk.stage talk.wanted talk.field.items

-- How reading them and a challenge goes on.
abbrev pub security_of : HostTalk → (kind : ℕ) → (asked : List ℕ) → Reading (List ℕ)
security_of talk kind asked = types_of talk kind >>= challenge_ahead asked talk.stage talk.field.items

-- How reading its SecurityResult goes on.
abbrev pub result_of : HostTalk → Reading (Unit {0})
result_of talk = result_ahead talk.stage talk.field.items

-- How reading its ServerInit goes on.
abbrev pub init_of : HostTalk → Reading Joined
init_of talk = init_ahead talk.stage talk.w talk.h talk.rest talk.wanted talk.field.items

-- How the host's side goes on. It doesn't matter any more which type was chosen, and what was asked.
abbrev pub ahead : HostTalk → Reading Joined
ahead talk = version_of talk >>= λ _. security_of talk 0 [] >>= λ _. result_of talk >>= λ _. init_of talk

-- What must have been said by now, with this password, where this type was chosen and this was asked: the version, the
-- type, the answer, and shared-flag 1.
abbrev pub said : Option (List ℕ) → (kind : ℕ) → (asked : List ℕ) → Stage → List ℕ
said password kind asked at.Version = []
said password kind asked at.BadVersion = []
said password kind asked at.TypeCount = version
said password kind asked at.ReasonLength = version
said password kind asked at.Reason = version
said password kind asked at.Refused = version
said password kind asked at.Types = version
said password kind asked at.NoNone = version
said password kind asked at.Challenge = version ++ 2 ∷ []
said password kind asked at.SecurityResult = version ++ kind ∷ answer_to asked password
said password kind asked at.Failed = version ++ kind ∷ answer_to asked password
said password kind asked _ = version ++ kind ∷ answer_to asked password ++ 1 ∷ []

-- The handshake has heard this stream: each beginning of the host's side goes on as the handshake says, and what must
-- have been said by now was.
pub record HasHeard (talk : HostTalk) (stream : List ℕ) : Type 0 where
  pub kind : ℕ
  pub asked : List ℕ
  pub version : after host_version stream ≡ version_of talk
  pub types : after (host_version >>= λ _. security_types talk.password) stream ≡ (version_of talk >>= λ _. types_of talk kind)
  pub challenge : after (host_version >>= λ _. security talk.password) stream ≡ (version_of talk >>= λ _. security_of talk kind asked)
  pub result : after (host_version >>= λ _. security talk.password >>= λ _. security_result) stream ≡ (version_of talk >>= λ _. security_of talk kind asked >>= λ _. result_of talk)
  pub whole : after (host_hello talk.password) stream ≡ ahead talk
  pub said : talk.said.items ≡ said talk.password kind asked talk.stage

-- What is to be sent: what must have been said by now, without what was sent already. After a fault nothing is said.
abbrev pub to_send : HostTalk → List ℕ
to_send talk = if is_none (fault_of (ahead talk)) then drop talk.sent talk.said.items else []

-- What each stage allows for three numbers: how many bytes its field has, how many bytes are left of a name that is too
-- long to be kept, and how many bytes of the field have come.
abbrev pub FitsStage : Stage → (wanted rest count : ℕ) → Type 0
FitsStage at.Version wanted rest count = (wanted ≡ 12) × (count ≤ wanted)
FitsStage at.TypeCount wanted rest count = (wanted ≡ 1) × (count ≤ wanted)
FitsStage at.ReasonLength wanted rest count = (wanted ≡ 4) × (count ≤ wanted)
FitsStage at.Reason wanted rest count = (wanted ≤ 255) × (count ≤ wanted)
FitsStage at.Types wanted rest count = (wanted ≤ 255) × (count ≤ wanted)
FitsStage at.Challenge wanted rest count = (wanted ≡ 16) × (count ≤ wanted)
FitsStage at.SecurityResult wanted rest count = (wanted ≡ 4) × (count ≤ wanted)
FitsStage at.Size wanted rest count = (wanted ≡ 4) × (count ≤ wanted)
FitsStage at.Format wanted rest count = (wanted ≡ 16) × (count ≤ wanted)
FitsStage at.NameLength wanted rest count = (wanted ≡ 4) × (count ≤ wanted)
FitsStage at.Name wanted rest count = (wanted ≤ 255) × (count ≤ wanted)
FitsStage at.Rest wanted rest count = (0 < rest) × (count ≤ 255)
FitsStage _ wanted rest count = count ≤ 255

-- A field is being read.
abbrev pub is_field : Stage → Bool
is_field at.Rest = false
is_field at.Joined = false
is_field at.BadVersion = false
is_field at.Refused = false
is_field at.NoNone = false
is_field at.Failed = false
is_field at.BadScreen = false
is_field _ = true

-- A byte is wanted.
abbrev pub is_open : Stage → Bool
is_open at.Rest = true
is_open stage = is_field stage

-- The most bytes that can have been said: the version has 12, the type one, an answer 16, and the shared-flag one.
abbrev pub most_said : Stage → ℕ
most_said at.Version = 0
most_said at.BadVersion = 0
most_said at.TypeCount = 12
most_said at.ReasonLength = 12
most_said at.Reason = 12
most_said at.Refused = 12
most_said at.Types = 12
most_said at.NoNone = 12
most_said at.Challenge = 13
most_said at.SecurityResult = 29
most_said at.Failed = 29
most_said _ = 30

-- No more was sent than said, and no more said than can be.
pub record SaysWithin (talk : HostTalk) : Type 0 where
  pub sent : talk.sent ≤ length talk.said.items
  pub said : length talk.said.items ≤ most_said talk.stage

-- Between two calls a field is never whole.
pub record IsSound (talk : HostTalk) : Type 0 where
  pub fits : FitsStage talk.stage talk.wanted talk.rest (length talk.field.items)
  pub room : is_field talk.stage ≡ true → length talk.field.items < talk.wanted
  pub says : SaysWithin talk

-- Reading goes on in the same way in both, and both say what must have been said.
pub record GoesOnAlike (old new : HostTalk) : Type 0 where
  pub goes_on : ahead new ≡ ahead old
  pub heard : (stream : List ℕ) → HasHeard old stream → HasHeard new stream

-- It is the same handshake: it has the same password, and as much was sent.
pub record IsSameTalk (old new : HostTalk) : Type 0 where
  pub password : new.password ≡ old.password
  pub sent : new.sent ≡ old.sent

-- A field that was whole was judged, and the next is begun.
pub record IsJudged (old new : HostTalk) : Type 0 where
  pub sound : IsSound new
  pub alike : GoesOnAlike old new
  pub same : IsSameTalk old new

-- One byte more was taken.
pub record Steps (old new : HostTalk) (byte : ℕ) : Type 0 where
  pub goes_on : ahead new ≡ step (ahead old) byte
  pub heard : (stream : List ℕ) → HasHeard old stream → HasHeard new (stream ++ byte ∷ [])
