-- What is played of a recording, and when (own).
use Rattle.std.specs.Prelude.{◌≡◌, ◌⊎◌, ◌≤◌, ℕ, Bool, true, false, List, [], ◌++◌, length, take, drop, Option, Some, None, is_some, Ok, Err, All}
use Rattle.std.specs.List.{list_any}
use Rattle.byte_reading.specs.Reading.{Done, after, taken, wants_more, whole_of}
use Rattle.rfb_wire.specs.Handshake.{host_hello}
use Rattle.rfb_wire.specs.Joining.{ahead as hello_ahead}
use Rattle.rfb_wire.specs.declared.host_talk.HostTalk.{HostTalk}
use Rattle.link.specs.Links.{LinkState}
use Rattle.recording.specs.Recording.{Block, said_in}
use Rattle.recording.specs.Waiting.{stamp}
use Rattle.recording.specs.Progress.{ahead}
use Rattle.recording.specs.BlockReading.{found, blocks_in, rest_of}
use Rattle.recording.specs.declared.bad.BadRecording.TheVariants as recording
use Rattle.playback.specs.Opening.{opening}
use Rattle.playback.specs.Openings.{Begun}
use Rattle.playback.specs.Heard.{bytes_of, greeting, heard_in, heard_of, handshake_in, is_later, up_to, said_by}
use Rattle.playback.specs.Reels.{Reel, HasBlocks, first_of, later_of, stream_of}
use Rattle.playback.specs.declared.bad.BadPlayback.{BadPlayback}
use Rattle.playback.specs.declared.bad.BadPlayback.TheVariants.{Recording, Opening, File}

-- What contracts see of a link to a recording. It has what was read of its file; the time up to which the recording is
-- played, and the place of the key moment from which on it is played, if any; the opening of the session and, before a
-- key moment, its handshake; how many bytes of the greeting were handed out; how many bytes of the block at hand were
-- used; and the time of the block that was begun last. It has, too, what the link has taken and given, how often it has
-- failed and ended, and whether it is over, or why it can't go on.
pub record Played : Type 0 where
  pub reel : Reel
  pub until : Option ℕ
  pub key : Option ℕ
  pub hello : HostTalk
  pub opening : Begun
  pub sent : ℕ
  pub used : ℕ
  pub time : ℕ
  pub taken : List ℕ
  pub given : List ℕ
  pub failed : ℕ
  pub ended : ℕ
  pub is_over : Bool
  pub why : Option BadPlayback

abbrev pub state_of : Played → LinkState
state_of p = record { taken = p.taken; given = p.given; failed = p.failed; ended = p.ended }

-- The pace has told that this time, or a later one, may be shown.
abbrev pub HasCome : (has_come : ℕ → Type 0) → ℕ → Type 0
HasCome has_come time = (shown : ℕ) × (time ≤ shown) × has_come shown

-- What is heard of all that was read.
abbrev pub heard : Played → List (ℕ × ℕ)
heard p = heard_of p.until (is_some p.key) (first_of p.reel) (later_of p.reel)

-- ---- what is promised

-- It is read from the file's beginning on, or from the place of the key moment on.
abbrev pub IsAtPlace : (is_behind : Bool) → (key : Option ℕ) → (start : ℕ) → Type 0
IsAtPlace false key start = start ≡ 0
IsAtPlace true key start = key ≡ Some start

-- What was taken is a beginning of what is heard of all that was read, and each byte of it was taken only once its time
-- had come.
pub record IsPlayed (has_come : ℕ → Type 0) (p : Played) : Type 0 where
  pub played : List (ℕ × ℕ)
  pub left : List (ℕ × ℕ)
  pub heard : played ++ left ≡ heard p
  pub taken : p.taken ≡ bytes_of played
  pub had_come : All (λ b. HasCome has_come b.1) played
  pub place : IsAtPlace p.reel.is_behind p.key p.reel.start

-- All that is heard of what was read was taken. And nothing more comes: either the file was read to its end, or the
-- next block is later than is played.
pub record IsPlayedOut (is_all : ℕ → List ℕ → Type 0) (p : Played) : Type 0 where
  pub all : p.taken ≡ bytes_of (heard p)
  pub why : is_all p.reel.start p.reel.so_far ⊎ (list_any (is_later p.until) (blocks_in (stream_of p.reel)) ≡ true)

-- It is played from the beginning of this file on. What was read are the file's first bytes, and all of them where the
-- file has told that these are all.
pub record IsReadOf (is_all : ℕ → List ℕ → Type 0) (p : Played) (file : List ℕ) : Type 0 where
  pub first : p.key ≡ None
  pub rest : List ℕ
  pub begins : file ≡ p.reel.so_far ++ rest
  pub all : is_all 0 p.reel.so_far → p.reel.so_far ≡ file

-- Why the recording can't be played on: it can't be read on, or memory was refused; its session doesn't open as ours
-- do; or its file failed.
abbrev pub IsWhy : (has_failed : Type 0) → Option BadPlayback → Played → Type 0
IsWhy has_failed None p = Unit {0}
IsWhy has_failed (Some (Recording bad)) p = (bad ≡ recording.Memory) ⊎ (rest_of (stream_of p.reel) ≡ Done (Err bad))
IsWhy has_failed (Some (Opening bad)) p = after opening (bytes_of (said_by p.until (first_of p.reel))) ≡ Done (Err bad)
IsWhy has_failed (Some File) p = has_failed

-- ---- what is kept

-- The bytes that were used so far: those of the blocks that are gone, none of which is later than is played, and the
-- first bytes of the block at hand.
pub record HasUsed (p : Played) (gone : List Block) (used : List (ℕ × ℕ)) : Type 0 where
  pub blocks : HasBlocks p.reel gone
  pub early : up_to p.until gone ≡ gone
  pub is : used ≡ said_in gone ++ take p.used (said_in (up_to p.until (found (ahead p.reel.reader))))

-- What was played, where these bytes were used: nothing while the opening isn't whole, and after that all that is heard
-- of them, except what is left of the greeting.
abbrev pub Plays : (has_come : ℕ → Type 0) → Begun → (sent : ℕ) → (used played : List (ℕ × ℕ)) → (is_open : Bool) → Type 0
Plays has_come begun sent used played false = (begun.begun ≡ bytes_of used) × (wants_more (after opening begun.begun) ≡ true) × (played ≡ []) × (sent ≡ 0)
Plays has_come begun sent used played true = (after opening (bytes_of used) ≡ Done (Ok tt)) × (time : ℕ) × HasCome has_come time × (played ++ stamp time (drop sent greeting) ≡ heard_in used)

-- The handshake has heard all that was played, unless it is at fault: then it has heard up to the fault.
pub record HasHandshake (talk : HostTalk) (played : List (ℕ × ℕ)) : Type 0 where
  pub heard : hello_ahead talk ≡ after (host_hello None) (bytes_of played)
  pub all : (taken (host_hello None) (bytes_of played) ≡ length (bytes_of played)) ⊎ ((whole_of (hello_ahead talk) ≡ None) × (wants_more (hello_ahead talk) ≡ false))

-- The same, where the recording is to be played from a key moment on.
abbrev pub HasFront : Option ℕ → HostTalk → List (ℕ × ℕ) → Type 0
HasFront None talk played = Unit {0}
HasFront (Some place) talk played = HasHandshake talk played

-- Before it goes to the key moment (false), the bytes that were used are played as Plays says. After that (true), all
-- bytes that were used come after the handshake.
abbrev pub PlaysAt : (has_come : ℕ → Type 0) → Played → (used played : List (ℕ × ℕ)) → (is_behind : Bool) → Type 0
PlaysAt has_come p used played false = Plays has_come p.opening p.sent used played p.opening.is_open × HasFront p.key p.hello played
PlaysAt has_come p used played true = (p.key ≡ Some p.reel.start) × (p.opening.is_open ≡ true) × (p.sent ≡ 18) × (played ≡ handshake_in (heard_in (said_by p.until p.reel.before)) ++ used)

pub record IsPlaying (has_come : ℕ → Type 0) (is_all : ℕ → List ℕ → Type 0) (has_failed : Type 0) (p : Played) : Type 0 where
  pub gone : List Block
  pub used : List (ℕ × ℕ)
  pub played : List (ℕ × ℕ)
  pub from : HasUsed p gone used
  pub plays : PlaysAt has_come p used played p.reel.is_behind
  pub taken : p.taken ≡ bytes_of played
  pub had_come : All (λ b. HasCome has_come b.1) played
  pub shown : (p.time ≡ 0) ⊎ HasCome has_come p.time
  pub over : p.is_over ≡ true → IsPlayedOut is_all p
  pub why : IsWhy has_failed p.why p

-- The greeting isn't being handed out, and there is no key moment to go to.
pub record IsReady (p : Played) : Type 0 where
  pub greeted : p.opening.is_open ≡ true → p.sent ≡ 18
  pub still : p.reel.is_behind ≡ false → is_some p.key ≡ true → whole_of (hello_ahead p.hello) ≡ None

-- The handshake is whole, and the key moment at this place is to be gone to.
pub record IsAtKey (p : Played) (place : ℕ) : Type 0 where
  pub front : p.reel.is_behind ≡ false
  pub key : p.key ≡ Some place
  pub opened : p.opening.is_open ≡ true
  pub greeted : p.sent ≡ 18
  pub whole : is_some (whole_of (hello_ahead p.hello)) ≡ true

-- It goes on: it isn't over, and there is no reason why it can't be played on.
pub record IsGoing (p : Played) : Type 0 where
  pub on : p.is_over ≡ false
  pub fine : p.why ≡ None

-- The time of the block at hand has come, and it isn't too late.
pub record IsDue (has_come : ℕ → Type 0) (p : Played) : Type 0 where
  pub block : Block
  pub whole : whole_of (ahead p.reel.reader) ≡ Some (Ok block)
  pub early : is_later p.until block ≡ false
  pub had_come : HasCome has_come block.time

-- The block at hand is later than the time up to which is played.
pub record IsLate (p : Played) : Type 0 where
  pub block : Block
  pub whole : whole_of (ahead p.reel.reader) ≡ Some (Ok block)
  pub late : is_later p.until block ≡ true
