-- How key moments are sought, block after block.
use Rattle.std.specs.Prelude.{◌≡◌, ℕ, true, List, [], ◌∷◌, ◌++◌, length, Option, Some, None}
use Rattle.byte_reading.specs.Reading.{Spells, after, rest as rest_of, taken, wants_more}
use Rattle.rfb_wire.specs.Handshake.{Joined, host_hello}
use Rattle.rfb_wire.specs.Joining.{ahead as hello_ahead}
use Rattle.host_decoder.specs.Decoder.{host_message}
use Rattle.recording.specs.Recording.{Block, recording_bytes}
use Rattle.recording.specs.Progress.{HasRead, ahead}
use Rattle.recording_index.specs.IndexBytes.{start}
use Rattle.recording_index.specs.KeyMoments.{moment_before}
use Rattle.recording_index.specs.declared.moment.KeyMoment.{KeyMoment}
use Rattle.rebuilt_index.specs.Anew.{AreKeyMoments, said_bytes}
use Rattle.rebuilt_index.specs.Following.{Follows}
use Rattle.rebuilt_index.specs.declared.follower.Follower.{Follower}
use Rattle.rebuilt_index.specs.declared.seeker.Seeker.{Seeker}
use Rattle.rebuilt_index.specs.declared.seeker.Candidate.{Candidate}
use Rattle.rebuilt_index.specs.declared.rebuild.Rebuilder.{Rebuilder}
use Rattle.rebuilt_index.specs.declared.rebuild.Session.{Session}

-- What the blocks say is a whole handshake, and then this.
pub record IsOpened (blocks : List Block) (hello : List ℕ) (joined : Joined) (rest : List ℕ) : Type 0 where
  pub spelled : Spells (host_hello None) hello joined
  pub said : said_bytes blocks ≡ hello ++ rest

-- A second follower is tried, which follows from a block on that begins between two messages. The main one has followed
-- `stream`, and the second one all of this that is said from the block on. Of what the blocks say only `rest`, at the
-- end, wasn't followed yet.
pub record IsTried (w h : ℕ) (hello stream : List ℕ) (blocks : List Block) (rest : List ℕ) (t : Candidate) : Type 0 where
  pub earlier : List Block
  pub block : Block
  pub later : List Block
  pub all : blocks ≡ earlier ++ block ∷ later
  pub is : t.moment ≡ moment_before earlier block
  pub before : List ℕ
  pub said : said_bytes earlier ≡ hello ++ before
  pub between : rest_of (host_message w h) before ≡ host_message w h
  pub fed : List ℕ
  pub left : said_bytes (block ∷ later) ≡ fed ++ rest
  pub behind : stream ≡ before ++ fed
  pub follows : Follows w h t.follower fed

-- The same, if a second follower is tried.
abbrev pub IsTriedIfAny : ℕ → ℕ → (hello stream : List ℕ) → List Block → (rest : List ℕ) → Option Candidate → Type 0
IsTriedIfAny w h hello stream blocks rest None = Unit {0}
IsTriedIfAny w h hello stream blocks rest (Some t) = IsTried w h hello stream blocks rest t

-- The last of these key moments, or the one before them where there is none.
abbrev pub last_of : KeyMoment → List KeyMoment → KeyMoment
last_of before [] = before
last_of before (m ∷ moments) = last_of m moments

-- All that the blocks say was followed, except `rest` at the end, and these key moments were found.
pub record SeeksBy (rest : List ℕ) (follower : Follower) (tried : Option Candidate) (moments : List KeyMoment) (latest : KeyMoment) (blocks : List Block) : Type 0 where
  pub hello : List ℕ
  pub joined : Joined
  pub stream : List ℕ
  pub opened : IsOpened blocks hello joined (stream ++ rest)
  pub main : Follows joined.w joined.h follower stream
  pub candidate : IsTriedIfAny joined.w joined.h hello stream blocks rest tried
  pub found : AreKeyMoments moments blocks
  pub last : latest ≡ last_of start moments

abbrev pub Seeks : (rest : List ℕ) → Seeker → List Block → Type 0
Seeks rest s blocks = SeeksBy rest s.main s.candidate s.moments.items s.last blocks

-- The handshake was heard so far, and isn't whole.
pub record IsOpening (s : Session) (blocks : List Block) : Type 0 where
  pub heard : hello_ahead s.hello ≡ after (host_hello None) (said_bytes blocks)
  pub all : taken (host_hello None) (said_bytes blocks) ≡ length (said_bytes blocks)
  pub wants : wants_more (hello_ahead s.hello) ≡ true

-- The handshake isn't whole, as in IsOpening; or it is, and key moments are sought.
abbrev pub HasSeenBy : Option Seeker → Session → List Block → Type 0
HasSeenBy None s blocks = IsOpening s blocks
HasSeenBy (Some seeker) s blocks = Seeks [] seeker blocks

abbrev pub HasSeen : Session → List Block → Type 0
HasSeen s blocks = HasSeenBy s.seeker s blocks

-- These bytes of the file were read. All blocks that are whole in them were seen, except one that may wait to be seen.
pub record HasFed (r : Rebuilder) (fed : List ℕ) : Type 0 where
  pub blocks : List Block
  pub read : HasRead fed blocks (ahead r.reader)
  pub place : r.place ≡ length (recording_bytes blocks)
  pub seen : HasSeen r.session blocks

-- The same, and no block waits.
pub record HasRebuilt (r : Rebuilder) (fed : List ℕ) : Type 0 where
  pub fed_ : HasFed r fed
  pub wants : wants_more (ahead r.reader) ≡ true
