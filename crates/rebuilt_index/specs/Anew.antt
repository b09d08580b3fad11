-- Which blocks of a recording are key moments: those at which a player may begin (own).
use Rattle.std.specs.Prelude.{◌≡◌, ℕ, List, ◌∷◌, ◌++◌, None, All}
use Rattle.std.specs.List.{flat_map}
use Rattle.byte_reading.specs.Reading.{Spells, rest}
use Rattle.raster.specs.Screen.{LooksLike}
use Rattle.raster.specs.Update.{screen}
use Rattle.rfb_wire.specs.Handshake.{Joined, host_hello}
use Rattle.host_decoder.specs.Decoder.{host_message}
use Rattle.host_decoder.specs.Updates.{updates}
use Rattle.recording.specs.Recording.{Block}
use Rattle.recording_index.specs.IndexBytes.{AreMoments}
use Rattle.recording_index.specs.KeyMoments.{moment_before}
use Rattle.recording_index.specs.declared.moment.KeyMoment.{KeyMoment}

-- What is said in blocks, in order, without the times.
abbrev pub said_bytes : List Block → List ℕ
said_bytes blocks = flat_map (λ b. b.said) blocks

-- All of the screen is shown anew by `more`. Whoever reads only `more`, from a black screen on, shows then the same as
-- whoever has read all that came before it, too; and both stand between two messages.
pub record IsShownAnew (w h : ℕ) (before more : List ℕ) : Type 0 where
  pub all_between : rest (host_message w h) (before ++ more) ≡ host_message w h
  pub between : rest (host_message w h) more ≡ host_message w h
  pub same : LooksLike w h (screen (updates w h more)) (screen (updates w h (before ++ more)))

-- A block begins at the key moment's place, and has its time. What is said before the block is a whole handshake, of
-- version 3.8 with security type None, and then messages. What is said in the block and in some blocks after it shows
-- all of the screen anew.
pub record IsKey (blocks : List Block) (m : KeyMoment) : Type 0 where
  pub earlier : List Block
  pub block : Block
  pub later : List Block
  pub others : List Block
  pub all : blocks ≡ earlier ++ block ∷ (later ++ others)
  pub is : m ≡ moment_before earlier block
  pub hello : List ℕ
  pub joined : Joined
  pub opened : Spells (host_hello None) hello joined
  pub before : List ℕ
  pub said : said_bytes earlier ≡ hello ++ before
  pub anew : IsShownAnew joined.w joined.h before (said_bytes (block ∷ later))

-- Key moments of a recording, in order.
pub record AreKeyMoments (moments : List KeyMoment) (blocks : List Block) : Type 0 where
  pub in_order : AreMoments moments
  pub each : All (IsKey blocks) moments
