-- The picture that a recorded session shows.
use Rattle.std.specs.Prelude.{◌≡◌, ◌≢◌, ◌⊎◌, ℕ, List, [], ◌++◌, None}
use Rattle.fault.specs.declared.kinds.Fault.{Fault}
use Rattle.fault.specs.declared.kinds.Fault.TheVariants.{LinkEnded, Memory}
use Rattle.raster.specs.Screen.{LooksLike, opening, value_at}
use Rattle.raster.specs.Update.{Update, screen}
use Rattle.rfb_wire.specs.Handshake.{Joined}
use Rattle.link.specs.Links.{LinkState, HasRisen}
use Rattle.link.specs.Joins.{FailsAs, Joins}
use Rattle.host_decoder.specs.Updates.{updates}
use Rattle.host_reader.specs.Running.{EndsWith}
use Rattle.recorded_picture.specs.Picture.{Shown}

-- A stream of a host's messages came over the link, until the link said that it ended. The picture looks like a screen
-- of w by h does after the updates of all whole messages of the stream.
pub record ShowsStream (w h : ℕ) (old new : LinkState) (picture : Shown) : Type 0 where
  pub stream : List ℕ
  pub taken : new.taken ≡ old.taken ++ stream
  pub ended : HasRisen old.ended new.ended
  pub size : (picture.width ≡ w) × (picture.height ≡ h)
  pub shows : LooksLike w h (value_at w picture.colours) (screen (updates w h stream))

-- The whole handshake of a host without a password came over the link, and then a stream of its messages.
pub record ShowsAll (old new : LinkState) (picture : Shown) : Type 0 where
  pub between : LinkState
  pub joined : Joined
  pub joins : Joins None old between joined
  pub shows : ShowsStream joined.w joined.h between new picture

-- Memory was refused; or the stream that came was at fault; or the link failed. The link didn't simply end.
abbrev pub StopsIn : ℕ → ℕ → Fault → (old new : LinkState) → Type 0
StopsIn w h fault old new = (fault ≡ Memory) ⊎ ((fault ≢ LinkEnded) × (put : List Update) × EndsWith w h opening fault old new [] put)

-- The host was joined, and after that it stopped as in StopsIn.
pub record StopsAfter (fault : Fault) (old new : LinkState) : Type 0 where
  pub between : LinkState
  pub joined : Joined
  pub joins : Joins None old between joined
  pub stops : StopsIn joined.w joined.h fault between new

-- Why there is no picture: the host wasn't joined, as where the link ends before the host's handshake is whole; or it
-- stopped after that.
abbrev pub HasNone : Fault → (old new : LinkState) → Type 0
HasNone fault old new = FailsAs None fault old new ⊎ StopsAfter fault old new
