-- Who comes through the door of a recorder, and what is known of it once it has left (own).
use Rattle.std.specs.Prelude.{◌≡◌, Bool, None, is_some, Result}
use Rattle.fault.specs.declared.kinds.Fault.{Fault}
use Rattle.std.specs.declared.io.traits.Write as write
use Rattle.link.specs.Links.{LinkState}
use Rattle.record_link.specs.Linked.{Linked, IsCarried, state_of}
use Rattle.recorder.specs.declared.door.RecorderDoor.{RecorderDoor}

module _ {R F N : Type 0} {w : write.Ghosts F} where
  -- The recorder comes where it hasn't come before. Then it is at the door no more.
  abbrev pub LetsIn : RecorderDoor R F N w → Bool → RecorderDoor R F N w → Type 0
  LetsIn old came new = (came ≡ is_some old.link) × (new.link ≡ None)

  -- A link was left in this state. All that it was given is in the whole blocks of its file and in what waits for that,
  -- and what it took is what a recorder says.
  pub record SeesOff (old : RecorderDoor R F N w) (state : LinkState) (why : Result (Unit {0}) Fault) (new : RecorderDoor R F N w) : Type 0 where
    pub link : Linked
    pub state_is : state_of link ≡ state
    pub carried : IsCarried link
