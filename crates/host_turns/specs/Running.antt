-- What a run of hosts, one after another, leaves.
use Rattle.std.specs.Prelude.{◌≡◌, ◌≤◌, ◌<◌, ◌⊎◌, ℕ, ◌^◌, Bool, true, false, List, [], ◌∷◌, ◌++◌, length, Option, Result, Ok, Err, ⊤}
use Rattle.fault.specs.declared.kinds.Fault.{Fault}
use Rattle.fault.specs.declared.kinds.Fault.TheVariants.{BadVersion, HostRefused, NoNone, SecurityFailed, BadScreen, LinkFailed, LinkEnded, Gone, Memory, NoPlace, NumbersOut, QueueFull}
use Rattle.raster.specs.Screen.{Canvas, opening}
use Rattle.raster.specs.Switch.{switch}
use Rattle.raster.specs.Update.{Update}
use Rattle.painter.specs.Same.{AreSameUpdates}
use Rattle.rfb_wire.specs.Handshake.{Joined}
use Rattle.link.specs.Links.{LinkState}
use Rattle.link.specs.Joins.{FailsAs, Joins}
use Rattle.host_reader.specs.Running.{EndsBetween, EndsWith}
use Rattle.host_turns.specs.declared.ending.Ending.{Ending}

-- ---- one host

-- A host's link was read over the opening screen of w by h, and reading it ended with this answer. The updates of its
-- messages were put after the updates `old`.
abbrev pub IsReadOut : ℕ → ℕ → Result (Unit {0}) Fault → (link_old link_new : LinkState)
    → (old new : List Update) → Type 0
IsReadOut w h (Ok done) link_old link_new old new = EndsBetween w h opening link_old link_new old new
IsReadOut w h (Err fault) link_old link_new old new = EndsWith w h opening fault link_old link_new old new

-- The same, and the host was given nothing over that link.
pub record IsRead (w h : ℕ) (answer : Result (Unit {0}) Fault) (link_old link_new : LinkState)
    (old new : List Update) : Type 0 where
  pub out : IsReadOut w h answer link_old link_new old new
  pub given : link_new.given ≡ link_old.given

-- One update was put, which comes to the same as a switch to this host, whatever was shown before.
pub record IsSwitched (w h : ℕ) (host : Joined) (old new : List Update) : Type 0 where
  pub put : Update
  pub added : new ≡ old ++ put ∷ []
  pub same : (start : Canvas) → AreSameUpdates w h start (switch host.w host.h ∷ []) (put ∷ [])

-- A host was joined with this password, by which its link went from the old state to the new one, and its screen fits
-- into the room of w by h.
pub record JoinsWithin (w h : ℕ) (password : Option (List ℕ)) (link_old link_new : LinkState) : Type 0 where
  pub host : Joined
  pub joins : Joins password link_old link_new host
  pub width : host.w ≤ w
  pub height : host.h ≤ h

-- A host was joined within the room, and then the switch to it was put.
pub record IsMet (w h : ℕ) (password : Option (List ℕ)) (link_old link_new : LinkState) (old new : List Update)
    : Type 0 where
  pub joins : JoinsWithin w h password link_old link_new
  pub switched : IsSwitched w h joins.host old new

-- A host was joined, and its screen is wider or higher than the room.
pub record JoinsElsewhere (w h : ℕ) (password : Option (List ℕ)) (link_old link_new : LinkState) : Type 0 where
  pub host : Joined
  pub joins : Joins password link_old link_new host
  pub larger : (w < host.w) ⊎ (h < host.h)

-- Why a host isn't joined within the room: joining it fails with this fault, or its screen is larger.
abbrev pub IsUnfit : ℕ → ℕ → Option (List ℕ) → Fault → (link_old link_new : LinkState) → Type 0
IsUnfit w h password fault link_old link_new =
    FailsAs password fault link_old link_new
    ⊎ (JoinsElsewhere w h password link_old link_new × (fault ≡ BadScreen))

-- After this many updates something is wanting: memory that a host needs is refused, or there is no number for its
-- switch.
abbrev pub IsWant : ℕ → Fault → Type 0
IsWant count fault = (fault ≡ Memory) ⊎ ((fault ≡ NumbersOut) × (count ≡ 2 ^ 62))

-- Why a host that comes over this link, after this many updates, is missed: it isn't joined within the room; or it is
-- joined, but memory or a number is wanting.
abbrev pub IsMissed : ℕ → ℕ → Option (List ℕ) → (count : ℕ) → Fault → LinkState → Type 0
IsMissed w h password count fault link =
    (left : LinkState)
    × (IsUnfit w h password fault link left ⊎ (JoinsWithin w h password link left × IsWant count fault))

-- ---- one host after another

-- Whether the next host is taken after reading or joining one has ended with this answer. It is where the host or its
-- link has ended, or the link failed; where the host has another version, refuses, offers no security type that can be
-- chosen or reports a failed handshake; and where its screen, or a new size of it, doesn't fit. Where a host sends what
-- RFB doesn't have, the next one is taken if that host had called. Where the run itself lacks memory, numbers, a place
-- or its screen, none is taken (own).
abbrev pub goes_on_after : (has_called : Bool) → Result (Unit {0}) Fault → Bool
goes_on_after has_called (Ok done) = true
goes_on_after has_called (Err BadVersion) = true
goes_on_after has_called (Err (HostRefused reason)) = true
goes_on_after has_called (Err NoNone) = true
goes_on_after has_called (Err SecurityFailed) = true
goes_on_after has_called (Err BadScreen) = true
goes_on_after has_called (Err LinkFailed) = true
goes_on_after has_called (Err LinkEnded) = true
goes_on_after has_called (Err Memory) = false
goes_on_after has_called (Err Gone) = false
goes_on_after has_called (Err NoPlace) = false
goes_on_after has_called (Err QueueFull) = false
goes_on_after has_called (Err NumbersOut) = false
goes_on_after has_called (Err _) = has_called

abbrev pub goes_on : Ending → Bool
goes_on ending = goes_on_after ending.has_called ending.answer

-- A host came over a link that stands so. It had called, or was connected to.
pub record Coming : Type 0 where
  pub has_called : Bool
  pub link : LinkState

abbrev pub came_over : Bool → LinkState → Coming
came_over has_called link = record { has_called = has_called; link = link }

-- The stay of a host that was read: with what answer it ended, whether the host had called, its link after the join and
-- as it was left, and all updates that were put by the end.
pub record Stay : Type 0 where
  pub answer : Result (Unit {0}) Fault
  pub has_called : Bool
  pub joined : LinkState
  pub left : LinkState
  pub put : List Update

-- What comes of a further host: it is read, or it isn't.
pub data Turn : Type 0 where
  Read : Stay → Turn
  Missed : (has_called : Bool) → Fault → Turn

-- How a stay, or a turn, has ended.
abbrev pub end_of : Stay → Ending
end_of stay = record { answer = stay.answer; has_called = stay.has_called }

abbrev pub ending_of : Turn → Ending
ending_of (Read stay) = end_of stay
ending_of (Missed has_called fault) = record { answer = Err fault; has_called = has_called }

-- The links of the hosts that were read, with that of one more turn; and all updates, with those of one more turn.
abbrev pub links_with : List LinkState → Turn → List LinkState
links_with links (Read stay) = links ++ stay.left ∷ []
links_with links (Missed has_called fault) = links

abbrev pub put_with : List Update → Turn → List Update
put_with old (Read stay) = stay.put
put_with old (Missed has_called fault) = old

-- A host came as `comes` says, after the updates `old`, and had this turn. Either it was joined within the room, then
-- the switch to it was put, and then it was read over a black screen; or it was missed, and nothing was put.
abbrev pub IsTurn : ℕ → ℕ → Option (List ℕ) → (Coming → Type 0) → List Update → Turn → Type 0
IsTurn w h password comes old (Read stay) =
    (link : LinkState) × comes (came_over stay.has_called link)
    × ((black : List Update) × IsMet w h password link stay.joined old black
    × IsRead w h stay.answer stay.joined stay.left black stay.put)
IsTurn w h password comes old (Missed has_called fault) =
    (link : LinkState) × comes (came_over has_called link) × IsMissed w h password (length old) fault link

-- A list of turns has the latest first.

-- How the latest of all hosts has ended, the links of those that were read, in turn, and all updates that were put.
abbrev pub last_ending : Stay → List Turn → Ending
last_ending first [] = end_of first
last_ending first (t ∷ ts) = ending_of t

abbrev pub links_of : Stay → List Turn → List LinkState
links_of first [] = first.left ∷ []
links_of first (t ∷ ts) = links_with (links_of first ts) t

abbrev pub put_by : Stay → List Turn → List Update
put_by first [] = first.put
put_by first (t ∷ ts) = put_with (put_by first ts) t

-- These are turns of hosts that came as `comes` says. Each host was taken only where goes_on is true of the end before
-- it.
abbrev pub AreTurns : ℕ → ℕ → Option (List ℕ) → (Coming → Type 0) → Stay → List Turn → Type 0
AreTurns w h password comes first [] = ⊤
AreTurns w h password comes first (t ∷ ts) =
    AreTurns w h password comes first ts × (goes_on (last_ending first ts) ≡ true)
    × IsTurn w h password comes (put_by first ts) t

-- The first host had come as `came` says, where its link stands as it did after its join. It was read over that link,
-- and further hosts had their turns after it. The last of all ended with `last_end`. The links of the hosts that were
-- read are handed back, and these updates were put in all.
pub record HasRun (w h : ℕ) (password : Option (List ℕ)) (comes : Coming → Type 0) (last_end : Ending)
    (came : Coming) (links : List LinkState) (old new : List Update) : Type 0 where
  pub first : Stay
  pub begins : first.joined ≡ came.link
  pub comes_as : first.has_called ≡ came.has_called
  pub read : IsRead w h first.answer came.link first.left old first.put
  pub turns : List Turn
  pub in_turn : AreTurns w h password comes first turns
  pub last : last_end ≡ last_ending first turns
  pub handed : links ≡ links_of first turns
  pub put : new ≡ put_by first turns

-- A host came in this way: an end of its connection came, from a host that had called or hadn't, and the end's link is
-- in this state.
abbrev pub IsComing : {L : Type 0} → (L → LinkState) → (Bool → L → Type 0) → Coming → Type 0
IsComing {L} state came coming = (end : L) × came coming.has_called end × (coming.link ≡ state end)

-- Why a run ends: after the end of its last host no further one is taken, or no host is left.
abbrev pub IsOver : {H : Type 0} → (H → Type 0) → H → Ending → Type 0
IsOver {H} are_out hosts last_end = (goes_on last_end ≡ false) ⊎ are_out hosts

-- ---- on the way

-- A further host had its turn.
pub record HasTurn (w h : ℕ) (password : Option (List ℕ)) (comes : Coming → Type 0) (last_end : Ending)
    (links_old links_new : List LinkState) (old new : List Update) : Type 0 where
  pub turn : Turn
  pub is : IsTurn w h password comes old turn
  pub ends : last_end ≡ ending_of turn
  pub handed : links_new ≡ links_with links_old turn
  pub put : new ≡ put_with old turn
