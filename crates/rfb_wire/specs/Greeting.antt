-- How a viewer's handshake stands in mid-course.
use Rattle.std.specs.Prelude.{◌≡◌, ℕ, List, [], length, drop, is_none, nat_le, if◌then◌else◌}
use Rattle.byte_reading.specs.Reading.{Reading, after, fault_of}
use Rattle.rfb_wire.specs.Handshake.{viewer_hello, said_to_viewer}

-- The screen and the name that the viewer is told, the bytes that were taken from it, and how many were sent to it.
pub record Greeting : Type 0 where
  pub w : ℕ
  pub h : ℕ
  pub name : List ℕ
  pub begun : List ℕ
  pub sent : ℕ

-- How the viewer's side goes on.
abbrev pub ahead : Greeting → Reading (Unit {0})
ahead greeting = after viewer_hello greeting.begun

-- What is to be sent: all that must have been said by now, without what was sent already. After a fault nothing is
-- said.
abbrev pub to_send : Greeting → List ℕ
to_send greeting =
    if is_none (fault_of (ahead greeting)) then drop greeting.sent (said_to_viewer greeting.w greeting.h greeting.name (length greeting.begun)) else []

-- How many of the `all` bytes that a whole handshake says must have been said once `count` bytes were taken.
abbrev pub due : (all count : ℕ) → ℕ
due all count = if nat_le 14 count then all else (if nat_le 13 count then 18 else (if nat_le 12 count then 14 else 12))

-- These bytes are what is said in a whole handshake, with the name at their end.
abbrev pub IsPrepared : ℕ → ℕ → List ℕ → Type 0
IsPrepared w h said = said ≡ said_to_viewer w h (drop 42 said) 14
