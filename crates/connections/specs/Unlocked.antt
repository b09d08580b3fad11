-- A link behind a lock, in place of one at an open port.
use Rattle.std.specs.Prelude.{ℕ, Bool, true, false, List, [], ◌∷◌, ◌++◌}
use Rattle.link.specs.Links.{LinkState}
use Rattle.rfb_wire.specs.Handshake.{version}
use Rattle.connections.specs.Greetings.{GoOnAlike}

-- What contracts see of it: the link below and this link; the bytes with which its owner has to begin, and those of
-- them that it still owes; the bytes that the owner hears first, and those of them that are still ahead of it.
pub record StandIn : Type 0 where
  pub below : LinkState
  pub own : LinkState
  pub spoken : List ℕ
  pub owed : List ℕ
  pub shown : List ℕ
  pub ahead : List ℕ

-- What the owner has given and still owes is its beginning, and then all that the link below was given. It is likewise
-- for what is taken.
pub record StandsIn (s : StandIn) : Type 0 where
  pub given : GoOnAlike (s.own.given ++ s.owed) s.spoken s.below.given []
  pub taken : GoOnAlike (s.own.taken ++ s.ahead) s.shown s.below.taken []

-- The two beginnings: at a locked port the owner begins with the version and the list of the one security type 1, None,
-- and hears first the version and the choice of that type (RFC 6143, 7.1.2), since others were said and heard in their
-- place. At an open port there are no such bytes.
abbrev pub own_beginning : Bool → List ℕ
own_beginning true = version ++ 1 ∷ 1 ∷ []
own_beginning false = []

abbrev pub shown_beginning : Bool → List ℕ
shown_beginning true = version ++ 1 ∷ []
shown_beginning false = []
