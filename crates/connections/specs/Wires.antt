-- How a link is related to the socket below it.
use Rattle.std.specs.Prelude.{◌≡◌, ℕ, Bool, true, false, ◌-◌, List, [], ◌++◌, take, Result, Ok, Err}
use Rattle.std.specs.declared.io.Error.{Error}
use Rattle.link.specs.Links.{LinkState}
use Rattle.run_traits.specs.Unused.{unused}

-- The bytes that a send or a receive with this answer has moved: the first of these, or none where it failed.
abbrev pub moved : Result ℕ Error → List ℕ → List ℕ
moved (Ok count) bytes = take count bytes
moved (Err error) bytes = []

-- The bytes of a slice that a send with this answer has moved, where this many other bytes were sent ahead of the
-- slice.
abbrev pub moved_behind : (before : ℕ) → Result ℕ Error → List ℕ → List ℕ
moved_behind before (Ok count) bytes = take (count - before) bytes
moved_behind before (Err error) bytes = []

-- What contracts see of a link over a socket: the link, what the socket has sent and received, what the link keeps to
-- be sent next, and whether it is still open.
pub record Wired : Type 0 where
  pub own : LinkState
  pub sent : List ℕ
  pub received : List ℕ
  pub kept : List ℕ
  pub is_open : Bool

-- A link that has taken and given nothing, over a socket that has sent and received nothing.
abbrev pub fresh : Wired
fresh = record { own = unused; sent = []; received = []; kept = []; is_open = true }

-- What the link was given is what the socket has sent, followed by what is kept. What the link has taken is what the
-- socket has received.
pub record Carries (w : Wired) : Type 0 where
  pub given : w.own.given ≡ w.sent ++ w.kept
  pub taken : w.own.taken ≡ w.received

-- The same link, closed.
abbrev pub closed : Wired → Wired
closed w = record w { is_open = false }

-- What contracts see of a link while it is joined: the link below, how often it has failed, including the times at
-- which it was late, and whether it has a deadline.
pub record Joining : Type 0 where
  pub below : Wired
  pub failed : ℕ
  pub has_deadline : Bool

-- The state of such a link: that of the link below, with its own count of failures.
abbrev pub joining_state : Joining → LinkState
joining_state joining = record joining.below.own { failed = joining.failed }
