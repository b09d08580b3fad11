-- What contracts see of the links of a host that is a recording (own).
use Rattle.std.specs.Prelude.{◌≡◌, List, ℕ, [], Option, IfSome}
use Rattle.link.specs.Links.{LinkState}
use Rattle.playback.specs.Playing.{IsPlayed, Played}
use Rattle.player.specs.declared.deaf.DeafLink.{DeafLink}

-- Nothing is taken from whoever hears nothing, and nothing fails.
abbrev pub deaf_state : DeafLink → LinkState
deaf_state link = record { taken = []; given = link.given.bytes; failed = 0; ended = 0 }

-- A recording that is played until it is left or closed: the link below, until it was closed, and what was taken and
-- given, and how often it has failed and ended.
pub record UntilLeft : Type 0 where
  pub below : Option Played
  pub own : LinkState

-- Until it was closed, what was taken is what was taken of the link below.
abbrev pub IsOfBelow : Option Played → LinkState → Type 0
IsOfBelow below own = IfSome below (λ played. played.taken ≡ own.taken)

-- And that is a beginning of what is heard of the recording. No clause says when a time has come.
abbrev pub PlaysOn : UntilLeft → Type 0
PlaysOn host = IfSome host.below (λ played. IsPlayed (λ _. Unit {0}) played × (played.taken ≡ host.own.taken))
