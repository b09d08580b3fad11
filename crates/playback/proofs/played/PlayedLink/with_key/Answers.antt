-- Nothing was read or played yet.
use Rattle.std.proofs.Common.{refl, arith}
use Rattle.playback.proofs.Playing.{begins_playing}
use Rattle.playback.proofs.played.PlayedLink.with_key.Goals as goal

pub invariant_of-result : goal.invariant_of-result
invariant_of-result g c = (
  omega arith,
  omega arith,
  omega arith,
  begins_playing g.P.Pace.has_come g.F.Recorded.is_all g.F.Recorded.has_failed _ c.in_ok-reel.ensures.blocks c.in_ok-reel.ensures.first c.new-3.ensures.ahead c.new-2.ensures refl refl refl c.new-4.ensures refl refl,
  λ ended. absurd (omega (arith, ended)),
)
