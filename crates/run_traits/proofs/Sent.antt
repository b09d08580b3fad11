-- What notes links may go to another thread, whatever the links are, since it keeps none of them.
use denote.Param.Send.{IsSend}
use denote.Param.SendFields.{declared_send}
use denote.RattleType.{RattleType}
use Rattle.std.specs.contracts.snapshot.Snapshot as snapshot
use Rattle.run_traits.specs.contracts.link_trail.Trail as trail
use Rattle.run_traits.specs.contracts.link_trail.LinkTrail as links

-- A snapshot owns nothing.
snapshot_send : (X : RattleType) → IsSend (snapshot.the_row X)
snapshot_send X = record { owned = λ d vs. ((λ vss. (tt, ((λ uss. (tt, tt)), tt))), tt); leaving = λ k f vs. tt }

pub trail_send : (L : RattleType) → IsSend (links.the_row L)
trail_send L = declared_send (links.the_type L) (snapshot_send (trail.the_row L), tt)
