use Rattle.reflector.proofs.Promising.{keeps_promise}
use Rattle.reflector.proofs.law.visits_keep_the_promise.Goals as goal

pub returns : goal.returns
returns g c = λ stop s role old new wide high visits. keeps_promise _ _ _ _ _ _ _ _ s role old new wide high visits
