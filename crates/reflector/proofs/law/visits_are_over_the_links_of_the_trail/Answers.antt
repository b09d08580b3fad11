use Rattle.reflector.proofs.Trailing.{all_over}
use Rattle.reflector.proofs.law.visits_are_over_the_links_of_the_trail.Goals as goal

pub returns-clause-received : goal.returns-clause-received
returns-clause-received g c = λ trail stop s role old new keeps visits. all_over _ _ _ trail keeps old new visits

pub returns-clause-whole : goal.returns-clause-whole
returns-clause-whole g c = λ trail us s role old new keeps visits. all_over _ _ _ trail keeps old new visits
