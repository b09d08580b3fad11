use Rattle.reflector.proofs.Growing.{all_begin, grows_received}
use Rattle.reflector.proofs.law.visits_are_of_one_list.Goals as goal

pub returns : goal.returns
returns g c = λ stop s role old befores last visits.
    all_begin _ _ _ g.S.ScreenSource.known (λ a b x y why left k. grows_received _ _ _ _ _ g.S.ScreenSource.known s role a b x y why left k) old befores last visits
