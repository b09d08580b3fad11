-- A viewer that is served, and one who follows its answers. The law `viewer_holds_each_answer` is made of it.
use Rattle.std.proofs.Common.{◌≡◌, ℕ, ◌+◌, Bool, List, [], ◌∷◌, ◌++◌, take, Option, subst}
use Rattle.raster.specs.declared.rect.Rect.{Rect}
use Rattle.raster.specs.Update.{Update}
use Rattle.viewer_session.specs.Record.{Entry, Began, received}
use Rattle.viewer_session.specs.Viewer.{Setup, Viewer, new_viewer}
use Rattle.viewer_session.proofs.AllHeld.{AllHeld, held_behind}
use Rattle.viewer_session.proofs.Good.{IsGood, answered_behind}
use Rattle.viewer_session.proofs.Holding.{IsKept, kept_new, kept_bytes, kept_look, kept_cut, kept_put}
use Rattle.viewer_session.proofs.Stands.{AllAnswered}
use Rattle.viewer_session.proofs.Told.{AllKnow, known_behind}
use Rattle.viewer_server.specs.Serving.{EachAnswerHolds}
use Rattle.roles.specs.Allowed.{Input}
use Rattle.update_encoder.specs.Follower.{follower, HoldsArea}
use Rattle.viewer_session.specs.Viewer as viewer
use Rattle.viewer_server.specs.Following.{HoldsAfterEachAnswer}
use Rattle.viewer_server.proofs.Lasting.{lasts}
use Rattle.viewer_session.specs.Acts.{viewer_after}

-- What was done last makes no difference.
kept_as : (s : Setup) (us : List Update) (p : Viewer) (looked : Option ℕ) (lost : List Bool) (written : ℕ) (waiting : Option Input) → IsKept s us p
    → IsKept s us (record p { looked = looked; lost = lost; written = written; waiting = waiting })
kept_as s us p looked lost written waiting k =
    record {
      holding = record { held = k.holding.held; knows = k.holding.knows; reading = k.holding.reading };
      plain = λ z. let g : IsGood s us p = k.plain z in record { record_stands = g.record_stands; knows = g.knows; reading = g.reading; said = g.said };
    }

-- What a follower that doesn't take ZRLE holds, where there is none.
plain_holds : (s : Setup) (us : List Update) (p : Viewer) (later earlier : List Entry) (area : Rect) (n : ℕ) (bytes : List ℕ) → p.entries ≡ later ++ Began area n bytes ∷ earlier → IsGood s us p
    → HoldsArea (follower s.w s.h (received (Began area n bytes ∷ earlier))) area (take n us)
plain_holds s us p later earlier area n bytes split k =
    let there : AllAnswered s.w s.h us (later ++ Began area n bytes ∷ earlier) = subst (λ q. AllAnswered s.w s.h us q) split k.record_stands.answers in
    (answered_behind s.w s.h us later (Began area n bytes ∷ earlier) there).0.holds_it

each_holds : (s : Setup) (us : List Update) (p : Viewer) → IsKept s us p → EachAnswerHolds s us p
each_holds s us p all later earlier area n bytes split =
    let there : AllHeld s.w s.h us (later ++ Began area n bytes ∷ earlier) = subst (λ q. AllHeld s.w s.h us q) split all.holding.held.answers in
    let it = (held_behind s.w s.h us later (Began area n bytes ∷ earlier) there).0 in
    let sizes : AllKnow s.w s.h s.host us (later ++ Began area n bytes ∷ earlier) = subst (λ q. AllKnow s.w s.h s.host us q) split all.holding.knows in
    (it.0, it.1, (it.2, λ z. plain_holds s us p later earlier area n bytes split (all.plain z)), (known_behind s.w s.h s.host us later (Began area n bytes ∷ earlier) sizes).0)

pub holds_after_each_answer : HoldsAfterEachAnswer
holds_after_each_answer s lw lh us role greet acts may =
    each_holds s us (viewer_after s us (new_viewer role greet) acts)
    (lasts s (IsKept s) (record { bytes = kept_bytes s; look = kept_look s; cut = kept_cut s; put = kept_put s; same = kept_as s }) us role greet acts lw lh may (kept_new s [] role greet))
