-- From what a link to a recorder promises, and what serving a viewer over it does, to what a player shows. The law
-- `recorders_keep_what_was_shown` is made of it.
use Rattle.std.proofs.Common.{◌≡◌, ℕ, true, List, [], ◌∷◌, ◌++◌, ◌≤◌, None, length, take, refl, sym, ap, ◌∙◌, subst, append_assoc}
use Rattle.std.specs.Prelude.{drop}
use Rattle.std.proofs.lemmas.List.{take-append-drop}
use Rattle.byte_reading.specs.Reading.{Spells}
use Rattle.byte_reading.proofs.ReadingLaws.{prefix_free}
use Rattle.raster.specs.Size.{IsScreenSize}
use Rattle.raster.specs.Update.{Update}
use Rattle.rfb_wire.specs.Handshake.{Joined, host_hello}
use Rattle.reflect_core.specs.Sequential.{Begins}
use Rattle.record_link.specs.Growing.{recorded_in}
use Rattle.record_link.specs.Linked.{bytes_of}
use Rattle.record_link.specs.Talking.{said_after}
use Rattle.roles.specs.declared.role.Role.{Role}
use Rattle.viewer_session.specs.Acts.{Act, viewer_after}
use Rattle.viewer_session.specs.Viewer.{Setup, Viewer, is_greeted, new_viewer, out_bytes}
use Rattle.viewer_session.proofs.Parts.{begins_on}
use Rattle.viewer_server.specs.Serving.{AllMayBe, bytes_in}
use Rattle.played_session.specs.Pictures.{AreForPictures, AreInOrder}
use Rattle.played_session.specs.Played.{IsOpened}
use Rattle.played_session.specs.Recorded.{RecordersKeepWhatWasShown}
use Rattle.played_session.proofs.Greeted.{is_done}
use Rattle.played_session.proofs.Hello.{hellos_heard}
use Rattle.played_session.proofs.Pictures.{never_go_back}
use Rattle.played_session.proofs.Recorder.{AsksAreRead, recorders_ask_for_all}

first_begins : (n : ℕ) (xs : List ℕ) → Begins (take n xs) xs
first_begins n xs = (drop n xs, sym (take-append-drop n xs))

-- What follows the same bytes is the same.
pub behind_same : (hello xs ys : List ℕ) → hello ++ xs ≡ hello ++ ys → xs ≡ ys
behind_same [] xs ys e = e
behind_same (b ∷ hello) xs ys e = behind_same hello xs ys cc

-- A handshake with which all begins that was said is the session's own.
one_hello : (s : Setup) (p : Viewer) (opened : IsOpened s p) (hello : List ℕ) (joined : Joined) → Spells (host_hello None) hello joined → Begins hello (out_bytes s p) → (hello ≡ opened.hello) × (joined ≡ record { w = s.w; h = s.h; name = s.name })
one_hello s p opened hello joined spelled begins =
    prefix_free (host_hello None) hello opened.hello begins.0 p.said_after joined (record { w = s.w; h = s.h; name = s.name }) spelled opened.spelled (sym begins.1 ∙ opened.all)

pub own_session : (s : Setup) (us : List Update) (role : Role) (acts : List Act) (hello : List ℕ) (joined : Joined) → IsScreenSize s.w s.h → length s.name ≤ 255 → AllMayBe s us (new_viewer role true) acts → Spells (host_hello None) hello joined
    → Begins hello (out_bytes s (viewer_after s us (new_viewer role true) acts)) → joined ≡ record { w = s.w; h = s.h; name = s.name }
own_session s us role acts hello joined size short may spelled begins =
    let p : Viewer = viewer_after s us (new_viewer role true) acts in
    (one_hello s p (hellos_heard s size short us role acts (is_done s us role acts hello joined size short may spelled begins)) hello joined spelled begins).1

pub recorders_keep : AsksAreRead → RecordersKeepWhatWasShown
recorders_keep asks s size short ended present us first role acts may l carried served hello front back joined spelled fb bs =
    let p : Viewer = viewer_after s us (new_viewer role true) acts in
    let recorded : List ℕ = bytes_of (recorded_in l.growing) in
    let all : Begins recorded (out_bytes s p) = served.given in
    let whole : Begins (hello ++ back) (out_bytes s p) = begins_on (hello ++ back) recorded (out_bytes s p) bs all in
    let greeted : is_greeted p ≡ true = is_done s us role acts hello joined size short may spelled (begins_on hello (hello ++ back) (out_bytes s p) (back, refl) whole) in
    let said = carried.said in
    let heard : Begins said.heard (out_bytes s p) = begins_on said.heard recorded (out_bytes s p) (said.later, said.parts) all in
    let words : List ℕ = said_after carried.kinds said.heard in
    let read : Begins (bytes_in acts) words =
    begins_on (bytes_in acts) (take said.count words) words (subst (Begins (bytes_in acts)) said.says served.taken) (first_begins said.count words) in
    let pictures : AreForPictures s.w s.h p.entries = recorders_ask_for_all asks s size short us role acts greeted said.heard carried.kinds heard read in
    let opened = hellos_heard s size short us role acts greeted in
    let apart : out_bytes s p ≡ hello ++ (back ++ whole.0) = whole.1 ∙ append_assoc hello back whole.0 in
    let one = one_hello s p opened hello joined spelled (back ++ whole.0, apart) in
    let follows : p.said_after ≡ back ++ whole.0 = behind_same hello p.said_after (back ++ whole.0) (ap (λ t. t ++ p.said_after) one.0 ∙ (sym opened.all ∙ apart)) in
    subst (λ (j : Joined). AreInOrder j.w j.h us front back) (sym one.1)
    (never_go_back s size.wide.1 size.high.1 ended present us first role true acts may pictures front back fb (whole.0, follows))
