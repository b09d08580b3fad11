-- A session of a recorder that is played, computed: two updates, two requests, and what is shown after each answer. A
-- definition that says something else is refused here, and so are premises of the laws that nothing meets.
use Rattle.std.proofs.Common.{◌≡◌, ℕ, Bool, true, false, List, [], ◌∷◌, ◌++◌, length, Some, None, refl, arith}
use Rattle.raster.specs.Update.{Update}
use Rattle.rfb_wire.specs.Handshake.{said_to_viewer, version}
use Rattle.rfb_wire.specs.Writing.{request_bytes}
use Rattle.joined_runs.specs.declared.rect_form.RectForm.TheVariants.{Joined}
use Rattle.roles.specs.declared.role.Role.TheVariants.{View}
use Rattle.reflect_core.specs.Sequential.{Begins}
use Rattle.host_decoder.specs.Hosts.{updates_in_turn}
use Rattle.host_decoder.specs.Updates.{updates}
use Rattle.record_link.specs.Talking.{choices, said_after}
use Rattle.viewer_session.specs.Acts.{Act, Bytes, Turn, Written, viewer_after}
use Rattle.viewer_session.specs.Viewer.{Setup, Viewer, is_greeted, new_viewer}
use Rattle.viewer_server.specs.Serving.{AllMayBe, bytes_in}
use Rattle.played_session.specs.Pictures.{AreForPictures}
use Rattle.played_session.specs.Played.{AreForRecording}
use Rattle.played_session.specs.ReadAlike.{shown_by}

-- A screen of 2 by 1, named T.
abbrev pub small : Setup
small = record { w = 2; h = 1; name = 0x54 ∷ []; room = 256; form = record { runs = Joined; zrle = true; copies = true }; host = None }

-- What its host says: red and blue, and then green on the right.
abbrev pub host : List ℕ
host =
    (0 ∷ 0 ∷ 0 ∷ 1 ∷ 0 ∷ 0 ∷ 0 ∷ 0 ∷ 0 ∷ 2 ∷ 0 ∷ 1 ∷ 0 ∷ 0 ∷ 0 ∷ 0 ∷ 0 ∷ 0 ∷ 255 ∷ 0 ∷ 255 ∷ 0 ∷ 0 ∷ 0 ∷ [])
    ++ 0 ∷ 0 ∷ 0 ∷ 1 ∷ 0 ∷ 1 ∷ 0 ∷ 0 ∷ 0 ∷ 1 ∷ 0 ∷ 1 ∷ 0 ∷ 0 ∷ 0 ∷ 0 ∷ 0 ∷ 255 ∷ 0 ∷ 0 ∷ []

abbrev pub us : List Update
us = updates 2 1 host

pub first_of_a_host : Begins us (updates_in_turn 2 1 [] host)
first_of_a_host = ([], refl)

abbrev pub ask : (incremental : Bool) → List ℕ
ask incremental = request_bytes incremental (record { x = 0; y = 0; w = 2; h = 1 })

-- The recorder joins and asks for all; it is answered after the first update.
abbrev pub first_acts : List Act
first_acts = Turn 1 (Some (record { number = 1; chosen = None })) ∷ Written 43 ∷ Bytes [] (version ++ 1 ∷ 1 ∷ choices ++ ask false) ∷ []

abbrev pub viewer : List Act → Viewer
viewer acts = viewer_after small us (new_viewer View true) acts

-- It asks for what has changed, and is answered after the second.
abbrev pub all_acts : List Act
all_acts = Turn 2 (Some (record { number = 2; chosen = None })) ∷ Bytes [] (ask true) ∷ Written (length (viewer first_acts).said_after) ∷ first_acts

pub are_of_a_recorder : bytes_in all_acts ≡ said_after (false ∷ true ∷ []) (said_to_viewer 2 1 small.name 14)
are_of_a_recorder = refl

pub are_for_recording : AreForRecording (viewer all_acts).entries
are_for_recording = (tt, (tt, (refl, (refl, tt))))

pub are_for_pictures : AreForPictures 2 1 (viewer all_acts).entries
are_for_pictures = (refl, (refl, ((refl, refl), (refl, tt))))

pub may_be_done : AllMayBe small us (new_viewer View true) all_acts
may_be_done = ((((((tt, refl), omega arith), (refl, omega arith, (refl, omega arith, (omega arith, tt), tt))), omega arith), refl), (refl, omega arith, (refl, omega arith, (omega arith, (omega arith, (omega arith, (omega arith, tt)))), tt)))

pub is_done : is_greeted (viewer all_acts) ≡ true
is_done = refl

-- The two pixels that are shown.
abbrev pub shown : List ℕ → List ℕ
shown said = shown_by 2 1 said 0 0 ∷ shown_by 2 1 said 1 0 ∷ []

pub shown_first : shown (viewer first_acts).said_after ≡ 0xFF0000 ∷ 0x0000FF ∷ []
shown_first = refl

pub shown_then : shown (viewer all_acts).said_after ≡ 0xFF0000 ∷ 0x00FF00 ∷ []
shown_then = refl

-- In the middle of the second answer it is as before.
pub shown_between : shown ((viewer first_acts).said_after ++ 0 ∷ 0 ∷ 0 ∷ []) ≡ 0xFF0000 ∷ 0x0000FF ∷ []
shown_between = refl
