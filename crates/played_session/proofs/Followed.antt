-- What stands of a viewer for a recording, whatever is done for it: its record, and what it was sent. No session
-- chooses the bytes of an answer for it, since it never asks for ZRLE.
use Rattle.std.proofs.Common.{◌≡◌, ℕ, ◌≤◌, Bool, true, false, List, [], ◌∷◌, Option, Some, None, refl, sym, subst}
use Rattle.std.specs.Prelude.{◌&&◌}
use Rattle.raster.specs.Update.{Update}
use Rattle.rfb_wire.specs.ClientMessage.{SetPixelFormat, SetEncodings, Ask, Key, Pointer, CutText, LostText}
use Rattle.roles.specs.declared.role.Role.{Role}
use Rattle.viewer_session.specs.Acts.{Act, viewer_after}
use Rattle.viewer_session.specs.Chosen.{MayBeChosen}
use Rattle.viewer_session.specs.Record.{Entry, Took, Saw, MadeCut, Began, ToldSize, choice_of}
use Rattle.viewer_session.specs.Turn.{Chosen}
use Rattle.viewer_session.specs.Viewer as viewer
use Rattle.viewer_session.specs.Viewer.{Setup, Viewer, after_bytes, after_cut_as, new_viewer}
use Rattle.viewer_session.proofs.Good.{IsGood, good_bytes, good_cut, good_look, good_new, good_put}
use Rattle.viewer_server.specs.Serving.{AllMayBe}
use Rattle.viewer_server.proofs.Lasting.{IsLasting, lasts}
use Rattle.zrle_answer.specs.Rectangle.{ZlibStream}
use Rattle.played_session.specs.Played.{AreForRecording}
use Rattle.played_session.proofs.Earlier.{ends_bytes, ends_cut, recording_before}

-- ---- nothing is chosen for it

no_zrle : (es : List Entry) → AreForRecording es → (choice_of es).zrle ≡ false
no_zrle [] k = refl
no_zrle (Took (SetPixelFormat format) ∷ es) k = no_zrle es k.1
no_zrle (Took (SetEncodings choice) ∷ es) k = k.0
no_zrle (Took (Ask incremental area) ∷ es) k = no_zrle es k.1
no_zrle (Took (Key down key) ∷ es) k = no_zrle es k.1
no_zrle (Took (Pointer mask x y) ∷ es) k = no_zrle es k.1
no_zrle (Took (CutText text) ∷ es) k = no_zrle es k.1
no_zrle (Took (LostText len) ∷ es) k = no_zrle es k.1
no_zrle (Saw number ∷ es) k = no_zrle es k
no_zrle (MadeCut number ∷ es) k = no_zrle es k
no_zrle (Began area number bytes ∷ es) k = no_zrle es k
no_zrle (ToldSize size number bytes ∷ es) k = no_zrle es k

not_heeded : (may takes : Bool) → takes ≡ false → (may && takes) ≡ true → ⊥
not_heeded true true e f = absurd cc
not_heeded true false e f = absurd cc
not_heeded false takes e f = absurd cc

none_chosen : (s : Setup) (us : List Update) (es : List Entry) (before : ZlibStream) (chosen : Option Chosen) → MayBeChosen s us es before chosen → AreForRecording es → chosen ≡ None
none_chosen s us es before None may k = refl
none_chosen s us es before (Some chosen) may k = absurd (not_heeded s.form.zrle (choice_of es).zrle (no_zrle es k) may.heeded)

-- ---- act by act

-- As long as it takes no ZRLE, its record and what it was sent stand.
abbrev IsFine : Setup → List Update → Viewer → Type 0
IsFine s us p = AreForRecording p.entries → IsGood s us p

fine_bytes : (s : Setup) (us : List Update) (p : Viewer) (bs : List ℕ) → IsFine s us p → IsFine s us (after_bytes p bs)
fine_bytes s us p bs k colour =
    let ends = ends_bytes p bs in
    good_bytes s us p bs (k (recording_before ends.0 p.entries (subst AreForRecording ends.1 colour)))

fine_cut : (s : Setup) (us : List Update) (p : Viewer) (chosen : Option Chosen) → s.w ≤ 4096 → s.h ≤ 4096 → MayBeChosen s us p.entries p.stream chosen → IsFine s us p → IsFine s us (after_cut_as s us chosen p)
fine_cut s us p chosen lw lh may k colour =
    let ends = ends_cut s us p chosen in
    let before : AreForRecording p.entries = recording_before ends.0 p.entries (subst AreForRecording ends.1 colour) in
    subst (λ (o : Option Chosen). IsGood s us (after_cut_as s us o p)) (sym (none_chosen s us p.entries p.stream chosen may before)) (good_cut s us p lw lh (k before))

fine_lasts : (s : Setup) → IsLasting s (IsFine s)
fine_lasts s =
    record {
      bytes = fine_bytes s;
      look = λ us p looked le k colour. good_look s us p looked le (k colour);
      cut = fine_cut s;
      put = λ us u p k colour. good_put s us u p (k colour);
      same = λ us p looked lost written waiting k colour. let g = k colour in record { record_stands = g.record_stands; knows = g.knows; reading = g.reading; said = g.said };
    }

pub good_after : (s : Setup) (us : List Update) (role : Role) (greet : Bool) (acts : List Act) → s.w ≤ 4096 → s.h ≤ 4096 → AllMayBe s us (new_viewer role greet) acts
    → AreForRecording (viewer_after s us (new_viewer role greet) acts).entries → IsGood s us (viewer_after s us (new_viewer role greet) acts)
good_after s us role greet acts lw lh may colour = lasts s (IsFine s) (fine_lasts s) us role greet acts lw lh may (λ none. good_new s [] role greet) colour
