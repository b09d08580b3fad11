-- A viewer's record only grows: what is so of all of its entries was so before. And no size is told to a viewer that
-- takes none.
use Rattle.std.proofs.Common.{◌≡◌, ℕ, Bool, false, List, [], ◌∷◌, ◌++◌, length, take, Option, Some, None, refl, sym, ap, subst, ◌∙◌, append_assoc}
use Rattle.byte_reading.specs.Reading.{Reading, Done, Faulty, Want, step}
use Rattle.raster.specs.declared.rect.Rect.{Rect}
use Rattle.raster.specs.declared.size.Size.{Size}
use Rattle.raster.specs.Update.{Update}
use Rattle.rfb_wire.specs.ClientMessage.{ClientMessage, SetPixelFormat, SetEncodings, Ask, Key, Pointer, CutText, LostText, client_message}
use Rattle.roles.specs.Held.{input_for}
use Rattle.viewer_session.specs.Acts.{Act, Cutting, Bytes, Turn, Written, Passed, after_act, after_turn, viewer_after}
use Rattle.viewer_session.specs.Record.{Entry, Took, Saw, MadeCut, Began, ToldSize, choice_of}
use Rattle.viewer_session.specs.Session.{after_look, with_marks}
use Rattle.viewer_session.specs.Turn.{Chosen, host_size, size_at, size_for, size_if_new, told_at, update_at, with_chosen}
use Rattle.viewer_session.specs.Viewer.{Setup, Viewer, after_bytes, after_cut_as, after_reading, marked}
use Rattle.viewer_session.proofs.Bytes.{keeps_bytes, keeps_input}
use Rattle.played_session.specs.Pictures.{AreForPictures}
use Rattle.played_session.specs.Played.{AreForRecording}

-- ---- the entries before

-- These are the earlier ones of a record.
abbrev pub Ends : List Entry → List Entry → Type 0
Ends es now = (more : List Entry) × (now ≡ more ++ es)

ends_more : (es now : List Entry) (e : Entry) → Ends es now → Ends es (e ∷ now)
ends_more es now e k = (e ∷ k.0, ap (λ t. e ∷ t) k.1)

ends_reading : (es : List Entry) (p : Viewer) (r : Reading ClientMessage) → Ends es p.entries → Ends es (after_reading p r).entries
ends_reading es p (Done m) k =
    keeps_input (λ q. Ends es q.entries) (λ q input l. l) (record p { entries = Took (marked p.lost m).0 ∷ p.entries; lost = (marked p.lost m).1; reading = client_message }) (input_for p.role (marked p.lost m).0)
    (ends_more es p.entries (Took (marked p.lost m).0) k)
ends_reading es p (Faulty fault) k = k
ends_reading es p (Want more) k = k

pub ends_bytes : (p : Viewer) (bs : List ℕ) → Ends p.entries (after_bytes p bs).entries
ends_bytes p bs =
    keeps_bytes (λ q. Ends p.entries q.entries) (λ q unread k. k) (λ q hello wants k. k) (λ q b none k. ends_reading p.entries q (step q.reading b) k) p bs ([], refl)

ends_told : (n : ℕ) (size : Option Size) (o : Option (Rect × List ℕ)) (es now : List Entry) → Ends es now → Ends es (told_at n size o now)
ends_told n (Some size) o es now k = ends_more es now _ k
ends_told n None None es now k = k
ends_told n None (Some found) es now k = ends_more es now _ k

pub ends_cut : (s : Setup) (us : List Update) (p : Viewer) (chosen : Option Chosen) → Ends p.entries (after_cut_as s us chosen p).entries
ends_cut s us p chosen = ends_told (length us) (size_at s.w s.h s.host p.entries us) (with_chosen chosen (update_at s.form s.w s.h p.entries us)) p.entries (MadeCut (length us) ∷ p.entries) (MadeCut (length us) ∷ [], refl)

ends_turn : (s : Setup) (us : List Update) (p : Viewer) (looked : ℕ) (cut : Option Cutting) → Ends p.entries (after_turn s us looked cut p).entries
ends_turn s us p looked None = (Saw looked ∷ [], refl)
ends_turn s us p looked (Some cut) =
    let behind = ends_cut s (take cut.number us) (after_look looked p) cut.chosen in
    (behind.0 ++ Saw looked ∷ [], behind.1 ∙ sym (append_assoc behind.0 (Saw looked ∷ []) p.entries))

pub ends_act : (s : Setup) (us : List Update) (p : Viewer) (act : Act) → Ends p.entries (after_act s us act p).entries
ends_act s us p (Bytes marks bytes) = ends_bytes (with_marks marks p) bytes
ends_act s us p (Turn looked cut) = ends_turn s us p looked cut
ends_act s us p (Written count) = ([], refl)
ends_act s us p Passed = ([], refl)

pub recording_before : (later earlier : List Entry) → AreForRecording (later ++ earlier) → AreForRecording earlier
recording_before [] earlier k = k
recording_before (Took message ∷ later) earlier k = recording_before later earlier k.1
recording_before (Saw number ∷ later) earlier k = recording_before later earlier k
recording_before (MadeCut number ∷ later) earlier k = recording_before later earlier k
recording_before (Began area number bytes ∷ later) earlier k = recording_before later earlier k
recording_before (ToldSize size number bytes ∷ later) earlier k = recording_before later earlier k

pictures_before : (w h : ℕ) (later earlier : List Entry) → AreForPictures w h (later ++ earlier) → AreForPictures w h earlier
pictures_before w h [] earlier k = k
pictures_before w h (Took message ∷ later) earlier k = pictures_before w h later earlier k.1
pictures_before w h (Saw number ∷ later) earlier k = pictures_before w h later earlier k
pictures_before w h (MadeCut number ∷ later) earlier k = pictures_before w h later earlier k
pictures_before w h (Began area number bytes ∷ later) earlier k = pictures_before w h later earlier k
pictures_before w h (ToldSize size number bytes ∷ later) earlier k = pictures_before w h later earlier k

-- ---- no size is told

-- No size was told in a record.
abbrev pub TellsNone : List Entry → Type 0
TellsNone [] = Unit {0}
TellsNone (Took message ∷ es) = TellsNone es
TellsNone (Saw number ∷ es) = TellsNone es
TellsNone (MadeCut number ∷ es) = TellsNone es
TellsNone (Began area number bytes ∷ es) = TellsNone es
TellsNone (ToldSize size number bytes ∷ es) = ⊥

no_resizes : (w h : ℕ) (es : List Entry) → AreForPictures w h es → (choice_of es).resizes ≡ false
no_resizes w h [] k = refl
no_resizes w h (Took (SetPixelFormat format) ∷ es) k = no_resizes w h es k.1
no_resizes w h (Took (SetEncodings choice) ∷ es) k = k.0.1
no_resizes w h (Took (Ask incremental area) ∷ es) k = no_resizes w h es k.1
no_resizes w h (Took (Key down key) ∷ es) k = no_resizes w h es k.1
no_resizes w h (Took (Pointer mask x y) ∷ es) k = no_resizes w h es k.1
no_resizes w h (Took (CutText text) ∷ es) k = no_resizes w h es k.1
no_resizes w h (Took (LostText len) ∷ es) k = no_resizes w h es k.1
no_resizes w h (Saw number ∷ es) k = no_resizes w h es k
no_resizes w h (MadeCut number ∷ es) k = no_resizes w h es k
no_resizes w h (Began area number bytes ∷ es) k = no_resizes w h es k
no_resizes w h (ToldSize size number bytes ∷ es) k = no_resizes w h es k

none_for : (w h : ℕ) (host : Option Size) (resizes : Bool) (told : Size) (last : Option Size) (area : Option Rect) → resizes ≡ false → size_for w h host resizes told last area ≡ None
none_for w h None resizes told last area e = refl
none_for w h (Some host) resizes told last None e = refl
none_for w h (Some host) resizes told last (Some area) e = ap (λ b. size_if_new b told (host_size w h host last)) e

tells_reading : (p : Viewer) (r : Reading ClientMessage) → TellsNone p.entries → TellsNone (after_reading p r).entries
tells_reading p (Done m) k =
    keeps_input (λ q. TellsNone q.entries) (λ q input l. l) (record p { entries = Took (marked p.lost m).0 ∷ p.entries; lost = (marked p.lost m).1; reading = client_message }) (input_for p.role (marked p.lost m).0) k
tells_reading p (Faulty fault) k = k
tells_reading p (Want more) k = k

tells_bytes : (p : Viewer) (bs : List ℕ) → TellsNone p.entries → TellsNone (after_bytes p bs).entries
tells_bytes p bs k = keeps_bytes (λ q. TellsNone q.entries) (λ q unread l. l) (λ q hello wants l. l) (λ q b none l. tells_reading q (step q.reading b) l) p bs k

tells_at : (n : ℕ) (o : Option (Rect × List ℕ)) (es : List Entry) → TellsNone es → TellsNone (told_at n None o es)
tells_at n None es k = k
tells_at n (Some found) es k = k

tells_turn : (s : Setup) (us : List Update) (p : Viewer) (looked : ℕ) (cut : Option Cutting) → AreForPictures s.w s.h p.entries → TellsNone p.entries → TellsNone (after_turn s us looked cut p).entries
tells_turn s us p looked None pictures k = k
tells_turn s us p looked (Some cut) pictures k =
    let first : List Update = take cut.number us in
    let found : Option (Rect × List ℕ) = with_chosen cut.chosen (update_at s.form s.w s.h (Saw looked ∷ p.entries) first) in
    let es : List Entry = MadeCut (length first) ∷ Saw looked ∷ p.entries in
    let none : size_at s.w s.h s.host (Saw looked ∷ p.entries) first ≡ None = none_for s.w s.h s.host _ _ _ _ (no_resizes s.w s.h (Saw looked ∷ p.entries) pictures) in
    subst (λ size. TellsNone (told_at (length first) size found es)) (sym none) (tells_at (length first) found es k)

tells_act : (s : Setup) (us : List Update) (p : Viewer) (act : Act) → AreForPictures s.w s.h p.entries → TellsNone p.entries → TellsNone (after_act s us act p).entries
tells_act s us p (Bytes marks bytes) pictures k = tells_bytes (with_marks marks p) bytes k
tells_act s us p (Turn looked cut) pictures k = tells_turn s us p looked cut pictures k
tells_act s us p (Written count) pictures k = k
tells_act s us p Passed pictures k = k

pub tells_none : (s : Setup) (us : List Update) (p : Viewer) (acts : List Act) → AreForPictures s.w s.h (viewer_after s us p acts).entries → TellsNone p.entries → TellsNone (viewer_after s us p acts).entries
tells_none s us p [] pictures k = k
tells_none s us p (act ∷ acts) pictures k =
    let q : Viewer = viewer_after s us p acts in
    let ends = ends_act s us q act in
    let before : AreForPictures s.w s.h q.entries = pictures_before s.w s.h ends.0 q.entries (subst (AreForPictures s.w s.h) ends.1 pictures) in
    tells_act s us q act before (tells_none s us p acts before k)
