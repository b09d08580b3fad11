-- What stands of a viewer whatever its bytes: its record, and what it is sent. The laws over whole schedules begin from
-- it.
use Rattle.std.proofs.Common.{◌≡◌, ℕ, ◌≤◌, Bool, true, false, cond, List, [], ◌∷◌, ◌++◌, length, Option, None, refl, ap, sym, ◌∙◌}
use Rattle.byte_reading.specs.Reading.{Reading, Done, Faulty, Want, Gives, step}
use Rattle.raster.specs.Update.{Update}
use Rattle.rfb_wire.specs.ClientMessage.{ClientMessage, SetPixelFormat, SetEncodings, Ask, Key, Pointer, CutText, LostText, client_message, without_text}
use Rattle.roles.specs.declared.role.Role.{Role}
use Rattle.roles.specs.Allowed.{Input}
use Rattle.roles.specs.Held.{input_for}
use Rattle.viewer_session.specs.Record.{Entry, Took, Saw, MadeCut, Began, ToldSize}
use Rattle.viewer_session.specs.Session.{after_look}
use Rattle.viewer_session.specs.Stream.{heard, stream_of}
use Rattle.viewer_session.specs.Turn.{sent_at}
use Rattle.viewer_session.specs.Viewer.{Setup, Viewer, after_bytes, after_cut, after_reading, marked, new_viewer, with_input, with_message}
use Rattle.viewer_session.proofs.Accepted.{HasAcceptedFormat, client_message_fine}
use Rattle.viewer_session.proofs.Bytes.{keeps_bytes, keeps_input}
use Rattle.viewer_session.proofs.Stands.{AllAnswered, Stands, stands_nothing, stands_put, stands_took, stands_saw, stands_cut}
use Rattle.viewer_session.proofs.Streams.{heard_more, stream_took, stream_after_cut}
use Rattle.viewer_session.proofs.Told.{AllKnow, know_cut, know_more}

-- Over these updates: the record stands, a viewer that takes sizes was told them, what is read next has an accepted
-- format, and what is said after the hello is what comes of the record.
pub record IsGood (s : Setup) (us : List Update) (p : Viewer) : Type 0 where
  pub record_stands : Stands s.w s.h us p.entries
  pub knows : AllKnow s.w s.h s.host us p.entries
  pub reading : Gives HasAcceptedFormat p.reading
  pub said : p.said_after ≡ stream_of (heard s.w s.h us p.entries)

pub good_new : (s : Setup) (us : List Update) (role : Role) (greet : Bool) → IsGood s us (new_viewer role greet)
good_new s us role greet = record { record_stands = stands_nothing s.w s.h us; knows = tt; reading = client_message_fine; said = refl }

-- ---- bytes

good_input : (s : Setup) (us : List Update) (p : Viewer) (o : Option Input) → IsGood s us p → IsGood s us (with_input p o)
good_input s us p o k = keeps_input (IsGood s us) (λ q input l. record { record_stands = l.record_stands; knows = l.knows; reading = l.reading; said = l.said }) p o k

lost_fine : (b : Bool) (text : List ℕ) → HasAcceptedFormat (cond b (without_text (CutText text)) (CutText text))
lost_fine true text = tt
lost_fine false text = tt

pub marked_fine : (marks : List Bool) (m : ClientMessage) → HasAcceptedFormat m → HasAcceptedFormat (marked marks m).0
marked_fine [] (SetPixelFormat format) k = k
marked_fine [] (SetEncodings choice) k = tt
marked_fine [] (Ask incremental area) k = tt
marked_fine [] (Key down key) k = tt
marked_fine [] (Pointer mask x y) k = tt
marked_fine [] (CutText text) k = tt
marked_fine [] (LostText len) k = tt
marked_fine (b ∷ marks) (SetPixelFormat format) k = k
marked_fine (b ∷ marks) (SetEncodings choice) k = tt
marked_fine (b ∷ marks) (Ask incremental area) k = tt
marked_fine (b ∷ marks) (Key down key) k = tt
marked_fine (b ∷ marks) (Pointer mask x y) k = tt
marked_fine (b ∷ marks) (CutText text) k = lost_fine b text
marked_fine (b ∷ marks) (LostText len) k = tt

good_message : (s : Setup) (us : List Update) (p : Viewer) (taken : ClientMessage × List Bool) → HasAcceptedFormat taken.0 → IsGood s us p → IsGood s us (with_message p taken)
good_message s us p taken fine k =
    good_input s us (record p { entries = Took taken.0 ∷ p.entries; lost = taken.1; reading = client_message }) (input_for p.role taken.0)
    (record { record_stands = stands_took s.w s.h us taken.0 p.entries fine k.record_stands; knows = k.knows; reading = client_message_fine; said = k.said ∙ sym (stream_took s.w s.h us taken.0 p.entries) })

good_reading : (s : Setup) (us : List Update) (p : Viewer) (r : Reading ClientMessage) → Gives HasAcceptedFormat r → IsGood s us p → IsGood s us (after_reading p r)
good_reading s us p (Done m) fine k = good_message s us p (marked p.lost m) (marked_fine p.lost m fine) k
good_reading s us p (Faulty f) fine k = record { record_stands = k.record_stands; knows = k.knows; reading = tt; said = k.said }
good_reading s us p (Want more) fine k = record { record_stands = k.record_stands; knows = k.knows; reading = fine; said = k.said }

pub step_fine : (r : Reading ClientMessage) (b : ℕ) → Gives HasAcceptedFormat r → Gives HasAcceptedFormat (step r b)
step_fine (Done m) b k = k
step_fine (Faulty f) b k = k
step_fine (Want more) b k = k b

pub good_bytes : (s : Setup) (us : List Update) (p : Viewer) (bs : List ℕ) → IsGood s us p → IsGood s us (after_bytes p bs)
good_bytes s us p bs k =
    keeps_bytes (IsGood s us) (λ q unread l. record { record_stands = l.record_stands; knows = l.knows; reading = l.reading; said = l.said }) (λ q hello wants l. record { record_stands = l.record_stands; knows = l.knows; reading = l.reading; said = l.said })
    (λ q b none l. good_reading s us q (step q.reading b) (step_fine q.reading b l.reading) l) p bs k

-- ---- turns and updates

pub good_look : (s : Setup) (us : List Update) (p : Viewer) (looked : ℕ) → looked ≤ length us → IsGood s us p → IsGood s us (after_look looked p)
good_look s us p looked le k = record { record_stands = stands_saw s.w s.h us looked p.entries le k.record_stands; knows = k.knows; reading = k.reading; said = k.said }

pub good_cut : (s : Setup) (us : List Update) (p : Viewer) → s.w ≤ 4096 → s.h ≤ 4096 → IsGood s us p → IsGood s us (after_cut s us p)
good_cut s us p lw lh k =
    record {
      record_stands = stands_cut s.form s.w s.h s.host us p.entries lw lh k.record_stands;
      knows = know_cut s.form s.w s.h s.host us p.entries None k.knows;
      reading = k.reading;
      said = ap (λ t. t ++ sent_at s.form s.w s.h s.host p.entries us) k.said ∙ sym (stream_after_cut s.form s.w s.h s.host us p.entries);
    }

pub good_put : (s : Setup) (us : List Update) (u : Update) (p : Viewer) → IsGood s us p → IsGood s (us ++ u ∷ []) p
good_put s us u p k =
    record {
      record_stands = stands_put s.w s.h us u p.entries k.record_stands;
      knows = know_more s.w s.h s.host us u p.entries k.record_stands.numbers k.knows;
      reading = k.reading;
      said = k.said ∙ ap stream_of (sym (heard_more s.w s.h us u p.entries k.record_stands.numbers));
    }

-- ---- each answer

pub answered_behind : (w h : ℕ) (us : List Update) (later earlier : List Entry) → AllAnswered w h us (later ++ earlier) → AllAnswered w h us earlier
answered_behind w h us [] earlier k = k
answered_behind w h us (Took message ∷ later) earlier k = answered_behind w h us later earlier k
answered_behind w h us (Saw number ∷ later) earlier k = answered_behind w h us later earlier k
answered_behind w h us (MadeCut number ∷ later) earlier k = answered_behind w h us later earlier k
answered_behind w h us (Began area n bytes ∷ later) earlier k = answered_behind w h us later earlier k.1
answered_behind w h us (ToldSize size n bytes ∷ later) earlier k = answered_behind w h us later earlier k.1
