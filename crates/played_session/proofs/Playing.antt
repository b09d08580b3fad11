-- A recording that is played, answer by answer. The law `recordings_show_what_was_sent` is made of it.
use Rattle.std.proofs.Common.{◌≡◌, ℕ, ◌+◌, List, ◌∷◌, ◌++◌, take, Some, ap, ◌∙◌, subst, arith}
use Rattle.pixel_format.specs.PixelFormat.{PixelFormat, host_format, tint}
use Rattle.byte_reading.specs.Reading.{rest}
use Rattle.raster.specs.declared.rect.Rect.{Rect}
use Rattle.raster.specs.Update.{Update, screen}
use Rattle.raster.proofs.Spellings.{Each}
use Rattle.rfb_wire.specs.Texts.{BringsShortText}
use Rattle.reflect_core.specs.Sequential.{Begins}
use Rattle.host_decoder.specs.Decoder.{host_message}
use Rattle.host_decoder.specs.Hosts.{updates_in_turn}
use Rattle.viewer_session.specs.Record.{Entry, Began}
use Rattle.viewer_session.specs.Stream.{heard, stream_of}
use Rattle.viewer_session.specs.Viewer.{Setup, Viewer}
use Rattle.viewer_session.proofs.Good.{IsGood, answered_behind}
use Rattle.viewer_session.proofs.Stands.{AllAnswered, follower_format, follows_all}
use Rattle.viewer_session.proofs.Streams.{heard_begins, stream-append, stream-bytes}
use Rattle.played_session.specs.Played.{AreForRecording, IsPlayedAt, RecordingsShowWhatWasSent}
use Rattle.played_session.proofs.Colours.{first_short, pixel_is_colour}
use Rattle.played_session.proofs.Earlier.{recording_before}
use Rattle.played_session.proofs.Entries.{Plays, full_colour, record_plays}
use Rattle.played_session.proofs.Followed.{good_after}

-- ---- an answer

module _ (s : Setup) (ended : List (List ℕ)) (present : List ℕ) (us : List Update) (first : Begins us (updates_in_turn s.w s.h ended present)) (p : Viewer) (good : IsGood s us p) (colour : AreForRecording p.entries) where
  answer_plays : (later earlier : List Entry) (area : Rect) (n : ℕ) (bytes : List ℕ) → p.entries ≡ later ++ Began area n bytes ∷ earlier → IsPlayedAt s.w s.h us p.said_after area n bytes earlier
  answer_plays later earlier area n bytes split =
      let now : List Entry = Began area n bytes ∷ earlier in
      let upto : List ℕ = stream_of (heard s.w s.h us now) in
      let short : Each BringsShortText us = first_short s.w s.h ended present us first in
      let answered : AllAnswered s.w s.h us now = answered_behind s.w s.h us later now (subst (AllAnswered s.w s.h us) split good.record_stands.answers) in
      let colour_now : AreForRecording now = recording_before later now (subst AreForRecording split colour) in
      let plays : Plays s.w s.h upto (follows_all s.w s.h now).held = record_plays s.w s.h us now short answered colour_now in
      let format : (follows_all s.w s.h now).format ≡ host_format = follower_format s.w s.h now ∙ full_colour now colour_now in
      let behind = heard_begins s.w s.h us later now in
      record {
        upto = upto;
        is = stream-bytes (heard s.w s.h us earlier) bytes;
        begins = (stream_of behind.0, good.said ∙ (ap (λ es. stream_of (heard s.w s.h us es)) split ∙ (ap stream_of behind.1 ∙ stream-append (heard s.w s.h us now) behind.0)));
        whole = plays.whole;
        shows = λ x y lx ly.
            let colour_there : ℕ = screen (take n us) (area.x + x) (area.y + y) in
            plays.shows (area.x + x) (area.y + y) (tint host_format colour_there)
            (answered.0.holds_it (area.x + x) (area.y + y) (omega arith) (omega arith) (omega arith) (omega arith) ∙ ap (λ (f : PixelFormat). Some (tint f colour_there)) format)
            ∙ pixel_is_colour s.w s.h ended present us n (area.x + x) (area.y + y) first;
        known = answered.0.known;
        newest = answered.0.numbers;
      }

  all_whole : rest (host_message s.w s.h) p.said_after ≡ host_message s.w s.h
  all_whole =
      ap (rest (host_message s.w s.h)) good.said
      ∙ (record_plays s.w s.h us p.entries (first_short s.w s.h ended present us first) good.record_stands.answers colour).whole

pub recordings_show : RecordingsShowWhatWasSent
recordings_show s lw lh ended present us first role greet acts may colour =
    let good = good_after s us role greet acts lw lh may colour in
    record { whole = all_whole s ended present us first _ good colour; each = answer_plays s ended present us first _ good colour }
