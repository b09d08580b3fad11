-- What a session sends a viewer for a recording, entry by entry of its record: a player of it stands between two
-- messages, and shows what a follower of the viewer's answers holds.
use Rattle.std.proofs.Common.{◌≡◌, ℕ, List, [], ◌∷◌, ◌++◌, take, Option, refl, sym, ap, ◌∙◌, subst}
use Rattle.std.specs.List.{filter_map}
use Rattle.pixel_format.specs.PixelFormat.{PixelFormat, host_format}
use Rattle.byte_reading.specs.Reading.{Reading, messages_from, rest, rest_from}
use Rattle.byte_reading.proofs.ReadingLaws.{rest-append}
use Rattle.raster.specs.Screen.{Map, opening}
use Rattle.raster.specs.Update.{Update, after_updates}
use Rattle.raster.proofs.Spellings.{Each}
use Rattle.rfb_wire.specs.ClientMessage.{SetPixelFormat, SetEncodings, Ask, Key, Pointer, CutText, LostText}
use Rattle.rfb_wire.specs.ServerMessage.{ServerMessage, server_message}
use Rattle.rfb_wire.specs.Texts.{BringsShortText}
use Rattle.painter.proofs.SameLaws.{after_each}
use Rattle.host_decoder.specs.Decoder.{host_message}
use Rattle.host_decoder.specs.Updates.{update_of, updates}
use Rattle.host_decoder.proofs.ShortUpdates.{updates-append}
use Rattle.update_encoder.specs.Follower.{Follower}
use Rattle.viewer_session.specs.Record.{Entry, Took, Saw, MadeCut, Began, ToldSize, format_of}
use Rattle.viewer_session.specs.Stream.{Bytes, Listener, IsHeard, between, heard, hears_bytes, listener, news_at, stream_of}
use Rattle.viewer_session.specs.Turn.{news_since}
use Rattle.viewer_session.proofs.Stands.{AllAnswered, follower_format, follows_all, follows_format}
use Rattle.viewer_session.proofs.Streams.{is_heard, listener-push, stream-bytes, stream_took}
use Rattle.played_session.specs.Played.{AreForRecording}
use Rattle.played_session.specs.ReadAlike.{ShowsWhatIsHeld, shown_by}
use Rattle.played_session.proofs.Beside.{nothing_held, reads, screen_after, viewing}

-- A player of the stream stands between two messages, and shows what is held.
pub record Plays (w h : ℕ) (stream : List ℕ) (held : Map (Option ℕ)) : Type 0 where
  pub whole : rest (host_message w h) stream ≡ host_message w h
  pub shows : ShowsWhatIsHeld held (shown_by w h stream)

-- ---- bytes more

-- A viewer in the host's format that stands between two messages.
in_format : (w h : ℕ) (f : Follower) (ms : List ServerMessage) → f.format ≡ host_format → between w h f ms ≡ viewing f.held ms (host_message w h)
in_format w h f ms e =
    ap (λ (format : PixelFormat). record { follower = record { format = format; held = f.held }; messages = ms; reading = server_message format w h }) e

-- What is shown after more bytes.
pub shown_more : (w h : ℕ) (stream bytes : List ℕ) → rest (host_message w h) stream ≡ host_message w h
    → shown_by w h (stream ++ bytes) ≡ screen_after (shown_by w h stream) (messages_from (host_message w h) (host_message w h) bytes)
shown_more w h stream bytes whole =
    ap (after_updates opening) (updates-append (host_message w h) stream bytes ∙ ap (λ r. updates w h stream ++ filter_map update_of (messages_from (host_message w h) r bytes)) whole)
    ∙ after_each opening (updates w h stream) (filter_map update_of (messages_from (host_message w h) (host_message w h) bytes))

plays_more : (w h : ℕ) (stream bytes : List ℕ) (held : Map (Option ℕ)) (ms others : List ServerMessage) (f : Follower) → Plays w h stream held
    → hears_bytes w h (viewing held ms (host_message w h)) bytes ≡ viewing f.held others (host_message w h) → Plays w h (stream ++ bytes) f.held
plays_more w h stream bytes held ms others f k e =
    let form : Reading ServerMessage = host_message w h in
    let r = reads w h held (shown_by w h stream) ms form bytes k.shows in
    record {
      whole = rest-append form form stream bytes ∙ (ap (λ now. rest_from form now bytes) k.whole ∙ (sym r.reading ∙ ap (λ (l : Listener). l.reading) e));
      shows =
          subst (ShowsWhatIsHeld f.held) (sym (shown_more w h stream bytes k.whole))
          (subst (λ (l : Listener). ShowsWhatIsHeld l.follower.held (screen_after (shown_by w h stream) (messages_from form form bytes))) e r.shows);
    }

-- ---- a record

pub full_colour : (es : List Entry) → AreForRecording es → format_of es ≡ host_format
full_colour [] k = refl
full_colour (Took (SetPixelFormat format) ∷ es) k = k.0
full_colour (Took (SetEncodings choice) ∷ es) k = full_colour es k.1
full_colour (Took (Ask incremental area) ∷ es) k = full_colour es k.1
full_colour (Took (Key down key) ∷ es) k = full_colour es k.1
full_colour (Took (Pointer mask x y) ∷ es) k = full_colour es k.1
full_colour (Took (CutText text) ∷ es) k = full_colour es k.1
full_colour (Took (LostText len) ∷ es) k = full_colour es k.1
full_colour (Saw number ∷ es) k = full_colour es k
full_colour (MadeCut number ∷ es) k = full_colour es k
full_colour (Began area number bytes ∷ es) k = full_colour es k
full_colour (ToldSize size number bytes ∷ es) k = full_colour es k

-- An entry sends bytes. It and the record before it are for a recording, and both are heard.
plays_bytes : (w h : ℕ) (us : List Update) (es : List Entry) (e : Entry) (bytes : List ℕ) → heard w h us (e ∷ es) ≡ heard w h us es ++ Bytes bytes ∷ []
    → AreForRecording es → AreForRecording (e ∷ es) → IsHeard w h us es → IsHeard w h us (e ∷ es) → Plays w h (stream_of (heard w h us es)) (follows_all w h es).held
    → Plays w h (stream_of (heard w h us (e ∷ es))) (follows_all w h (e ∷ es)).held
plays_bytes w h us es e bytes said colour colour_now before now k =
    let here : listener w h (heard w h us es) ≡ viewing (follows_all w h es).held before.0 (host_message w h) =
    before.2 ∙ in_format w h (follows_all w h es) before.0 (follower_format w h es ∙ full_colour es colour) in
    let there : listener w h (heard w h us (e ∷ es)) ≡ viewing (follows_all w h (e ∷ es)).held now.0 (host_message w h) =
    now.2 ∙ in_format w h (follows_all w h (e ∷ es)) now.0 (follower_format w h (e ∷ es) ∙ full_colour (e ∷ es) colour_now) in
    let goes : listener w h (heard w h us (e ∷ es)) ≡ hears_bytes w h (viewing (follows_all w h es).held before.0 (host_message w h)) bytes =
    ap (listener w h) said ∙ (listener-push w h _ (heard w h us es) (Bytes bytes) ∙ ap (λ l. hears_bytes w h l bytes) here) in
    subst (λ stream. Plays w h stream (follows_all w h (e ∷ es)).held) (sym (ap stream_of said ∙ stream-bytes (heard w h us es) bytes))
    (plays_more w h (stream_of (heard w h us es)) bytes (follows_all w h es).held before.0 now.0 (follows_all w h (e ∷ es)) k (sym goes ∙ there))

pub record_plays : (w h : ℕ) (us : List Update) (es : List Entry) → Each BringsShortText us → AllAnswered w h us es → AreForRecording es
    → Plays w h (stream_of (heard w h us es)) (follows_all w h es).held
record_plays w h us [] short k colour = record { whole = refl; shows = nothing_held opening }
record_plays w h us (Took (SetPixelFormat format) ∷ es) short k colour =
    let before = record_plays w h us es short k colour.1 in
    record {
      whole = ap (rest (host_message w h)) (stream_took w h us (SetPixelFormat format) es) ∙ before.whole;
      shows = subst (λ (f : Follower). ShowsWhatIsHeld f.held (shown_by w h (stream_of (heard w h us (Took (SetPixelFormat format) ∷ es))))) (sym (follows_format w h format es)) (nothing_held _);
    }
record_plays w h us (Took (SetEncodings choice) ∷ es) short k colour = record_plays w h us es short k colour.1
record_plays w h us (Took (Ask incremental area) ∷ es) short k colour = record_plays w h us es short k colour.1
record_plays w h us (Took (Key down key) ∷ es) short k colour = record_plays w h us es short k colour.1
record_plays w h us (Took (Pointer mask x y) ∷ es) short k colour = record_plays w h us es short k colour.1
record_plays w h us (Took (CutText text) ∷ es) short k colour = record_plays w h us es short k colour.1
record_plays w h us (Took (LostText len) ∷ es) short k colour = record_plays w h us es short k colour.1
record_plays w h us (Saw number ∷ es) short k colour = record_plays w h us es short k colour
record_plays w h us (MadeCut number ∷ es) short k colour =
    plays_bytes w h us es (MadeCut number) (news_at (take number us) (news_since w h es)) refl colour colour (is_heard w h us es short k) (is_heard w h us (MadeCut number ∷ es) short k)
    (record_plays w h us es short k colour)
record_plays w h us (Began area number bytes ∷ es) short k colour =
    plays_bytes w h us es (Began area number bytes) bytes refl colour colour (is_heard w h us es short k.1) (is_heard w h us (Began area number bytes ∷ es) short k) (record_plays w h us es short k.1 colour)
record_plays w h us (ToldSize size number bytes ∷ es) short k colour =
    plays_bytes w h us es (ToldSize size number bytes) bytes refl colour colour (is_heard w h us es short k.1) (is_heard w h us (ToldSize size number bytes ∷ es) short k) (record_plays w h us es short k.1 colour)
