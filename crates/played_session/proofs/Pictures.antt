-- What a player shows wherever it is in what a session has said, entry by entry of the session's record. The law
-- `players_never_go_back` is made of it.
use Rattle.std.proofs.Common.{◌≡◌, ℕ, ◌+◌, ◌-◌, ◌≤◌, Bool, true, false, cond, List, [], ◌∷◌, ◌++◌, length, max, min, take, Option, Some, None, refl, sym, ap, ◌∙◌, subst, arith, append-nil}
use Rattle.std.specs.Prelude.{nat_lt, unwrap_or}
use Rattle.pixel_format.specs.PixelFormat.{PixelFormat, host_format, tint}
use Rattle.byte_reading.specs.Reading.{Reading, Done, Faulty, Want, Spells, finished, messages_from, renewed, rest, rest_from}
use Rattle.byte_reading.proofs.ReadingLaws.{messages-append}
use Rattle.raster.specs.declared.rect.Rect.{Rect}
use Rattle.raster.specs.declared.size.Size.{Size}
use Rattle.raster.specs.Screen.{Canvas, LooksLike, common, cover, is_empty, whole_screen}
use Rattle.raster.specs.Update.{NumberedText, Update, bells, last_text, screen}
use Rattle.raster.proofs.Spellings.{Each}
use Rattle.rfb_wire.specs.ClientMessage.{SetPixelFormat, SetEncodings, Ask, Key, Pointer, CutText, LostText, longest_text}
use Rattle.rfb_wire.specs.ServerMessage as server
use Rattle.rfb_wire.specs.ServerMessage.{ServerMessage, FramebufferUpdate, SetColorMapEntries, Bell, ServerCutText, server_message}
use Rattle.rfb_wire.specs.Texts.{BringsShortText}
use Rattle.rfb_wire.specs.Writing.{bell_bytes, server_text_bytes}
use Rattle.reflect_core.specs.Asked.{covered, pending}
use Rattle.reflect_core.specs.Sequential.{Begins}
use Rattle.host_decoder.specs.Decoder.{host_message}
use Rattle.host_decoder.specs.Hosts.{updates_in_turn}
use Rattle.host_decoder.proofs.ShortUpdates.{each_begins}
use Rattle.tiles.specs.Touched.{told_last}
use Rattle.update_encoder.specs.Follower.{HoldsArea}
use Rattle.viewer_session.specs.Record.{Entry, Took, Saw, MadeCut, Began, ToldSize, NumbersUpTo, events}
use Rattle.viewer_session.specs.Stream.{heard, news_at, stream_of}
use Rattle.viewer_session.specs.Turn.{bell_at, news_since, newer_text, text_at, told_of}
use Rattle.viewer_session.specs.Viewer.{Viewer, new_viewer}
use Rattle.viewer_session.specs.Acts.{viewer_after}
use Rattle.viewer_session.proofs.Good.{IsGood}
use Rattle.viewer_session.proofs.Stands.{AllAnswered, IsAnswered, follower_format, follows_all}
use Rattle.viewer_session.proofs.Streams.{IsShort, each_take, last_short, spells_server_text, stream-bytes, stream_took}
use Rattle.played_session.specs.Pictures.{AreForPictures, PlayersNeverGoBack, ShowsAfter}
use Rattle.viewer_session.proofs.Parts.{begins_same}
use Rattle.played_session.specs.Played.{AreForRecording}
use Rattle.played_session.specs.ReadAlike.{shown_by}
use Rattle.played_session.proofs.Beside.{screen_after}
use Rattle.played_session.proofs.Colours.{first_short, pixel_is_colour}
use Rattle.played_session.proofs.Earlier.{TellsNone, tells_none}
use Rattle.played_session.proofs.Entries.{Plays, full_colour, record_plays, shown_more}
use Rattle.played_session.proofs.Followed.{good_after}
use Rattle.played_session.proofs.Fronts.{InOrder, nothing_said, piece_more}

-- ---- messages in a piece

message_on : (w h : ℕ) (now : Reading ServerMessage) (xs ys : List ℕ) (m : ServerMessage) → Spells now xs m
    → finished now ++ messages_from (host_message w h) (renewed (host_message w h) now) (xs ++ ys) ≡ m ∷ messages_from (host_message w h) (host_message w h) ys
message_on w h (Done n) [] ys m k = let says = k.says in let same : n ≡ m = cc in ap (λ t. t ∷ messages_from (host_message w h) (host_message w h) ys) same
message_on w h (Done n) (b ∷ xs) ys m k = absurd (omega (arith, k.whole))
message_on w h (Faulty fault) [] ys m k = let says = k.says in absurd cc
message_on w h (Faulty fault) (b ∷ xs) ys m k = absurd (omega (arith, k.whole))
message_on w h (Want more) [] ys m k = let says = k.says in absurd cc
message_on w h (Want more) (b ∷ xs) ys m k = message_on w h (more b) xs ys m (record { whole = omega (arith, k.whole); says = k.says })

-- The messages of bytes between two messages.
abbrev in_bytes : ℕ → ℕ → List ℕ → List ServerMessage
in_bytes w h bytes = messages_from (host_message w h) (host_message w h) bytes

one_then : (w h : ℕ) (xs ys : List ℕ) (m : ServerMessage) → Spells (host_message w h) xs m → in_bytes w h (xs ++ ys) ≡ m ∷ in_bytes w h ys
one_then w h xs ys m k = message_on w h (host_message w h) xs ys m k

begins_messages : (w h : ℕ) (c ys : List ℕ) → Begins c ys → Begins (in_bytes w h c) (in_bytes w h ys)
begins_messages w h c ys k =
    (messages_from (host_message w h) (rest_from (host_message w h) (host_message w h) c) k.0, ap (in_bytes w h) k.1 ∙ messages-append (host_message w h) (host_message w h) c k.0)

-- ---- news: Bells and texts, which change no picture

abbrev Quiet : ServerMessage → Type 0
Quiet (FramebufferUpdate ps) = ⊥
Quiet SetColorMapEntries = Unit {0}
Quiet Bell = Unit {0}
Quiet (ServerCutText text) = Unit {0}
Quiet (server.LostText len) = Unit {0}

quiet_after : (canvas : Canvas) (ms : List ServerMessage) → Each Quiet ms → screen_after canvas ms ≡ canvas
quiet_after canvas [] k = refl
quiet_after canvas (FramebufferUpdate ps ∷ ms) k = absurd k.0
quiet_after canvas (SetColorMapEntries ∷ ms) k = quiet_after canvas ms k.1
quiet_after canvas (Bell ∷ ms) k = quiet_after canvas ms k.1
quiet_after canvas (ServerCutText text ∷ ms) k = quiet_after canvas ms k.1
quiet_after canvas (server.LostText len ∷ ms) k = quiet_after canvas ms k.1

quiet_bell_if : (w h : ℕ) (b : Bool) (ys : List ℕ) → Each Quiet (in_bytes w h ys) → Each Quiet (in_bytes w h (cond b bell_bytes [] ++ ys))
quiet_bell_if w h true ys k = subst (Each Quiet) (sym (one_then w h bell_bytes ys Bell (record { whole = refl; says = refl }))) (tt, k)
quiet_bell_if w h false ys k = k

quiet_bell : (w h : ℕ) (us : List Update) (o : Option ℕ) (ys : List ℕ) → Each Quiet (in_bytes w h ys) → Each Quiet (in_bytes w h (bell_at us o ++ ys))
quiet_bell w h us None ys k = k
quiet_bell w h us (Some number) ys k = quiet_bell_if w h (nat_lt (bells (take number us)) (bells us)) ys k

quiet_text_if : (w h : ℕ) (b : Bool) (text : List ℕ) → length text ≤ longest_text → Each Quiet (in_bytes w h (cond b (server_text_bytes text) []))
quiet_text_if w h true text short =
    let spelled : Spells (host_message w h) (server_text_bytes text) (ServerCutText text) = spells_server_text host_format w h text short in
    subst (Each Quiet) (sym (ap (in_bytes w h) (sym (append-nil (server_text_bytes text))) ∙ one_then w h (server_text_bytes text) [] (ServerCutText text) spelled)) (tt, tt)
quiet_text_if w h false text short = tt

quiet_newer : (w h number : ℕ) (o : Option NumberedText) → IsShort o → Each Quiet (in_bytes w h (newer_text number o))
quiet_newer w h number None k = tt
quiet_newer w h number (Some last) k = quiet_text_if w h (nat_lt number last.number) last.text k

quiet_text : (w h : ℕ) (us : List Update) (o : Option ℕ) → Each BringsShortText us → Each Quiet (in_bytes w h (text_at us o))
quiet_text w h us None k = tt
quiet_text w h us (Some number) k = quiet_newer w h number (last_text us) (last_short None 1 us tt k)

quiet_news : (w h : ℕ) (us : List Update) (o : Option ℕ) → Each BringsShortText us → Each Quiet (in_bytes w h (news_at us o))
quiet_news w h us o k = quiet_bell w h us o (text_at us o) (quiet_text w h us o k)

-- Inside news nothing changes.
quiet_in : (w h : ℕ) (xs news c : List ℕ) → rest (host_message w h) xs ≡ host_message w h → Each Quiet (in_bytes w h news) → Begins c news → shown_by w h (xs ++ c) ≡ shown_by w h xs
quiet_in w h xs news c whole k begins =
    let said = begins_messages w h c news begins in
    shown_more w h xs c whole ∙ quiet_after (shown_by w h xs) (in_bytes w h c) (each_begins Quiet (in_bytes w h c) said.0 (subst (Each Quiet) said.1 k))

-- ---- an answer, which is one message

-- Some message is whole.
abbrev some_of : List ServerMessage → Bool
some_of [] = false
some_of (m ∷ ms) = true

none_of : (ms : List ServerMessage) → some_of ms ≡ false → ms ≡ []
none_of [] e = refl
none_of (m ∷ ms) e = absurd cc

only_one : (ms more : List ServerMessage) (m : ServerMessage) → some_of ms ≡ true → m ∷ [] ≡ ms ++ more → ms ≡ m ∷ []
only_one [] more m e same = absurd cc
only_one (x ∷ []) more m e same = let first : m ≡ x = cc in ap (λ t. t ∷ []) (sym first)
only_one (x ∷ (y ∷ ms)) more m e same = absurd cc

some_more : (ms more : List ServerMessage) → some_of ms ≡ true → some_of (ms ++ more) ≡ true
some_more [] more e = absurd cc
some_more (m ∷ ms) more e = refl

before_answer : (w h : ℕ) (xs c : List ℕ) → rest (host_message w h) xs ≡ host_message w h → some_of (in_bytes w h c) ≡ false → shown_by w h (xs ++ c) ≡ shown_by w h xs
before_answer w h xs c whole e = shown_more w h xs c whole ∙ ap (screen_after (shown_by w h xs)) (none_of (in_bytes w h c) e)

after_answer : (w h : ℕ) (xs bytes c : List ℕ) (m : ServerMessage) → rest (host_message w h) xs ≡ host_message w h → Spells (host_message w h) bytes m → Begins c bytes → some_of (in_bytes w h c) ≡ true
    → shown_by w h (xs ++ c) ≡ shown_by w h (xs ++ bytes)
after_answer w h xs bytes c m whole spelled begins e =
    let said = begins_messages w h c bytes begins in
    let all : in_bytes w h bytes ≡ m ∷ [] = ap (in_bytes w h) (sym (append-nil bytes)) ∙ one_then w h bytes [] m spelled in
    let same : in_bytes w h c ≡ in_bytes w h bytes = only_one (in_bytes w h c) said.0 m e (sym all ∙ said.1) ∙ sym all in
    shown_more w h xs c whole ∙ (ap (screen_after (shown_by w h xs)) same ∙ sym (shown_more w h xs bytes whole))

-- ---- an answer's area is all of the screen

abbrev rect_of : ℕ → ℕ → Rect
rect_of w h = record { x = 0; y = 0; w = w; h = h }

whole_common : (w h : ℕ) → common (whole_screen w h) (whole_screen w h) ≡ whole_screen w h
whole_common w h =
    let across : min (0 + w) (0 + w) - max 0 0 ≡ w = omega arith in
    let down : min (0 + h) (0 + h) - max 0 0 ≡ h = omega arith in
    ap (λ a. rect_of a (min (0 + h) (0 + h) - max 0 0)) across ∙ ap (rect_of w) down

whole_cover : (w h : ℕ) → cover (whole_screen w h) (whole_screen w h) ≡ whole_screen w h
whole_cover w h =
    let across : max (0 + w) (0 + w) - min 0 0 ≡ w = omega arith in
    let down : max (0 + h) (0 + h) - min 0 0 ≡ h = omega arith in
    ap (λ a. rect_of a (max (0 + h) (0 + h) - min 0 0)) across ∙ ap (rect_of w) down

abbrev IsAllIfAny : ℕ → ℕ → Option Rect → Type 0
IsAllIfAny w h None = Unit {0}
IsAllIfAny w h (Some r) = r ≡ whole_screen w h

covered_all : (w h : ℕ) (r : Rect) (o : Option Rect) → r ≡ whole_screen w h → IsAllIfAny w h o → IsAllIfAny w h (covered r o)
covered_all w h r None e k = e
covered_all w h r (Some s) e k = ap (λ a. cover a s) e ∙ (ap (cover (whole_screen w h)) k ∙ whole_cover w h)

asked_all : (w h : ℕ) (b : Bool) (r : Rect) (o : Option Rect) → r ≡ whole_screen w h → IsAllIfAny w h o → IsAllIfAny w h (cond b o (covered r o))
asked_all w h true r o e k = k
asked_all w h false r o e k = covered_all w h r o e k

pending_all : (w h : ℕ) (es : List Entry) → AreForPictures w h es → IsAllIfAny w h (pending (events w h es))
pending_all w h [] k = tt
pending_all w h (Took (SetPixelFormat format) ∷ es) k = pending_all w h es k.1
pending_all w h (Took (SetEncodings choice) ∷ es) k = pending_all w h es k.1
pending_all w h (Took (Ask incremental area) ∷ es) k =
    let clipped : Rect = common area (whole_screen w h) in
    asked_all w h (is_empty clipped) clipped (pending (events w h es)) (ap (λ a. common a (whole_screen w h)) k.0 ∙ whole_common w h) (pending_all w h es k.1)
pending_all w h (Took (Key down key) ∷ es) k = pending_all w h es k.1
pending_all w h (Took (Pointer mask x y) ∷ es) k = pending_all w h es k.1
pending_all w h (Took (CutText text) ∷ es) k = pending_all w h es k.1
pending_all w h (Took (LostText len) ∷ es) k = pending_all w h es k.1
pending_all w h (Saw number ∷ es) k = pending_all w h es k
pending_all w h (MadeCut number ∷ es) k = pending_all w h es k
pending_all w h (Began area number bytes ∷ es) k = tt
pending_all w h (ToldSize size number bytes ∷ es) k = tt

told_none : (w h : ℕ) (es : List Entry) → TellsNone es → told_last (events w h es) ≡ None
told_none w h [] k = refl
told_none w h (Took (SetPixelFormat format) ∷ es) k = told_none w h es k
told_none w h (Took (SetEncodings choice) ∷ es) k = told_none w h es k
told_none w h (Took (Ask incremental area) ∷ es) k = told_none w h es k
told_none w h (Took (Key down key) ∷ es) k = told_none w h es k
told_none w h (Took (Pointer mask x y) ∷ es) k = told_none w h es k
told_none w h (Took (CutText text) ∷ es) k = told_none w h es k
told_none w h (Took (LostText len) ∷ es) k = told_none w h es k
told_none w h (Saw number ∷ es) k = told_none w h es k
told_none w h (MadeCut number ∷ es) k = told_none w h es k
told_none w h (Began area number bytes ∷ es) k = told_none w h es k
told_none w h (ToldSize size number bytes ∷ es) k = absurd k

area_is_all : (w h : ℕ) (us : List Update) (area : Rect) (n : ℕ) (bytes : List ℕ) (es : List Entry) → IsAnswered w h us area n bytes es → AreForPictures w h es → TellsNone es → area ≡ whole_screen w h
area_is_all w h us area n bytes es k pictures none =
    let told : told_of w h es ≡ record { width = w; height = h } = ap (λ o. unwrap_or o (record { width = w; height = h })) (told_none w h es none) in
    let whole : k.whole ≡ whole_screen w h = subst (IsAllIfAny w h) k.asked (pending_all w h es pictures) in
    k.clipped
    ∙ (ap (λ (size : Size). common k.whole (whole_screen size.width size.height)) told
    ∙ (ap (λ r. common r (whole_screen w h)) whole ∙ whole_common w h))

-- ---- a record

pub recording_of : (w h : ℕ) (es : List Entry) → AreForPictures w h es → AreForRecording es
recording_of w h [] k = tt
recording_of w h (Took (SetPixelFormat format) ∷ es) k = (k.0, recording_of w h es k.1)
recording_of w h (Took (SetEncodings choice) ∷ es) k = (k.0.0, recording_of w h es k.1)
recording_of w h (Took (Ask incremental area) ∷ es) k = (tt, recording_of w h es k.1)
recording_of w h (Took (Key down key) ∷ es) k = (tt, recording_of w h es k.1)
recording_of w h (Took (Pointer mask x y) ∷ es) k = (tt, recording_of w h es k.1)
recording_of w h (Took (CutText text) ∷ es) k = (tt, recording_of w h es k.1)
recording_of w h (Took (LostText len) ∷ es) k = (tt, recording_of w h es k.1)
recording_of w h (Saw number ∷ es) k = recording_of w h es k
recording_of w h (MadeCut number ∷ es) k = recording_of w h es k
recording_of w h (Began area number bytes ∷ es) k = recording_of w h es k
recording_of w h (ToldSize size number bytes ∷ es) k = recording_of w h es k

-- The number of the last answer, and 0 before the first.
abbrev last_number : List Entry → ℕ
last_number [] = 0
last_number (Took message ∷ es) = last_number es
last_number (Saw number ∷ es) = last_number es
last_number (MadeCut number ∷ es) = last_number es
last_number (Began area number bytes ∷ es) = number
last_number (ToldSize size number bytes ∷ es) = last_number es

last_least : (n : ℕ) (es : List Entry) → NumbersUpTo n es → last_number es ≤ n
last_least n [] k = omega arith
last_least n (Took message ∷ es) k = last_least n es k
last_least n (Saw number ∷ es) k = last_least n es k.1
last_least n (MadeCut number ∷ es) k = last_least n es k.1
last_least n (Began area number bytes ∷ es) k = k.0
last_least n (ToldSize size number bytes ∷ es) k = last_least n es k.1

module _ (w h : ℕ) (ended : List (List ℕ)) (present : List ℕ) (us : List Update) (first : Begins us (updates_in_turn w h ended present)) where
  short : Each BringsShortText us
  short = first_short w h ended present us first

  abbrev said : List Entry → List ℕ
  said es = stream_of (heard w h us es)

  plays_of : (es : List Entry) → AllAnswered w h us es → AreForPictures w h es → Plays w h (said es) (follows_all w h es).held
  plays_of es k pictures = record_plays w h us es short k (recording_of w h es pictures)

  -- After an answer all of the screen is shown as it was at its number.
  shows_answer : (area : Rect) (n : ℕ) (bytes : List ℕ) (es : List Entry) → AllAnswered w h us (Began area n bytes ∷ es) → AreForPictures w h es → TellsNone es → ShowsAfter w h us (said es ++ bytes) n
  shows_answer area n bytes es k pictures none =
      let now : List Entry = Began area n bytes ∷ es in
      let format : (follows_all w h now).format ≡ host_format = follower_format w h now ∙ full_colour now (recording_of w h now pictures) in
      let holds : HoldsArea (follows_all w h now) (whole_screen w h) (take n us) =
      subst (λ a. HoldsArea (follows_all w h now) a (take n us)) (area_is_all w h us area n bytes es k.0 pictures none) k.0.holds_it in
      subst (λ t. ShowsAfter w h us t n) (stream-bytes (heard w h us es) bytes)
      (λ x y lx ly.
      let colour : ℕ = screen (take n us) x y in
      (plays_of now k pictures).shows x y (tint host_format colour) (holds x y (omega arith) (omega (arith, lx)) (omega arith) (omega (arith, ly)) ∙ ap (λ (f : PixelFormat). Some (tint f colour)) format)
      ∙ pixel_is_colour w h ended present us n x y first)

  in_order : (es : List Entry) → AllAnswered w h us es → AreForPictures w h es → TellsNone es → InOrder w h us (said es) (last_number es)
  in_order [] k pictures none = nothing_said w h us
  in_order (Took (SetPixelFormat format) ∷ es) k pictures none =
      subst (λ t. InOrder w h us t (last_number es)) (sym (stream_took w h us (SetPixelFormat format) es)) (in_order es k pictures.1 none)
  in_order (Took (SetEncodings choice) ∷ es) k pictures none = in_order es k pictures.1 none
  in_order (Took (Ask incremental area) ∷ es) k pictures none = in_order es k pictures.1 none
  in_order (Took (Key down key) ∷ es) k pictures none = in_order es k pictures.1 none
  in_order (Took (Pointer mask x y) ∷ es) k pictures none = in_order es k pictures.1 none
  in_order (Took (CutText text) ∷ es) k pictures none = in_order es k pictures.1 none
  in_order (Took (LostText len) ∷ es) k pictures none = in_order es k pictures.1 none
  in_order (Saw number ∷ es) k pictures none = in_order es k pictures none
  in_order (MadeCut number ∷ es) k pictures none =
      let before : InOrder w h us (said es) (last_number es) = in_order es k pictures none in
      let news : List ℕ = news_at (take number us) (news_since w h es) in
      let quiet : Each Quiet (in_bytes w h news) = quiet_news w h (take number us) (news_since w h es) (each_take BringsShortText number us short) in
      let still : (c : List ℕ) → Begins c news → shown_by w h (said es ++ c) ≡ shown_by w h (said es) = λ c begins. quiet_in w h (said es) news c (plays_of es k pictures).whole quiet begins in
      subst (λ t. InOrder w h us t (last_number es)) (sym (stream-bytes (heard w h us es) news))
      (piece_more w h us (said es) news (last_number es) (last_number es) (λ c. false) (omega arith) before.known
      (subst (λ (canvas : Canvas). LooksLike w h canvas (screen (take (last_number es) us))) (sym (still news (begins_same news))) before.at_end)
      (λ c begins e. still c begins) (λ c begins e. absurd cc) (λ c d begins e. e) before)
  in_order (Began area n bytes ∷ es) k pictures none =
      let before : InOrder w h us (said es) (last_number es) = in_order es k.1 pictures none in
      let whole : rest (host_message w h) (said es) ≡ host_message w h = (plays_of es k.1 pictures).whole in
      let spelled : Spells (host_message w h) bytes (FramebufferUpdate k.0.message.0) =
      subst (λ (f : PixelFormat). Spells (server_message f w h) bytes (FramebufferUpdate k.0.message.0)) (full_colour es (recording_of w h es pictures)) k.0.message.1 in
      subst (λ t. InOrder w h us t n) (sym (stream-bytes (heard w h us es) bytes))
      (piece_more w h us (said es) bytes (last_number es) n (λ c. some_of (in_bytes w h c)) (last_least n es k.0.numbers) k.0.known (shows_answer area n bytes es k pictures none)
      (λ c begins e. before_answer w h (said es) c whole e) (λ c begins e. after_answer w h (said es) bytes c (FramebufferUpdate k.0.message.0) whole spelled begins e)
      (λ c d begins e. let more = begins_messages w h c d begins in ap some_of more.1 ∙ some_more (in_bytes w h c) more.0 e) before)
  in_order (ToldSize size n bytes ∷ es) k pictures none = absurd none

pub never_go_back : PlayersNeverGoBack
never_go_back s lw lh ended present us first role greet acts may pictures front back fb bs =
    let p : Viewer = viewer_after s us (new_viewer role greet) acts in
    let good : IsGood s us p = good_after s us role greet acts lw lh may (recording_of s.w s.h p.entries pictures) in
    let order = in_order s.w s.h ended present us first p.entries good.record_stands.answers pictures (tells_none s us (new_viewer role greet) acts pictures tt) in
    let pair = order.pairs front back fb (subst (Begins back) good.said bs) in
    let under = pair.under in
    let known = order.known in
    record { earlier = pair.earlier; later = pair.later; order = pair.order; known = omega (arith, under, known); shows_earlier = pair.shows_earlier; shows_later = pair.shows_later }
