-- Following a host's bytes message by message, and what one shows who stands between two messages.
use Rattle.std.proofs.Common.{◌≡◌, ℕ, ◌+◌, Bool, true, false, List, [], ◌∷◌, ◌++◌, take, drop, Option, Some, None, refl, sym, ap, subst, ◌∙◌, arith, append_assoc}
use Rattle.std.specs.Prelude.{is_some}
use Rattle.std.specs.List.{filter_map}
use Rattle.std.proofs.lemmas.List.{append-nil, take_all}
use Rattle.std.proofs.Math.Seq.{take-add}
use Rattle.byte_reading.specs.Reading.{Reading, Done, Faulty, Want, after, taken, whole_of, fault_of, wants_more, renewed, rest, messages_from}
use Rattle.byte_reading.proofs.ReadingLaws.{messages-open, messages-taken, renewed_from, rest-append, rest-further, rest-taken, taken-open, wants_from}
use Rattle.raster.specs.Screen.{Canvas, LooksLike, opening}
use Rattle.raster.specs.Update.{Update, screen}
use Rattle.rfb_wire.specs.ServerMessage.{ServerMessage}
use Rattle.painter.specs.Painter.{Painting, worked}
use Rattle.painter.proofs.SameLaws.{after_each}
use Rattle.host_decoder.specs.Decoder.{Decodes, Decoding, Holds, host_message, start}
use Rattle.host_decoder.specs.Events.{BringsWhole, changes, screen_behind}
use Rattle.host_decoder.specs.Updates.{update_of, updates}
use Rattle.host_decoder.specs.declared.event.HostEvent.{HostEvent}
use Rattle.host_decoder.specs.declared.state.HostState.{HostState}
use Rattle.host_decoder.proofs.Brought.{brings_listed}
use Rattle.host_decoder.proofs.ShortUpdates.{updates-append}
use Rattle.rebuilt_index.specs.Following.{FollowsBy}

-- The message of an event, or that none is whole.
message_in : (w h : ℕ) (c : Canvas) (event : HostEvent) (r : Reading ServerMessage) → BringsWhole w h c (Some event) (whole_of r) → (m : ServerMessage) × (r ≡ Done m)
message_in w h c event (Done m) b = (m, refl)
message_in w h c event (Faulty f) b = absurd b
message_in w h c event (Want more) b = absurd b

none_in : (w h : ℕ) (c : Canvas) (r : Reading ServerMessage) → BringsWhole w h c None (whole_of r) → whole_of r ≡ None
none_in w h c (Done m) b = absurd b
none_in w h c (Faulty f) b = refl
none_in w h c (Want more) b = refl

-- A message was whole.
whole_step : (w h : ℕ) (stream piece : List ℕ) (new : Decoding) (painter : Painting) (m : ServerMessage) → new.width ≡ w → new.height ≡ h → new.state ≡ start
    → wants_more (rest (host_message w h) stream) ≡ true → after (rest (host_message w h) stream) piece ≡ Done m
    → Decodes new painter (screen_behind w h (screen (updates w h stream)) (whole_of (after (rest (host_message w h) stream) piece))) (renewed (host_message w h) (after (rest (host_message w h) stream) piece))
    → FollowsBy w h new painter true (stream ++ take (taken (rest (host_message w h) stream) piece) piece)
whole_step w h stream piece new painter m wide high none wants done decodes =
    let form = host_message w h in
    let r : Reading ServerMessage = rest form stream in
    let used : List ℕ = take (taken r piece) piece in
    let ends : rest form (stream ++ used) ≡ form = rest-append form form stream used ∙ rest-taken form r piece m wants done in
    let one : messages_from form r used ≡ m ∷ [] = messages-taken form r piece m wants done in
    let more : updates w h (stream ++ used) ≡ updates w h stream ++ changes w h m =
    updates-append form stream used ∙ (ap (λ (ms : List ServerMessage). updates w h stream ++ filter_map update_of ms) one ∙ ap (λ (us : List Update). updates w h stream ++ us) (sym (brings_listed w h m))) in
    let behind : screen_behind w h (screen (updates w h stream)) (whole_of (after r piece)) ≡ screen (updates w h (stream ++ used)) =
    ap (λ (q : Reading ServerMessage). screen_behind w h (screen (updates w h stream)) (whole_of q)) done
    ∙ (sym (after_each opening (updates w h stream) (changes w h m)) ∙ ap screen (sym more)) in
    let anew : renewed form (after r piece) ≡ form = ap (renewed form) done in
    record {
      wide = wide;
      high = high;
      reads = subst (λ (c : Canvas). Decodes new painter c (rest form (stream ++ used))) behind
          (subst (λ (q : Reading ServerMessage). Decodes new painter (screen_behind w h (screen (updates w h stream)) (whole_of (after r piece))) q) (anew ∙ sym ends) decodes);
      wants = ap wants_more ends;
      between = λ e. ends;
      none = λ e. none;
    }

-- None was.
open_step : (w h : ℕ) (stream piece : List ℕ) (new : Decoding) (painter : Painting) → new.width ≡ w → new.height ≡ h
    → whole_of (after (rest (host_message w h) stream) piece) ≡ None → fault_of (after (rest (host_message w h) stream) piece) ≡ None
    → Decodes new painter (screen_behind w h (screen (updates w h stream)) (whole_of (after (rest (host_message w h) stream) piece))) (renewed (host_message w h) (after (rest (host_message w h) stream) piece))
    → FollowsBy w h new painter false (stream ++ take (taken (rest (host_message w h) stream) piece) piece)
open_step w h stream piece new painter wide high none fine decodes =
    let form = host_message w h in
    let r : Reading ServerMessage = rest form stream in
    let wants : wants_more (after r piece) ≡ true = wants_from (after r piece) none fine in
    let whole : take (taken r piece) piece ≡ piece = take_all (taken r piece) piece (omega (arith, taken-open r piece wants)) in
    let goes : rest form (stream ++ piece) ≡ after r piece = rest-further form form stream piece none in
    let same : updates w h (stream ++ piece) ≡ updates w h stream =
    updates-append form stream piece ∙ (ap (λ (ms : List ServerMessage). updates w h stream ++ filter_map update_of ms) (messages-open form r piece none).0 ∙ append-nil (updates w h stream)) in
    let behind : screen_behind w h (screen (updates w h stream)) (whole_of (after r piece)) ≡ screen (updates w h (stream ++ piece)) =
    ap (screen_behind w h (screen (updates w h stream))) none ∙ ap screen (sym same) in
    let stays : renewed form (after r piece) ≡ after r piece = renewed_from form (after r piece) none in
    let all : FollowsBy w h new painter false (stream ++ piece) = record {
      wide = wide;
      high = high;
      reads = subst (λ (c : Canvas). Decodes new painter c (rest form (stream ++ piece))) behind
          (subst (λ (q : Reading ServerMessage). Decodes new painter (screen_behind w h (screen (updates w h stream)) (whole_of (after r piece))) q) (stays ∙ sym goes) decodes);
      wants = ap wants_more goes ∙ wants;
      between = λ e. absurd cc;
      none = λ e. absurd cc;
    } in
    subst (λ (xs : List ℕ). FollowsBy w h new painter false (stream ++ xs)) (sym whole) all

-- Either.
by_step : (w h : ℕ) (stream piece : List ℕ) (new : Decoding) (painter : Painting) (answer : Option HostEvent) → new.width ≡ w → new.height ≡ h → (is_some answer ≡ true → new.state ≡ start)
    → wants_more (rest (host_message w h) stream) ≡ true → fault_of (after (rest (host_message w h) stream) piece) ≡ None
    → BringsWhole w h (screen (updates w h stream)) answer (whole_of (after (rest (host_message w h) stream) piece))
    → Decodes new painter (screen_behind w h (screen (updates w h stream)) (whole_of (after (rest (host_message w h) stream) piece))) (renewed (host_message w h) (after (rest (host_message w h) stream) piece))
    → FollowsBy w h new painter (is_some answer) (stream ++ take (taken (rest (host_message w h) stream) piece) piece)
by_step w h stream piece new painter (Some event) wide high none wants fine gives decodes =
    let f = message_in w h (screen (updates w h stream)) event (after (rest (host_message w h) stream) piece) gives in
    whole_step w h stream piece new painter f.0 wide high (none refl) wants f.1 decodes
by_step w h stream piece new painter None wide high none wants fine gives decodes =
    open_step w h stream piece new painter wide high (none_in w h (screen (updates w h stream)) (after (rest (host_message w h) stream) piece) gives) fine decodes

-- The decoder was of this size before, too.
pub step : (w h dw dh : ℕ) (stream piece : List ℕ) (new : Decoding) (painter : Painting) (answer : Option HostEvent) → dw ≡ w → dh ≡ h → new.width ≡ dw → new.height ≡ dh → (is_some answer ≡ true → new.state ≡ start)
    → wants_more (rest (host_message w h) stream) ≡ true → fault_of (after (rest (host_message w h) stream) piece) ≡ None
    → BringsWhole dw dh (screen (updates w h stream)) answer (whole_of (after (rest (host_message w h) stream) piece))
    → Decodes new painter (screen_behind dw dh (screen (updates w h stream)) (whole_of (after (rest (host_message w h) stream) piece))) (renewed (host_message dw dh) (after (rest (host_message w h) stream) piece))
    → FollowsBy w h new painter (is_some answer) (stream ++ take (taken (rest (host_message w h) stream) piece) piece)
step w h dw dh stream piece new painter answer ew eh wide high none wants fine gives decodes =
    let r : Reading ServerMessage = after (rest (host_message w h) stream) piece in
    let c : Canvas = screen (updates w h stream) in
    by_step w h stream piece new painter answer (wide ∙ ew) (high ∙ eh) none wants fine
    (subst (λ (a : ℕ). BringsWhole a h c answer (whole_of r)) ew (subst (λ (b : ℕ). BringsWhole dw b c answer (whole_of r)) eh gives))
    (subst (λ (a : ℕ). Decodes new painter (screen_behind a h c (whole_of r)) (renewed (host_message a h) r)) ew
    (subst (λ (b : ℕ). Decodes new painter (screen_behind dw b c (whole_of r)) (renewed (host_message dw b) r)) eh decodes))

-- Between two messages the painter shows the screen.
shows_by : (w h : ℕ) (state : HostState) (c : Canvas) (painter : Painting) (decoder : Decoding) (r : Reading ServerMessage) → decoder.state ≡ start → Decodes decoder painter c r → Holds c painter []
shows_by w h state c painter decoder r e decodes =
    let P : HostState → Type 0 = λ s. Decodes (record decoder { state = s }) painter c r in
    let open_ = subst P e decodes in
    subst (λ sofar. Holds c painter sofar) open_.suited open_.holds

pub shows : (w h : ℕ) (decoder : Decoding) (painter : Painting) (is_between : Bool) (stream : List ℕ) → FollowsBy w h decoder painter is_between stream → is_between ≡ true → LooksLike painter.width painter.height (worked painter) (screen (updates w h stream))
shows w h decoder painter is_between stream f e =
    (shows_by w h decoder.state (screen (updates w h stream)) painter decoder (rest (host_message w h) stream) (f.none e) f.reads).shows

-- ---- a piece, part by part

pub further : (stream piece left : List ℕ) (used count : ℕ) → left ≡ drop used piece → (stream ++ take used piece) ++ take count left ≡ stream ++ take (used + count) piece
further stream piece left used count e =
    append_assoc stream (take used piece) (take count left) ∙ ap (λ (xs : List ℕ). stream ++ xs) (ap (λ (xs : List ℕ). take used piece ++ take count xs) e ∙ sym (take-add used count piece))
