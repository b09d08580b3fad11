-- Reading a host's bytes message by message. `run_host` owes the updates of all bytes that it took.
use Rattle.std.proofs.Common.{◌≡◌, ℕ, ◌+◌, ◌<◌, ◌≤◌, Bool, true, false, List, [], ◌∷◌, ◌++◌, length, take, drop, Some, None, Ok, Err, ◌^◌, ◌⊎◌, length-append, inl, inr, refl, sym, ap, subst, ◌∙◌, arith, append_assoc}
use Rattle.std.proofs.lemmas.List.{append-nil, take_all, take-append-drop}
use Rattle.std.proofs.lemmas.List.Elements.{filter_map-append}
use Rattle.std.proofs.lemmas.Bool.{cases_lt}
use Rattle.std.proofs.Math.Seq.{take-add}
use Rattle.std.specs.Prelude.{min, Option, Result, OnOk, IfErr}
use Rattle.link.specs.Links.{LinkState, HasRisen, TakesAs, with_end, with_failure}
use Rattle.link.specs.declared.link.Took.{Took}
use Rattle.link.specs.declared.link.Took.TheVariants as took
use Rattle.std.specs.List.{filter_map}
use Rattle.byte_reading.specs.Reading.{Reading, Done, Faulty, Want, after, taken, whole_of, fault_of, wants_more, renewed, messages, rest, messages_from, rest_from}
use Rattle.fault.specs.declared.kinds.Fault.{Fault}
use Rattle.fault.specs.declared.kinds.Fault.TheVariants.{LinkEnded, LinkFailed, Memory, NumbersOut}
use Rattle.byte_reading.proofs.ReadingLaws.{after-append, messages-append, messages-open, messages-taken, none_whole, renewed_from, rest-append, rest-further, rest-taken, taken-le, taken-open, taken-some, wants_from}
use Rattle.raster.specs.Screen.{Canvas}
use Rattle.raster.specs.Update.{Update, after_updates}
use Rattle.rfb_wire.specs.ServerMessage.{ServerMessage, FramebufferUpdate, SetColorMapEntries, Bell, ServerCutText, LostText}
use Rattle.painter.specs.Painter.{Painting}
use Rattle.painter.specs.Same.{AreSameUpdates}
use Rattle.painter.proofs.SameLaws.{after_each, behind_each, none_each}
use Rattle.host_decoder.specs.Decoder.{Decodes, Decoding, Feeds, host_message}
use Rattle.host_decoder.specs.Events.{Brings, BringsWhole, IsSized, brought_by, changes, event_of, screen_behind}
use Rattle.host_decoder.specs.Updates.{update_of, updates}
use Rattle.host_decoder.specs.declared.event.HostEvent.{HostEvent}
use Rattle.reflect_core.specs.Plain.{IsPutRefusal}
use Rattle.reflect_core.specs.Sequential.{Begins}
use Rattle.host_reader.specs.Running.{ArePut, AtFault, CanRead, EndsAt, EndsBetween, EndsWith, IsInside, HasRead, Stops, outcome}
use Rattle.host_reader.specs.Moment.{EndsSo, HasReadSoFar, HasStopped, IsReadSoFar, IsRunning, ReadsSoFar, RunsOrEnds}

-- ---- what a message brings

brings : (w h : ℕ) (m : ServerMessage) → brought_by (event_of w h m) ≡ filter_map update_of (m ∷ [])
brings w h (FramebufferUpdate paints) = refl
brings w h SetColorMapEntries = refl
brings w h Bell = refl
brings w h (ServerCutText text) = refl
brings w h (LostText len) = refl

-- The message of an event, and that there is none where there is no event.
pub brought : (w h : ℕ) (screen : Canvas) (answer : Option HostEvent) (event : HostEvent) (now : Reading ServerMessage) → answer ≡ Some event → BringsWhole w h screen answer (whole_of now)
    → (m : ServerMessage) × (now ≡ Done m) × Brings w h screen event m
brought w h screen answer event now is gives = brought_by_one now (subst (λ (o : Option HostEvent). BringsWhole w h screen o (whole_of now)) is gives)
  where
    brought_by_one : (r : Reading ServerMessage) → BringsWhole w h screen (Some event) (whole_of r) → (m : ServerMessage) × (r ≡ Done m) × Brings w h screen event m
    brought_by_one (Done m) b = (m, refl, b)
    brought_by_one (Faulty f) b = absurd b
    brought_by_one (Want more) b = absurd b

pub unbrought : (w h : ℕ) (screen : Canvas) (answer : Option HostEvent) (now : Reading ServerMessage) → answer ≡ None → BringsWhole w h screen answer (whole_of now) → whole_of now ≡ None
unbrought w h screen answer now is gives = none_of now (subst (λ (o : Option HostEvent). BringsWhole w h screen o (whole_of now)) is gives)
  where
    none_of : (r : Reading ServerMessage) → BringsWhole w h screen None (whole_of r) → whole_of r ≡ None
    none_of (Done m) b = absurd b
    none_of (Faulty f) b = refl
    none_of (Want more) b = refl

-- An event is for the publisher's screen, which is the decoder's.
pub event_suits : (w h dw dh pw ph : ℕ) (screen : Canvas) (answer : Option HostEvent) (event : HostEvent) (now : Reading ServerMessage) → dw ≡ w → dh ≡ h → pw ≡ w → ph ≡ h → answer ≡ Some event
    → BringsWhole dw dh screen answer (whole_of now) → IsSized pw ph event
event_suits w h dw dh pw ph screen answer event now a b c d is gives =
    let f = brought dw dh screen answer event now is gives in
    rw (c ∙ sym a, d ∙ sym b) f.2.sized

-- ---- the updates of more bytes

updates_more : (w h : ℕ) (xs ys : List ℕ) → updates w h (xs ++ ys) ≡ updates w h xs ++ filter_map update_of (messages_from (host_message w h) (rest (host_message w h) xs) ys)
updates_more w h xs ys =
    let form = host_message w h in
    ap (λ (ms : List ServerMessage). filter_map update_of ms) (messages-append form form xs ys) ∙ filter_map-append update_of (messages form xs) (messages_from form (rest form xs) ys)

-- Those of the first bytes are the first.
pub updates_begin : (w h : ℕ) (xs ys : List ℕ) → Begins (updates w h xs) (updates w h (xs ++ ys))
updates_begin w h xs ys = (filter_map update_of (messages_from (host_message w h) (rest (host_message w h) xs) ys), updates_more w h xs ys)

-- Bytes that end no message bring none.
updates_same : (w h : ℕ) (xs ys : List ℕ) → whole_of (after (rest (host_message w h) xs) ys) ≡ None → updates w h (xs ++ ys) ≡ updates w h xs
updates_same w h xs ys n =
    let open_ = messages-open (host_message w h) (rest (host_message w h) xs) ys n in
    updates_more w h xs ys ∙ (ap (λ (ms : List ServerMessage). updates w h xs ++ filter_map update_of ms) open_.0 ∙ append-nil (updates w h xs))

-- ---- in the middle of a message

-- Reading the bytes that begin a message is how the stream goes on.
inside_rest : (w h : ℕ) (stream : List ℕ) (i : IsInside w h stream) → rest (host_message w h) stream ≡ after (host_message w h) i.begun
inside_rest w h stream i =
    let form = host_message w h in
    ap (rest form) i.bytes ∙ (rest-append form form i.whole i.begun ∙ (ap (λ (r : Reading ServerMessage). rest_from form r i.begun) i.between ∙ (messages-open form form i.begun (none_whole (after form i.begun) i.wants)).1))

goes_inside : (w h : ℕ) (is_between : Bool) (stream more : List ℕ) → EndsAt is_between w h stream → 0 < length more → wants_more (after (rest (host_message w h) stream) more) ≡ true → IsInside w h (stream ++ more)
goes_inside w h true stream more e some wants =
    record {
      whole = stream;
      begun = more;
      bytes = refl;
      between = e;
      some = some;
      wants = sym (ap (λ (r : Reading ServerMessage). wants_more (after r more)) e) ∙ wants;
    }
goes_inside w h false stream more i some wants =
    let form = host_message w h in
    let count = length-append i.begun more in
    record {
      whole = i.whole;
      begun = i.begun ++ more;
      bytes = ap (λ (xs : List ℕ). xs ++ more) i.bytes ∙ append_assoc i.whole i.begun more;
      between = i.between;
      some = omega (arith, count, some);
      wants = ap wants_more (after-append form i.begun more ∙ sym (ap (λ (r : Reading ServerMessage). after r more) (inside_rest w h stream i))) ∙ wants;
    }

-- ---- a step of the loop over a piece

-- Some bytes of a piece, and then some more.
pub further : (stream piece left : List ℕ) (used count : ℕ) → left ≡ drop used piece → (stream ++ take used piece) ++ take count left ≡ stream ++ take (used + count) piece
further stream piece left used count e =
    append_assoc stream (take used piece) (take count left) ∙ ap (λ (xs : List ℕ). stream ++ xs) (ap (λ (xs : List ℕ). take used piece ++ take count xs) e ∙ sym (take-add used count piece))

-- And then all that are left.
pub to_the_end : (stream piece left : List ℕ) (used : ℕ) → left ≡ drop used piece → (stream ++ take used piece) ++ left ≡ stream ++ piece
to_the_end stream piece left used e =
    append_assoc stream (take used piece) left ∙ ap (λ (xs : List ℕ). stream ++ xs) (ap (λ (xs : List ℕ). take used piece ++ xs) e ∙ take-append-drop used piece)

-- A decoder for which more is wanted uses some of what it is fed, and no more than there is.
pub uses_some : (decoder fed : Decoding) (old new : Painting) (screen : Canvas) (now : Reading ServerMessage) (left : List ℕ) (count : ℕ) → wants_more now ≡ true → 0 < length left → Feeds fed new screen now left (Ok count) → (0 < count) × (count ≤ length left)
uses_some decoder fed old new screen now left count w some f =
    let least = taken-some now left w some in
    let most = taken-le now left in
    (omega (arith, least, f.1), omega (arith, most, f.1))

-- A message was whole, and its update was put.
pub read_whole : (w h : ℕ) (screen : Canvas) (decoder fed new : Decoding) (painter other : Painting) (is_between : Bool) (stream left : List ℕ) (old now next : List Update) (count : ℕ) (answer : Option HostEvent) (event : HostEvent)
    → fed.width ≡ w → fed.height ≡ h → HasRead w h screen decoder painter is_between stream old now → Feeds fed other (after_updates screen (updates w h stream)) (rest (host_message w h) stream) left (Ok count) → answer ≡ Some event
    → BringsWhole fed.width fed.height (after_updates screen (updates w h stream)) answer (whole_of (after (rest (host_message w h) stream) left))
    → Decodes new other (screen_behind fed.width fed.height (after_updates screen (updates w h stream)) (whole_of (after (rest (host_message w h) stream) left))) (renewed (host_message fed.width fed.height) (after (rest (host_message w h) stream) left))
    → next ≡ now ++ brought_by event → HasRead w h screen new other true (stream ++ take count left) old next
read_whole w h screen decoder fed new painter other is_between stream left old now next count answer event wide high read feeds is gives decodes put =
    let form = host_message w h in
    let r = rest form stream in
    let before : Canvas = after_updates screen (updates w h stream) in
    let given : BringsWhole w h before answer (whole_of (after r left)) =
    subst (λ (a : ℕ). BringsWhole a h before answer (whole_of (after r left))) wide (subst (λ (b : ℕ). BringsWhole fed.width b before answer (whole_of (after r left))) high gives) in
    let f = brought w h before answer event (after r left) is given in
    let n : take count left ≡ take (taken r left) left = ap (λ k. take k left) feeds.1 in
    let ends : rest form (stream ++ take count left) ≡ form =
    rest-append form form stream (take count left) ∙ (ap (λ (xs : List ℕ). rest_from form r xs) n ∙ rest-taken form r left f.0 read.wants f.1) in
    let one : messages_from form r (take count left) ≡ f.0 ∷ [] = ap (λ (xs : List ℕ). messages_from form r xs) n ∙ messages-taken form r left f.0 read.wants f.1 in
    let more : updates w h (stream ++ take count left) ≡ updates w h stream ++ changes w h f.0 =
    updates_more w h stream (take count left)
    ∙ (ap (λ (ms : List ServerMessage). updates w h stream ++ filter_map update_of ms) one ∙ ap (λ (us : List Update). updates w h stream ++ us) (sym (brings w h f.0))) in
    let behind : screen_behind fed.width fed.height before (whole_of (after r left)) ≡ after_updates screen (updates w h (stream ++ take count left)) =
    ap (λ (a : ℕ). screen_behind a fed.height before (whole_of (after r left))) wide
    ∙ (ap (λ (b : ℕ). screen_behind w b before (whole_of (after r left))) high
    ∙ (ap (λ (q : Reading ServerMessage). screen_behind w h before (whole_of q)) f.1
    ∙ (sym (after_each screen (updates w h stream) (changes w h f.0)) ∙ ap (after_updates screen) (sym more)))) in
    let anew : renewed (host_message fed.width fed.height) (after r left) ≡ form = ap (λ (q : Reading ServerMessage). renewed (host_message fed.width fed.height) q) f.1 ∙ (ap (λ a. host_message a fed.height) wide ∙ ap (host_message w) high) in
    record {
      reads = subst (λ (c : Canvas). Decodes new other c (rest form (stream ++ take count left))) behind
          (subst (λ (q : Reading ServerMessage). Decodes new other (screen_behind fed.width fed.height before (whole_of (after r left))) q) (anew ∙ sym ends) decodes);
      wants = ap wants_more ends;
      ends = ends;
      put = record {
        put = read.put.put ++ brought_by event;
        added = put ∙ (ap (λ (us : List Update). us ++ brought_by event) read.put.added ∙ append_assoc old read.put.put (brought_by event));
        same = subst (λ (us : List Update). AreSameUpdates w h screen us (read.put.put ++ brought_by event)) (sym more)
            (behind_each w h screen (updates w h stream) read.put.put (changes w h f.0) (brought_by event) read.put.same f.2.same);
      };
    }

-- What was put is what the same bytes bring, where some more bring nothing.
put_same : (w h : ℕ) (screen : Canvas) (stream other : List ℕ) (old now : List Update) → updates w h other ≡ updates w h stream → ArePut w h screen stream old now → ArePut w h screen other old now
put_same w h screen stream other old now same put = record { put = put.put; added = put.added; same = subst (λ (us : List Update). AreSameUpdates w h screen us put.put) (sym same) put.same }

-- None was.
pub read_open : (w h : ℕ) (screen : Canvas) (decoder fed new : Decoding) (painter other : Painting) (is_between : Bool) (stream left : List ℕ) (old now : List Update) (count : ℕ) (answer : Option HostEvent)
    → 0 < length left → HasRead w h screen decoder painter is_between stream old now → Feeds fed other (after_updates screen (updates w h stream)) (rest (host_message w h) stream) left (Ok count) → answer ≡ None
    → BringsWhole fed.width fed.height (after_updates screen (updates w h stream)) answer (whole_of (after (rest (host_message w h) stream) left))
    → Decodes new other (screen_behind fed.width fed.height (after_updates screen (updates w h stream)) (whole_of (after (rest (host_message w h) stream) left))) (renewed (host_message fed.width fed.height) (after (rest (host_message w h) stream) left))
    → HasRead w h screen new other false (stream ++ take count left) old now
read_open w h screen decoder fed new painter other is_between stream left old now count answer some read feeds is gives decodes =
    let form = host_message w h in
    let r = rest form stream in
    let before : Canvas = after_updates screen (updates w h stream) in
    let none : whole_of (after r left) ≡ None = unbrought fed.width fed.height before answer (after r left) is gives in
    let wants : wants_more (after r left) ≡ true = wants_from (after r left) none feeds.2 in
    let all : count ≡ length left = feeds.1 ∙ taken-open r left wants in
    let whole : take count left ≡ left = take_all count left (omega (arith, all)) in
    let goes : rest form (stream ++ left) ≡ after r left = rest-further (host_message w h) (host_message w h) stream left none in
    let same : updates w h (stream ++ left) ≡ updates w h stream = updates_same w h stream left none in
    let behind : screen_behind fed.width fed.height before (whole_of (after r left)) ≡ after_updates screen (updates w h (stream ++ left)) =
    ap (screen_behind fed.width fed.height before) none ∙ ap (after_updates screen) (sym same) in
    let inside : HasRead w h screen new other false (stream ++ left) old now =
    record {
      reads = subst (λ (c : Canvas). Decodes new other c (rest form (stream ++ left))) behind
          (subst (λ (q : Reading ServerMessage). Decodes new other (screen_behind fed.width fed.height before (whole_of (after r left))) q) (renewed_from (host_message fed.width fed.height) (after r left) none ∙ sym goes) decodes);
      wants = ap wants_more goes ∙ wants;
      ends = goes_inside w h is_between stream left read.ends some wants;
      put = put_same w h screen stream (stream ++ left) old now same read.put;
    } in
    subst (λ (xs : List ℕ). HasRead w h screen new other false (stream ++ xs) old now) (sym whole) inside

-- The decoder is at a fault, or was refused memory.
pub read_stops : (w h : ℕ) (screen : Canvas) (decoder fed : Decoding) (painter other : Painting) (is_between : Bool) (stream left whole : List ℕ) (old now : List Update) (fault : Fault)
    → stream ++ left ≡ whole → HasRead w h screen decoder painter is_between stream old now → Feeds fed other (after_updates screen (updates w h stream)) (rest (host_message w h) stream) left (Err fault) → Stops w h screen fault whole old now
read_stops w h screen decoder fed painter other is_between stream left whole old now fault e read (inl refused) =
    inl (record {
      put = read.put.put;
      added = read.put.added;
      first = updates w h stream;
      begins = subst (λ (xs : List ℕ). Begins (updates w h stream) (updates w h xs)) e (updates_begin w h stream left);
      same = read.put.same;
      why = inl refused.0;
    })
read_stops w h screen decoder fed painter other is_between stream left whole old now fault e read (inr faulty) =
    let r = rest (host_message w h) stream in
    let none : whole_of (after r left) ≡ None = ap whole_of faulty.0 in
    let at : AtFault w h screen fault (stream ++ left) old now =
    record { put = put_same w h screen stream (stream ++ left) old now (updates_same w h stream left none) read.put; rest = rest-further (host_message w h) (host_message w h) stream left none ∙ faulty.0 } in
    inr (subst (λ (xs : List ℕ). AtFault w h screen fault xs old now) e at)

why_refused : (count : ℕ) (fault : Fault) → IsPutRefusal count fault → (fault ≡ Memory) ⊎ ((fault ≡ NumbersOut) × (count ≡ 2 ^ 62))
why_refused count fault (inl p) = inl p.1
why_refused count fault (inr p) = inr (p.1, p.0)

-- An update was refused.
pub put_stops : (w h : ℕ) (screen : Canvas) (decoder : Decoding) (painter : Painting) (is_between : Bool) (stream left whole : List ℕ) (old now next : List Update) (fault : Fault)
    → stream ++ left ≡ whole → HasRead w h screen decoder painter is_between stream old now → IsPutRefusal (length now) fault → next ≡ now → Stops w h screen fault whole old next
put_stops w h screen decoder painter is_between stream left whole old now next fault e read refused same =
    inl (
    record {
      put = read.put.put;
      added = same ∙ read.put.added;
      first = updates w h stream;
      same = read.put.same;
      begins = subst (λ (xs : List ℕ). Begins (updates w h stream) (updates w h xs)) e (updates_begin w h stream left);
      why = subst (λ (us : List Update). (fault ≡ Memory) ⊎ ((fault ≡ NumbersOut) × (length us ≡ 2 ^ 62))) (sym same) (why_refused (length now) fault refused);
    }
    )

-- ---- the loop over pieces

pub running_begins : (screen : Canvas) (decoder : Decoding) (painter : Painting) (link : LinkState) (old : List Update) → Decodes decoder painter screen (host_message decoder.width decoder.height)
    → IsRunning decoder.width decoder.height screen decoder painter true link link old old
running_begins screen decoder painter link old decodes =
    record {
      stream = [];
      took = ap (λ (bs : List ℕ). record link { taken = bs }) (sym (append-nil link.taken));
      read = record { reads = decodes; wants = refl; ends = refl; put = record { put = []; added = sym (append-nil old); same = none_each decoder.width decoder.height screen } };
    }

-- ---- more is wanted

-- After a whole message another is wanted.
pub can_whole : (fed new : Decoding) (other : Painting) (screen : Canvas) (now : Reading ServerMessage) (answer : Option HostEvent) (event : HostEvent) → answer ≡ Some event → BringsWhole fed.width fed.height screen answer (whole_of now)
    → Decodes new other (screen_behind fed.width fed.height screen (whole_of now)) (renewed (host_message fed.width fed.height) now) → CanRead new other
can_whole fed new other screen now answer event is gives decodes =
    let form = host_message fed.width fed.height in
    let f = brought fed.width fed.height screen answer event now is gives in
    record {
      screen = screen_behind fed.width fed.height screen (whole_of now);
      reading = form;
      reads = subst (λ (q : Reading ServerMessage). Decodes new other (screen_behind fed.width fed.height screen (whole_of now)) q) (ap (λ (q : Reading ServerMessage). renewed form q) f.1) decodes;
      wants = refl;
    }

-- And inside one more of it.
pub can_open : (fed new : Decoding) (other : Painting) (screen : Canvas) (now : Reading ServerMessage) (answer : Option HostEvent) → answer ≡ None → BringsWhole fed.width fed.height screen answer (whole_of now) → fault_of now ≡ None
    → Decodes new other (screen_behind fed.width fed.height screen (whole_of now)) (renewed (host_message fed.width fed.height) now) → CanRead new other
can_open fed new other screen now answer is gives fine decodes =
    let none = unbrought fed.width fed.height screen answer now is gives in
    record {
      screen = screen_behind fed.width fed.height screen (whole_of now);
      reading = now;
      reads = subst (λ (q : Reading ServerMessage). Decodes new other (screen_behind fed.width fed.height screen (whole_of now)) q) (renewed_from (host_message fed.width fed.height) now none) decodes;
      wants = wants_from now none fine;
    }

-- What the front of the buffer holds was taken.
pub took_piece : (old new : LinkState) (into seen piece : List ℕ) (count : ℕ) → piece ≡ take count seen → seen ≡ into → new ≡ record old { taken = old.taken ++ take count into } → new ≡ record old { taken = old.taken ++ piece }
took_piece old new into seen piece count front same took = took ∙ ap (λ (xs : List ℕ). record old { taken = old.taken ++ xs }) (sym (front ∙ ap (take count) same))

-- One piece and then another.
took_more : (old now next : LinkState) (stream piece : List ℕ) → now ≡ record old { taken = old.taken ++ stream } → next ≡ record now { taken = now.taken ++ piece } → next ≡ record old { taken = old.taken ++ (stream ++ piece) }
took_more old now next stream piece first took =
    took ∙ (ap (λ (l : LinkState). record l { taken = l.taken ++ piece }) first ∙ ap (λ (bs : List ℕ). record old { taken = bs }) (append_assoc old.taken stream piece))

-- A piece more was taken, and read to its end.
pub running_goes_on : (w h : ℕ) (screen : Canvas) (decoder new : Decoding) (painter other : Painting) (is_between goes_between : Bool) (link_old link_now link_next : LinkState) (piece : List ℕ) (old now next : List Update)
    → decoder.width ≡ w → decoder.height ≡ h → IsRunning w h screen decoder painter is_between link_old link_now old now → link_next ≡ record link_now { taken = link_now.taken ++ piece }
    → ((stream : List ℕ) → (since : List Update) → HasRead decoder.width decoder.height screen decoder painter is_between stream since now → HasRead decoder.width decoder.height screen new other goes_between (stream ++ piece) since next)
    → IsRunning w h screen new other goes_between link_old link_next old next
running_goes_on w h screen decoder new painter other is_between goes_between link_old link_now link_next piece old now next wide high running took puts =
    let read = subst (λ a. HasRead a decoder.height screen decoder painter is_between running.stream old now) (sym wide) (subst (λ b. HasRead w b screen decoder painter is_between running.stream old now) (sym high) running.read) in
    let more = puts running.stream old read in
    record {
      stream = running.stream ++ piece;
      took = took_more link_old link_now link_next running.stream piece running.took took;
      read = subst (λ a. HasRead a h screen new other goes_between (running.stream ++ piece) old next) wide (subst (λ b. HasRead decoder.width b screen new other goes_between (running.stream ++ piece) old next) high more);
    }

-- Or it wasn't.
pub running_stops : (w h : ℕ) (screen : Canvas) (decoder : Decoding) (painter : Painting) (is_between : Bool) (link_old link_now link_next : LinkState) (piece : List ℕ) (old now next : List Update) (fault : Fault)
    → decoder.width ≡ w → decoder.height ≡ h → IsRunning w h screen decoder painter is_between link_old link_now old now → link_next ≡ record link_now { taken = link_now.taken ++ piece }
    → ((stream : List ℕ) → (since : List Update) → HasRead decoder.width decoder.height screen decoder painter is_between stream since now → Stops decoder.width decoder.height screen fault (stream ++ piece) since next)
    → EndsWith w h screen fault link_old link_next old next
running_stops w h screen decoder painter is_between link_old link_now link_next piece old now next fault wide high running took stops =
    let read = subst (λ a. HasRead a decoder.height screen decoder painter is_between running.stream old now) (sym wide) (subst (λ b. HasRead w b screen decoder painter is_between running.stream old now) (sym high) running.read) in
    let stopped = stops running.stream old read in
    record {
      stream = running.stream ++ piece;
      taken = ap (λ (l : LinkState). l.taken) (took_more link_old link_now link_next running.stream piece running.took took);
      stops = inr (subst (λ a. Stops a h screen fault (running.stream ++ piece) old next) wide (subst (λ b. Stops decoder.width b screen fault (running.stream ++ piece) old next) high stopped));
    }

rises_by : (limit old new : ℕ) → new ≡ min limit (old + 1) → (old < limit) ⊎ (limit ≤ old) → (old < new) ⊎ (new ≡ limit)
rises_by limit old new next (inl lt) = inl (omega (arith, next, lt))
rises_by limit old new next (inr le) = inr (omega (arith, next, le))

rises : (old new : ℕ) → new ≡ min (2 ^ 62) (old + 1) → HasRisen old new
rises old new next = rises_by (2 ^ 62) old new next (cases_lt old (2 ^ 62))

-- The link failed.
running_fails : (w h : ℕ) (screen : Canvas) (decoder : Decoding) (painter : Painting) (is_between : Bool) (link_old link_now link_next : LinkState) (old now : List Update)
    → IsRunning w h screen decoder painter is_between link_old link_now old now → link_next ≡ with_failure link_now → EndsWith w h screen LinkFailed link_old link_next old now
running_fails w h screen decoder painter is_between link_old link_now link_next old now running failed =
    let last : link_next ≡ with_failure (record link_old { taken = link_old.taken ++ running.stream }) = failed ∙ ap with_failure running.took in
    record { stream = running.stream; taken = ap (λ (l : LinkState). l.taken) last; stops = inl (running.read.put, rises link_old.failed link_next.failed (ap (λ (l : LinkState). l.failed) last)) }

-- The link said that it ended, between two messages.
running_ends : (w h : ℕ) (screen : Canvas) (decoder : Decoding) (painter : Painting) (link_old link_now link_next : LinkState) (old now : List Update)
    → IsRunning w h screen decoder painter true link_old link_now old now → link_next ≡ with_end link_now → EndsBetween w h screen link_old link_next old now
running_ends w h screen decoder painter link_old link_now link_next old now running ended =
    let last : link_next ≡ with_end (record link_old { taken = link_old.taken ++ running.stream }) = ended ∙ ap with_end running.took in
    record {
      stream = running.stream;
      taken = ap (λ (l : LinkState). l.taken) last;
      put = running.read.put;
      between = running.read.ends;
      ended = rises link_old.ended link_next.ended (ap (λ (l : LinkState). l.ended) last);
      failed = ap (λ (l : LinkState). l.failed) last;
    }

-- Or inside one.
running_ends_inside : (w h : ℕ) (screen : Canvas) (decoder : Decoding) (painter : Painting) (link_old link_now link_next : LinkState) (old now : List Update)
    → IsRunning w h screen decoder painter false link_old link_now old now → link_next ≡ with_end link_now → EndsWith w h screen LinkEnded link_old link_next old now
running_ends_inside w h screen decoder painter link_old link_now link_next old now running ended =
    let last : link_next ≡ with_end (record link_old { taken = link_old.taken ++ running.stream }) = ended ∙ ap with_end running.took in
    record {
      stream = running.stream;
      taken = ap (λ (l : LinkState). l.taken) last;
      stops = inl (running.read.put, (rises link_old.ended link_next.ended (ap (λ (l : LinkState). l.ended) last), running.read.ends));
    }

-- ---- one answer of the link

-- Whatever it answers, a link that takes is given nothing.
pub gives_nothing : (said : Took) (old new : LinkState) (into : List ℕ) → TakesAs said old new into → new.given ≡ old.given
gives_nothing (took.Bytes count) old new into takes = ap (λ (l : LinkState). l.given) takes.2
gives_nothing took.Nothing old new into takes = ap (λ (l : LinkState). l.given) takes
gives_nothing took.End old new into takes = ap (λ (l : LinkState). l.given) takes
gives_nothing took.Failed old new into takes = ap (λ (l : LinkState). l.given) takes

-- What is wanted is what can be read.
pub running_reads : (w h : ℕ) (screen : Canvas) (decoder : Decoding) (painter : Painting) (is_between : Bool) (link_old link_now : LinkState) (old now : List Update) → IsRunning w h screen decoder painter is_between link_old link_now old now → CanRead decoder painter
running_reads w h screen decoder painter is_between link_old link_now old now running =
    record { screen = after_updates screen (updates w h running.stream); reading = rest (host_message w h) running.stream; reads = running.read.reads; wants = running.read.wants }

-- Nothing was taken, since there was no room.
pub no_room : (w h : ℕ) (screen : Canvas) (link : LinkState) (old : List Update) → EndsWith w h screen Memory link link old old
no_room w h screen link old =
    record {
      stream = [];
      taken = sym (append-nil link.taken);
      stops = inr (inl (record { put = []; added = sym (append-nil old); first = []; begins = (updates w h [], refl); same = none_each w h screen; why = inl refl }));
    }

-- What the run then answers, apart for each answer.
pub ends_ok : (w h : ℕ) (Began : Canvas → Type 0) (answer : Result (Unit {0}) Fault) (link_old link_new : LinkState) (old new : List Update) → ((screen : Canvas) → Began screen → EndsSo w h screen answer link_old link_new old new)
    → OnOk answer ((screen : Canvas) → Began screen → EndsBetween w h screen link_old link_new old new)
ends_ok w h Began (Ok done) link_old link_new old new ends = ends
ends_ok w h Began (Err fault) link_old link_new old new ends = tt

pub ends_err : (w h : ℕ) (Began : Canvas → Type 0) (answer : Result (Unit {0}) Fault) (link_old link_new : LinkState) (old new : List Update) → ((screen : Canvas) → Began screen → EndsSo w h screen answer link_old link_new old new)
    → IfErr answer (λ fault. (screen : Canvas) → Began screen → EndsWith w h screen fault link_old link_new old new)
ends_err w h Began (Ok done) link_old link_new old new ends = tt
ends_err w h Began (Err fault) link_old link_new old new ends = ends

-- ---- an answer of the link that brings no bytes

-- The run goes on, or ends as it is told.
pub run_ends : (w h : ℕ) (screen : Canvas) (decoder : Decoding) (painter : Painting) (said : Took) (is_between : Bool) (ends : Option (Result (Unit {0}) Fault)) (link_old link_now link_next : LinkState) (into : List ℕ) (old now : List Update)
    → ends ≡ outcome said is_between → ((count : ℕ) → said ≡ took.Bytes count → ⊥) → TakesAs said link_now link_next into → IsRunning w h screen decoder painter is_between link_old link_now old now
    → RunsOrEnds ends w h screen decoder painter is_between link_old link_next old now
run_ends w h screen decoder painter said is_between ends link_old link_now link_next into old now is never takes running =
    subst (λ (e : Option (Result (Unit {0}) Fault)). RunsOrEnds e w h screen decoder painter is_between link_old link_next old now) (sym is) (ends_so said is_between never takes running)
  where
    ends_so : (said : Took) (is_between : Bool) → ((count : ℕ) → said ≡ took.Bytes count → ⊥) → TakesAs said link_now link_next into → IsRunning w h screen decoder painter is_between link_old link_now old now
        → RunsOrEnds (outcome said is_between) w h screen decoder painter is_between link_old link_next old now
    ends_so (took.Bytes count) is_between never takes running = absurd (never count refl)
    ends_so took.Nothing is_between never takes running = record { stream = running.stream; took = takes ∙ running.took; read = running.read }
    ends_so took.End true never takes running = running_ends w h screen decoder painter link_old link_now link_next old now running takes
    ends_so took.End false never takes running = running_ends_inside w h screen decoder painter link_old link_now link_next old now running takes
    ends_so took.Failed is_between never takes running = running_fails w h screen decoder painter is_between link_old link_now link_next old now running takes

-- It goes on.
pub runs_on : (ends : Option (Result (Unit {0}) Fault)) (w h : ℕ) (screen : Canvas) (decoder : Decoding) (painter : Painting) (is_between : Bool) (link_old link_new : LinkState) (old new : List Update) → ends ≡ None
    → RunsOrEnds ends w h screen decoder painter is_between link_old link_new old new → IsRunning w h screen decoder painter is_between link_old link_new old new
runs_on None w h screen decoder painter is_between link_old link_new old new is runs = runs
runs_on (Some answer) w h screen decoder painter is_between link_old link_new old new is runs = absurd cc

-- Nor were bytes taken.
takes_nothing : (said : Took) (old new : LinkState) (into : List ℕ) → ((count : ℕ) → said ≡ took.Bytes count → ⊥) → TakesAs said old new into → new.taken ≡ old.taken
takes_nothing (took.Bytes count) old new into never takes = absurd (never count refl)
takes_nothing took.Nothing old new into never takes = ap (λ (l : LinkState). l.taken) takes
takes_nothing took.End old new into never takes = ap (λ (l : LinkState). l.taken) takes
takes_nothing took.Failed old new into never takes = ap (λ (l : LinkState). l.taken) takes

-- ---- at every moment

-- Nothing was taken yet.
pub far_begins : (screen : Canvas) (decoder : Decoding) (painter : Painting) (link : LinkState) (old : List Update) → Decodes decoder painter screen (host_message decoder.width decoder.height)
    → HasReadSoFar decoder.width decoder.height screen decoder painter true link link old old
far_begins screen decoder painter link old decodes =
    record {
      stream = [];
      taken = sym (append-nil link.taken);
      read = record { reads = decodes; wants = refl; ends = refl; put = record { put = []; added = sym (append-nil old); same = none_each decoder.width decoder.height screen } };
    }

pub far_begins_at : (screen : Canvas) (decoder d : Decoding) (painter p : Painting) (link l : LinkState) (old us : List Update) → l ≡ link → d ≡ decoder → p ≡ painter → us ≡ old → Decodes d p screen (host_message d.width d.height)
    → HasReadSoFar d.width d.height screen decoder painter true l link us old
far_begins_at screen decoder d painter p link l old us el ed ep eu decodes =
    subst (λ (v : List Update). HasReadSoFar d.width d.height screen decoder painter true l link us v) eu
    (subst (λ (m : LinkState). HasReadSoFar d.width d.height screen decoder painter true l m us us) el
    (subst (λ (q : Painting). HasReadSoFar d.width d.height screen decoder q true l l us us) ep
    (subst (λ (e : Decoding). HasReadSoFar d.width d.height screen e p true l l us us) ed (far_begins screen d p l us decodes))))

pub far_waits : (w h : ℕ) (screen : Canvas) (decoder : Decoding) (painter : Painting) (said : Took) (is_between : Bool) (link_old link_now link_next : LinkState) (into : List ℕ) (old now : List Update)
    → ((count : ℕ) → said ≡ took.Bytes count → ⊥) → TakesAs said link_now link_next into → HasReadSoFar w h screen decoder painter is_between link_old link_now old now → HasReadSoFar w h screen decoder painter is_between link_old link_next old now
far_waits w h screen decoder painter said is_between link_old link_now link_next into old now never takes far = record { stream = far.stream; taken = takes_nothing said link_now link_next into never takes ∙ far.taken; read = far.read }

-- A piece more was taken.
far_more : (old now next : LinkState) (stream piece : List ℕ) → now.taken ≡ old.taken ++ stream → next ≡ record now { taken = now.taken ++ piece } → next.taken ≡ old.taken ++ (stream ++ piece)
far_more old now next stream piece first took = ap (λ (l : LinkState). l.taken) took ∙ (ap (λ (bs : List ℕ). bs ++ piece) first ∙ append_assoc old.taken stream piece)

-- And read to its end.
pub far_goes_on : (w h : ℕ) (screen : Canvas) (decoder new : Decoding) (painter other : Painting) (is_between goes_between : Bool) (link_old link_now link_next : LinkState) (piece : List ℕ) (old now next : List Update)
    → decoder.width ≡ w → decoder.height ≡ h → HasReadSoFar w h screen decoder painter is_between link_old link_now old now → link_next ≡ record link_now { taken = link_now.taken ++ piece }
    → ((stream : List ℕ) → (since : List Update) → HasRead decoder.width decoder.height screen decoder painter is_between stream since now → HasRead decoder.width decoder.height screen new other goes_between (stream ++ piece) since next)
    → HasReadSoFar w h screen new other goes_between link_old link_next old next
far_goes_on w h screen decoder new painter other is_between goes_between link_old link_now link_next piece old now next wide high far took puts =
    let read = subst (λ a. HasRead a decoder.height screen decoder painter is_between far.stream old now) (sym wide) (subst (λ b. HasRead w b screen decoder painter is_between far.stream old now) (sym high) far.read) in
    let more = puts far.stream old read in
    record {
      stream = far.stream ++ piece;
      taken = far_more link_old link_now link_next far.stream piece far.taken took;
      read = subst (λ a. HasRead a h screen new other goes_between (far.stream ++ piece) old next) wide (subst (λ b. HasRead decoder.width b screen new other goes_between (far.stream ++ piece) old next) high more);
    }

-- Or it wasn't.
pub far_stops : (w h : ℕ) (screen : Canvas) (decoder : Decoding) (painter : Painting) (is_between : Bool) (link_old link_now link_next : LinkState) (piece : List ℕ) (old now next : List Update) (fault : Fault)
    → decoder.width ≡ w → decoder.height ≡ h → HasReadSoFar w h screen decoder painter is_between link_old link_now old now → link_next ≡ record link_now { taken = link_now.taken ++ piece }
    → ((stream : List ℕ) → (since : List Update) → HasRead decoder.width decoder.height screen decoder painter is_between stream since now → Stops decoder.width decoder.height screen fault (stream ++ piece) since next)
    → HasStopped w h screen link_old link_next old next
far_stops w h screen decoder painter is_between link_old link_now link_next piece old now next fault wide high far took stops =
    let read = subst (λ a. HasRead a decoder.height screen decoder painter is_between far.stream old now) (sym wide) (subst (λ b. HasRead w b screen decoder painter is_between far.stream old now) (sym high) far.read) in
    let stopped = stops far.stream old read in
    record {
      stream = far.stream ++ piece;
      taken = far_more link_old link_now link_next far.stream piece far.taken took;
      fault = fault;
      stops = subst (λ a. Stops a h screen fault (far.stream ++ piece) old next) wide (subst (λ b. Stops decoder.width b screen fault (far.stream ++ piece) old next) high stopped);
    }

-- It isn't over.
pub far_on : (is : Bool) (w h : ℕ) (screen : Canvas) (decoder : Decoding) (painter : Painting) (is_between : Bool) (link_old link_new : LinkState) (old new : List Update) → is ≡ false → IsReadSoFar is w h screen decoder painter is_between link_old link_new old new
    → HasReadSoFar w h screen decoder painter is_between link_old link_new old new
far_on true w h screen decoder painter is_between link_old link_new old new e far = absurd cc
far_on false w h screen decoder painter is_between link_old link_new old new e far = far

-- What a reading keeps is more than what it promises.
pub far_promised : (is : Bool) (w h : ℕ) (screen : Canvas) (decoder : Decoding) (painter : Painting) (is_between : Bool) (link_old link_new : LinkState) (old new : List Update) → IsReadSoFar is w h screen decoder painter is_between link_old link_new old new
    → ReadsSoFar w h screen link_old link_new old new
far_promised true w h screen decoder painter is_between link_old link_new old new far = record { stream = far.stream; taken = far.taken; put = inr (far.fault, far.stops) }
far_promised false w h screen decoder painter is_between link_old link_new old new far = record { stream = far.stream; taken = far.taken; put = inl far.read.put }

-- A run over what the reading holds is one over what it was lent.
abbrev pub EndsFor : Result (Unit {0}) Fault → Decoding → Painting → (link_old link_new : LinkState) → (old new : List Update) → Type 0
EndsFor answer d p l m u v = (screen : Canvas) → Decodes d p screen (host_message d.width d.height) → EndsSo d.width d.height screen answer l m u v

pub ends_at : (answer : Result (Unit {0}) Fault) (d0 d : Decoding) (p0 p : Painting) (l0 l m0 m : LinkState) (u0 u v0 v : List Update) → d ≡ d0 → p ≡ p0 → l ≡ l0 → m ≡ m0 → u ≡ u0 → v ≡ v0 → EndsFor answer d p l m u v → EndsFor answer d0 p0 l0 m0 u0 v0
ends_at answer d0 d p0 p l0 l m0 m u0 u v0 v ed ep el em eu ev ends =
    subst (λ (x : Decoding). EndsFor answer x p0 l0 m0 u0 v0) ed
    (subst (λ (x : Painting). EndsFor answer d x l0 m0 u0 v0) ep
    (subst (λ (x : LinkState). EndsFor answer d p x m0 u0 v0) el
    (subst (λ (x : LinkState). EndsFor answer d p l x u0 v0) em
    (subst (λ (x : List Update). EndsFor answer d p l m x v0) eu
    (subst (λ (x : List Update). EndsFor answer d p l m u x) ev ends)))))
