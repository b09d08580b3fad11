-- What a viewer that follows all its answers holds at each moment, in ZRLE too. The law `viewer_holds_each_answer` is
-- made of it.
use Rattle.std.proofs.Common.{◌≡◌, ℕ, ◌^◌, ◌<◌, ◌≤◌, Bool, true, false, cond, List, [], ◌∷◌, ◌++◌, length, take, Option, Some, None, refl, ap, sym, ◌∙◌, arith, length-append, subst, inl, inr}
use Rattle.std.specs.Prelude.{◌&&◌}
use Rattle.std.specs.List.{filter_map}
use Rattle.std.proofs.lemmas.Grind.{reverse_onto}
use Rattle.std.proofs.lemmas.List.{take-append-le}
use Rattle.pixel_format.specs.PixelFormat.{IsAccepted, tint}
use Rattle.raster.specs.declared.rect.Rect.{Rect}
use Rattle.raster.specs.declared.size.Size.{Size}
use Rattle.raster.specs.Screen.{IsWithin, Map, common, tile_rect, whole_screen}
use Rattle.raster.specs.Update.{Paint, Resized, Update, last_size, screen}
use Rattle.raster.proofs.Places.{holds_has}
use Rattle.viewer_session.specs.declared.form.AnswerForm.{AnswerForm}
use Rattle.rfb_wire.specs.ClientMessage.{ClientMessage, SetPixelFormat, SetEncodings, Ask, Key, Pointer, CutText, LostText}
use Rattle.rfb_wire.specs.ServerMessage.{FramebufferUpdate}
use Rattle.rfb_wire.specs.Writing.{size_bytes}
use Rattle.rfb_wire.proofs.Updates.{size_is_read}
use Rattle.tiles.specs.Brings.{BringTheDue}
use Rattle.tiles.specs.Touched.{last_sent, runs}
use Rattle.tiles.proofs.Brought.{runs_bring_the_due}
use Rattle.raster.proofs.Places.{Has}
use Rattle.reflect_core.specs.Asked.{last_answered, pending}
use Rattle.update_encoder.specs.Follower as follower
use Rattle.update_encoder.specs.Follower.{Received, follows}
use Rattle.update_encoder.proofs.AnswerLaws.{spells_only}
use Rattle.zrle_codec.proofs.OneStream.{parts_are_read}
use Rattle.zrle_answer.specs.Rectangle.{ZlibStream}
use Rattle.zrle_answer.specs.Answer.{IsAnswer}
use Rattle.zrle_answer.specs.Follower.{ZrleFollower, Follows, at_first, in_format}
use Rattle.zrle_answer.specs.Follower.FollowsAll.{none, one_more}
use Rattle.zrle_answer.specs.Follower.{FollowsAll}
use Rattle.zrle_answer.proofs.Alike.{other_messages_are_followed_alike}
use Rattle.zrle_answer.proofs.Followed.{answers_are_followed}
use Rattle.zrle_answer.proofs.Others.{other_answers_are_answers}
use Rattle.zrle_answer.proofs.Sessions.{following_goes_on}
use Rattle.viewer_session.specs.Chosen.{FollowsRecord, HoldsAnswer, IsChosen, MayBeChosen, zrle_style_of}
use Rattle.viewer_session.specs.Record.{Entry, Took, Saw, MadeCut, Began, ToldSize, NumbersUpTo, events, received, received_in, format_of, choice_of}
use Rattle.viewer_session.specs.Turn.{Chosen, all_were_sent, began_at, clipped_to, has_answer, passed_at, record_after_cut_as, size_at, still_due, stream_after, told_at, told_of, update_at, update_for, with_chosen}
use Rattle.viewer_session.specs.Viewer.{Setup}
use Rattle.viewer_session.proofs.Accepted.{HasAcceptedFormat}
use Rattle.viewer_session.proofs.Copied.{copies_few, copies_made, copies_on}
use Rattle.viewer_session.proofs.KnownTiles.{HoldsAnswered, HoldsTiles, sent_asked, sent_cut, sent_more, sent_now}
use Rattle.viewer_session.proofs.Stands.{Brings, Fits, area_answered, bytes_for, brought_by, clipped_on, inside, inside_known, not_due_if, numbers_more, pending_within, size_fits, still_held, tiles_answered}

-- Each answer of a record is held.
abbrev pub AllHeld : ℕ → ℕ → List Update → List Entry → Type 0
AllHeld w h us [] = Unit {0}
AllHeld w h us (Took message ∷ es) = AllHeld w h us es
AllHeld w h us (Saw number ∷ es) = AllHeld w h us es
AllHeld w h us (MadeCut number ∷ es) = AllHeld w h us es
AllHeld w h us (Began area n bytes ∷ es) = ((n ≤ length us) × NumbersUpTo n es × HoldsAnswer w h us area n bytes es) × AllHeld w h us es
AllHeld w h us (ToldSize size n bytes ∷ es) = AllHeld w h us es

-- What stands of a record at a moment at which these are the updates, and of a follower of all its answers, whose zlib
-- stream is in this state.
pub record HoldsSoFar (w h : ℕ) (us : List Update) (es : List Entry) (stream : ZlibStream) : Type 0 where
  pub follower : ZrleFollower
  pub follows : FollowsRecord w h es follower
  pub same_stream : follower.stream ≡ stream
  pub same_format : follower.known.format ≡ format_of es
  pub numbers : NumbersUpTo (length us) es
  pub format : IsAccepted (format_of es)
  pub holds_tiles : HoldsTiles w h us es follower.known
  pub holds_answered : HoldsAnswered w h us es follower.known
  pub answers : AllHeld w h us es

-- ---- the follower goes on

follows_on : (w h : ℕ) (es now : List Entry) (r : Received) (f g : ZrleFollower) → received now ≡ received es ++ r ∷ [] → FollowsRecord w h es f → Follows w h f r g → FollowsRecord w h now g
follows_on w h es now r f g e k step =
    subst (λ rs. FollowsAll w h at_first rs g) (sym e) (following_goes_on w h at_first f g (received es) (r ∷ []) k (one_more w h f g g r [] step (none w h g)))

-- ---- one step after another

pub held_nothing : (w h : ℕ) (us : List Update) → HoldsSoFar w h us [] None
held_nothing w h us =
    record { follower = at_first; follows = none w h at_first; same_stream = refl; same_format = refl; numbers = tt; format = refl; holds_tiles = λ t lt e. absurd (cc); holds_answered = tt; answers = tt }

answers_more : (w h : ℕ) (us : List Update) (u : Update) (es : List Entry) → AllHeld w h us es → AllHeld w h (us ++ u ∷ []) es
answers_more w h us u [] k = tt
answers_more w h us u (Took message ∷ es) k = answers_more w h us u es k
answers_more w h us u (Saw number ∷ es) k = answers_more w h us u es k
answers_more w h us u (MadeCut number ∷ es) k = answers_more w h us u es k
answers_more w h us u (Began area n bytes ∷ es) k =
    let known : n ≤ length us = k.0.0 in
    let it : HoldsAnswer w h us area n bytes es = k.0.2 in (
      (
        omega (arith, known, length-append us (u ∷ [])),
        k.0.1,
        record { follower = it.follower; follows = it.follows; holds = λ x y a b c d. rw (take-append-le n us (u ∷ []) known) (it.holds x y a b c d) },
      ),
      answers_more w h us u es k.1,
    )
answers_more w h us u (ToldSize size n bytes ∷ es) k = answers_more w h us u es k

-- An update is put.
pub held_put : (w h : ℕ) (us : List Update) (u : Update) (es : List Entry) (stream : ZlibStream) → HoldsSoFar w h us es stream → HoldsSoFar w h (us ++ u ∷ []) es stream
held_put w h us u es stream k =
    record {
      follower = k.follower;
      follows = k.follows;
      same_stream = k.same_stream;
      same_format = k.same_format;
      numbers = numbers_more (length us) (length (us ++ u ∷ [])) es (omega (arith, length-append us (u ∷ []))) k.numbers;
      format = k.format;
      holds_tiles = still_held w h us u es k.follower.known k.numbers k.holds_tiles;
      holds_answered = sent_more w h us u (events w h es) k.follower.known (last_answered (events w h es)) k.holds_answered;
      answers = answers_more w h us u es k.answers;
    }

-- A message is taken.
pub held_took : (w h : ℕ) (us : List Update) (m : ClientMessage) (es : List Entry) (stream : ZlibStream) → HasAcceptedFormat m → HoldsSoFar w h us es stream → HoldsSoFar w h us (Took m ∷ es) stream
held_took w h us (SetPixelFormat format) es stream fine k =
    record {
      follower = in_format k.follower format;
      follows = follows_on w h es (Took (SetPixelFormat format) ∷ es) (follower.Format format) k.follower (in_format k.follower format) (reverse_onto (filter_map received_in es) (follower.Format format) []) k.follows refl;
      same_stream = k.same_stream;
      same_format = refl;
      numbers = k.numbers;
      format = fine;
      holds_tiles = λ t lt e. absurd (cc);
      holds_answered = tt;
      answers = k.answers;
    }
held_took w h us (SetEncodings choice) es stream fine k =
    record { follower = k.follower; follows = k.follows; same_stream = k.same_stream; same_format = k.same_format; numbers = k.numbers; format = k.format; holds_tiles = k.holds_tiles; holds_answered = k.holds_answered; answers = k.answers }
held_took w h us (Ask incremental area) es stream fine k =
    record {
      follower = k.follower;
      follows = k.follows;
      same_stream = k.same_stream;
      same_format = k.same_format;
      numbers = k.numbers;
      format = k.format;
      holds_tiles = λ t lt e. k.holds_tiles t lt (not_due_if (tile_rect w h t) _ (last_sent (tile_rect w h t) (events w h es)) us e);
      holds_answered = sent_asked w h us incremental (common area (whole_screen w h)) (events w h es) k.follower.known (last_answered (events w h es)) k.holds_answered;
      answers = k.answers;
    }
held_took w h us (Key down key) es stream fine k =
    record { follower = k.follower; follows = k.follows; same_stream = k.same_stream; same_format = k.same_format; numbers = k.numbers; format = k.format; holds_tiles = k.holds_tiles; holds_answered = k.holds_answered; answers = k.answers }
held_took w h us (Pointer mask x y) es stream fine k =
    record { follower = k.follower; follows = k.follows; same_stream = k.same_stream; same_format = k.same_format; numbers = k.numbers; format = k.format; holds_tiles = k.holds_tiles; holds_answered = k.holds_answered; answers = k.answers }
held_took w h us (CutText text) es stream fine k =
    record { follower = k.follower; follows = k.follows; same_stream = k.same_stream; same_format = k.same_format; numbers = k.numbers; format = k.format; holds_tiles = k.holds_tiles; holds_answered = k.holds_answered; answers = k.answers }
held_took w h us (LostText len) es stream fine k =
    record { follower = k.follower; follows = k.follows; same_stream = k.same_stream; same_format = k.same_format; numbers = k.numbers; format = k.format; holds_tiles = k.holds_tiles; holds_answered = k.holds_answered; answers = k.answers }

-- The source is looked at.
pub held_saw : (w h : ℕ) (us : List Update) (m : ℕ) (es : List Entry) (stream : ZlibStream) → m ≤ length us → HoldsSoFar w h us es stream → HoldsSoFar w h us (Saw m ∷ es) stream
held_saw w h us m es stream le k =
    record { follower = k.follower; follows = k.follows; same_stream = k.same_stream; same_format = k.same_format; numbers = (le, k.numbers); format = k.format; holds_tiles = k.holds_tiles; holds_answered = k.holds_answered; answers = k.answers }

-- It is cut.
held_made_cut : (w h : ℕ) (us : List Update) (es : List Entry) (stream : ZlibStream) → HoldsSoFar w h us es stream → HoldsSoFar w h us (MadeCut (length us) ∷ es) stream
held_made_cut w h us es stream k =
    record {
      follower = k.follower;
      follows = k.follows;
      same_stream = k.same_stream;
      same_format = k.same_format;
      numbers = (omega arith, k.numbers);
      format = k.format;
      holds_tiles = k.holds_tiles;
      holds_answered = sent_cut w h us (length us) (events w h es) k.follower.known (last_answered (events w h es)) k.holds_answered;
      answers = k.answers;
    }

-- ---- an answer

-- Its bytes have the copies that are passed on, bring what is still due in the area, go on with the stream, and leave
-- it so.
record GoesOn (form : AnswerForm) (w h : ℕ) (us : List Update) (es : List Entry) (area : Rect) (bytes : List ℕ) (stream after : ZlibStream) : Type 0 where
  rectangles : List Rect
  covers : BringTheDue w h area (still_due form w h es us area) rectangles
  is : IsAnswer (zrle_style_of form es) (screen us) (passed_at form w h es us area).copies (all_were_sent w h es us area) rectangles stream bytes after

-- A requested area inside the size that was told lies on the screen.
inside_on : (w h : ℕ) (es : List Entry) (whole : Rect) → pending (events w h es) ≡ Some whole → IsWithin (inside w h es whole) w h
inside_on w h es whole asked = clipped_on whole (told_of w h es).width (told_of w h es).height w h (pending_within w h es whole asked)

held_answered : (form : AnswerForm) (w h : ℕ) (us : List Update) (es : List Entry) (whole : Rect) (bytes : List ℕ) (stream after : ZlibStream) → w ≤ 4096 → h ≤ 4096 → pending (events w h es) ≡ Some whole
    → GoesOn form w h us es (inside w h es whole) bytes stream after → HoldsSoFar w h us es stream
    → HoldsSoFar w h us (Began (inside w h es whole) (length us) bytes ∷ MadeCut (length us) ∷ es) after
held_answered form w h us es whole bytes stream after lw lh asked goes k =
    let area : Rect = inside w h es whole in
    let on : IsWithin area w h = inside_on w h es whole asked in
    let entries : List Entry = Began area (length us) bytes ∷ MadeCut (length us) ∷ es in
    let copies : List Paint = (passed_at form w h es us area).copies in
    let here : GoesOn form w h us es area bytes k.follower.stream after = subst (λ t. GoesOn form w h us es area bytes t after) (sym k.same_stream) goes in
    let covers = here.covers in
    let are_on = copies_on form w h us es area on in
    let found = answers_are_followed parts_are_read w h (zrle_style_of form es) (screen us) copies (all_were_sent w h es us area) here.rectangles k.follower bytes after lw lh k.format are_on covers.parts
    (omega (arith, copies_few form w h us es area, covers.few)) k.same_format here.is in
    let now : ZrleFollower = found.0 in
    let same : now.known.format ≡ format_of es = found.2.same_format ∙ k.same_format in
    let br : Brings w h us es k.follower.known now.known area =
    brought_by form w h us es area k.follower.known now.known on (inside_known w h es whole lw lh) k.same_format same k.holds_answered
    (λ x y p.
    found.2.keeps x y (ap (λ (m : Map (Option ℕ)). m x y) (copies_made w h k.follower.known.held copies are_on) ∙ (p ∙ ap (λ f. Some (tint f (screen us x y))) (sym k.same_format)))
    ∙ ap (λ f. Some (tint f (screen us x y))) same)
    (λ t x y lt still p q.
    found.2.brings x y (covers.exactly t x y lt (holds_has (tile_rect w h t) x y q) ∙ (ap (λ b. b && still_due form w h es us area t) (holds_has area x y p) ∙ still)) ∙ ap (λ f. Some (tint f (screen us x y))) same) in
    let led : FollowsRecord w h entries now =
    follows_on w h es entries (follower.Answer bytes) k.follower now (reverse_onto (filter_map received_in es) (follower.Answer bytes) []) k.follows (inl found.1) in
    let numbers : NumbersUpTo (length us) entries = (omega arith, (omega arith, k.numbers)) in
    let held : HoldsTiles w h us entries now.known = tiles_answered w h us es bytes k.follower.known now.known area k.same_format k.holds_tiles br in
    record {
      follower = now;
      follows = led;
      same_stream = found.2.stream_is;
      same_format = same;
      numbers = numbers;
      format = k.format;
      holds_tiles = held;
      holds_answered = sent_now w h us entries now.known numbers held;
      answers = (
        (
          omega arith,
          (omega arith, k.numbers),
          record { follower = now; follows = led; holds = area_answered w h us es whole k.follower.known now.known lw lh asked k.same_format k.holds_tiles br },
        ),
        k.answers,
      );
    }

-- ---- an answer whose bytes aren't chosen

held_if : (form : AnswerForm) (w h : ℕ) (us : List Update) (es : List Entry) (whole : Rect) (stream : ZlibStream) (b : Bool) → w ≤ 4096 → h ≤ 4096 → pending (events w h es) ≡ Some whole → HoldsSoFar w h us es stream
    → HoldsSoFar w h us (began_at (length us) (cond b (Some (inside w h es whole, bytes_for form w h es us (inside w h es whole))) None) (MadeCut (length us) ∷ es)) stream
held_if form w h us es whole stream true lw lh asked k =
    let area : Rect = inside w h es whole in
    let due : ℕ → Bool = still_due form w h es us area in
    held_answered form w h us es whole (bytes_for form w h es us area) stream stream lw lh asked
    (record {
      rectangles = runs w h area due;
      covers = runs_bring_the_due w h area due lw lh (inside_on w h es whole asked);
      is = other_answers_are_answers (zrle_style_of form es) (screen us) (passed_at form w h es us area).copies (all_were_sent w h es us area) (runs w h area due) stream;
    }) k
held_if form w h us es whole stream false lw lh asked k = held_made_cut w h us es stream k

held_for : (form : AnswerForm) (w h : ℕ) (us : List Update) (es : List Entry) (stream : ZlibStream) (o : Option Rect) → pending (events w h es) ≡ o → w ≤ 4096 → h ≤ 4096 → HoldsSoFar w h us es stream
    → HoldsSoFar w h us (began_at (length us) (update_for form w h es us (clipped_to (told_of w h es) o)) (MadeCut (length us) ∷ es)) stream
held_for form w h us es stream None e lw lh k = held_made_cut w h us es stream k
held_for form w h us es stream (Some whole) e lw lh k =
    held_if form w h us es whole stream (has_answer form w h es us (inside w h es whole)) lw lh e k

-- ---- a size that is told

held_told : (w h : ℕ) (us : List Update) (es : List Entry) (stream : ZlibStream) (size : Size) → w ≤ 4096 → h ≤ 4096 → Fits w h (Some size) → HoldsSoFar w h us es stream
    → HoldsSoFar w h us (ToldSize size (length us) (size_bytes size) ∷ MadeCut (length us) ∷ es) stream
held_told w h us es stream size lw lh fits k =
    let bytes : List ℕ = size_bytes size in
    let now : ZrleFollower = record { known = follows w h k.follower.known (follower.Answer bytes); stream = k.follower.stream } in
    let message = FramebufferUpdate (Resized size ∷ []) in
    let read = spells_only k.follower.known.format w h bytes message (size_is_read k.follower.known.format w h size (omega (arith, lw)) (omega (arith, lh)) fits.0 fits.1) in
    record {
      follower = now;
      follows = follows_on w h es (ToldSize size (length us) bytes ∷ MadeCut (length us) ∷ es) (follower.Answer bytes) k.follower now (reverse_onto (filter_map received_in es) (follower.Answer bytes) []) k.follows
          (other_messages_are_followed_alike w h k.follower bytes message read);
      same_stream = k.same_stream;
      same_format = k.same_format;
      numbers = (omega arith, (omega arith, k.numbers));
      format = k.format;
      holds_tiles = λ t lt e. absurd (cc);
      holds_answered = tt;
      answers = k.answers;
    }

held_begun : (form : AnswerForm) (w h : ℕ) (us : List Update) (es : List Entry) (stream : ZlibStream) (o : Option Size) → w ≤ 4096 → h ≤ 4096 → Fits w h o → HoldsSoFar w h us es stream
    → HoldsSoFar w h us (told_at (length us) o (update_at form w h es us) (MadeCut (length us) ∷ es)) stream
held_begun form w h us es stream None lw lh fits k = held_for form w h us es stream (pending (events w h es)) refl lw lh k
held_begun form w h us es stream (Some size) lw lh fits k = held_told w h us es stream size lw lh fits k

-- ---- an answer whose bytes are chosen

-- What is asked for is the pending area, clipped.
asked_whole : (w h : ℕ) (es : List Entry) (o : Option Rect) (area : Rect) → clipped_to (told_of w h es) o ≡ Some area → (whole : Rect) × (o ≡ Some whole) × (inside w h es whole ≡ area)
asked_whole w h es None area e = absurd cc
asked_whole w h es (Some whole) area e = let same : inside w h es whole ≡ area = cc in (whole, refl, same)

-- So the record has the answer with these bytes.
began_chosen : (s : Setup) (us : List Update) (es : List Entry) (before : ZlibStream) (chosen : Chosen) → (k : IsChosen s us es before chosen)
    → record_after_cut_as (Some chosen) s.form s.w s.h s.host es us ≡ Began k.area (length us) chosen.bytes ∷ MadeCut (length us) ∷ es
began_chosen s us es before chosen k =
    let cut : List Entry = MadeCut (length us) ∷ es in
    ap (λ o. told_at (length us) o (with_chosen (Some chosen) (update_at s.form s.w s.h es us)) cut) k.untold
    ∙ (ap (λ o. began_at (length us) (with_chosen (Some chosen) (update_for s.form s.w s.h es us o)) cut) k.asked
    ∙ ap (λ b. began_at (length us) (with_chosen (Some chosen) (cond b (Some (k.area, bytes_for s.form s.w s.h es us k.area)) None)) cut) k.due)

held_chosen : (s : Setup) (us : List Update) (es : List Entry) (stream : ZlibStream) (chosen : Chosen) → s.w ≤ 4096 → s.h ≤ 4096 → IsChosen s us es stream chosen → HoldsSoFar s.w s.h us es stream
    → HoldsSoFar s.w s.h us (record_after_cut_as (Some chosen) s.form s.w s.h s.host es us) chosen.stream
held_chosen s us es stream chosen lw lh c k =
    let asked = asked_whole s.w s.h es (pending (events s.w s.h es)) c.area c.asked in
    let goes : GoesOn s.form s.w s.h us es (inside s.w s.h es asked.0) chosen.bytes stream chosen.stream = subst (λ a. GoesOn s.form s.w s.h us es a chosen.bytes stream chosen.stream) (sym asked.2) (record { rectangles = c.rectangles; covers = c.brings; is = c.answers }) in
    let held : HoldsSoFar s.w s.h us (Began (inside s.w s.h es asked.0) (length us) chosen.bytes ∷ MadeCut (length us) ∷ es) chosen.stream = held_answered s.form s.w s.h us es asked.0 chosen.bytes stream chosen.stream lw lh asked.1 goes k in
    subst (λ (l : List Entry). HoldsSoFar s.w s.h us l chosen.stream) (sym (began_chosen s us es stream chosen c))
    (subst (λ a. HoldsSoFar s.w s.h us (Began a (length us) chosen.bytes ∷ MadeCut (length us) ∷ es) chosen.stream) asked.2 held)

-- ---- any cut

pub held_cut : (s : Setup) (us : List Update) (es : List Entry) (stream : ZlibStream) (chosen : Option Chosen) → s.w ≤ 4096 → s.h ≤ 4096 → MayBeChosen s us es stream chosen → HoldsSoFar s.w s.h us es stream
    → HoldsSoFar s.w s.h us (record_after_cut_as chosen s.form s.w s.h s.host es us) (stream_after chosen stream)
held_cut s us es stream None lw lh may k =
    held_begun s.form s.w s.h us es stream (size_at s.w s.h s.host es us) lw lh (size_fits s.w s.h s.host (choice_of es).resizes (told_of s.w s.h es) (last_size us) (pending (events s.w s.h es))) k
held_cut s us es stream (Some chosen) lw lh may k = held_chosen s us es stream chosen lw lh may k

-- ---- each answer

pub held_behind : (w h : ℕ) (us : List Update) (later earlier : List Entry) → AllHeld w h us (later ++ earlier) → AllHeld w h us earlier
held_behind w h us [] earlier k = k
held_behind w h us (Took message ∷ later) earlier k = held_behind w h us later earlier k
held_behind w h us (Saw number ∷ later) earlier k = held_behind w h us later earlier k
held_behind w h us (MadeCut number ∷ later) earlier k = held_behind w h us later earlier k
held_behind w h us (Began area n bytes ∷ later) earlier k = held_behind w h us later earlier k.1
held_behind w h us (ToldSize size n bytes ∷ later) earlier k = held_behind w h us later earlier k
