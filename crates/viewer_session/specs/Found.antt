-- What a session finds in a cut: what is news to its viewer, and an update.
use Rattle.std.specs.Prelude.{◌≡◌, ℕ, Bool, true, false, ◌==◌, ◌&&◌, nat_lt, if◌then◌else◌, is_some, List, [], ◌∷◌, ◌++◌, length, Option, Some, None}
use Rattle.raster.specs.declared.rect.Rect.{Rect}
use Rattle.raster.specs.declared.size.Size.{Size}
use Rattle.raster.specs.Update.{NumberedText}
use Rattle.tiles.specs.Touched.{Event, Answered, NewSize, runs}
use Rattle.reflect_core.specs.declared.cut.Cut.{Cut}
use Rattle.update_encoder.specs.Answer.{answer_bytes}
use Rattle.reflect_core.specs.Source.{copies_in, marked}
use Rattle.update_encoder.specs.Coming.{Answering, coming, front_bytes, shown}
use Rattle.update_encoder.specs.Style.{Style}
use Rattle.zrle_answer.specs.Written.{IsWholeOf}
use Rattle.viewer_session.specs.Session.{State, style_now}
use Rattle.viewer_session.specs.declared.update.Update.{Update}
use Rattle.viewer_session.specs.declared.update.Update.TheVariants.{Runs, Whole}

-- Bells have become more since the last cut, if there was one.
abbrev pub rings : Option ℕ → (before now : ℕ) → Bool
rings None before now = false
rings (Some number) before now = nat_lt before now

-- The text is newer than a cut of this number.
abbrev pub is_newer : ℕ → Option NumberedText → Bool
is_newer number None = false
is_newer number (Some last) = nat_lt number last.number

-- The text is newer than the last cut, if there was one.
abbrev pub has_newer : Option ℕ → Option NumberedText → Bool
has_newer None text = false
has_newer (Some number) text = is_newer number text

-- The update of an area at a cut: the copies that it passes on, and the runs of the tiles that it marks, if there are
-- any of these.
abbrev pub update_of : Style → Cut → Rect → Option (Rect × List ℕ)
update_of style cut area =
    let found = runs cut.width cut.height area (marked cut) in
    let copies = copies_in cut in
    if (length found == 0) && (length copies == 0) then None else Some (area, answer_bytes style (shown cut) copies cut.all_were_sent found)

-- The update of the area that is pending, if one is.
abbrev pub update_in : Style → Cut → Option Rect → Option (Rect × List ℕ)
update_in style cut None = None
update_in style cut (Some area) = update_of style cut area

-- The events that decide what a viewer has and wants, with an answer begun at a cut of this number, where there is an
-- update.
abbrev pub answered_at : ℕ → Option (Rect × List ℕ) → List Event → List Event
answered_at number None es = es
answered_at number (Some found) es = Answered found.0 number ∷ es

-- The same, with a size told, where one is told, and otherwise with the answer.
abbrev pub told_or_answered : ℕ → Option Size → Option (Rect × List ℕ) → List Event → List Event
told_or_answered number None found es = answered_at number found es
told_or_answered number (Some size) found es = NewSize size ∷ es

-- The bytes of an answer that is begun, where one is (7.6.1).
abbrev pub begun_bytes : Option Answering → Cut → List ℕ
begun_bytes None cut = []
begun_bytes (Some answer) cut = front_bytes (copies_in cut) answer.count ++ coming answer cut

-- The viewer may be answered in ZRLE and would rather be, and these bytes are a whole answer for the area at the last
-- cut.
pub record IsWholeAnswer (st : State) (begun : Bool) (area : Rect) (bytes : List ℕ) : Type 0 where
  pub heeded : (st.form.zrle && st.choice.zrle) ≡ true
  pub whole : IsWholeOf (style_now st) st.cut area st.begun begun bytes

-- An answer that was begun is sent as it was begun; or, where it was written whole, so.
abbrev pub IsSentAs : State → (begun : Bool) → Option Rect → Option Answering → Option Update → Type 0
IsSentAs st begun area answer None = (answer ≡ None) × (begun ≡ st.begun)
IsSentAs st begun area answer (Some (Runs other)) = (answer ≡ Some other) × (begun ≡ st.begun)
IsSentAs st begun area answer (Some (Whole bytes)) = (is_some answer ≡ true) × ((where_ : Rect) × (area ≡ Some where_) × IsWholeAnswer st begun where_ bytes)
