-- Answers whose bytes a session chose, and what a viewer that follows all its answers holds (RFC 6143, 7.6, 7.7; own).
use Rattle.std.specs.Prelude.{◌≡◌, ℕ, Bool, true, ◌&&◌, List, ◌∷◌, take, Option, Some, None}
use Rattle.raster.specs.declared.rect.Rect.{Rect}
use Rattle.raster.specs.Update.{Update, screen}
use Rattle.tiles.specs.Brings.{BringTheDue}
use Rattle.update_encoder.specs.Follower.{HoldsArea}
use Rattle.zrle_answer.specs.Rectangle.{ZlibStream}
use Rattle.zrle_answer.specs.Answer.{ZrleStyle, IsAnswer}
use Rattle.zrle_answer.specs.Follower.{ZrleFollower, FollowsAll, at_first}
use Rattle.viewer_session.specs.declared.form.AnswerForm.{AnswerForm}
use Rattle.viewer_session.specs.Record.{Entry, Began, choice_of, received}
use Rattle.viewer_session.specs.Turn.{Chosen, all_were_sent, asked_part, has_answer, passed_at, size_at, still_due, style_of}
use Rattle.viewer_session.specs.Viewer.{Setup}

-- How answers may be written whose bytes are chosen: in ZRLE, too.
abbrev pub zrle_style_of : AnswerForm → List Entry → ZrleStyle
zrle_style_of form entries = record { plain = style_of form entries; may_zrle = true }

-- A session may choose the bytes of its answer at a cut of these updates. Viewers may be answered in ZRLE, and this one
-- would rather have it; there is something to be answered and no size is told; and these bytes are an answer of the
-- copies that are passed on, and of rectangles that bring what is still due in the area, as the screen shows it, and
-- lead the viewer's zlib stream on.
pub record IsChosen (s : Setup) (us : List Update) (entries : List Entry) (before : ZlibStream) (chosen : Chosen) : Type 0 where
  pub heeded : (s.form.zrle && (choice_of entries).zrle) ≡ true
  pub untold : size_at s.w s.h s.host entries us ≡ None
  pub area : Rect
  pub asked : asked_part s.w s.h entries ≡ Some area
  pub due : has_answer s.form s.w s.h entries us area ≡ true
  pub rectangles : List Rect
  pub brings : BringTheDue s.w s.h area (still_due s.form s.w s.h entries us area) rectangles
  pub answers : IsAnswer (zrle_style_of s.form entries) (screen us) (passed_at s.form s.w s.h entries us area).copies (all_were_sent s.w s.h entries us area) rectangles before chosen.bytes chosen.stream

-- What was chosen may be, if anything was.
abbrev pub MayBeChosen : Setup → List Update → List Entry → ZlibStream → Option Chosen → Type 0
MayBeChosen s us entries before None = Unit {0}
MayBeChosen s us entries before (Some chosen) = IsChosen s us entries before chosen

-- A follower of all answers of a record has come to this state.
abbrev pub FollowsRecord : ℕ → ℕ → List Entry → ZrleFollower → Type 0
FollowsRecord w h entries follower = FollowsAll w h at_first (received entries) follower

-- After an answer a follower of all answers has come to a state in which it holds the answer's area, of the screen
-- after the first n updates.
pub record HoldsAnswer (w h : ℕ) (us : List Update) (area : Rect) (n : ℕ) (bytes : List ℕ) (earlier : List Entry) : Type 0 where
  pub follower : ZrleFollower
  pub follows : FollowsRecord w h (Began area n bytes ∷ earlier) follower
  pub holds : HoldsArea follower.known area (take n us)
