-- What a follower holds once it has made the copies that an answer begins with: tiles that aren't due as before, and
-- those that are due, but not lacked behind the copies, as the screen shows them now.
use Rattle.std.proofs.Common.{◌≡◌, ℕ, zero, suc, ◌<◌, ◌≤◌, Bool, true, false, cond, List, [], ◌∷◌, length, get_or, take, drop, Option, Some, None, refl, ap, ◌∙◌, arith, subst}
use Rattle.std.specs.Prelude.{◌&&◌, nat_le, not}
use Rattle.std.specs.List.{list_any}
use Rattle.std.proofs.lemmas.Bool.{and_parts, eqb-true}
use borrow.Author.Tests.{leb-true}
use Rattle.pixel_format.specs.PixelFormat.{tint}
use Rattle.raster.specs.declared.rect.Rect.{Rect}
use Rattle.raster.specs.Screen.{Canvas, IsWithin, Map, copy, opening, tile_count, tile_rect}
use Rattle.raster.specs.Update.{Copy, Paint, Put, Resized, Update, after_paints, after_updates, paints_of, screen}
use Rattle.raster.proofs.Places.{Has, common_has, has_holds, holds_has}
use Rattle.copy_log.specs.KeepsUp.{CopyLiesIn, HoldsBut, moved}
use Rattle.copy_log.specs.Notes.{is_number}
use Rattle.copy_log.specs.Passed.{Passed, passed, source_of}
use Rattle.copy_log.specs.declared.passed.TheConstants.{MOST_PASSED}
use Rattle.copy_log.proofs.Keeping.{copies_keep_up}
use Rattle.copy_log.proofs.Leads.{copies_lie_in, copies_stay_off}
use Rattle.copy_log.proofs.Marks.{lies_within}
use Rattle.tiles.specs.Touched.{is_due_since, known_part, last_sent, told_last, touches}
use Rattle.tiles.proofs.Touching.{UpTo, or_right}
use Rattle.reflect_core.specs.Asked.{last_answered}
use Rattle.reflect_core.specs.Source.{is_recent, none_passed, passed_on, unless_many}
use Rattle.update_encoder.specs.Answer.{AreCopiesOn, IsCopyOn}
use Rattle.update_encoder.specs.Follower.{Follower, after_rectangles}
use Rattle.viewer_session.specs.declared.form.AnswerForm.{AnswerForm}
use Rattle.viewer_session.specs.Record.{Entry, choice_of, events}
use Rattle.viewer_session.specs.Turn.{due_tile, passed_at, since_of}
use Rattle.viewer_session.proofs.KnownTiles.{HoldsAnswered, HoldsSent, HoldsSentAt, known_tile}

-- ---- updates behind others

none_dropped : (p : Update → Bool) (us : List Update) (n : ℕ) → list_any p us ≡ false → list_any p (drop n us) ≡ false
none_dropped p us zero e = e
none_dropped p [] (suc n) e = refl
none_dropped p (u ∷ us) (suc n) e = none_dropped p us n (or_right (p u) (list_any p us) e)

-- What none of the updates behind some does, none behind more does.
none_later : (p : Update → Bool) (us : List Update) (k n : ℕ) → k ≤ n → list_any p (drop k us) ≡ false → list_any p (drop n us) ≡ false
none_later p us zero n le e = none_dropped p us n e
none_later p us (suc k) zero le e = absurd (omega (arith, le))
none_later p [] (suc k) (suc n) le e = refl
none_later p (u ∷ us) (suc k) (suc n) le e = none_later p us k n (omega (arith, le)) e

-- A tile that isn't due isn't touched after the last answer.
not_touched : (r : Rect) (us : List Update) (n : ℕ) (o : Option ℕ) → UpTo n o → is_due_since r o us ≡ false → list_any (touches r) (drop n us) ≡ false
not_touched r us n None le e = absurd cc
not_touched r us n (Some k) le e = none_later (touches r) us k n le e

screen_behind : (s : Canvas) (us : List Update) (n : ℕ) → after_updates (after_updates s (take n us)) (drop n us) ≡ after_updates s us
screen_behind s us zero = refl
screen_behind s [] (suc n) = refl
screen_behind s (u ∷ us) (suc n) = screen_behind (after_paints s (paints_of u)) us n

-- ---- what is passed on of a number

-- The tiles that a viewer lacks at first: all but those that it was last sent at this number.
abbrev lacked_at : ℕ → ℕ → List Entry → ℕ → ℕ → Bool
lacked_at w h es n t = not (is_number (last_sent (tile_rect w h t) (events w h es)) n)

abbrev found : ℕ → ℕ → List Entry → List Update → Rect → ℕ → Passed
found w h es us area n = passed w h area (lacked_at w h es n) (drop n us)

abbrev sent : ℕ → ℕ → List Entry → ℕ → Option ℕ
sent w h es t = last_sent (tile_rect w h t) (events w h es)

-- Whatever holds of it where it is found, and where nothing is passed on, holds of what is passed on.
pub by_parts : (P : Passed → Type 0) (w h : ℕ) (es : List Entry) (us : List Update) (area : Rect) (o : Option ℕ) → P none_passed
    → ((n : ℕ) → o ≡ Some n → n ≤ length us → length (found w h es us area n).copies ≤ MOST_PASSED → P (found w h es us area n)) → P (passed_on w h area (sent w h es) o us)
by_parts P w h es us area None none some = none
by_parts P w h es us area (Some n) none some = recent (is_recent n us) refl
  where
    few : (b : Bool) → nat_le (length (found w h es us area n).copies) MOST_PASSED ≡ b → n ≤ length us → P (cond b (found w h es us area n) none_passed)
    few true e le = some n refl le (leb-true (length (found w h es us area n).copies) MOST_PASSED e)
    few false e le = none

    recent : (b : Bool) → is_recent n us ≡ b → P (cond b (unless_many (found w h es us area n)) none_passed)
    recent true e = few (nat_le (length (found w h es us area n).copies) MOST_PASSED) refl (leb-true n (length us) (and_parts (nat_le n (length us)) _ e).0)
    recent false e = none

-- Where copies may be passed on, what was last answered is held.
pub since_held : (form : AnswerForm) (w h : ℕ) (us : List Update) (es : List Entry) (f : Follower) → HoldsAnswered w h us es f → HoldsSentAt w h us (events w h es) f (since_of form w h es)
since_held form w h us es f k = by (form.copies && (choice_of es).copy)
  where
    by : (b : Bool) → HoldsSentAt w h us (events w h es) f (cond b (last_answered (events w h es)) None)
    by true = k
    by false = tt

sent_of : (w h : ℕ) (us : List Update) (es : List Entry) (f : Follower) (o : Option ℕ) (n : ℕ) → o ≡ Some n → HoldsSentAt w h us (events w h es) f o → HoldsSent w h us (events w h es) f n
sent_of w h us es f o n e k = subst (HoldsSentAt w h us (events w h es) f) e k

-- ---- the copies

-- They are copies on the screen.
copy_on : (area : Rect) (w h : ℕ) (p : Paint) → IsWithin area w h → CopyLiesIn area p → IsCopyOn w h p
copy_on area w h (Put r colours) on k = k
copy_on area w h (Copy r sx sy) on k = (lies_within r area w h k.0 on, lies_within (source_of r sx sy) area w h k.1 on)
copy_on area w h (Resized size) on k = k

pub copies_on : (form : AnswerForm) (w h : ℕ) (us : List Update) (es : List Entry) (area : Rect) → IsWithin area w h → AreCopiesOn w h (passed_at form w h es us area).copies
copies_on form w h us es area on =
    by_parts (λ q. AreCopiesOn w h q.copies) w h es us area (since_of form w h es) (λ k d lt. absurd (omega (arith, lt)))
    (λ n e le few k d lt. copy_on area w h (get_or (found w h es us area n).copies k d) on (copies_lie_in w h area (lacked_at w h es n) (drop n us) k d lt))

-- They are few.
pub copies_few : (form : AnswerForm) (w h : ℕ) (us : List Update) (es : List Entry) (area : Rect) → length (passed_at form w h es us area).copies ≤ 64
copies_few form w h us es area = by_parts (λ q. length q.copies ≤ 64) w h es us area (since_of form w h es) (omega arith) (λ n e le few. few)

-- A follower makes them.
pub copies_made : (w h : ℕ) (held : Map (Option ℕ)) (ps : List Paint) → AreCopiesOn w h ps → after_rectangles held ps ≡ moved held ps
copies_made w h held [] on = refl
copies_made w h held (Put r colours ∷ ps) on = absurd (on 0 (Put r colours) (omega arith))
copies_made w h held (Copy r sx sy ∷ ps) on = copies_made w h (copy r sx sy held) ps (λ k d lt. on (suc k) d (omega (arith, lt)))
copies_made w h held (Resized size ∷ ps) on = absurd (on 0 (Resized size) (omega arith))

-- ---- what is held behind the copies

-- What lies in a tile that isn't due stays.
pub copies_keep : (form : AnswerForm) (w h : ℕ) (us : List Update) (es : List Entry) (area : Rect) (f : Follower) → HoldsAnswered w h us es f
    → (t x y : ℕ) → t < tile_count w h → Has (tile_rect w h t) x y → due_tile w h es us t ≡ false → moved f.held (passed_at form w h es us area).copies x y ≡ f.held x y
copies_keep form w h us es area f k t x y lt p due =
    by_parts (λ q. moved f.held q.copies x y ≡ f.held x y) w h es us area (since_of form w h es) refl
    (λ n e le few.
    let at : HoldsSent w h us (events w h es) f n = sent_of w h us es f (since_of form w h es) n e (since_held form w h us es f k) in
    copies_stay_off w h area (lacked_at w h es n) f.held (drop n us) t x y
    (not_touched (tile_rect w h t) us n (sent w h es t) (at.latest (tile_rect w h t)) due) (holds_has (tile_rect w h t) x y p))

is_last : (o : Option ℕ) (n : ℕ) → not (is_number o n) ≡ false → o ≡ Some n
is_last None n e = absurd cc
is_last (Some m) n e = ap (λ k. Some k) (eqb-true m n (not_not _ e))
  where
    not_not : (b : Bool) → not b ≡ false → b ≡ true
    not_not true e = refl
    not_not false e = absurd cc

-- What lies in a tile of the area that isn't lacked is what the screen shows.
pub copies_bring : (form : AnswerForm) (w h : ℕ) (us : List Update) (es : List Entry) (area : Rect) (f : Follower) → IsWithin area w h → ((x y : ℕ) → Has area x y → Has (known_part (told_last (events w h es))) x y)
    → HoldsAnswered w h us es f → (t x y : ℕ) → t < tile_count w h → Has area x y → Has (tile_rect w h t) x y → (passed_at form w h es us area).lacks t ≡ false
    → moved f.held (passed_at form w h es us area).copies x y ≡ Some (tint f.format (screen us x y))
copies_bring form w h us es area f on known k t x y lt in_area in_tile =
    by_parts (λ q. q.lacks t ≡ false → moved f.held q.copies x y ≡ Some (tint f.format (screen us x y))) w h es us area (since_of form w h es) (λ e. absurd cc)
    (λ n e le few lacks.
    let at : HoldsSent w h us (events w h es) f n = sent_of w h us es f (since_of form w h es) n e (since_held form w h us es f k) in
    let before : HoldsBut w h area (lacked_at w h es n) (tint f.format) f.held (screen (take n us)) =
    record {
      each = λ s u v there has tile inside.
          let r : Rect = tile_rect w h s in
          let in_part : Has (known_tile w h es s) u v = common_has r (known_part (told_last (events w h es))) u v (has_holds r u v tile) (known u v (has_holds area u v inside)) in
          at.holds s there (is_last (sent w h es s) n has) u v in_part.left in_part.right in_part.top in_part.bottom;
    } in
    (copies_keep_up w h area (lacked_at w h es n) (tint f.format) f.held (screen (take n us)) (drop n us) on before).each t x y lt lacks (holds_has (tile_rect w h t) x y in_tile) (holds_has area x y in_area)
    ∙ ap (λ (s : Canvas). Some (tint f.format (s x y))) (screen_behind opening us n))
