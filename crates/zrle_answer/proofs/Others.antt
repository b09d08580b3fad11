-- An answer without ZRLE is an answer, and the only one where ZRLE may not be used.
use Rattle.std.proofs.Common.{◌≡◌, ℕ, Bool, true, false, List, [], ◌∷◌, ◌++◌, ◌∙◌, length, Option, Some, None, refl, sym, ap}
use Rattle.std.specs.Prelude.{◌&&◌}
use Rattle.raster.specs.declared.rect.Rect.{Rect}
use Rattle.raster.specs.Screen.{Canvas}
use Rattle.raster.specs.Update.{Paint}
use Rattle.update_encoder.specs.Answer.{all_spelled, answer_bytes, spelled}
use Rattle.update_encoder.specs.Coming.{front_bytes}
use Rattle.update_encoder.proofs.Counts.{bytes_of, count_spelled, front_is}
use Rattle.zrle_answer.specs.Rectangle.{ZlibStream}
use Rattle.zrle_answer.specs.Answer.{ZrleStyle, IsSpelled, AreSpelled}
use Rattle.zrle_answer.specs.Answer.IsSpelled.{without, compressed}
use Rattle.zrle_answer.specs.Answer.AreSpelled.{none, one_more}
use Rattle.zrle_answer.specs.Followed.{OtherAnswersAreAnswers, ZrleIsUsedByLeaveAlone}

without_all : (style : ZrleStyle) (canvas : Canvas) (copy : Bool) (above : Option Rect) (rs : List Rect) (stream : ZlibStream) → AreSpelled style canvas copy above rs stream (bytes_of style.plain canvas copy above rs) stream
without_all style canvas copy above [] stream = none style canvas copy above stream
without_all style canvas copy above (r ∷ rs) stream =
    one_more style canvas copy above r rs stream stream stream (spelled style.plain canvas copy above r) (bytes_of style.plain canvas copy (Some r) rs) (without style canvas copy above r stream)
    (without_all style canvas copy (Some r) rs stream)

-- The front, with the number of rectangles, and these are the answer.
front_then : (style : ZrleStyle) (canvas : Canvas) (copies : List Paint) (sent : Bool) (rs : List Rect)
    → front_bytes copies (length rs) ++ bytes_of style.plain canvas (style.plain.choice.copy && sent) None rs ≡ answer_bytes style.plain canvas copies sent rs
front_then style canvas copies sent rs =
    let copy : Bool = style.plain.choice.copy && sent in
    ap (λ n. front_bytes copies n ++ bytes_of style.plain canvas copy None rs) (sym (count_spelled style.plain canvas copy None rs))
    ∙ front_is copies (all_spelled style.plain canvas copy None rs)

pub other_answers_are_answers : OtherAnswersAreAnswers
other_answers_are_answers style canvas copies sent rs stream =
    let copy : Bool = style.plain.choice.copy && sent in
    let others : List ℕ = bytes_of style.plain canvas copy None rs in
    record {
      others = others;
      are = sym (front_then style canvas copies sent rs);
      spelled_so = without_all style canvas copy None rs stream;
    }

-- ---- where ZRLE may not be used

record IsOther (bytes known : List ℕ) (after before : ZlibStream) : Type 0 where
  same : bytes ≡ known
  stays : after ≡ before

one_other : {style : ZrleStyle} {canvas : Canvas} {copy : Bool} {above : Option Rect} {r : Rect} {before : ZlibStream} {bytes : List ℕ} {after : ZlibStream} → style.may_zrle ≡ false → IsSpelled style canvas copy above r before bytes after
    → IsOther bytes (spelled style.plain canvas copy above r) after before
one_other none_of_it (without style canvas copy above r stream) = record { same = refl; stays = refl }
one_other none_of_it (compressed style canvas copy above r before part may is few) = absurd (let wrong : true ≡ false = sym may ∙ none_of_it in cc)

all_other : {style : ZrleStyle} {canvas : Canvas} {copy : Bool} {above : Option Rect} {rs : List Rect} {before : ZlibStream} {bytes : List ℕ} {after : ZlibStream} → style.may_zrle ≡ false → AreSpelled style canvas copy above rs before bytes after
    → IsOther bytes (bytes_of style.plain canvas copy above rs) after before
all_other none_of_it (none style canvas copy above stream) = record { same = refl; stays = refl }
all_other none_of_it (one_more style canvas copy above r rs before between after first others spells more) =
    let one = one_other none_of_it spells in
    let rest = all_other none_of_it more in
    record {
      same = ap (λ t. t ++ others) one.same ∙ ap (λ t. spelled style.plain canvas copy above r ++ t) rest.same;
      stays = rest.stays ∙ one.stays;
    }

pub zrle_is_used_by_leave_alone : ZrleIsUsedByLeaveAlone
zrle_is_used_by_leave_alone style canvas copies sent rs before after bytes none_of_it is =
    let all = all_other none_of_it is.spelled_so in
    (is.are ∙ (ap (λ t. front_bytes copies (length rs) ++ t) all.same ∙ front_then style canvas copies sent rs), all.stays)
