-- What a turn begins to send. `Session::turn_at` owes the bytes of the definitions.
use Rattle.std.proofs.Common.{◌≡◌, ℕ, zero, suc, ◌^◌, ◌<◌, ◌≤◌, Bool, true, false, List, [], ◌∷◌, ◌++◌, length, take, drop, Option, Some, None, refl, sym, ap, subst, ◌∙◌, arith, length-append, append_assoc, ◌⊎◌, inl, inr}
use Rattle.std.specs.Prelude.{◌&&◌, ◌||◌, not, is_none, is_some, if◌then◌else◌, unwrap_or, ◌==◌, nat_lt, nat_le}
use Rattle.std.specs.List.{list_any, range_with_len}
use Rattle.std.proofs.lemmas.Bool.Decides.{nat_tests}
use Rattle.std.proofs.lemmas.Bool.{eqb-true}
use Rattle.std.proofs.lemmas.List.{length-take, length-drop, take-take, take_all}
use Rattle.std.proofs.Math.Seq.{drop-append_seam}
use Rattle.byte_reading.specs.Reading.{Reading, whole_of}
use Rattle.raster.specs.declared.rect.Rect.{Rect}
use Rattle.raster.specs.declared.size.Size.{Size}
use Rattle.raster.specs.Screen.{IsWithin, meets, tile_rect, tile_count}
use Rattle.raster.specs.Size.{IsScreenSize}
use Rattle.raster.specs.Update.{Paint, Update, Paints, Cut, screen, bells, last_size, last_text, NumberedText}
use Rattle.raster.specs.Update as update
use Rattle.rfb_wire.specs.Greeting.{Greeting, ahead}
use Rattle.rfb_wire.specs.Handshake.{said_to_viewer}
use Rattle.rfb_wire.specs.Writing.{bell_bytes}
use Rattle.tiles.specs.Have.{SentTiles, HaveStands, sent_at}
use Rattle.tiles.specs.Touched.{Event, WasCut, is_due_since, runs, told_last}
use Rattle.tiles.proofs.HaveLaws.{sent_at_stands}
use Rattle.reflect_core.specs.declared.cut.Cut as cutting
use Rattle.reflect_core.specs.Asked.{Wanted, AskedStands, last_cut}
use Rattle.copy_log.specs.Passed.{IsSamePassed}
use Rattle.reflect_core.specs.Source.{IsCutOf, copies_in, due_in, marked, passed_to, was_sent_if_due}
use Rattle.reflect_core.proofs.CutLaws.{passed_is}
use Rattle.update_encoder.specs.Answer.{answer_bytes}
use Rattle.update_encoder.specs.Style.{Style}
use Rattle.viewer_session.specs.declared.form.AnswerForm.{AnswerForm}
use Rattle.update_encoder.specs.Coming.{shown}
use Rattle.update_encoder.specs.Written.{is_still_due_of}
use Rattle.update_encoder.proofs.CutLaws.{cut_is_answered}
use Rattle.viewer_session.specs.Found.{answered_at, has_newer, is_newer, rings, told_or_answered, update_in, update_of}
use Rattle.viewer_session.specs.Outgoing.{Sending, text_message}
use Rattle.roles.specs.Held.{HeldStands}
use Rattle.viewer_session.specs.Record.{Entry, MadeCut, events, format_of, choice_of, messages_in}
use Rattle.viewer_session.specs.Turn.{asked_part, clipped_to, due_tile, due_tile_in, has_answer, passed_at, since_of, still_due, still_due_in, was_sent, all_were_sent, size_at, size_for, size_or_update, told_at, told_of, update_for, update_at, update_part, bell_at, newer_text, text_at, began_at, record_after_cut_as, style_of, Chosen, stream_after, with_chosen}
use Rattle.viewer_session.specs.Turn as turn
use Rattle.zrle_answer.specs.Written.{has_begun}
use Rattle.viewer_session.specs.Chosen.{MayBeChosen}
use Rattle.viewer_session.specs.Viewer.{Setup, Viewer, out_bytes, after_cut_as}
use Rattle.viewer_session.specs.Session.{State, Serves, Relays, Stands, Greets, Keeps, CutsAt, HasCounted, IsGreeting, at_rest, hello_of, is_greeted, is_ready, fault_in, asked_now, since_now, style_now, told_now}
use Rattle.viewer_session.proofs.HelloLaws.{not_yet}
use Rattle.viewer_session.proofs.SameRuns.{runs_same, all_same, any_same, no_run}

-- ---- how many rectangles an answer has

abbrev pub found_in : cutting.Cut → Rect → List Rect
found_in cut area = runs cut.width cut.height area (marked cut)

-- The bytes of an answer to what was found in a cut.
abbrev pub bytes_in : Style → cutting.Cut → Rect → List ℕ
bytes_in style cut area = answer_bytes style (shown cut) (copies_in cut) cut.all_were_sent (found_in cut area)

-- There is neither a rectangle nor a copy.
abbrev pub has_none : cutting.Cut → ℕ → Bool
has_none cut count = (count == 0) && (length (copies_in cut) == 0)

-- Then there is no update.
pub found_none : (style : Style) (cut : cutting.Cut) (area : Rect) (count : ℕ) → count ≡ length (found_in cut area) → has_none cut count ≡ true → update_of style cut area ≡ None
found_none style cut area count counted none =
    ap (λ b. if b then None else Some (area, bytes_in style cut area)) (sym (ap (has_none cut) counted) ∙ none)

-- Otherwise they are the update.
pub found_some : (style : Style) (cut : cutting.Cut) (area : Rect) (count : ℕ) (bytes : List ℕ) → count ≡ length (found_in cut area) → has_none cut count ≡ false → bytes ≡ bytes_in style cut area
    → update_of style cut area ≡ Some (area, bytes)
found_some style cut area count bytes counted some e =
    ap (λ b. if b then None else Some (area, bytes_in style cut area)) (sym (ap (has_none cut) counted) ∙ some) ∙ ap (λ (bs : List ℕ). Some (area, bs)) (sym e)

-- The same of what the code has at hand.
pub none_at : (st now : State) (o : Option Rect) (area : Rect) (seen : cutting.Cut) (count : ℕ) → st ≡ now → o ≡ Some area → seen ≡ st.cut → count ≡ length (found_in seen area) → has_none seen count ≡ true
    → update_in (style_now now) now.cut o ≡ None
none_at st now o area seen count same is there counted none =
    sym (ap (λ (t : State). update_in (style_now t) t.cut o) same)
    ∙ (ap (update_in (style_now st) st.cut) is
    ∙ (ap (λ (cut : cutting.Cut). update_of (style_now st) cut area) (sym there) ∙ found_none (style_now st) seen area count counted none))

pub some_at : (st now : State) (o : Option Rect) (area : Rect) (seen : cutting.Cut) (count : ℕ) (bytes : List ℕ) → st ≡ now → o ≡ Some area → seen ≡ st.cut → count ≡ length (found_in seen area) → has_none seen count ≡ false
    → bytes ≡ bytes_in (style_now st) seen area → update_in (style_now now) now.cut o ≡ Some (area, bytes)
some_at st now o area seen count bytes same is there counted some e =
    sym (ap (λ (t : State). update_in (style_now t) t.cut o) same)
    ∙ (ap (update_in (style_now st) st.cut) is
    ∙ (ap (λ (cut : cutting.Cut). update_of (style_now st) cut area) (sym there) ∙ found_some (style_now st) seen area count bytes counted some e))

-- ---- the update at a cut is the one of the definitions

-- What is met twice is met.
met_once : (m l d : Bool) → (m && (l && (m && d))) ≡ (m && (l && d))
met_once true l d = refl
met_once false l d = refl

neither : (a c : Bool) → (not a && c) ≡ not (not c || a)
neither true true = refl
neither true false = refl
neither false true = refl
neither false false = refl

if_not : (b c : Bool) (x y : Rect × List ℕ) → b ≡ not c → x ≡ y → (if b then None else Some x) ≡ (if c then Some y else None)
if_not b true x y e f = ap (λ t. if t then None else Some x) e ∙ ap (λ (t : Rect × List ℕ). Some t) f
if_not b false x y e f = ap (λ t. if t then None else Some x) e

on_screen : (area : Rect) (w h v u : ℕ) → w ≡ v → h ≡ u → IsWithin area v u → IsWithin area w h
on_screen area w h v u ew eh on = record { across = omega (arith, on.across, ew); down = omega (arith, on.down, eh) }

-- The tiles that a cut marks are those of the definitions that are still due, and its copies are those that are passed
-- on.
module _ (form : AnswerForm) (known : List Update) (n : ℕ) (area : Rect) (have : SentTiles) (cut : cutting.Cut) (entries : List Entry) (is : IsCutOf known n area have (since_of form have.width have.height entries) cut) (stood : HaveStands have (events have.width have.height entries)) where
  abbrev w : ℕ
  w = have.width

  abbrev h : ℕ
  h = have.height

  abbrev seen : List Update
  seen = take n known

  abbrev since : Option ℕ
  since = since_of form w h entries

  same : IsSamePassed w h (passed_at form w h entries seen area) (passed_to have area since seen)
  same = passed_is have area (events w h entries) since seen stood

  pub copies_there : copies_in cut ≡ (passed_at form w h entries seen area).copies
  copies_there = is.copies ∙ same.copies

  pub marks_still : (t : ℕ) → t < tile_count w h → marked cut t ≡ ((passed_at form w h entries seen area).lacks t && due_tile_in w h entries seen area t)
  marks_still t lt =
      ap (λ (o : Option Bool). unwrap_or o false) (is.due t lt)
      ∙ (ap (λ b. b && due_in have area seen t) (same.lacks t lt)
      ∙ ap (λ (o : Option ℕ). (passed_at form w h entries seen area).lacks t && (meets area (tile_rect w h t) && is_due_since (tile_rect w h t) o seen)) (sent_at_stands have (events w h entries) t stood lt))

  pub still_is : (t : ℕ) → t < tile_count w h → is_still_due_of have area since seen t ≡ still_due form w h entries seen area t
  still_is t lt =
      ap (λ b. b && is_due_since (tile_rect w h t) (sent_at have t) seen) (same.lacks t lt)
      ∙ ap (λ (o : Option ℕ). (passed_at form w h entries seen area).lacks t && is_due_since (tile_rect w h t) o seen) (sent_at_stands have (events w h entries) t stood lt)

  pub all_sent_is : cut.all_were_sent ≡ all_were_sent w h entries seen area
  all_sent_is =
      is.all_were_sent
      ∙ all_same (was_sent_if_due have area seen) (λ t. not (due_tile_in w h entries seen area t) || was_sent w h entries t) (tile_count w h) 0
      (λ t lo hi. ap (λ o. not (meets area (tile_rect w h t) && is_due_since (tile_rect w h t) o seen) || is_some o) (sent_at_stands have (events w h entries) t stood (omega (arith, hi))))

update_same : (form : AnswerForm) (known : List Update) (n : ℕ) (area : Rect) (have : SentTiles) (cut : cutting.Cut) (entries : List Entry) (style : Style)
    → IsCutOf known n area have (since_of form have.width have.height entries) cut → have.width ≡ cut.width → have.height ≡ cut.height → IsScreenSize cut.width cut.height → IsWithin area cut.width cut.height
    → HaveStands have (events have.width have.height entries) → style ≡ style_of form entries
    → update_of style cut area ≡ update_for form have.width have.height entries (take n known) (Some area)
update_same form known n area have cut entries style is ew eh size on stood same =
    let w : ℕ = have.width in
    let h : ℕ = have.height in
    let us : List Update = take n known in
    let since : Option ℕ = since_of form w h entries in
    let still : ℕ → Bool = still_due form w h entries us area in
    let still_here : ℕ → Bool = still_due_in form w h entries us area in
    let lacks : ℕ → Bool = (passed_at form w h entries us area).lacks in
    let copies : List Paint = (passed_at form w h entries us area).copies in
    let all : Bool = all_were_sent w h entries us area in
    let copies_are : copies_in cut ≡ copies = copies_there form known n area have cut entries is stood in
    let runs_are : runs cut.width cut.height area (is_still_due_of have area since us) ≡ runs w h area still =
    ap (λ k. runs k cut.height area (is_still_due_of have area since us)) (sym ew)
    ∙ (ap (λ k. runs w k area (is_still_due_of have area since us)) (sym eh) ∙ runs_same w h area (is_still_due_of have area since us) still (still_is form known n area have cut entries is stood)) in
    let bytes : bytes_in style cut area ≡ answer_bytes (style_of form entries) (screen us) copies all (runs w h area still) =
    cut_is_answered known n area have since cut style (copies_in cut) cut.all_were_sent is ew eh size on
    ∙ (ap (answer_bytes style (screen us) (copies_in cut) cut.all_were_sent) runs_are
    ∙ (ap (λ (cs : List Paint). answer_bytes style (screen us) cs cut.all_were_sent (runs w h area still)) copies_are
    ∙ (ap (λ b. answer_bytes style (screen us) copies b (runs w h area still)) (all_sent_is form known n area have cut entries is stood)
    ∙ ap (λ (t : Style). answer_bytes t (screen us) copies all (runs w h area still)) same))) in
    let found_are : found_in cut area ≡ runs w h area (marked cut) = ap (λ k. runs k cut.height area (marked cut)) (sym ew) ∙ ap (λ k. runs w k area (marked cut)) (sym eh) in
    let some : Bool = list_any still_here (range_with_len 0 (tile_count w h)) in
    let no_rectangle : (length (found_in cut area) == 0) ≡ not some =
    ap (λ rs. length rs == 0) found_are
    ∙ (no_run w h area (marked cut) (omega (arith, size.wide, ew)) (omega (arith, size.high, eh)) (on_screen area w h cut.width cut.height ew eh on)
    ∙ ap not
    (any_same (λ t. meets area (tile_rect w h t) && marked cut t) still_here (tile_count w h) 0
    (λ t lo hi. ap (λ b. meets area (tile_rect w h t) && b) (marks_still form known n area have cut entries is stood t (omega (arith, hi))) ∙ met_once (meets area (tile_rect w h t)) (lacks t) (due_tile w h entries us t)))) in
    let test : has_none cut (length (found_in cut area)) ≡ not (has_answer form w h entries us area) =
    ap (λ b. b && (length (copies_in cut) == 0)) no_rectangle
    ∙ (ap (λ (cs : List Paint). not some && (length cs == 0)) copies_are ∙ neither some (length copies == 0)) in
    if_not (has_none cut (length (found_in cut area))) (has_answer form w h entries us area) (area, bytes_in style cut area)
    (area, answer_bytes (style_of form entries) (screen us) copies all (runs w h area still)) test (ap (λ (bs : List ℕ). (area, bs)) bytes)

-- The same over a screen of w by h.
update_on : (form : AnswerForm) (w h : ℕ) (known : List Update) (n : ℕ) (area : Rect) (have : SentTiles) (cut : cutting.Cut) (entries : List Entry) (style : Style)
    → have.width ≡ w → have.height ≡ h → IsCutOf known n area have (since_of form w h entries) cut → have.width ≡ cut.width → have.height ≡ cut.height → IsScreenSize cut.width cut.height → IsWithin area cut.width cut.height
    → HaveStands have (events w h entries) → style ≡ style_of form entries
    → update_of style cut area ≡ update_for form w h entries (take n known) (Some area)
update_on form w h known n area have cut entries style v u is ew eh size on stood same =
    let Same : ℕ → ℕ → Type 0 = λ x y. IsCutOf known n area have (since_of form x y entries) cut → HaveStands have (events x y entries) → update_of style cut area ≡ update_for form x y entries (take n known) (Some area) in
    let here : Same have.width have.height = λ c k. update_same form known n area have cut entries style c ew eh size on k same in
    subst (λ y. Same w y) u (subst (λ x. Same x have.height) v here) is stood

-- What is known of a state and a cut that was made for it.
pub record IsCutFor (st : State) (cut : cutting.Cut) (nowhere : Rect) (known : List Update) (n : ℕ) : Type 0 where
  pub is : IsCutOf known n (unwrap_or (asked_now st) nowhere) st.have (since_now st) cut
  pub width : st.width ≡ cut.width
  pub height : st.height ≡ cut.height
  pub have_width : st.have.width ≡ st.width
  pub have_height : st.have.height ≡ st.height
  pub size : IsScreenSize cut.width cut.height
  pub within : IsWithin (unwrap_or (asked_now st) nowhere) cut.width cut.height

pub same_style : (st : State) (form : AnswerForm) (entries : List Entry) → st.form ≡ form → st.format ≡ format_of entries → st.choice ≡ choice_of entries → style_now st ≡ style_of form entries
same_style st form entries e f g = λ i. record { runs = (e i).runs; format = f i; choice = g i }

-- The number of the last answer, where copies may be passed on, is that of the definitions.
pub since_is : (s : Setup) (st : State) (p : Viewer) → Serves s st p → since_now st ≡ since_of s.form s.w s.h p.entries
since_is s st p k = λ i. if (k.form i).copies && (k.keeps.choice i).copy then k.keeps.asked.answered i else None

update_by : (s : Setup) (st : State) (p : Viewer) (cut : cutting.Cut) (known : List Update) (n : ℕ) (nowhere : Rect) (area : Option Rect) → Serves s st p
    → IsCutOf known n (unwrap_or area nowhere) st.have (since_now st) cut → st.width ≡ cut.width → st.height ≡ cut.height → st.have.width ≡ st.width → st.have.height ≡ st.height → IsScreenSize cut.width cut.height
    → IsWithin (unwrap_or area nowhere) cut.width cut.height → update_in (style_now st) cut area ≡ update_for s.form s.w s.h p.entries (take n known) area
update_by s st p cut known n nowhere None k is ew eh hw hh size on = refl
update_by s st p cut known n nowhere (Some area) k is ew eh hw hh size on =
    update_on s.form s.w s.h known n area st.have cut p.entries (style_now st) (hw ∙ k.width) (hh ∙ k.height) (subst (λ o. IsCutOf known n area st.have o cut) (since_is s st p k) is) (hw ∙ ew) (hh ∙ eh) size on k.keeps.have (same_style st s.form p.entries k.form k.keeps.format k.keeps.choice)

-- The size that the viewer was told, and the area that it asked for inside it, are those of the definitions.
told_is : (s : Setup) (st : State) (p : Viewer) → Serves s st p → told_now st ≡ told_of s.w s.h p.entries
told_is s st p k = λ i. unwrap_or (k.keeps.told i) (record { width = k.width i; height = k.height i })

pub asked_is : (s : Setup) (st : State) (p : Viewer) → Serves s st p → asked_now st ≡ asked_part s.w s.h p.entries
asked_is s st p k = ap (λ (t : Size). clipped_to t st.asked.area) (told_is s st p k) ∙ ap (clipped_to (told_of s.w s.h p.entries)) k.keeps.asked.area

-- The size that a session finds at a cut is the one of the definitions.
pub size_is : (s : Setup) (st : State) (p : Viewer) (last : Option Size) (us : List Update) → Serves s st p → last ≡ last_size us
    → size_for st.width st.height st.host st.choice.resizes (told_now st) last st.asked.area ≡ size_at s.w s.h s.host p.entries us
size_is s st p last us k e = λ i. size_for (k.width i) (k.height i) (k.host i) (k.keeps.choice i).resizes (told_is s st p k i) (e i) (k.keeps.asked.area i)

-- The update that a session finds in a cut is the one of the definitions.
pub update_is : (s : Setup) (st : State) (p : Viewer) (cut : cutting.Cut) (known : List Update) (n : ℕ) (nowhere : Rect) → Serves s st p → IsCutFor st cut nowhere known n
    → update_in (style_now st) cut (asked_now st) ≡ update_at s.form s.w s.h p.entries (take n known)
update_is s st p cut known n nowhere k c =
    update_by s st p cut known n nowhere (asked_now st) k c.is c.width c.height c.have_width c.have_height c.size c.within
    ∙ ap (update_for s.form s.w s.h p.entries (take n known)) (asked_is s st p k)

-- ---- news

bells_taken : (n : ℕ) (us : List Update) → bells (take n us) ≤ bells us
bells_taken zero us = omega arith
bells_taken (suc n) [] = omega arith
bells_taken (suc n) (Paints size ps ∷ us) = bells_taken n us
bells_taken (suc n) (update.Bell ∷ us) = omega (arith, bells_taken n us)
bells_taken (suc n) (Cut text ∷ us) = bells_taken n us

either_by : (number n : ℕ) (b : Bool) → nat_le number n ≡ b → (number ≤ n) ⊎ (n ≤ number)
either_by number n true e = inl (grind (arith, nat_tests))
either_by number n false e = inr (grind (arith, nat_tests))

either : (number n : ℕ) → (number ≤ n) ⊎ (n ≤ number)
either number n = either_by number n (nat_le number n) refl

not_more : (a b : ℕ) → b ≤ a → nat_lt a b ≡ false
not_more a b le = grind (arith, nat_tests)

rings_by : (known : List Update) (number n : ℕ) → (number ≤ n) ⊎ (n ≤ number) → nat_lt (bells (take number known)) (bells (take n known)) ≡ nat_lt (bells (take number (take n known))) (bells (take n known))
rings_by known number n (inl le) = ap (λ us. nat_lt (bells us) (bells (take n known))) (sym (take-take number n known le))
rings_by known number n (inr le) =
    let same : take n (take number known) ≡ take n known = take-take n number known le in
    let whole : take number (take n known) ≡ take n known = take_all number (take n known) (omega (arith, length-take n known)) in
    not_more (bells (take number known)) (bells (take n known)) (omega (arith, bells_taken n (take number known), ap bells same))
    ∙ sym (ap (λ us. nat_lt (bells us) (bells (take n known))) whole ∙ not_more (bells (take n known)) (bells (take n known)) (omega arith))

bell_is : (last : Option ℕ) (before now : ℕ) (known : List Update) (n : ℕ) → now ≡ bells (take n known) → ((number : ℕ) → last ≡ Some number → (number ≤ length known) × (before ≡ bells (take number known)))
    → (if rings last before now then bell_bytes else []) ≡ bell_at (take n known) last
bell_is None before now known n e counted = refl
bell_is (Some number) before now known n e counted =
    ap (λ b. if b then bell_bytes else [])
    (ap (λ k. nat_lt before k) e ∙ (ap (λ k. nat_lt k (bells (take n known))) (counted number refl).1 ∙ rings_by known number n (either number n)))

text_by : (number : ℕ) (text : Option NumberedText) → (if is_newer number text then text_message text else []) ≡ newer_text number text
text_by number None = refl
text_by number (Some last) = refl

text_is : (last : Option ℕ) (text : Option NumberedText) (us : List Update) → text ≡ last_text us → (if has_newer last text then text_message text else []) ≡ text_at us last
text_is None text us e = refl
text_is (Some number) text us e = text_by number text ∙ ap (newer_text number) e

-- Where a text is newer there is one.
text_of_newer : (number : ℕ) (text : Option NumberedText) → is_newer number text ≡ true → is_some text ≡ true
text_of_newer number None e = absurd cc
text_of_newer number (Some last) e = refl

pub text_there : (last : Option ℕ) (text : Option NumberedText) (b : Bool) → b ≡ has_newer last text → b ≡ true → is_some text ≡ true
text_there None text b e newer = absurd (let never : false ≡ true = sym e ∙ newer in cc)
text_there (Some number) text b e newer = text_of_newer number text (sym e ∙ newer)

-- ---- the viewer after a cut

-- All bytes of a viewer's hello, by now.
abbrev hello_bytes : Setup → Viewer → List ℕ
hello_bytes s p = if p.greet then said_to_viewer s.w s.h s.name p.said else []

rests_cut : (s : Setup) (us : List Update) (chosen : Option Chosen) (p : Viewer) → p ≡ at_rest p → after_cut_as s us chosen p ≡ at_rest (after_cut_as s us chosen p)
rests_cut s us chosen p e = ap (after_cut_as s us chosen) e

drop_at : (xs ys : List ℕ) (n : ℕ) → n ≡ length xs → drop n (xs ++ ys) ≡ ys
drop_at xs ys n e = ap (λ k. drop k (xs ++ ys)) e ∙ drop-append_seam xs ys

-- What the state was to send was sent, so what it is to send now is what was said now.
drop_said : (n : ℕ) (xs ys : List ℕ) → n ≤ length xs → length (drop n xs) ≡ 0 → drop n (xs ++ ys) ≡ ys
drop_said n xs ys le e = drop_at xs ys n (omega (arith, length-drop n xs))

-- The hello is done, so it says no more.
greets_cut : (s : Setup) (o : Option Greeting) (greet : Bool) (hello : Reading (Unit {0})) (said : ℕ) (before after : List ℕ) → is_some (whole_of (hello_of o)) ≡ true → Greets s o greet hello said before
    → Greets s o greet hello said after
greets_cut s None greet hello said before after done k = k
greets_cut s (Some g) greet hello said before after done k =
    record {
      w = k.w;
      h = k.h;
      name = k.name;
      greets = k.greets;
      goes_on = k.goes_on;
      taken = λ wants. absurd (let open_ : is_some (whole_of hello) ≡ false = not_yet hello wants in let shut : is_some (whole_of hello) ≡ true = ap (λ r. is_some (whole_of r)) k.goes_on ∙ done in cc);
    }

and_left : (a b : Bool) → (a && b) ≡ true → a ≡ true
and_left true b e = refl
and_left false b e = e

and_right : (a b : Bool) → (a && b) ≡ true → b ≡ true
and_right true b e = e
and_right false b e = absurd cc

pub sent_all : (st : State) → is_ready st ≡ true → length st.unsent ≡ 0
sent_all st e = eqb-true (length st.unsent) 0 (and_left (length st.unsent == 0) (is_greeted st && is_none (fault_in st)) e)

pub greeted_ready : (st : State) → is_ready st ≡ true → is_greeted st ≡ true
greeted_ready st e = and_left (is_greeted st) (is_none (fault_in st)) (and_right (length st.unsent == 0) (is_greeted st && is_none (fault_in st)) e)

-- A hello that is done says no more, whatever waits.
pub greeting_done : (o : Option Greeting) (out now : Sending) → is_some (whole_of (hello_of o)) ≡ true → IsGreeting o out → IsGreeting o now
greeting_done None out now done k = tt
greeting_done (Some g) out now done k =
    record { short = k.short; said = λ wants. absurd (let open_ : is_some (whole_of (ahead g)) ≡ false = not_yet (ahead g) wants in cc) }

serves_cut : (s : Setup) (st : State) (p : Viewer) (us : List Update) (chosen : Option Chosen) (told : Option Size) (wanted : Wanted) (have : SentTiles) (cut : cutting.Cut) (piece bytes : List ℕ) (begun : Bool) → Serves s st p → is_ready st ≡ true
    → turn.sent_as chosen s.form s.w s.h s.host p.entries us ≡ bytes → begun ≡ has_begun (stream_after chosen p.stream)
    → Keeps s.w s.h (record st { told = told; asked = wanted; have = have; cut = cut; piece = piece; unsent = bytes; begun = begun }) (record_after_cut_as chosen s.form s.w s.h s.host p.entries us)
    → Serves s (record st { told = told; asked = wanted; have = have; cut = cut; piece = piece; unsent = bytes; begun = begun }) (after_cut_as s us chosen p)
serves_cut s st p us chosen told wanted have cut piece bytes begun k ready e streams keeps =
    let none : length st.unsent ≡ 0 = sent_all st ready in
    let sent : List ℕ = turn.sent_as chosen s.form s.w s.h s.host p.entries us in
    let over : length (drop p.written (out_bytes s p)) ≡ 0 = ap length (sym k.unsent) ∙ none in
    let out : out_bytes s (after_cut_as s us chosen p) ≡ out_bytes s p ++ sent = sym (append_assoc (hello_bytes s p) p.said_after sent) in
    record {
      width = k.width;
      height = k.height;
      form = k.form;
      host = k.host;
      role = k.role;
      rests = rests_cut s us chosen p k.rests;
      greets = greets_cut s st.greeting p.greet p.hello p.said p.said_after (p.said_after ++ sent) (greeted_ready st ready) k.greets;
      reading = k.reading;
      taken = k.taken;
      short = k.short;
      keeps = keeps;
      written = omega (arith, k.written, ap length out, length-append (out_bytes s p) sent);
      unsent = sym (ap (drop p.written) out ∙ (drop_said p.written (out_bytes s p) sent k.written over ∙ e));
      begun = streams;
    }

-- No message is taken by it.
messages_began : (n : ℕ) (size : Option Size) (found : Option (Rect × List ℕ)) (entries : List Entry) → messages_in (told_at n size found (MadeCut n ∷ entries)) ≡ messages_in entries
messages_began n (Some size) found entries = refl
messages_began n None None entries = refl
messages_began n None (Some found) entries = refl

relays_cut : (s : Setup) (st : State) (p : Viewer) (us : List Update) (chosen : Option Chosen) (told : Option Size) (wanted : Wanted) (have : SentTiles) (cut : cutting.Cut) (piece bytes : List ℕ) (begun : Bool) → Relays st p
    → Relays (record st { told = told; asked = wanted; have = have; cut = cut; piece = piece; unsent = bytes; begun = begun }) (after_cut_as s us chosen p)
relays_cut s st p us chosen told wanted have cut piece bytes begun k =
    record {
      waiting = k.waiting;
      keys = k.keys;
      held = subst (λ ms. HeldStands st.role st.held ms) (sym (messages_began (length us) (size_at s.w s.h s.host p.entries us) (with_chosen chosen (update_at s.form s.w s.h p.entries us)) p.entries)) k.held;
    }

-- ---- the record after it

events_began : (w h n : ℕ) (size : Option Size) (found : Option (Rect × List ℕ)) (entries : List Entry) → events w h (told_at n size found entries) ≡ told_or_answered n size found (events w h entries)
events_began w h n (Some size) found entries = refl
events_began w h n None None entries = refl
events_began w h n None (Some found) entries = refl

format_began : (n : ℕ) (size : Option Size) (found : Option (Rect × List ℕ)) (entries : List Entry) → format_of (told_at n size found (MadeCut n ∷ entries)) ≡ format_of entries
format_began n (Some size) found entries = refl
format_began n None None entries = refl
format_began n None (Some found) entries = refl

choice_began : (n : ℕ) (size : Option Size) (found : Option (Rect × List ℕ)) (entries : List Entry) → choice_of (told_at n size found (MadeCut n ∷ entries)) ≡ choice_of entries
choice_began n (Some size) found entries = refl
choice_began n None None entries = refl
choice_began n None (Some found) entries = refl

keeps_cut : (w h n : ℕ) (st : State) (entries : List Entry) (size : Option Size) (found : Option (Rect × List ℕ)) (told : Option Size) (wanted : Wanted) (have : SentTiles) (cut : cutting.Cut) (piece bytes : List ℕ) (begun : Bool) → Keeps w h st entries
    → ((es : List Event) → told_last es ≡ st.told → told_last (told_or_answered n size found es) ≡ told)
    → ((es : List Event) → AskedStands st.asked es → AskedStands wanted (told_or_answered n size found (WasCut n ∷ es)))
    → ((es : List Event) → told_last es ≡ st.told → HaveStands st.have es → HaveStands have (told_or_answered n size found es))
    → Keeps w h (record st { told = told; asked = wanted; have = have; cut = cut; piece = piece; unsent = bytes; begun = begun }) (told_at n size found (MadeCut n ∷ entries))
keeps_cut w h n st entries size found told wanted have cut piece bytes begun k tells asked has =
    let es : List Event = events w h entries in
    let now : events w h (told_at n size found (MadeCut n ∷ entries)) ≡ told_or_answered n size found (WasCut n ∷ es) = events_began w h n size found (MadeCut n ∷ entries) in
    record {
      asked = subst (λ l. AskedStands wanted l) (sym now) (asked es k.asked);
      have = subst (λ l. HaveStands have l) (sym now) (has (WasCut n ∷ es) (sym k.told) (record { each = k.have.each }));
      format = k.format ∙ sym (format_began n size found entries);
      choice = k.choice ∙ sym (choice_began n size found entries);
      told = sym (ap told_last now ∙ tells (WasCut n ∷ es) (sym k.told));
    }

-- What bytes an answer has makes no difference to what a state keeps.
keeps_chosen : (w h n : ℕ) (st : State) (entries : List Entry) (size : Option Size) (found : Option (Rect × List ℕ)) (chosen : Option Chosen) → Keeps w h st (told_at n size found entries) → Keeps w h st (told_at n size (with_chosen chosen found) entries)
keeps_chosen w h n st entries (Some size) found chosen k = k
keeps_chosen w h n st entries None found None k = k
keeps_chosen w h n st entries None None (Some chosen) k = k
keeps_chosen w h n st entries None (Some found) (Some chosen) k =
    record { asked = k.asked; have = record { each = k.have.each }; format = k.format; choice = k.choice; told = k.told }

-- ---- all of it

-- What is sent of an update at a cut, where the definitions find this one; and how that leads the viewer's zlib stream
-- on.
pub record Sends (s : Setup) (us : List Update) (p : Viewer) (here : Option (Rect × List ℕ)) (size : Option Size) (begun : Bool) (update : List ℕ) : Type 0 where
  pub chosen : Option Chosen
  pub may_be : MayBeChosen s us p.entries p.stream chosen
  pub bytes : update ≡ size_or_update size (with_chosen chosen here)
  pub streams : begun ≡ has_begun (stream_after chosen p.stream)

count_taken : (n : ℕ) (us : List Update) → n ≤ length us → length (take n us) ≡ n
count_taken n us le = omega (arith, length-take n us)

last_is : (n number : ℕ) (o : Option ℕ) → o ≡ Some n → o ≡ Some number → n ≡ number
last_is n number o e f = cc

tells : (s : Setup) (es : List Entry) (us : List Update) (chosen : Option Chosen)
    → turn.sent_as chosen s.form s.w s.h s.host es us
    ≡ bell_at us (last_cut (events s.w s.h es)) ++ (text_at us (last_cut (events s.w s.h es)) ++ size_or_update (size_at s.w s.h s.host es us) (with_chosen chosen (update_at s.form s.w s.h es us)))
tells s es us chosen =
    append_assoc (bell_at us (last_cut (events s.w s.h es))) (text_at us (last_cut (events s.w s.h es))) (size_or_update (size_at s.w s.h s.host es us) (with_chosen chosen (update_at s.form s.w s.h es us)))

-- A cut, and what of it begins to be sent.
pub turned : {S : Type 0} (cuts : S → ℕ → S → Type 0) (before after : S) (st now : State) (known : List Update) (least most n : ℕ) (cut : cutting.Cut) (nowhere : Rect) (size told : Option Size) (wanted : Wanted) (have : SentTiles) (bell text : Bool) (update piece bytes : List ℕ) (begun : Bool)
    → cuts before n after → st ≡ now → is_ready now ≡ true → IsCutFor st cut nowhere known n → (least ≤ n) × (n ≤ most)
    → bell ≡ rings st.asked.last st.cut.bells cut.bells → text ≡ has_newer st.asked.last cut.text
    → size ≡ size_for st.width st.height st.host st.choice.resizes (told_now st) cut.host_size st.asked.area
    → ((s : Setup) (p : Viewer) → Serves s st p → Sends s (take n known) p (update_in (style_now st) cut (asked_now st)) size begun update)
    → wanted.last ≡ Some n
    → ((es : List Event) → told_last es ≡ st.told → told_last (told_or_answered n size (update_in (style_now st) cut (asked_now st)) es) ≡ told)
    → ((es : List Event) → AskedStands st.asked es → AskedStands wanted (told_or_answered n size (update_in (style_now st) cut (asked_now st)) (WasCut n ∷ es)))
    → ((es : List Event) → told_last es ≡ st.told → HaveStands st.have es → HaveStands have (told_or_answered n size (update_in (style_now st) cut (asked_now st)) es))
    → bytes ≡ (if bell then bell_bytes else []) ++ ((if text then text_message cut.text else []) ++ update)
    → CutsAt cuts before after now (record st { told = told; asked = wanted; have = have; cut = cut; piece = piece; unsent = bytes; begun = begun }) known least most
turned cuts before after st now known least most n cut nowhere size told wanted have bell text update piece bytes begun was same ready c fresh rung newer sized sends last says asked has e =
    let us : List Update = take n known in
    let here : Option (Rect × List ℕ) = update_in (style_now st) cut (asked_now st) in
    record {
      number = n;
      cut = was;
      known = c.is.known;
      fresh = fresh.0;
      bounded = fresh.1;
      counted = λ number f. let m : n ≡ number = last_is n number wanted.last last f in (omega (arith, c.is.known, m), c.is.bells ∙ ap (λ k. bells (take k known)) m);
      stands = λ s p counted stood.
          let both : Stands s st p = subst (λ (t : State). Stands s t p) (sym same) stood in
          let k : Serves s st p = both.serves in
          let known_bells : HasCounted st known = subst (λ (t : State). HasCounted t known) (sym same) counted in
          let count : length us ≡ n = count_taken n known c.is.known in
          let update_there : here ≡ update_at s.form s.w s.h p.entries us = update_is s st p cut known n nowhere k c in
          let size_there : size ≡ size_at s.w s.h s.host p.entries us = sized ∙ size_is s st p cut.host_size us k c.is.size in
          let sent : Sends s us p here size begun update = sends s p k in
          let chosen : Option Chosen = sent.chosen in
          let both_there : size_or_update size (with_chosen chosen here) ≡ size_or_update (size_at s.w s.h s.host p.entries us) (with_chosen chosen (update_at s.form s.w s.h p.entries us)) =
          ap (λ o. size_or_update o (with_chosen chosen here)) size_there ∙ ap (λ o. size_or_update (size_at s.w s.h s.host p.entries us) (with_chosen chosen o)) update_there in
          let last_there : st.asked.last ≡ last_cut (events s.w s.h p.entries) = k.keeps.asked.last in
          let bells_there : (if bell then bell_bytes else []) ≡ bell_at us (last_cut (events s.w s.h p.entries)) =
          ap (λ b. if b then bell_bytes else []) rung ∙ (bell_is st.asked.last st.cut.bells cut.bells known n c.is.bells known_bells ∙ ap (bell_at us) last_there) in
          let text_there : (if text then text_message cut.text else []) ≡ text_at us (last_cut (events s.w s.h p.entries)) =
          ap (λ b. if b then text_message cut.text else []) newer ∙ (text_is st.asked.last cut.text us c.is.text ∙ ap (text_at us) last_there) in
          let bytes_there : bytes ≡ turn.sent_as chosen s.form s.w s.h s.host p.entries us =
          e
          ∙ (ap (λ t. t ++ ((if text then text_message cut.text else []) ++ update)) bells_there
          ∙ (ap (λ t. bell_at us (last_cut (events s.w s.h p.entries)) ++ (t ++ update)) text_there
          ∙ (ap (λ t. bell_at us (last_cut (events s.w s.h p.entries)) ++ (text_at us (last_cut (events s.w s.h p.entries)) ++ t)) (sent.bytes ∙ both_there) ∙ sym (tells s p.entries us chosen)))) in
          let new : State = record st { told = told; asked = wanted; have = have; cut = cut; piece = piece; unsent = bytes; begun = begun } in
          let kept : Keeps s.w s.h new (told_at n size (with_chosen chosen here) (MadeCut n ∷ p.entries)) =
          keeps_chosen s.w s.h n new (MadeCut n ∷ p.entries) size here chosen (keeps_cut s.w s.h n st p.entries size here told wanted have cut piece bytes begun k.keeps says asked has) in
          let record_is : told_at n size (with_chosen chosen here) (MadeCut n ∷ p.entries) ≡ record_after_cut_as chosen s.form s.w s.h s.host p.entries us =
          ap (λ o. told_at n o (with_chosen chosen here) (MadeCut n ∷ p.entries)) size_there
          ∙ (ap (λ u. told_at n (size_at s.w s.h s.host p.entries us) (with_chosen chosen u) (MadeCut n ∷ p.entries)) update_there
          ∙ ap (λ m. told_at m (size_at s.w s.h s.host p.entries us) (with_chosen chosen (update_at s.form s.w s.h p.entries us)) (MadeCut m ∷ p.entries)) (sym count)) in
          record {
            chosen = chosen;
            may_be = sent.may_be;
            stands = record {
              serves = serves_cut s st p us chosen told wanted have cut piece bytes begun k (ap is_ready same ∙ ready) (sym bytes_there) sent.streams (subst (λ (l : List Entry). Keeps s.w s.h new l) record_is kept);
              relays = relays_cut s st p us chosen told wanted have cut piece bytes begun both.relays;
            };
          };
    }
