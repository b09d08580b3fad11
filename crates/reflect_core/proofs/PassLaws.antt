-- Which copies are passed on where nearly the same is known of a viewer, and that a cut may leave out the tiles that
-- they bring. `Cut::fill` finds the copies in the log of a board.
use Rattle.std.proofs.Common.{◌≡◌, ℕ, ◌+◌, ◌<◌, ◌≤◌, Bool, true, false, List, [], length, take, drop, Option, Some, None, refl, ap, sym, ◌∙◌, subst, arith, inl, inr}
use Rattle.std.specs.Prelude.{◌&&◌, ◌||◌, ◌==◌, nat_le, not, if◌then◌else◌}
use Rattle.std.specs.List.{list_any}
use Rattle.std.proofs.lemmas.Bool.{and_parts, cases_Bool, eqb-true, le-leb}
use Rattle.std.proofs.lemmas.List.{length-map, take_all}
use Rattle.std.proofs.lemmas.Option.{get_or_from_slice_get, slice_get-get_or}
use borrow.Author.Tests.{leb-true}
use Rattle.raster.specs.declared.rect.Rect.{Rect}
use Rattle.raster.specs.Screen.{tile_count, tile_rect, value_at}
use Rattle.raster.specs.Update.{Update}
use Rattle.tiles.specs.Have.{SentTiles, sent_at}
use Rattle.tiles.specs.Touched.{is_due_since, touches}
use Rattle.copy_log.specs.Notes.{Log, LogStands, is_marked, is_number, paint_of, paints, passed_in, reaches, was_sent_at}
use Rattle.copy_log.specs.Passed.{IsSamePassed, Passed, has_copy, passed}
use Rattle.copy_log.proofs.Leads.{lacking_same, touched_is_lacked}
use Rattle.copy_log.proofs.Same.{none_passed as no_copies_passed, same_as}
use Rattle.reflect_core.specs.declared.cut.Cut.{Cut}
use Rattle.reflect_core.proofs.FillLaws.{and_swap}
use Rattle.reflect_core.specs.Source.{IsCutOf, due_in, is_recent, none_passed, passed_on, passed_to, still_due_in, unless_many}

-- ---- how many copies

few_unless : (p : Passed) (b : Bool) → nat_le (length p.copies) 64 ≡ b → length (if b then p else none_passed).copies ≤ 64
few_unless p true e = leb-true (length p.copies) 64 e
few_unless p false e = omega arith

few_if : (p : Passed) (b : Bool) → length (if b then unless_many p else none_passed).copies ≤ 64
few_if p true = few_unless p (nat_le (length p.copies) 64) refl
few_if p false = omega arith

-- No more copies are passed on than a log keeps.
pub few_passed : (w h : ℕ) (area : Rect) (sent : ℕ → Option ℕ) (since : Option ℕ) (us : List Update) → length (passed_on w h area sent since us).copies ≤ 64
few_passed w h area sent None us = omega arith
few_passed w h area sent (Some number) us = few_if (passed w h area (λ t. not (is_number (sent t) number)) (drop number us)) (is_recent number us)

-- ---- the same

same_if : (w h : ℕ) (p q : Passed) (a b : Bool) → b ≡ a → IsSamePassed w h p q → IsSamePassed w h (if a then p else none_passed) (if b then q else none_passed)
same_if w h p q true true e s = s
same_if w h p q true false e s = absurd cc
same_if w h p q false true e s = absurd cc
same_if w h p q false false e s = same_as w h none_passed

same_unless : (w h : ℕ) (p q : Passed) → IsSamePassed w h p q → IsSamePassed w h (unless_many p) (unless_many q)
same_unless w h p q s = same_if w h p q (nat_le (length p.copies) 64) (nat_le (length q.copies) 64) (ap (λ cs. nat_le (length cs) 64) s.copies) s

-- Where each tile of the screen was last sent at the same number, the same is passed on.
pub same_passed_on : (w h : ℕ) (area : Rect) (sent other : ℕ → Option ℕ) (since : Option ℕ) (us : List Update) → ((t : ℕ) → t < tile_count w h → other t ≡ sent t)
    → IsSamePassed w h (passed_on w h area sent since us) (passed_on w h area other since us)
same_passed_on w h area sent other None us same = same_as w h none_passed
same_passed_on w h area sent other (Some number) us same =
    let p : Passed = passed w h area (λ t. not (is_number (sent t) number)) (drop number us) in
    let q : Passed = passed w h area (λ t. not (is_number (other t) number)) (drop number us) in
    same_if w h (unless_many p) (unless_many q) (is_recent number us) (is_recent number us) refl
    (same_unless w h p q (lacking_same w h area (λ t. not (is_number (sent t) number)) (λ t. not (is_number (other t) number)) (drop number us) (λ t lt. ap (λ o. not (is_number o number)) (same t lt))))

-- ---- what is passed on at a cut

-- What the host's copies since an update would bring, were they not too many.
abbrev pub passed_since : SentTiles → Rect → ℕ → List Update → Passed
passed_since have area number us = passed have.width have.height area (λ t. not (is_number (sent_at have t) number)) (drop number us)

unless_few : (p : Passed) → length p.copies ≤ 64 → unless_many p ≡ p
unless_few p few = ap (λ b. if b then p else none_passed) (le-leb (length p.copies) 64 few)

pub passed_if_recent : (have : SentTiles) (area : Rect) (number : ℕ) (us : List Update) → is_recent number us ≡ true → length (passed_since have area number us).copies ≤ 64
    → passed_to have area (Some number) us ≡ passed_since have area number us
passed_if_recent have area number us recent few =
    ap (λ b. if b then unless_many (passed_since have area number us) else none_passed) recent ∙ unless_few (passed_since have area number us) few

passed_if_old : (have : SentTiles) (area : Rect) (number : ℕ) (us : List Update) → is_recent number us ≡ false → passed_to have area (Some number) us ≡ none_passed
passed_if_old have area number us old = ap (λ b. if b then unless_many (passed_since have area number us) else none_passed) old

-- ---- where no copy is passed on

-- What is due was touched since the answer, or it wasn't sent with it.
due_touched : (r : Rect) (o : Option ℕ) (number : ℕ) (us : List Update) → is_due_since r o us ≡ true → (not (is_number o number) || list_any (touches r) (drop number us)) ≡ true
due_touched r None number us e = refl
due_touched r (Some m) number us e =
    elim (cases_Bool (m == number)) [
      | inl is ↦ ap (λ b. not b || list_any (touches r) (drop number us)) is ∙ (ap (λ k. list_any (touches r) (drop k us)) (sym (eqb-true m number is)) ∙ e)
      | inr other ↦ ap (λ b. not b || list_any (touches r) (drop number us)) other
    ]

-- No copy is passed on, and each tile that is due is lacked.
pub record PassesNone (have : SentTiles) (area : Rect) (us : List Update) (p : Passed) : Type 0 where
  pub copies : p.copies ≡ []
  pub lacks : (t : ℕ) → due_in have area us t ≡ true → p.lacks t ≡ true

none_if_old : (have : SentTiles) (area : Rect) (us : List Update) → PassesNone have area us none_passed
none_if_old have area us = record { copies = refl; lacks = λ t due. refl }

none_without_copies : (have : SentTiles) (area : Rect) (number : ℕ) (us : List Update) → list_any has_copy (drop number us) ≡ false → PassesNone have area us (passed_since have area number us)
none_without_copies have area number us e =
    let lacks : ℕ → Bool = λ t. not (is_number (sent_at have t) number) in
    let none : (passed_since have area number us).copies ≡ [] = no_copies_passed have.width have.height area (record { copies = []; lacks = lacks }) (drop number us) e in
    record {
      copies = none;
      lacks = λ t due.
          touched_is_lacked have.width have.height area lacks (drop number us) t none
          (due_touched (tile_rect have.width have.height t) (sent_at have t) number us (and_parts _ (is_due_since (tile_rect have.width have.height t) (sent_at have t) us) due).1);
    }

-- Where the log doesn't reach back to the answer, or none of its updates since then has a copy.
pub passes_none : (have : SentTiles) (area : Rect) (number : ℕ) (us : List Update) → (is_recent number us && list_any has_copy (drop number us)) ≡ false
    → PassesNone have area us (passed_to have area (Some number) us)
passes_none have area number us e =
    elim (cases_Bool (is_recent number us)) [
      | inl recent ↦
          (let none : PassesNone have area us (passed_since have area number us) = none_without_copies have area number us (ap (λ b. b && list_any has_copy (drop number us)) (sym recent) ∙ e) in
          let few : length (passed_since have area number us).copies ≤ 64 = let is : length (passed_since have area number us).copies ≡ 0 = ap (λ cs. length cs) none.copies in omega arith in
          subst (PassesNone have area us) (sym (passed_if_recent have area number us recent few)) none)
      | inr old ↦ subst (PassesNone have area us) (sym (passed_if_old have area number us old)) (none_if_old have area us)
    ]

and_given : (a b : Bool) → (b ≡ true → a ≡ true) → (a && b) ≡ b
and_given true b given = refl
and_given false true given = absurd (let e : false ≡ true = given refl in cc)
and_given false false given = refl

-- Then a cut is the same as one without copies.
pub cut_without_copies : (us : List Update) (n : ℕ) (area : Rect) (have : SentTiles) (since : Option ℕ) (cut : Cut) → PassesNone have area (take n us) (passed_to have area since (take n us))
    → IsCutOf us n area have None cut → IsCutOf us n area have since cut
cut_without_copies us n area have since cut none was =
    record {
      known = was.known;
      number = was.number;
      size = was.size;
      bells = was.bells;
      text = was.text;
      copies = was.copies ∙ sym none.copies;
      due = λ t lt. was.due t lt ∙ ap Some (sym (same t));
      all_were_sent = was.all_were_sent;
      colours = λ t x y lt still. was.colours t x y lt (sym (same t) ∙ still);
    }
  where
    same : (t : ℕ) → still_due_in have area since (take n us) t ≡ due_in have area (take n us) t
    same t = and_given ((passed_to have area since (take n us)).lacks t) (due_in have area (take n us) t) (none.lacks t)

-- ---- where copies are passed on

-- What is passed on by a log of these updates, on its screen, to a viewer of these tiles, is so by other names of
-- these.
pub passed_for : (w h wide high : ℕ) (area : Rect) (held have : SentTiles) (n number : ℕ) (us : List Update) (p : Passed) → w ≡ wide → h ≡ high → held ≡ have → n ≡ number
    → IsSamePassed w h (passed w h area (λ t. not (was_sent_at held n t)) us) p → IsSamePassed wide high (passed wide high area (λ t. not (was_sent_at have number t)) us) p
passed_for w h wide high area held have n number us p a b c d s =
    subst (λ k. IsSamePassed wide high (passed wide high area (λ t. not (was_sent_at have k t)) us) p) d
    (subst (λ (v : SentTiles). IsSamePassed wide high (passed wide high area (λ t. not (was_sent_at v n t)) us) p) c
    (subst (λ y. IsSamePassed wide y (passed wide y area (λ t. not (was_sent_at held n t)) us) p) b
    (subst (λ x. IsSamePassed x h (passed x h area (λ t. not (was_sent_at held n t)) us) p) a s)))

-- The log has notes of the same updates as those that are kept.
pub recent_is : (log : Log) (us : List Update) (number : ℕ) → LogStands log us → reaches log number ≡ is_recent number us
recent_is log us number on = ap (λ n. nat_le number n && nat_le n (number + 4)) on.number

-- All else that two cuts say is the same.
pub record IsSameBut (old new : Cut) : Type 0 where
  pub width : new.width ≡ old.width
  pub number : new.number ≡ old.number
  pub host_size : new.host_size ≡ old.host_size
  pub bells : new.bells ≡ old.bells
  pub text : new.text ≡ old.text
  pub colours : new.colours.items ≡ old.colours.items
  pub all_were_sent : new.all_were_sent ≡ old.all_were_sent

-- A cut that passes copies on, and of whose due tiles those stay due that are lacked behind them.
pub cut_with_copies : (us : List Update) (area : Rect) (have : SentTiles) (since : Option ℕ) (number : ℕ) (old new : Cut) → since ≡ Some number → IsSameBut old new → IsCutOf us (length us) area have None old → is_recent number us ≡ true
    → length new.passed.copies ≤ 64 → IsSamePassed have.width have.height (passed_since have area number us) (passed_in new.passed) → length new.due.items ≡ tile_count have.width have.height
    → ((t : ℕ) → t < tile_count have.width have.height → is_marked new.due.items t ≡ (is_marked old.due.items t && is_marked new.passed.lacks t)) → IsCutOf us (length us) area have since new
cut_with_copies us area have since number old new is but was recent few on long left =
    subst (λ (o : Option ℕ). IsCutOf us (length us) area have o new) (sym is) (record {
      known = was.known;
      number = but.number ∙ was.number;
      size = but.host_size ∙ was.size;
      bells = but.bells ∙ was.bells;
      text = but.text ∙ was.text;
      copies = on.copies ∙ ap (λ (p : Passed). p.copies) brings;
      due = λ t lt. slice_get-get_or new.due.items t false (subst (λ n. t < n) (sym long) lt) ∙ ap Some (mark t lt);
      all_were_sent = but.all_were_sent ∙ was.all_were_sent;
      colours = λ t x y lt still in_area in_tile.
          (λ i. value_at (but.width i) (but.colours i) x y) ∙ was.colours t x y lt (and_parts ((passed_to have area (Some number) vs).lacks t) (due_in have area vs t) still).1 in_area in_tile;
    })
  where
    vs : List Update
    vs = take (length us) us

    same : us ≡ vs
    same = sym (take_all (length us) us (omega arith))

    many : length (passed_since have area number us).copies ≤ 64
    many = let is : length (paints new.passed.copies) ≡ length (passed_since have area number us).copies = ap (λ cs. length cs) on.copies in omega (arith, is, few, length-map new.passed.copies paint_of)

    brings : passed_since have area number us ≡ passed_to have area (Some number) vs
    brings = sym (passed_if_recent have area number us recent many) ∙ ap (λ (us' : List Update). passed_to have area (Some number) us') same

    mark : (t : ℕ) → t < tile_count have.width have.height → is_marked new.due.items t ≡ still_due_in have area (Some number) vs t
    mark t lt =
        left t lt
        ∙ (ap (λ b. b && is_marked new.passed.lacks t) (get_or_from_slice_get old.due.items t (due_in have area vs t) false (was.due t lt))
        ∙ (and_swap (due_in have area vs t) (is_marked new.passed.lacks t)
        ∙ ap (λ b. b && due_in have area vs t) (on.lacks t lt ∙ ap (λ (p : Passed). p.lacks t) brings)))
