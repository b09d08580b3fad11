-- Whether the updates that a log has begin with copies.
use Rattle.std.proofs.Common.{◌≡◌, ℕ, ◌+◌, ◌<◌, ◌≤◌, Bool, true, false, List, [], ◌∷◌, ◌++◌, length, get_or, take, drop, refl, ap, sym, ◌∙◌, arith}
use Rattle.std.specs.Prelude.{◌||◌, ◌==◌}
use Rattle.std.proofs.lemmas.Bool.Decides.{nat_tests}
use Rattle.std.specs.List.{list_any}
use Rattle.std.proofs.lemmas.List.{drop-append-le, length-take-le, take-append-drop}
use Rattle.std.proofs.lemmas.List.Folds.{list_any-append}
use Rattle.raster.specs.Update.{Paint, Update, Bell}
use Rattle.copy_log.specs.declared.copy_rect.CopyRect.{CopyRect}
use Rattle.copy_log.specs.Passed.{has_copy, is_copy}
use Rattle.copy_log.specs.Notes.{IsNoteOf, Log, LogStands, Noted, note_at, paints}
use Rattle.copy_log.proofs.Adding.{behind_more}

-- By the note of an update.
no_copy : (w h : ℕ) (note : Noted) (u : Update) → IsNoteOf w h note u → note.copies ≡ [] → has_copy u ≡ false
no_copy w h note u on none =
    ap (λ (ps : List Paint). list_any is_copy ps) (on.paints ∙ ap (λ (cs : List CopyRect). paints cs ++ on.others) none) ∙ on.no_copies

is_some_copy : (cs : List CopyRect) (others : List Paint) → 0 < length cs → list_any is_copy (paints cs ++ others) ≡ true
is_some_copy [] others lt = absurd (omega arith)
is_some_copy (c ∷ cs) others lt = refl

some_copy : (w h : ℕ) (note : Noted) (u : Update) → IsNoteOf w h note u → 0 < length note.copies → has_copy u ≡ true
some_copy w h note u on some = ap (λ (ps : List Paint). list_any is_copy ps) on.paints ∙ is_some_copy note.copies on.others some

empty : (cs : List CopyRect) → length cs ≡ 0 → cs ≡ []
empty [] e = refl
empty (c ∷ cs) e = absurd (omega arith)

either_false : (a b : Bool) → a ≡ false → b ≡ false → (a || (b || false)) ≡ false
either_false a b e f = (λ i. e i || (f i || false))

or_second : (a : Bool) → (a || true) ≡ true
or_second true = refl
or_second false = refl

-- None of the updates after since has a copy, up to the one behind the first k.
pub none_more : (log : Log) (us : List Update) (since k : ℕ) → LogStands log us → since ≤ k → k < log.number → log.number ≤ since + 4 → length (note_at log k).copies ≡ 0
    → list_any has_copy (drop since (take k us)) ≡ false → list_any has_copy (drop since (take (k + 1) us)) ≡ false
none_more log us since k on le lt few here before =
    let there : k < length us = omega (arith, on.number) in
    let none : has_copy (get_or us k Bell) ≡ false = no_copy log.width log.height (note_at log k) (get_or us k Bell) (on.each k there (omega (arith, on.number))) (empty (note_at log k).copies here) in
    ap (λ (vs : List Update). list_any has_copy vs) (behind_more us since k le there)
    ∙ (list_any-append has_copy (drop since (take k us)) (get_or us k Bell ∷ [])
    ∙ either_false (list_any has_copy (drop since (take k us))) (has_copy (get_or us k Bell)) before none)

-- The update behind the first k has one.
pub one_more : (log : Log) (us : List Update) (since k : ℕ) → LogStands log us → since ≤ k → k < log.number → log.number ≤ since + 4 → 0 < length (note_at log k).copies → list_any has_copy (drop since us) ≡ true
one_more log us since k on le lt few here =
    let there : k < length us = omega (arith, on.number) in
    let u : Update = get_or us k Bell in
    let some : has_copy u ≡ true = some_copy log.width log.height (note_at log k) u (on.each k there (omega (arith, on.number))) here in
    let front : List Update = take (k + 1) us in
    let long : since ≤ length front = omega (arith, length-take-le (k + 1) us (omega arith)) in
    let split : drop since us ≡ drop since front ++ drop (k + 1) us = ap (λ (vs : List Update). drop since vs) (sym (take-append-drop (k + 1) us)) ∙ drop-append-le since front (drop (k + 1) us) long in
    let first : list_any has_copy (drop since front) ≡ true =
    ap (λ (vs : List Update). list_any has_copy vs) (behind_more us since k le there)
    ∙ (list_any-append has_copy (drop since (take k us)) (u ∷ [])
    ∙ (ap (λ b. list_any has_copy (drop since (take k us)) || (b || false)) some ∙ or_second (list_any has_copy (drop since (take k us))))) in
    ap (λ (vs : List Update). list_any has_copy vs) split
    ∙ (list_any-append has_copy (drop since front) (drop (k + 1) us) ∙ ap (λ b. b || list_any has_copy (drop (k + 1) us)) first)

-- What the test of a note's copies says.
pub is_none : (n : ℕ) (b : Bool) → b ≡ (n == 0) → b ≡ true → n ≡ 0
is_none n b e h = grind (arith, nat_tests)

pub is_some : (n : ℕ) (b : Bool) → b ≡ (n == 0) → b ≡ false → 0 < n
is_some n b e h = grind (arith, nat_tests)
