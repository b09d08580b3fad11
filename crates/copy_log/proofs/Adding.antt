-- What is passed on of one copy more, of an update by its note, and of the updates that a log has.
use Rattle.std.proofs.Common.{◌≡◌, ℕ, zero, suc, ◌+◌, ◌-◌, ◌%◌, ◌<◌, ◌≤◌, ◌≢◌, Bool, true, List, [], ◌∷◌, ◌++◌, length, get_or, take, drop, refl, ap, sym, subst, ◌∙◌, arith, inl, inr, ◌⊎◌}
use Rattle.std.specs.Prelude.{◌||◌, max, nat_le}
use Rattle.std.proofs.lemmas.Bool.{and_parts, cases_lt}
use borrow.Author.Tests.{leb-true}
use Rattle.std.proofs.lemmas.List.{drop-append-le, ext_get_or, get_or-take, length-take, length-take-le}
use Rattle.raster.specs.declared.rect.Rect.{Rect}
use Rattle.raster.specs.Screen.{tile_count}
use Rattle.raster.specs.Update.{Paint, Update, Bell, paints_of}
use Rattle.copy_log.specs.declared.copy_rect.CopyRect.{CopyRect}
use Rattle.copy_log.specs.Passed.{BeginsWith, IsSamePassed, Passed, passed, passed_after_paint, passed_after_paints}
use Rattle.copy_log.specs.Notes.{IsNoteOf, Log, LogStands, Noted, PassedOn, note_at, nothing, paint_of, paints, passed_in, reaches}
use Rattle.copy_log.proofs.Lacking.{passed_after-append}
use Rattle.copy_log.proofs.Same.{lacking_all, same_lacking_all, same_on, same_paint, same_paints, update_as}

-- ---- copies

more_paints : (w h : ℕ) (area : Rect) (p : Passed) (cs : List CopyRect) (i : ℕ) (d : CopyRect) → i < length cs
    → passed_after_paints w h area p (paints (take (suc i) cs)) ≡ passed_after_paint w h area (passed_after_paints w h area p (paints (take i cs))) (paint_of (get_or cs i d))
more_paints w h area p [] i d lt = absurd (omega arith)
more_paints w h area p (c ∷ cs) zero d lt = refl
more_paints w h area p (c ∷ cs) (suc i) d lt = more_paints w h area (passed_after_paint w h area p (paint_of c)) cs i d (omega arith)

on_screen : (w h : ℕ) (area : Rect) (x : Paint) (mid new : PassedOn) → mid.width ≡ w → mid.height ≡ h
    → IsSamePassed mid.width mid.height (passed_after_paint mid.width mid.height area (passed_in mid) x) (passed_in new) → IsSamePassed w h (passed_after_paint w h area (passed_in mid) x) (passed_in new)
on_screen w h area x mid new wide high s =
    subst (λ b. IsSamePassed w b (passed_after_paint w b area (passed_in mid) x) (passed_in new)) high
    (subst (λ a. IsSamePassed a mid.height (passed_after_paint a mid.height area (passed_in mid) x) (passed_in new)) wide s)

pub copy_more : (w h : ℕ) (area : Rect) (p : Passed) (mid new : PassedOn) (cs : List CopyRect) (i : ℕ) (d : CopyRect) → mid.width ≡ w → mid.height ≡ h → i < length cs
    → IsSamePassed w h (passed_after_paints w h area p (paints (take i cs))) (passed_in mid)
    → IsSamePassed mid.width mid.height (passed_after_paint mid.width mid.height area (passed_in mid) (paint_of (get_or cs i d))) (passed_in new)
    → IsSamePassed w h (passed_after_paints w h area p (paints (take (i + 1) cs))) (passed_in new)
copy_more w h area p mid new cs i d wide high lt before step =
    let x : Paint = paint_of (get_or cs i d) in
    let one : i + 1 ≡ suc i = omega arith in
    let here : passed_after_paints w h area p (paints (take (i + 1) cs)) ≡ passed_after_paint w h area (passed_after_paints w h area p (paints (take i cs))) x =
    ap (λ k. passed_after_paints w h area p (paints (take k cs))) one ∙ more_paints w h area p cs i d lt in
    subst (λ (q : Passed). IsSamePassed w h q (passed_in new)) (sym here)
    (same_on w h (passed_after_paint w h area (passed_after_paints w h area p (paints (take i cs))) x) (passed_after_paint w h area (passed_in mid) x) (passed_in new)
    (same_paint w h area (passed_after_paints w h area p (paints (take i cs))) (passed_in mid) x before)
    (on_screen w h area x mid new wide high step))

-- ---- an update

pub note_passed : (w h : ℕ) (area : Rect) (p : Passed) (copies : List Paint) (touched : ℕ → Bool) (mid new : Passed) (u : Update) → BeginsWith w h copies touched u
    → IsSamePassed w h (passed_after_paints w h area p copies) mid → new.copies ≡ mid.copies → ((t : ℕ) → t < tile_count w h → new.lacks t ≡ (mid.lacks t || touched t))
    → IsSamePassed w h (passed_after_paints w h area p (paints_of u)) new
note_passed w h area p copies touched mid new u begins before same marks =
    let after : Passed = passed_after_paints w h area p copies in
    same_on w h (passed_after_paints w h area p (paints_of u)) (lacking_all after touched) new
    (update_as w h area p copies touched u begins)
    (same_on w h (lacking_all after touched) (lacking_all mid touched) new (same_lacking_all w h after mid touched before) (record { copies = same; lacks = marks }))

-- ---- a log

-- What is taken over of a newer log, where the notes from update first on are the newer log's.
pub caught_up : (old new newer : Log) (us : List Update) (first : ℕ) → LogStands old (take old.number us) → LogStands newer us → newer.width ≡ old.width → newer.height ≡ old.height
    → new.width ≡ old.width → new.height ≡ old.height → new.number ≡ newer.number → (first ≡ old.number) ⊎ (first + 4 ≡ newer.number)
    → ((k : ℕ) → first ≤ k → k < newer.number → newer.number ≤ k + 4 → note_at new k ≡ note_at newer k)
    → ((j : ℕ) → j < 4 → ((k : ℕ) → first ≤ k → k < newer.number → k % 4 ≢ j) → get_or new.notes j nothing ≡ get_or old.notes j nothing) → LogStands new us
caught_up old new newer us first on ahead wide high w h number from taken others =
    record {
      number = number ∙ ahead.number;
      each = λ k lt le.
          subst (λ a. IsNoteOf a new.height (note_at new k) (get_or us k Bell)) (sym w)
          (subst (λ b. IsNoteOf old.width b (note_at new k) (get_or us k Bell)) (sym h) (here k lt le));
    }
  where
    known : old.number ≤ length us
    known = omega (arith, on.number, length-take old.number us)

    own : (k : ℕ) → k < length us → length us ≤ k + 4 → k < first → k < old.number
    own k lt le less = elim from [ inl e ↦ omega arith | inr e ↦ absurd (omega (arith, ahead.number)) ]

    kept : (k : ℕ) → k < length us → length us ≤ k + 4 → k < first → note_at new k ≡ note_at old k
    kept k lt le less = others (k % 4) (omega arith) (λ i lo hi e. absurd (omega (arith, ahead.number)))

    here : (k : ℕ) → k < length us → length us ≤ k + 4 → IsNoteOf old.width old.height (note_at new k) (get_or us k Bell)
    here k lt le =
        elim (cases_lt k first) [
          | inl less ↦
              (let low : k < old.number = own k lt le less in
              let len : length (take old.number us) ≡ old.number = length-take-le old.number us known in
              subst (λ (v : Update). IsNoteOf old.width old.height (note_at new k) v) (get_or-take old.number us k Bell low)
              (subst (λ (n : Noted). IsNoteOf old.width old.height n (get_or (take old.number us) k Bell)) (sym (kept k lt le less)) (on.each k (omega (arith, len, low)) (omega (arith, len, known, le)))))
          | inr more ↦
              subst (λ (n : Noted). IsNoteOf old.width old.height n (get_or us k Bell)) (sym (taken k more (omega (arith, ahead.number)) (omega (arith, ahead.number))))
              (subst (λ a. IsNoteOf a old.height (note_at newer k) (get_or us k Bell)) wide
              (subst (λ b. IsNoteOf newer.width b (note_at newer k) (get_or us k Bell)) high (ahead.each k lt le)))
        ]

-- ---- the updates that a log has

take_more : (us : List Update) (k : ℕ) → k < length us → take (suc k) us ≡ take k us ++ get_or us k Bell ∷ []
take_more [] k lt = absurd (omega arith)
take_more (u ∷ us) zero lt = refl
take_more (u ∷ us) (suc k) lt = ap (λ (vs : List Update). u ∷ vs) (take_more us k (omega arith))

length_taken : (us : List Update) (k : ℕ) → k < length us → length (take k us) ≡ k
length_taken [] k lt = absurd (omega arith)
length_taken (u ∷ us) zero lt = refl
length_taken (u ∷ us) (suc k) lt = let e = length_taken us k (omega arith) in omega arith

pub behind_more : (us : List Update) (since k : ℕ) → since ≤ k → k < length us → drop since (take (k + 1) us) ≡ drop since (take k us) ++ get_or us k Bell ∷ []
behind_more us since k le lt =
    let one : k + 1 ≡ suc k = omega arith in
    ap (λ n. drop since (take n us)) one
    ∙ (ap (λ (vs : List Update). drop since vs) (take_more us k lt) ∙ drop-append-le since (take k us) (get_or us k Bell ∷ []) (omega (arith, length_taken us k lt)))

-- One update more is passed on, by its note.
pub pass_more : (w h : ℕ) (area : Rect) (lacks : ℕ → Bool) (log : Log) (us : List Update) (since k : ℕ) (mid new : Passed) → LogStands log us → log.width ≡ w → log.height ≡ h → since ≤ k → k < log.number → log.number ≤ k + 4
    → IsSamePassed w h (passed w h area lacks (drop since (take k us))) mid
    → ((u : Update) → IsNoteOf w h (note_at log k) u → IsSamePassed w h (passed_after_paints w h area mid (paints_of u)) new)
    → IsSamePassed w h (passed w h area lacks (drop since (take (k + 1) us))) new
pass_more w h area lacks log us since k mid new on wide high le lt few before step =
    let u : Update = get_or us k Bell in
    let first : Passed = passed w h area lacks (drop since (take k us)) in
    let there : k < length us = omega (arith, on.number) in
    let noted : IsNoteOf log.width log.height (note_at log k) u = on.each k there (omega (arith, on.number)) in
    let fits : IsNoteOf w h (note_at log k) u = subst (λ b. IsNoteOf w b (note_at log k) u) high (subst (λ a. IsNoteOf a log.height (note_at log k) u) wide noted) in
    let all : passed w h area lacks (drop since (take (k + 1) us)) ≡ passed_after_paints w h area first (paints_of u) =
    ap (λ (vs : List Update). passed w h area lacks vs) (behind_more us since k le there) ∙ passed_after-append w h area (record { copies = []; lacks = lacks }) (drop since (take k us)) (u ∷ []) in
    subst (λ (q : Passed). IsSamePassed w h q new) (sym all)
    (same_on w h (passed_after_paints w h area first (paints_of u)) (passed_after_paints w h area mid (paints_of u)) new (same_paints w h area first mid (paints_of u) before) (step u fits))

-- What adding a note does, on the log's screen.
pub note_step : (w h : ℕ) (area : Rect) (mid new : PassedOn) (log : Log) (k : ℕ) (note : Noted) → mid.width ≡ w → mid.height ≡ h → note ≡ note_at log k
    → ((u : Update) → IsNoteOf mid.width mid.height note u → IsSamePassed mid.width mid.height (passed_after_paints mid.width mid.height area (passed_in mid) (paints_of u)) (passed_in new))
    → (u : Update) → IsNoteOf w h (note_at log k) u → IsSamePassed w h (passed_after_paints w h area (passed_in mid) (paints_of u)) (passed_in new)
note_step w h area mid new log k note wide high is step u =
    subst (λ (n : Noted). IsNoteOf w h n u → IsSamePassed w h (passed_after_paints w h area (passed_in mid) (paints_of u)) (passed_in new)) is
    (subst (λ b. IsNoteOf w b note u → IsSamePassed w b (passed_after_paints w b area (passed_in mid) (paints_of u)) (passed_in new)) high
    (subst (λ a. IsNoteOf a mid.height note u → IsSamePassed a mid.height (passed_after_paints a mid.height area (passed_in mid) (paints_of u)) (passed_in new)) wide (step u)))

-- Where the note of the update after the first k stands.
pub note_there : (notes : List Noted) (k at : ℕ) (note : Noted) → length notes ≡ 4 → at ≡ k % 4 → note ≡ get_or notes at note → note ≡ get_or notes (k % 4) nothing
note_there notes k at note len place is = is ∙ (get_or_defaults notes at note nothing (omega (arith, len, place)) ∙ ap (λ j. get_or notes j nothing) place)
  where
    get_or_defaults : (xs : List Noted) (i : ℕ) (a b : Noted) → i < length xs → get_or xs i a ≡ get_or xs i b
    get_or_defaults [] i a b lt = absurd (omega arith)
    get_or_defaults (x ∷ xs) zero a b lt = refl
    get_or_defaults (x ∷ xs) (suc i) a b lt = get_or_defaults xs i a b (omega arith)

-- All notes were taken over.
pub all_taken : (new newer : List Noted) → length new ≡ 4 → length newer ≡ 4 → ((k : ℕ) → 0 ≤ k → k < 4 → 4 ≤ k + 4 → get_or new (k % 4) nothing ≡ get_or newer (k % 4) nothing) → new ≡ newer
all_taken new newer a b taken =
    ext_get_or nothing new newer (a ∙ sym b) (λ i lt. (let low : i < 4 = omega (arith, a) in let is : i % 4 ≡ i = omega arith in subst (λ j. get_or new j nothing ≡ get_or newer j nothing) is (taken i (omega arith) low (omega arith))))

-- How far a log reaches.
pub reached : (log : Log) (since : ℕ) (b : Bool) → b ≡ reaches log since → b ≡ true → (since ≤ log.number) × (log.number ≤ since + 4)
reached log since b is held =
    let parts = and_parts (nat_le since log.number) (nat_le log.number (since + 4)) (sym is ∙ held) in
    (leb-true since log.number parts.0, leb-true log.number (since + 4) parts.1)

-- Where taking over begins.
pub begins_from : (own newer first less : ℕ) → less ≡ newer - 4 → first ≡ max own less → (first ≡ own) ⊎ (first + 4 ≡ newer)
begins_from own newer first less e f =
    elim (cases_lt own less) [
      | inl low ↦ inr (omega arith)
      | inr high ↦ inl (omega arith)
    ]
