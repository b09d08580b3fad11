-- What came is read, up to a message whose input waits. `run_viewer` keeps the bytes after it until the sink has the
-- input.
use Rattle.std.proofs.Common.{◌≡◌, ℕ, ◌+◌, ◌≤◌, ◌⊎◌, Bool, true, false, cond, List, [], ◌∷◌, ◌++◌, length, take, drop, None, inl, inr, refl, sym, ap, subst, ◌∙◌, arith, append-nil, length-append}
use Rattle.std.specs.Prelude.{is_some}
use Rattle.std.proofs.lemmas.List.{take-append-drop, drop-drop, length-take}
use Rattle.fault.specs.declared.kinds.Fault.{Fault}
use Rattle.viewer_session.specs.Viewer.{Setup, Viewer, after_byte, after_bytes}
use Rattle.viewer_session.specs.Session.{State, Stands, StandsBut, FeedsUpTo, FeedsToFault, at_rest, with_marks}
use Rattle.viewer_session.proofs.SessionLaws.{stands_input}
use Rattle.viewer_server.specs.Steps.{Unpassed, WaitsIfLeft, Reads}

-- ---- bytes that are left unread

unread_if : (b : Bool) (x y : Viewer) (n : ℕ) → length x.unread ≤ n → length y.unread ≤ n → length (cond b x y).unread ≤ n
unread_if true x y n k l = k
unread_if false x y n k l = l

unread_short : (s : Setup) (q : Viewer) (bs : List ℕ) → length (after_bytes q bs).unread ≤ length bs
unread_short s q [] = omega arith
unread_short s q (b ∷ bs) =
    let one = unread_short s (after_byte q b) bs in
    unread_if (is_some q.waiting) (record q { unread = b ∷ bs }) (after_bytes (after_byte q b) bs) (length (b ∷ bs)) (omega arith) (omega (arith, one))

-- All is left where an input waits from the first.
all_left : (s : Setup) (q : Viewer) (y : ℕ) (ys : List ℕ) (b : Bool) → (cond b (record q { unread = y ∷ ys }) (after_bytes (after_byte q y) ys)).unread ≡ y ∷ ys
    → (cond b (record q { unread = y ∷ ys }) (after_bytes (after_byte q y) ys)).lost ≡ [] → at_rest (cond b (record q { unread = y ∷ ys }) (after_bytes (after_byte q y) ys)) ≡ record q { unread = [] }
all_left s q y ys true e f = ap (λ (ls : List Bool). record q { unread = []; lost = ls }) (sym f)
all_left s q y ys false e f = let short = unread_short s (after_byte q y) ys in absurd (omega (arith, short, ap length e))

some_read : (s : Setup) (q : Viewer) (x : ℕ) (xs ys : List ℕ) (b : Bool)
    → ((after_bytes (after_byte q x) (xs ++ ys)).unread ≡ ys → (after_bytes (after_byte q x) (xs ++ ys)).lost ≡ [] → at_rest (after_bytes (after_byte q x) (xs ++ ys)) ≡ after_bytes (after_byte q x) xs)
    → (cond b (record q { unread = x ∷ xs ++ ys }) (after_bytes (after_byte q x) (xs ++ ys))).unread ≡ ys
    → (cond b (record q { unread = x ∷ xs ++ ys }) (after_bytes (after_byte q x) (xs ++ ys))).lost ≡ []
    → at_rest (cond b (record q { unread = x ∷ xs ++ ys }) (after_bytes (after_byte q x) (xs ++ ys))) ≡ cond b (record q { unread = x ∷ xs }) (after_bytes (after_byte q x) xs)
some_read s q x xs ys true k e f = absurd (omega (arith, ap length e, length-append xs ys))
some_read s q x xs ys false k e f = k e f

-- Where these are left, those before them were read, and nothing else happened.
cut_bytes : (s : Setup) (q : Viewer) (xs ys : List ℕ) → (after_bytes q (xs ++ ys)).unread ≡ ys → (after_bytes q (xs ++ ys)).lost ≡ [] → at_rest (after_bytes q (xs ++ ys)) ≡ after_bytes q xs
cut_bytes s q [] [] e f = ap (λ (ls : List Bool). record q { unread = []; lost = ls }) (sym f)
cut_bytes s q [] (y ∷ ys) e f = all_left s q y ys (is_some q.waiting) e f
cut_bytes s q (x ∷ xs) ys e f = some_read s q x xs ys (is_some q.waiting) (cut_bytes s (after_byte q x) xs ys) e f

cut_piece : (s : Setup) (q : Viewer) (piece first left : List ℕ) → piece ≡ first ++ left → (after_bytes q piece).unread ≡ left → (after_bytes q piece).lost ≡ [] → at_rest (after_bytes q piece) ≡ after_bytes q first
cut_piece s q piece first left split e f =
    subst (λ (t : List ℕ). at_rest (after_bytes q t) ≡ after_bytes q first) (sym split)
    (cut_bytes s q first left (subst (λ (t : List ℕ). (after_bytes q t).unread ≡ left) split e) (subst (λ (t : List ℕ). (after_bytes q t).lost ≡ []) split f))

-- ---- reading

reads_by : (old mid : State) (before after : Unpassed) (marks : List Bool) (piece first left : List ℕ) → before.waiting ≡ None → before.unread ≡ piece → piece ≡ first ++ left → after.unread ≡ left → after.waiting ≡ mid.waiting
    → WaitsIfLeft after → ((s : Setup) (p : Viewer) → Stands s old p → StandsBut s mid (after_bytes (with_marks marks p) piece) left) → Reads old (record mid { waiting = None }) before after
reads_by old mid before after marks piece first left none same split rest waits all feeds =
    record {
      marks = marks;
      bytes = first;
      none = none;
      unread = same ∙ (split ∙ ap (λ t. first ++ t) (sym rest));
      all = all;
      reads = λ s p k.
          let q : Viewer = with_marks marks p in
          let b : StandsBut s mid (after_bytes q piece) left = feeds s p k in
          let stood : Stands s mid (after_bytes q first) = subst (λ (t : Viewer). Stands s mid t) (cut_piece s q piece first left split b.unread b.marks) b.stands in
          record { stands = stands_input s mid (after_bytes q first) stood; waiting = stood.relays.waiting ∙ sym waits };
    }

none_dropped : (n : ℕ) (piece : List ℕ) → n ≡ length piece → drop n piece ≡ []
none_dropped n [] e = ap (λ (m : ℕ). drop m []) e
none_dropped n (x ∷ xs) e = ap (λ (m : ℕ). drop m (x ∷ xs)) e ∙ none_dropped (length xs) xs refl

waits_by : (piece : List ℕ) (used : ℕ) (mid : State) (after : Unpassed) (fine : Type 0) → ((used ≡ length piece) × fine) ⊎ (is_some mid.waiting ≡ true) → after.unread ≡ drop used piece → after.waiting ≡ mid.waiting → WaitsIfLeft after
waits_by piece used mid after fine (inl all) e f = inl (e ∙ none_dropped used piece all.0)
waits_by piece used mid after fine (inr w) e f = inr (ap is_some f ∙ w)

-- This many bytes were used.
pub reads_up_to : (old mid new : State) (before after : Unpassed) (piece : List ℕ) (used : ℕ) → before.waiting ≡ None → before.unread ≡ piece → FeedsUpTo old mid piece used → new ≡ record mid { waiting = None }
    → after.unread ≡ drop used piece → after.waiting ≡ mid.waiting → Reads old new before after
reads_up_to old mid new before after piece used none same fed now rest waits =
    subst (λ (st : State). Reads old st before after) (sym now)
    (reads_by old mid before after fed.marks piece (take used piece) (drop used piece) none same (sym (take-append-drop used piece)) rest waits (waits_by piece used mid after _ fed.all rest waits) fed.feeds)

-- There is a fault among them.
pub reads_to_fault : (old mid new : State) (before after : Unpassed) (piece : List ℕ) (fault : Fault) → before.waiting ≡ None → before.unread ≡ piece → FeedsToFault old mid piece fault → new ≡ record mid { waiting = None }
    → after.unread ≡ [] → after.waiting ≡ mid.waiting → Reads old new before after
reads_to_fault old mid new before after piece fault none same fed now rest waits =
    subst (λ (st : State). Reads old st before after) (sym now)
    (reads_by old mid before after fed.marks piece piece [] none same (sym (append-nil piece)) rest waits (inl rest) fed.feeds)

-- ---- the bytes of an inbox

pub read_on : (bytes : List ℕ) (start used : ℕ) → drop (start + used) bytes ≡ drop used (drop start bytes)
read_on bytes start used = sym (drop-drop used start bytes)

pub all_dropped : (n : ℕ) (bytes : List ℕ) → n ≤ length bytes → drop n (take n bytes) ≡ []
all_dropped n bytes le = none_dropped n (take n bytes) (omega (arith, le, length-take n bytes))
