-- Inputs on their way to the host, and bytes that wait to be read. Room for them is taken before they are moved.
use Rattle.std.proofs.Common.{◌≡◌, ℕ, ◌+◌, ◌<◌, Bool, true, false, cond, List, [], ◌∷◌, ◌++◌, length, take, drop, Option, refl, ap, sym, ◌∙◌, subst, arith, append_assoc, append-nil}
use Rattle.std.specs.Prelude.{map, slice_index_or}
use Rattle.std.proofs.lemmas.List.{drop_more, length-map, map-append, take_more, get_or-map}
use Rattle.viewer_session.specs.Session.{State, IsFeeding, marks_in}
use Rattle.roles.specs.Strokes.{Taken, unbroken, passes_after, StrokesKept, StrokesStand}
use Rattle.roles.proofs.StrokesLaws.{unbroken_more}
use Rattle.reflect_world.specs.Schedule.{Relayed, taken_from, told_of}
use Rattle.reflect_world.specs.declared.relay.RelayedInput as declared
use Rattle.reflect_world.specs.Relay.{KeepsStrokes, Tells, inputs_told, relayed_in, spelled, takes_from}
use Rattle.roles.specs.Spelling.{input_bytes}

-- ---- the relay

-- The spellings of inputs with their places.
abbrev spelled_all : List Taken → List ℕ
spelled_all ts = spelled (map (λ (t : Taken). t.input) ts)

spelled_end : (ts : List Taken) (t : Taken) → spelled_all (ts ++ t ∷ []) ≡ spelled_all ts ++ input_bytes t.input
spelled_end [] t = append-nil (input_bytes t.input)
spelled_end (u ∷ ts) t = ap (λ bs. input_bytes u.input ++ bs) (spelled_end ts t) ∙ sym (append_assoc (input_bytes u.input) (spelled_all ts) (input_bytes t.input))

spelled_if : (ts : List Taken) (t : Taken) (b : Bool) → spelled_all (ts ++ cond b (t ∷ []) []) ≡ spelled_all ts ++ cond b (input_bytes t.input) []
spelled_if ts t true = spelled_end ts t
spelled_if ts t false = ap spelled_all (append-nil ts) ∙ sym (append-nil (spelled_all ts))

taken_on : (xs : List Relayed) (x : Relayed) → map taken_from (xs ++ x ∷ []) ≡ map taken_from xs ++ taken_from x ∷ []
taken_on xs x = map-append taken_from xs (x ∷ [])

-- One more was taken, and is told where it passes.
pub spelled_on : (xs : List Relayed) (x : Relayed) → spelled (inputs_told (xs ++ x ∷ [])) ≡ spelled (inputs_told xs) ++ cond (passes_after (told_of xs) (taken_from x)) (input_bytes x.input) []
spelled_on xs x =
    ap spelled_all (ap unbroken (taken_on xs x) ∙ unbroken_more (map taken_from xs) (taken_from x)) ∙ spelled_if (told_of xs) (taken_from x) (passes_after (told_of xs) (taken_from x))

pub strokes_on : (xs : List Relayed) (x : Relayed) (old new : StrokesKept) → KeepsStrokes old xs → length new.counts ≡ length old.counts → StrokesStand new (map taken_from xs ++ taken_from x ∷ []) → KeepsStrokes new (xs ++ x ∷ [])
strokes_on xs x old new k same stands = record { stands = subst (λ ts. StrokesStand new ts) (sym (taken_on xs x)) stands; counts = same ∙ k.counts }

-- What is told of an input that passes or doesn't.
pub told_if : (taken : List Taken) (t : Taken) (new : StrokesKept) (before after : List ℕ) (passed : Bool) → passed ≡ passes_after (unbroken taken) t → after ≡ before ++ cond passed (input_bytes t.input) [] → StrokesStand new (taken ++ t ∷ []) → Tells taken t new before after
told_if taken t new before after passed value said stands = record { said = said ∙ ap (λ b. before ++ cond b (input_bytes t.input) []) value; stands = stands }

there : (entries : List declared.RelayedInput) (k : ℕ) (entry : declared.RelayedInput) → k < length entries → entry ≡ slice_index_or entries k entry → slice_index_or (map relayed_in entries) k (relayed_in entry) ≡ relayed_in entry
there entries k entry lt at = get_or-map relayed_in entries k entry (relayed_in entry) lt ∙ ap relayed_in (sym at)

pub one_more : (entries : List declared.RelayedInput) (k : ℕ) (entry : declared.RelayedInput) → k < length entries → entry ≡ slice_index_or entries k entry
    → take (k + 1) (map relayed_in entries) ≡ take k (map relayed_in entries) ++ relayed_in entry ∷ []
one_more entries k entry lt at =
    take_more (map relayed_in entries) k (relayed_in entry) (subst (λ n. k < n) (sym (length-map entries relayed_in)) lt) ∙ ap (λ x. take k (map relayed_in entries) ++ x ∷ []) (there entries k entry lt at)

pub one_less : (entries : List declared.RelayedInput) (k : ℕ) (entry : declared.RelayedInput) → k < length entries → entry ≡ slice_index_or entries k entry
    → drop k (map relayed_in entries) ≡ relayed_in entry ∷ drop (k + 1) (map relayed_in entries)
one_less entries k entry lt at =
    drop_more (map relayed_in entries) k (relayed_in entry) (subst (λ n. k < n) (sym (length-map entries relayed_in)) lt) ∙ ap (λ x. x ∷ drop (k + 1) (map relayed_in entries)) (there entries k entry lt at)

pub takes_some : (queue left were taken : List Relayed) (first : Relayed) → queue ≡ first ∷ left → taken ≡ were ++ first ∷ [] → takes_from queue were left taken
takes_some queue left were taken first e f = subst (λ q. takes_from q were left taken) (sym e) (refl, f)

-- ---- bytes of a viewer

pub feeding_is : (old new : State) (o : Option Bool) (marks : List Bool) (piece unread left : List ℕ) (used : ℕ) → marks_in o ≡ marks → piece ≡ unread → left ≡ drop used unread
    → IsFeeding old new (marks_in o) piece (drop used piece) → IsFeeding old new marks unread left
feeding_is old new o marks piece unread left used e f g h =
    subst (λ ms. IsFeeding old new ms unread left) e
    (subst (λ l. IsFeeding old new (marks_in o) unread l) (sym g) (subst (λ p. IsFeeding old new (marks_in o) p (drop used p)) f h))

pub all_read : (xs : List ℕ) → length xs ≡ 0 → xs ≡ []
all_read [] e = refl
all_read (x ∷ xs) e = absurd (omega arith)
