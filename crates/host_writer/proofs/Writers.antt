-- What a writer says, step by step. `run_writer` owes that the host is told each input once.
use Rattle.std.proofs.Common.{◌≡◌, ℕ, ◌+◌, ◌<◌, ◌≤◌, ◌⊎◌, min, max, Bool, true, false, List, [], ◌∷◌, ◌++◌, length, take, drop, Ok, length-drop, inl, inr, refl, sym, ap, subst, ◌∙◌, arith, append_assoc, append-nil, cond, map}
use Rattle.std.specs.Prelude.{◌^◌, nat_lt}
use Rattle.std.proofs.lemmas.Bool.{cases_lt}
use Rattle.std.proofs.lemmas.List.{map-append, take-take, drop-drop, take-append-drop}
use Rattle.link.specs.Links.{LinkState, HasRisen, with_end, with_failure}
use Rattle.roles.specs.Held.{input_in}
use Rattle.roles.specs.Spelling.{input_bytes}
use Rattle.roles.specs.Strokes.{Taken, sent_by, unbroken, passes_after, StrokesKept, StrokesStand, IsPickedFrom}
use Rattle.roles.proofs.StrokesLaws.{unbroken_more}
use Rattle.roles.proofs.UnbrokenLaws.{picked}
use Rattle.input_relay.specs.declared.queue.Message.{Message}
use Rattle.link.specs.declared.give.Halt.{Halt}
use Rattle.link.specs.declared.give.Halt.TheVariants as halt
use Rattle.link.specs.Halting.{IsWhy}
use Rattle.host_writer.specs.Saying.{Speech, begun, left_of}
use Rattle.host_writer.specs.Moment.{Gives, IsOpen, IsTelling, LooksOnce, StopsSaying, Takes, TakesInput}
use Rattle.host_writer.specs.Writing.{IsJudged, Did, Took, Saw, Looked, Tells, TellsSoFar, EndsTelling, answer_at, whole_request, taken_in, taken_from, all_taken, is_told, told, risen_to, says, said}

-- ---- giving

-- No byte was given.
pub gives_nothing : (speech : Speech) (old new : LinkState) → new.given ≡ old.given → new.taken ≡ old.taken → Gives speech speech old new
gives_nothing speech old new e f = record { bytes = []; left = refl; said = refl; given = e ∙ sym (append-nil old.given); taken = f }

-- These were.
pub gives_bytes : (speech next : Speech) (old new : LinkState) (front : List ℕ) (count : ℕ) → front ≡ take (length front) (left_of speech) → count ≤ length front → next ≡ record speech { given = speech.given + count }
    → new ≡ record old { given = old.given ++ take count front } → Gives speech next old new
gives_bytes speech next old new front count is le n e =
    let left = left_of speech in
    let first : take count front ≡ take count left = ap (take count) is ∙ take-take count (length front) left le in
    let rest : left_of next ≡ drop count left = ap left_of n ∙ sym (drop-drop count speech.given speech.said) in
    record {
      bytes = take count front;
      left = sym (ap (λ xs. xs ++ left_of next) first ∙ (ap (λ xs. take count left ++ xs) rest ∙ take-append-drop count left));
      said = ap (λ (s : Speech). s.said) n;
      given = ap (λ (l : LinkState). l.given) e;
      taken = ap (λ (l : LinkState). l.taken) e;
    }

-- Some were given, and then more.
pub gives_more : (one two three : Speech) (a b c : LinkState) → Gives one two a b → Gives two three b c → Gives one three a c
gives_more one two three a b c x y =
    record {
      bytes = x.bytes ++ y.bytes;
      left = x.left ∙ (ap (λ xs. x.bytes ++ xs) y.left ∙ sym (append_assoc x.bytes y.bytes (left_of three)));
      said = y.said ∙ x.said;
      given = y.given ∙ (ap (λ xs. xs ++ y.bytes) x.given ∙ append_assoc a.given x.bytes y.bytes);
      taken = y.taken ∙ x.taken;
    }

pub open_more : (a b c : LinkState) → IsOpen a b → IsOpen b c → IsOpen a c
open_more a b c x y = (y.0 ∙ x.0, y.1 ∙ x.1)

pub open_at : (old now new : LinkState) → new ≡ now → IsOpen old now → IsOpen old new
open_at old now new e x = (ap (λ (l : LinkState). l.failed) e ∙ x.0, ap (λ (l : LinkState). l.ended) e ∙ x.1)

-- ---- where giving stops

rises_by : (limit old new : ℕ) → new ≡ min limit (old + 1) → (old < limit) ⊎ (limit ≤ old) → (old < new) ⊎ (new ≡ limit)
rises_by limit old new next (inl lt) = inl (omega (arith, next, lt))
rises_by limit old new next (inr le) = inr (omega (arith, next, le))

rises : (old new : ℕ) → new ≡ min (2 ^ 62) (old + 1) → HasRisen old new
rises old new next = rises_by (2 ^ 62) old new next (cases_lt old (2 ^ 62))

-- The link said that it ended, after a byte was given.
pub ends_inside : (speech : Speech) (old new : LinkState) → new ≡ with_end old → 0 < speech.given → 0 < length (left_of speech) → StopsSaying ⊥ halt.Inside speech old new
ends_inside speech old new e some left = (rises old.ended new.ended (ap (λ (l : LinkState). l.ended) e), left, omega (arith, some, left, length-drop speech.given speech.said))

-- Or before that.
pub ends_before : (speech : Speech) (old new : LinkState) → new ≡ with_end old → speech.given ≡ 0 → 0 < length (left_of speech) → StopsSaying ⊥ halt.Before speech old new
ends_before speech old new e none left =
    (rises old.ended new.ended (ap (λ (l : LinkState). l.ended) e), ap (λ (l : LinkState). l.failed) e, ap (λ n. drop n speech.said) none, omega (arith, left, length-drop speech.given speech.said))

-- It failed.
pub fails : (speech : Speech) (old new : LinkState) → new ≡ with_failure old → 0 < length (left_of speech) → StopsSaying ⊥ halt.Failed speech old new
fails speech old new e left = (rises old.failed new.failed (ap (λ (l : LinkState). l.failed) e), left, omega (arith, length-drop speech.given speech.said))

-- The flag was set.
pub stops_by_flag : (was_set : Type 0) (speech : Speech) (old new : LinkState) → was_set → IsOpen old new → StopsSaying was_set halt.Stopped speech old new
stops_by_flag was_set speech old new set is = (set, is.0, is.1, omega (arith, length-drop speech.given speech.said))

-- Where a link stopped that was open before, it stopped since then.
pub stops_since : (was_set : Type 0) (h : Halt) (speech : Speech) (old mid new : LinkState) → IsOpen old mid → StopsSaying ⊥ h speech mid new → StopsSaying was_set h speech old new
stops_since was_set halt.Stopped speech old mid new is w = absurd w.0
stops_since was_set halt.Before speech old mid new is w = (subst (λ n. HasRisen n new.ended) is.1 w.0, w.1 ∙ is.0, w.2, w.3)
stops_since was_set halt.Inside speech old mid new is w = (subst (λ n. HasRisen n new.ended) is.1 w.0, w.1, w.2)
stops_since was_set halt.Failed speech old mid new is w = (subst (λ n. HasRisen n new.failed) is.0 w.0, w.1, w.2)

-- ---- the steps

-- All that was taken, with one more.
pub taken_more : (before : List Taken) (m : Message) (ds : List Did) → all_taken before (Took m ∷ ds) ≡ all_taken before ds ++ taken_from m ∷ []
taken_more before m ds = ap (λ ts. before ++ ts) (map-append taken_from (taken_in ds) (m ∷ [])) ∙ sym (append_assoc before (map taken_from (taken_in ds)) (taken_from m ∷ []))

-- Nothing was done yet.
pub telling_begins : {S : Type 0} (looks : S → ℕ → S → Type 0) (source : S) (taken : List Message) (strokes : StrokesKept) (w h : ℕ) (link : LinkState) → IsTelling looks source source taken taken strokes strokes w h 0 (begun []) link link
telling_begins looks source taken strokes w h link =
    record {
      did = [];
      all = [];
      inputs = sym (append-nil taken);
      strokes = λ before s. subst (λ ts. StrokesStand strokes ts) (sym (append-nil before)) s;
      looked = refl;
      said = λ before s. (refl, refl);
      risen = refl;
      given = refl;
      taken = refl;
    }

pub telling_begins_at : {S : Type 0} (looks : S → ℕ → S → Type 0) (a b : S) (t u : List Message) (p q : StrokesKept) (w h : ℕ) (speech : Speech) (l m : LinkState) → a ≡ b → t ≡ u → p ≡ q → speech ≡ begun [] → l ≡ m → IsTelling looks a b t u p q w h 0 speech l m
telling_begins_at looks a b t u p q w h speech l m ea et ep es el =
    subst (λ x. IsTelling looks a x t u p q w h 0 speech l m) ea
    (subst (λ x. IsTelling looks a a t x p q w h 0 speech l m) et
    (subst (λ x. IsTelling looks a a t t p x w h 0 speech l m) ep
    (subst (λ x. IsTelling looks a a t t p p w h 0 x l m) (sym es)
    (subst (λ x. IsTelling looks a a t t p p w h 0 (begun []) l x) el (telling_begins looks a t p w h l)))))

-- What is said of an input that passes or doesn't.
judged : (p q : StrokesKept) (m : Message) (passed : Bool) → ((taken : List Taken) → StrokesStand p taken → passed ≡ passes_after (unbroken taken) (taken_from m)) → ((taken : List Taken) → StrokesStand p taken → StrokesStand q (taken ++ taken_from m ∷ []))
    → IsJudged p q m (cond passed (input_bytes (input_in m.input)) [])
judged p q m passed value stands = record { said = λ taken s. ap (λ c. cond c (input_bytes (input_in m.input)) []) (value taken s); stands = stands }

pub takes_input : (t u : List Message) (p q : StrokesKept) (m : Message) (passed : Bool) (speech : Speech) → u ≡ t ++ m ∷ [] → ((taken : List Taken) → StrokesStand p taken → passed ≡ passes_after (unbroken taken) (taken_from m))
    → ((taken : List Taken) → StrokesStand p taken → StrokesStand q (taken ++ taken_from m ∷ [])) → speech ≡ begun (cond passed (input_bytes (input_in m.input)) []) → TakesInput t u p q speech
takes_input t u p q m passed speech took value stands begins =
    record { message = m; bytes = cond passed (input_bytes (input_in m.input)) []; took = took; judged = judged p q m passed value stands; begins = begins }

took_more : (t u v : List Message) (m : Message) (ds : List Did) → u ≡ t ++ taken_in ds → v ≡ u ++ m ∷ [] → v ≡ t ++ taken_in (Took m ∷ ds)
took_more t u v m ds k e = e ∙ (ap (λ ms. ms ++ m ∷ []) k ∙ append_assoc t (taken_in ds) (m ∷ []))

-- What it said, with what it says now.
said_on : (now more all bytes : List ℕ) → all ≡ now → bytes ≡ more → all ++ bytes ≡ now ++ more
said_on now more all bytes e f = ap (λ z. z ++ bytes) e ∙ ap (λ z. now ++ z) f

-- All was given, and now this is to be said.
given_on : (speech next : Speech) (old now : LinkState) (all bytes : List ℕ) → left_of speech ≡ [] → next ≡ begun bytes → now.given ++ left_of speech ≡ old.given ++ all → now.given ++ left_of next ≡ old.given ++ (all ++ bytes)
given_on speech next old now all bytes idle begins given =
    let whole : now.given ≡ old.given ++ all = sym (append-nil now.given) ∙ (ap (λ xs. now.given ++ xs) (sym idle) ∙ given) in
    ap (λ xs. now.given ++ xs) (ap left_of begins) ∙ (ap (λ xs. xs ++ bytes) whole ∙ append_assoc old.given all bytes)

-- An input was taken.
telling_takes : {S : Type 0} (looks : S → ℕ → S → Type 0) (a b : S) (t u v : List Message) (p q r : StrokesKept) (w h asked : ℕ) (speech next : Speech) (old now : LinkState) → IsTelling looks a b t u p q w h asked speech old now
    → left_of speech ≡ [] → TakesInput u v q r next → IsTelling looks a b t v p r w h asked next old now
telling_takes looks a b t u v p q r w h asked speech next old now k idle e =
    let says_it : (before : List Taken) → StrokesStand p before → e.bytes ≡ says before w h (Took e.message) k.did = λ before s. e.judged.said (all_taken before k.did) (k.strokes before s) in
    record {
      did = Took e.message ∷ k.did;
      all = k.all ++ e.bytes;
      inputs = took_more t u v e.message k.did k.inputs e.took;
      strokes = λ before s. subst (λ ts. StrokesStand r ts) (sym (taken_more before e.message k.did)) (e.judged.stands (all_taken before k.did) (k.strokes before s));
      looked = k.looked;
      said = λ before s. (said_on (said before w h k.did) (says before w h (Took e.message) k.did) k.all e.bytes ((k.said before s).0) (says_it before s), ap (λ (x : Speech). x.said) e.begins ∙ says_it before s);
      risen = k.risen;
      given = given_on speech next old now k.all e.bytes idle e.begins k.given;
      taken = k.taken;
    }

-- Or there was none.
pub telling_took : {S : Type 0} (looks : S → ℕ → S → Type 0) (a b : S) (t u v : List Message) (p q r : StrokesKept) (w h asked : ℕ) (was_taken : Bool) (speech next : Speech) (old now : LinkState) → IsTelling looks a b t u p q w h asked speech old now
    → left_of speech ≡ [] → Takes was_taken u v q r speech next → IsTelling looks a b t v p r w h asked next old now
telling_took looks a b t u v p q r w h asked true speech next old now k idle e = telling_takes looks a b t u v p q r w h asked speech next old now k idle e
telling_took looks a b t u v p q r w h asked false speech next old now k idle e =
    record {
      did = k.did;
      all = k.all;
      inputs = e.0 ∙ k.inputs;
      strokes = λ before s. subst (λ x. StrokesStand x (all_taken before k.did)) (sym e.1) (k.strokes before s);
      looked = k.looked;
      said = λ before s. ((k.said before s).0, ap (λ (x : Speech). x.said) e.2 ∙ (k.said before s).1);
      risen = k.risen;
      given = ap (λ (x : Speech). now.given ++ left_of x) e.2 ∙ k.given;
      taken = k.taken;
    }

-- It looked.
pub telling_looked : {S : Type 0} (looks : S → ℕ → S → Type 0) (a b c : S) (t u : List Message) (p q : StrokesKept) (w h asked risen : ℕ) (request : List ℕ) (speech next : Speech) (old now : LinkState) → IsTelling looks a b t u p q w h asked speech old now
    → left_of speech ≡ [] → request ≡ whole_request w h → LooksOnce looks request b c asked risen next → IsTelling looks a c t u p q w h risen next old now
telling_looked looks a b c t u p q w h asked risen request speech next old now k idle whole e =
    let bytes : List ℕ = cond (nat_lt asked e.number) request [] in
    let says_it : bytes ≡ cond (nat_lt (risen_to k.did) e.number) (whole_request w h) [] = ap (λ r. cond (nat_lt asked e.number) r []) whole ∙ ap (λ n. cond (nat_lt n e.number) (whole_request w h) []) k.risen in
    record {
      did = Saw e.number ∷ k.did;
      all = k.all ++ bytes;
      inputs = k.inputs;
      strokes = k.strokes;
      looked = (b, k.looked, e.looked);
      said = λ before s. (said_on (said before w h k.did) (says before w h (Saw e.number) k.did) k.all bytes ((k.said before s).0) says_it, ap (λ (x : Speech). x.said) e.begins ∙ says_it);
      risen = e.risen ∙ ap (λ n. max n e.number) k.risen;
      given = given_on speech next old now k.all bytes idle e.begins k.given;
      taken = k.taken;
    }

-- It gave.
pub telling_gave : {S : Type 0} (looks : S → ℕ → S → Type 0) (a b : S) (t u : List Message) (p q : StrokesKept) (w h asked : ℕ) (speech next : Speech) (old now new : LinkState) → IsTelling looks a b t u p q w h asked speech old now → Gives speech next now new
    → IsTelling looks a b t u p q w h asked next old new
telling_gave looks a b t u p q w h asked speech next old now new k e =
    record {
      did = k.did;
      all = k.all;
      inputs = k.inputs;
      strokes = k.strokes;
      looked = k.looked;
      said = λ before s. ((k.said before s).0, e.said ∙ (k.said before s).1);
      risen = k.risen;
      given = ap (λ xs. xs ++ left_of next) e.given ∙ (append_assoc now.given e.bytes (left_of next) ∙ (ap (λ xs. now.given ++ xs) (sym e.left) ∙ k.given));
      taken = e.taken ∙ k.taken;
    }

-- What the other steps leave as it was.
telling_at : {S : Type 0} (looks : S → ℕ → S → Type 0) (a b c : S) (t u v : List Message) (p q r : StrokesKept) (w h asked same : ℕ) (speech : Speech) (old now new : LinkState) → c ≡ b → v ≡ u → r ≡ q → same ≡ asked → new ≡ now
    → IsTelling looks a b t u p q w h asked speech old now → IsTelling looks a c t v p r w h same speech old new
telling_at looks a b c t u v p q r w h asked same speech old now new eb eu eq ea el k =
    record {
      did = k.did;
      all = k.all;
      inputs = eu ∙ k.inputs;
      strokes = λ before s. subst (λ x. StrokesStand x (all_taken before k.did)) (sym eq) (k.strokes before s);
      looked = subst (λ x. Looked looks a k.did x) (sym eb) k.looked;
      said = k.said;
      risen = ea ∙ k.risen;
      given = ap (λ (l : LinkState). l.given ++ left_of speech) el ∙ k.given;
      taken = ap (λ (l : LinkState). l.taken) el ∙ k.taken;
    }

-- An input was taken, or there was none, and bytes were given of what was left then.
pub told_input : {S : Type 0} (looks : S → ℕ → S → Type 0) (a b c : S) (t u v x : List Message) (p q r s : StrokesKept) (w h asked same : ℕ) (was_taken : Bool) (speech mid next : Speech) (old now then_ new : LinkState) → IsTelling looks a b t u p q w h asked speech old now
    → left_of speech ≡ [] → Takes was_taken u v q r speech mid → Gives mid next then_ new → then_ ≡ now → c ≡ b → x ≡ v → s ≡ r → same ≡ asked → IsTelling looks a c t x p s w h same next old new
told_input looks a b c t u v x p q r s w h asked same was_taken speech mid next old now then_ new k idle takes gives el eb eu eq ea =
    telling_gave looks a c t x p s w h same mid next old then_ new
    (telling_at looks a b c t v x p r s w h asked same mid old now then_ eb eu eq ea el (telling_took looks a b t u v p q r w h asked was_taken speech mid old now k idle takes))
    gives

-- It looked, and bytes were given of what was left then.
pub asked_once : {S : Type 0} (looks : S → ℕ → S → Type 0) (a b c d : S) (t u v : List Message) (p q r : StrokesKept) (w h asked risen same : ℕ) (request : List ℕ) (speech mid next : Speech) (old now then_ new : LinkState) → IsTelling looks a b t u p q w h asked speech old now
    → left_of speech ≡ [] → request ≡ whole_request w h → LooksOnce looks request b c asked risen mid → Gives mid next then_ new → then_ ≡ now → d ≡ c → v ≡ u → r ≡ q → same ≡ risen → IsTelling looks a d t v p r w h same next old new
asked_once looks a b c d t u v p q r w h asked risen same request speech mid next old now then_ new k idle whole looked gives el eb eu eq ea =
    telling_gave looks a d t v p r w h same mid next old then_ new
    (telling_at looks a c d t u v p q r w h risen same mid old now then_ eb eu eq ea el (telling_looked looks a b c t u p q w h asked risen request speech mid old now k idle whole looked))
    gives

-- What a telling keeps is more than what it promises.
pub telling_promised : {S : Type 0} (looks : S → ℕ → S → Type 0) (a b : S) (t u : List Message) (p q : StrokesKept) (w h asked : ℕ) (speech : Speech) (old now : LinkState) → IsTelling looks a b t u p q w h asked speech old now
    → TellsSoFar looks a b t u p q w h old now
telling_promised looks a b t u p q w h asked speech old now k =
    record {
      did = k.did;
      all = k.all;
      last = speech.said;
      left = left_of speech;
      inputs = k.inputs;
      strokes = k.strokes;
      looked = k.looked;
      said = k.said;
      given = k.given;
      within = omega (arith, length-drop speech.given speech.said);
      taken = k.taken;
    }

-- ---- how it ends

-- The loop is to end.
pub telling_ends : {S : Type 0} {was_set : Type 0} (looks : S → ℕ → S → Type 0) (a b : S) (t u : List Message) (p q : StrokesKept) (w h asked : ℕ) (speech : Speech) (old now : LinkState) → was_set → IsTelling looks a b t u p q w h asked speech old now → IsOpen old now
    → Tells looks was_set a b t u p q w h (Ok tt) old now
unfolding telling_promised
telling_ends looks a b t u p q w h asked speech old now set k is =
    record {
      so_far = telling_promised looks a b t u p q w h asked speech old now k;
      ends = inl (set, is.0, is.1, omega (arith, length-drop speech.given speech.said));
    }

ends_by : (was_set : Type 0) (x : Halt) (old now new : LinkState) (left last : List ℕ) → now.failed ≡ old.failed → now.ended ≡ old.ended → IsWhy was_set x now new left last → EndsTelling was_set (answer_at x) old new left last
ends_by was_set halt.Stopped old now new left last f e w = inl (w.0, w.1 ∙ f, w.2 ∙ e, w.3)
ends_by was_set halt.Before old now new left last f e w = inr (subst (λ n. HasRisen n new.ended) e w.0, w.1 ∙ f, w.2, w.3)
ends_by was_set halt.Inside old now new left last f e w = (subst (λ n. HasRisen n new.ended) e w.0, w.1, w.2)
ends_by was_set halt.Failed old now new left last f e w = (subst (λ n. HasRisen n new.failed) f w.0, w.1, w.2)

-- Giving stopped.
pub telling_stops : {S : Type 0} {was_set : Type 0} (looks : S → ℕ → S → Type 0) (a b : S) (t u : List Message) (p q : StrokesKept) (w h asked : ℕ) (speech : Speech) (x : Halt) (old now new : LinkState) → IsTelling looks a b t u p q w h asked speech old new → IsOpen old now
    → StopsSaying was_set x speech now new → Tells looks was_set a b t u p q w h (answer_at x) old new
unfolding telling_promised
telling_stops {was_set = was_set} looks a b t u p q w h asked speech x old now new k is why =
    record {
      so_far = telling_promised looks a b t u p q w h asked speech old new k;
      ends = ends_by was_set x old now new (left_of speech) speech.said is.0 is.1 why;
    }

-- ---- what is told is unbroken

pub told_is_unbroken : (before : List Taken) (did : List Did) → unbroken (all_taken before did) ≡ unbroken before ++ told before did
told_is_unbroken before [] = ap unbroken (append-nil before) ∙ sym (append-nil (unbroken before))
told_is_unbroken before (Took m ∷ ds) =
    let more : List Taken = cond (is_told before m ds) (taken_from m ∷ []) [] in
    ap unbroken (taken_more before m ds) ∙ (unbroken_more (all_taken before ds) (taken_from m) ∙ (ap (λ ts. ts ++ more) (told_is_unbroken before ds) ∙ append_assoc (unbroken before) (told before ds) more))
told_is_unbroken before (Saw number ∷ ds) = told_is_unbroken before ds

pub told_is_picked : (place : ℕ) (before : List Taken) (did : List Did) → IsPickedFrom (sent_by place (unbroken before ++ told before did)) (sent_by place (all_taken before did))
told_is_picked place before did = subst (λ ts. IsPickedFrom (sent_by place ts) (sent_by place (all_taken before did))) (told_is_unbroken before did) (picked place (all_taken before did))
