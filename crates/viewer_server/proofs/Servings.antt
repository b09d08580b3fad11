-- Serving a viewer, act by act. `run_viewer` owes it of all acts together.
use Rattle.std.proofs.Common.{◌≡◌, ℕ, ◌-◌, ◌<◌, ◌≤◌, ◌⊎◌, Bool, true, false, cond, List, [], ◌∷◌, ◌++◌, length, take, Option, Some, None, Result, Ok, Err, inl, inr, refl, sym, ap, subst, ◌∙◌, arith, append_assoc, append-nil, length-append, true≢false}
use Rattle.std.specs.Prelude.{if◌then◌else◌, ◌&&◌, ◌||◌, ◌==◌, is_some, is_none, nat_lt, nat_le, unwrap_or, max}
use Rattle.std.proofs.Math.Seq.{take-add}
use Rattle.std.proofs.lemmas.List.{take-append-le, length-take}
use Rattle.std.proofs.lemmas.Bool.Decides.{nat_tests}
use Rattle.fault.specs.declared.kinds.Fault.{Fault}
use Rattle.fault.specs.declared.kinds.Fault.TheVariants.{LinkEnded, LinkFailed}
use Rattle.byte_reading.specs.Reading.{Reading, Done, Faulty, Want, whole_of, fault_of}
use Rattle.rfb_wire.specs.ClientMessage.{ClientMessage}
use Rattle.raster.specs.declared.rect.Rect.{Rect}
use Rattle.raster.specs.declared.size.Size.{Size}
use Rattle.raster.specs.Update.{Update, bells}
use Rattle.rfb_wire.specs.Handshake.{said_to_viewer}
use Rattle.rfb_wire.specs.Greeting.{Greeting}
use Rattle.roles.specs.declared.role.Role.{Role}
use Rattle.roles.specs.Allowed.{Input}
use Rattle.link.specs.Links.{LinkState, HasRisen}
use Rattle.reflect_core.specs.Asked.{pending, last_cut}
use Rattle.reflect_core.specs.Sequential.{Begins}
use Rattle.viewer_session.specs.Record.{Entry, Saw, MadeCut, NumbersUpTo, events}
use Rattle.viewer_session.specs.Chosen.{MayBeChosen}
use Rattle.viewer_session.specs.Turn.{Chosen, has_reason, size_at, told_at, update_at, sent_as, with_chosen}
use Rattle.viewer_session.specs.Viewer as viewer
use Rattle.viewer_session.specs.Viewer.{Setup, Viewer, new_viewer, out_bytes, may_look, viewer_fault, after_bytes, after_cut_as}
use Rattle.viewer_session.specs.Session.{State, Stands, Turns, CutsAt, IsCut, HasCounted, Greets, IsBetween, after_look, after_writing, with_marks, without_input, IsSameSession, fault_in, hello_of, is_greeted, is_ready, wants_cut}
use Rattle.viewer_session.proofs.SessionLaws.{fault_stands, stands_saw, unsent_left}
use Rattle.viewer_session.proofs.Stands.{numbers_more}
use Rattle.viewer_server.specs.Serving.{EachAnswerHolds, CutsWell, MayBe, AllMayBe, IsShown, bytes_in, has_turned, HaltsBy, LinkHalts}
use Rattle.viewer_server.specs.Moment.{IsTurned, IsServing}
use Rattle.viewer_server.specs.Steps.{Unpassed, all_passed, WaitsIfLeft, Passes, ReadsTo, Reads, ReadsIfAny, GoesOn, Says, Offers, HasHeard, HeardSo, Hears, EndsSo, HasServed}
use Rattle.viewer_server.specs.declared.breaks.Break.{Break}
use Rattle.viewer_server.specs.declared.breaks.Break.TheVariants.{At, Refused}
use Rattle.viewer_server.proofs.Following.{holds_after_each_answer}
use Rattle.reflect_core.specs.declared.cut.Cut.{Cut}
use Rattle.viewer_session.specs.Acts.{Act, Cutting, Bytes, Turn, Written, Passed, after_act, viewer_after, waiting_list, HasPassed}
use Rattle.viewer_session.proofs.Growing.{HasGrown, grown_bytes, early}
use Rattle.viewer_session.proofs.Passing.{passed_as, passed_begins, began_messages, began_last, passed_bytes, passed_on}

-- ---- more updates

pub taken_more : (us known : List Update) (n : ℕ) → Begins us known → n ≤ length us → take n known ≡ take n us
taken_more us known n b le = ap (take n) b.1 ∙ take-append-le n us b.0 le

pub length_more : (us known : List Update) → Begins us known → length us ≤ length known
length_more us known b = omega (arith, ap length b.1, length-append us b.0)

cuts_more : (s : Setup) (us known : List Update) (p : Viewer) (looked : ℕ) (cut : Option Cutting) → Begins us known → CutsWell s us p looked cut → CutsWell s known p looked cut
cuts_more s us known p looked None b k = k
cuts_more s us known p looked (Some cut) b k = (
  k.0,
  let le = k.1 in let more = length_more us known b in omega (arith, le, more),
  k.2,
  subst (λ t. MayBeChosen s t (Saw looked ∷ p.entries) p.stream cut.chosen) (sym (taken_more us known cut.number b k.1)) k.3,
)

may_more : (s : Setup) (us known : List Update) (p : Viewer) (act : Act) → Begins us known → MayBe s us p act → MayBe s known p act
may_more s us known p (Bytes marks bytes) b k = k
may_more s us known p (Turn looked cut) b k = (k.0, let le = k.1 in let more = length_more us known b in omega (arith, le, more), cuts_more s us known p looked cut b k.2)
may_more s us known p (Written count) b k = k
may_more s us known p Passed b k = k

act_same : (s : Setup) (us known : List Update) (p : Viewer) (act : Act) → Begins us known → MayBe s us p act → after_act s known act p ≡ after_act s us act p
act_same s us known p (Bytes marks bytes) b k = refl
act_same s us known p (Turn looked None) b k = refl
act_same s us known p (Turn looked (Some cut)) b k = ap (λ t. after_cut_as s t cut.chosen (after_look looked p)) (taken_more us known cut.number b k.2.1)
act_same s us known p (Written count) b k = refl
act_same s us known p Passed b k = refl

pub after_same : (s : Setup) (us known : List Update) (p : Viewer) (acts : List Act) → Begins us known → AllMayBe s us p acts → viewer_after s known p acts ≡ viewer_after s us p acts
after_same s us known p [] b k = refl
after_same s us known p (act ∷ acts) b k = ap (after_act s known act) (after_same s us known p acts b k.0) ∙ act_same s us known (viewer_after s us p acts) act b k.1

pub all_more : (s : Setup) (us known : List Update) (p : Viewer) (acts : List Act) → Begins us known → AllMayBe s us p acts → AllMayBe s known p acts
all_more s us known p [] b k = tt
all_more s us known p (act ∷ acts) b k = (
  all_more s us known p acts b k.0,
  subst (λ q. MayBe s known q act) (sym (after_same s us known p acts b k.0)) (may_more s us known (viewer_after s us p acts) act b k.1),
)

-- What the last cut counted stays counted.
counted_more : (st : State) (us known : List Update) → Begins us known → HasCounted st us → HasCounted st known
counted_more st us known b k n e =
    let at = k n e in
    let le = at.0 in
    let more = length_more us known b in
    (omega (arith, le, more), at.1 ∙ ap bells (sym (taken_more us known n b le)))

-- Where the last cut stays, what it counted does.
counted_same : (a b : State) → IsSameSession a b → (us : List Update) → HasCounted a us → HasCounted b us
counted_same a b same us k n e =
    let at = k n (sym same.last ∙ e) in
    (at.0, ap (λ (cut : Cut). cut.bells) same.cut ∙ at.1)

-- Before a first cut nothing is counted.
uncut_counted : (st : State) (us : List Update) → st.asked.last ≡ None → HasCounted st us
uncut_counted st us uncut n e = absurd (let no : None ≡ Some n = sym uncut ∙ e in cc)

-- ---- what a state says of its viewer

reason_is : (s : Setup) (st : State) (p : Viewer) (looked : ℕ) → Stands s st p → wants_cut st.asked looked ≡ has_reason s.w s.h p.entries looked
reason_is s st p looked k =
    let es = events s.w s.h p.entries in
    ap (λ (o : Option ℕ). nat_lt (unwrap_or o 0) looked || (is_some st.asked.area && st.asked.asked)) k.serves.keeps.asked.last
    ∙ ap (λ (o : Option Rect). nat_lt (unwrap_or (last_cut es) 0) looked || (is_some o && st.asked.asked)) k.serves.keeps.asked.area
    ∙ ap (λ (b : Bool). nat_lt (unwrap_or (last_cut es) 0) looked || (is_some (pending es) && b)) k.serves.keeps.asked.asked

hello_is : (s : Setup) (o : Option Greeting) (greet : Bool) (hello : Reading (Unit {0})) (said : ℕ) (said_after : List ℕ) → Greets s o greet hello said said_after → hello ≡ hello_of o
hello_is s None greet hello said said_after k = k.1
hello_is s (Some g) greet hello said said_after k = k.goes_on

all_written : (a b c : ℕ) → a ≡ b - c → (a == 0) ≡ nat_le b c
all_written a b c e = grind (arith, nat_tests, e)

ready_is : (s : Setup) (st : State) (p : Viewer) → Stands s st p → is_ready st ≡ may_look s p
ready_is s st p k =
    ap (λ b. b && (is_greeted st && is_none (fault_in st))) (all_written (length st.unsent) (length (out_bytes s p)) p.written (unsent_left s st p k.serves))
    ∙ (ap (λ h. nat_le (length (out_bytes s p)) p.written && (is_some (whole_of h) && is_none (fault_in st))) (sym (hello_is s st.greeting p.greet p.hello p.said p.said_after k.serves.greets))
    ∙ ap (λ o. nat_le (length (out_bytes s p)) p.written && (viewer.is_greeted p && is_none o)) (fault_stands s st p k))

fine_if : (h : Reading (Unit {0})) (r : Reading ClientMessage) → is_some (whole_of h) ≡ true → fault_of r ≡ None → is_none (cond (is_some (fault_of h)) (fault_of h) (fault_of r)) ≡ true
fine_if (Done u) r e f = ap is_none f
fine_if (Faulty x) r e f = absurd cc
fine_if (Want more) r e f = absurd cc

-- Between two messages, with nothing unsent, it is ready.
ready_between : (s : Setup) (st : State) (p : Viewer) → Stands s st p → length st.unsent ≡ 0 → IsBetween p → is_ready st ≡ true
ready_between s st p k none b =
    let out : nat_le (length (out_bytes s p)) p.written ≡ true = sym (all_written (length st.unsent) (length (out_bytes s p)) p.written (unsent_left s st p k.serves)) ∙ ap (λ n. n == 0) none in
    let fine : is_none (viewer_fault p) ≡ true = fine_if p.hello p.reading b.greeted (ap fault_of b.begins) in
    ready_is s st p k ∙ (ap (λ x. x && (viewer.is_greeted p && is_none (viewer_fault p))) out ∙ (ap (λ x. x && is_none (viewer_fault p)) b.greeted ∙ fine))

-- ---- numbers

numbers_began : (m n : ℕ) (size : Option Size) (o : Option (Rect × List ℕ)) (es : List Entry) → n ≤ m → NumbersUpTo m es → NumbersUpTo m (told_at n size o (MadeCut n ∷ es))
numbers_began m n (Some size) o es le k = (le, (le, k))
numbers_began m n None None es le k = (le, k)
numbers_began m n None (Some found) es le k = (le, (le, k))

-- ---- a viewer that is served

pub serving_begins : {S : Type 0} (looks cuts : S → ℕ → S → Type 0) (source : S) (us : List Update) (most : ℕ) (s : Setup) (role : Role) (greet : Bool) (st : State) (box : Unpassed) (sent : List Input) (link : LinkState)
    → st.asked.last ≡ None → box ≡ all_passed → Stands s st (new_viewer role greet) → IsServing looks cuts source source us most s (new_viewer role greet) st box sent sent false link link
serving_begins looks cuts source us most s role greet st box sent link uncut empty k =
    record {
      acts = [];
      begun = (role, greet, refl);
      sent = [];
      may_be = tt;
      shown = refl;
      taken = sym (append-nil link.taken) ∙ ap (λ (i : Unpassed). link.taken ++ i.unread) (sym empty);
      given = sym (append-nil link.given);
      stands = k;
      waiting = ap (λ (i : Unpassed). i.waiting) (sym empty);
      took = sym (append-nil sent);
      passed = passed_begins role greet;
      numbers = tt;
      counted = uncut_counted st us uncut;
      turned = tt;
    }

-- The link, the inbox and the sink are as they were.
pub serving_still : {S : Type 0} (looks cuts : S → ℕ → S → Type 0) (a b : S) (us : List Update) (most : ℕ) (s : Setup) (p : Viewer) (st : State) (box next : Unpassed) (x y z : List Input) (is_offered : Bool) (old now new : LinkState)
    → IsServing looks cuts a b us most s p st box x y is_offered old now → next ≡ box → z ≡ y → new.taken ≡ now.taken → new.given ≡ now.given → IsServing looks cuts a b us most s p st next x z is_offered old new
serving_still looks cuts a b us most s p st box next x y z is_offered old now new k same none e f =
    record {
      begun = k.begun;
      acts = k.acts;
      sent = k.sent;
      may_be = k.may_be;
      shown = k.shown;
      taken = e ∙ (k.taken ∙ ap (λ (i : Unpassed). old.taken ++ (bytes_in k.acts ++ i.unread)) (sym same));
      given = f ∙ k.given;
      stands = k.stands;
      waiting = k.waiting ∙ ap (λ (i : Unpassed). i.waiting) (sym same);
      took = none ∙ k.took;
      passed = k.passed;
      numbers = k.numbers;
      counted = k.counted;
      turned = k.turned;
    }

same_front : (xs ys more : List ℕ) (n : ℕ) → ys ≡ xs ++ more → n ≤ length xs → take n ys ≡ take n xs
same_front xs ys more n e le = ap (take n) e ∙ take-append-le n xs more le

-- ---- input goes on

-- A turn is to be had again.
pub serving_anew : {S : Type 0} (looks cuts : S → ℕ → S → Type 0) (a b : S) (us : List Update) (most : ℕ) (s : Setup) (p : Viewer) (st : State) (box : Unpassed) (x y : List Input) (is_offered : Bool) (old now : LinkState)
    → IsServing looks cuts a b us most s p st box x y is_offered old now → IsServing looks cuts a b us most s p st box x y false old now
serving_anew looks cuts a b us most s p st box x y is_offered old now k =
    record { begun = k.begun; acts = k.acts; sent = k.sent; may_be = k.may_be; shown = k.shown; taken = k.taken; given = k.given; stands = k.stands; waiting = k.waiting; took = k.took; passed = k.passed; numbers = k.numbers; counted = k.counted; turned = tt }

serving_passed_some : {S : Type 0} (looks cuts : S → ℕ → S → Type 0) (a b : S) (us : List Update) (most : ℕ) (s : Setup) (p : Viewer) (st : State) (box next : Unpassed) (o : Option Input) (x y z : List Input) (old now : LinkState)
    → IsServing looks cuts a b us most s p st box x y false old now → box.waiting ≡ o → next ≡ record box { waiting = None } → z ≡ y ++ waiting_list o → IsServing looks cuts a b us most s p st next x z false old now
serving_passed_some looks cuts a b us most s p st box next None x y z old now k w same e =
    serving_still looks cuts a b us most s p st box next x y z false old now now k (same ∙ ap (λ (t : Option Input). record box { waiting = t }) (sym w)) (e ∙ append-nil y) refl refl
serving_passed_some looks cuts a b us most s p st box next (Some input) x y z old now k w same e =
    let q : Viewer = viewer_after s us p k.acts in
    let waits : q.waiting ≡ Some input = k.waiting ∙ w in
    record {
      begun = k.begun;
      acts = Passed ∷ k.acts;
      sent = k.sent ++ waiting_list q.waiting;
      may_be = (k.may_be, ap is_some waits);
      shown = k.shown;
      taken = k.taken ∙ ap (λ (i : Unpassed). old.taken ++ (bytes_in k.acts ++ i.unread)) (sym same);
      given = k.given;
      stands = k.stands;
      waiting = ap (λ (i : Unpassed). i.waiting) (sym same);
      took = e ∙ (ap (λ t. t ++ input ∷ []) k.took ∙ (append_assoc x k.sent (input ∷ []) ∙ ap (λ o. x ++ (k.sent ++ waiting_list o)) (sym waits)));
      passed = passed_on q k.sent k.passed;
      numbers = k.numbers;
      counted = k.counted;
      turned = tt;
    }

pub serving_passed : {S : Type 0} (looks cuts : S → ℕ → S → Type 0) (may_refuse : Fault → Type 0) (a b : S) (us : List Update) (most : ℕ) (s : Setup) (p : Viewer) (st : State) (box next : Unpassed) (is_full : Bool) (x y z : List Input) (old now : LinkState)
    → IsServing looks cuts a b us most s p st box x y false old now → Passes may_refuse (Ok is_full) box next y z → IsServing looks cuts a b us most s p st next x z false old now
serving_passed looks cuts may_refuse a b us most s p st box next true x y z old now k e = serving_still looks cuts a b us most s p st box next x y z false old now now k e.1 e.2 refl refl
serving_passed looks cuts may_refuse a b us most s p st box next false x y z old now k e = serving_passed_some looks cuts a b us most s p st box next box.waiting x y z old now k refl e.0 e.1

-- Bytes were read.
pub serving_read : {S : Type 0} (looks cuts : S → ℕ → S → Type 0) (a b : S) (us : List Update) (most : ℕ) (s : Setup) (p : Viewer) (st new : State) (box next : Unpassed) (x y : List Input) (is_offered : Bool) (old now : LinkState)
    → IsServing looks cuts a b us most s p st box x y is_offered old now → IsSameSession st new → Reads st new box next → IsServing looks cuts a b us most s p new next x y false old now
serving_read looks cuts a b us most s p st new box next x y is_offered old now k same r =
    let q : Viewer = viewer_after s us p k.acts in
    let none : q.waiting ≡ None = k.waiting ∙ r.none in
    let bare : without_input q ≡ q = ap (λ (o : Option Input). record q { waiting = o }) (sym none) in
    let stood : Stands s st q = subst (λ (t : Viewer). Stands s st t) bare k.stands in
    let q2 : Viewer = after_bytes (with_marks r.marks q) r.bytes in
    let to : ReadsTo s q new r.marks r.bytes next.waiting = r.reads s q stood in
    let grown : HasGrown s (with_marks r.marks q) q2 = grown_bytes s (with_marks r.marks q) r.bytes (early s st q stood) in
    record {
      begun = k.begun;
      acts = Bytes r.marks r.bytes ∷ k.acts;
      sent = k.sent;
      may_be = (k.may_be, none);
      shown = k.shown;
      taken = k.taken ∙ ap (λ t. old.taken ++ t) (ap (λ t. bytes_in k.acts ++ t) r.unread ∙ sym (append_assoc (bytes_in k.acts) r.bytes next.unread));
      given = k.given
          ∙ ap (λ t. old.given ++ t) (sym (ap (λ n. take n (out_bytes s q2)) grown.written ∙ same_front (out_bytes s q) (out_bytes s q2) grown.out.0 q.written grown.out.1 k.stands.serves.written));
      stands = to.stands;
      waiting = to.waiting;
      took = k.took;
      passed = passed_bytes (with_marks r.marks q) r.bytes k.sent (passed_as q (with_marks r.marks q) k.sent k.passed refl refl refl refl refl);
      numbers = grown.numbers most k.numbers;
      counted = counted_same st new same us k.counted;
      turned = tt;
    }

read_if_any : {S : Type 0} (looks cuts : S → ℕ → S → Type 0) (a b : S) (us : List Update) (most : ℕ) (s : Setup) (p : Viewer) (st new : State) (box next : Unpassed) (x y : List Input) (old now : LinkState)
    → IsServing looks cuts a b us most s p st box x y false old now → IsSameSession st new → ReadsIfAny st new box next → IsServing looks cuts a b us most s p new next x y false old now
read_if_any looks cuts a b us most s p st new box next x y old now k same (inl e) =
    subst (λ (t : State). IsServing looks cuts a b us most s p t next x y false old now) (sym e.0) (serving_still looks cuts a b us most s p st box next x y y false old now now k e.1 refl refl refl)
read_if_any looks cuts a b us most s p st new box next x y old now k same (inr r) = serving_read looks cuts a b us most s p st new box next x y false old now k same r

pub serving_relayed : {S : Type 0} (looks cuts : S → ℕ → S → Type 0) (may_refuse : Fault → Type 0) (a b : S) (us : List Update) (most : ℕ) (s : Setup) (p : Viewer) (st new : State) (box next : Unpassed) (is_full : Bool) (x y z : List Input) (old now : LinkState)
    → IsServing looks cuts a b us most s p st box x y false old now → IsSameSession st new → GoesOn may_refuse (Ok is_full) st new box next y z → IsServing looks cuts a b us most s p new next x z false old now
serving_relayed looks cuts may_refuse a b us most s p st new box next is_full x y z old now k same g =
    read_if_any looks cuts a b us most s p st new g.0 next x z old now (serving_passed looks cuts may_refuse a b us most s p st box g.0 is_full x y z old now k g.1) same g.2

-- ---- a turn

turned_began : (n : ℕ) (size : Option Size) (o : Option (Rect × List ℕ)) (looked : ℕ) (es : List Entry) → has_turned (told_at n size o (MadeCut n ∷ Saw looked ∷ es)) ≡ true
turned_began n (Some size) o looked es = refl
turned_began n None None looked es = refl
turned_began n None (Some found) looked es = refl

-- A cut adds to what is sent.
cut_front : (s : Setup) (us : List Update) (chosen : Option Chosen) (p : Viewer) → p.written ≤ length (out_bytes s p) → take p.written (out_bytes s (after_cut_as s us chosen p)) ≡ take p.written (out_bytes s p)
cut_front s us chosen p le =
    let hello : List ℕ = if p.greet then said_to_viewer s.w s.h s.name p.said else [] in
    let more : List ℕ = sent_as chosen s.form s.w s.h s.host p.entries us in
    same_front (out_bytes s p) (out_bytes s (after_cut_as s us chosen p)) more p.written (sym (append_assoc hello p.said_after more)) le

pub serving_turns : {S : Type 0} (looks cuts : S → ℕ → S → Type 0) (a b c : S) (us known : List Update) (most now_most : ℕ) (s : Setup) (p : Viewer) (st next : State) (box : Unpassed) (x y : List Input) (w : Bool) (old now : LinkState)
    → IsServing looks cuts a b us most s p st box x y false old now → Begins us known → is_ready st ≡ true → (t : Turns looks cuts b c st next known most now_most) → wants_cut st.asked t.looked ≡ w
    → IsServing looks cuts a c known now_most s p next box x y true old now
serving_turns looks cuts a b c us known most now_most s p st next box x y false old now k begins ready t none =
    let q : Viewer = viewer_after s us p k.acts in
    let bare : Viewer = without_input q in
    let same : viewer_after s known p k.acts ≡ q = after_same s us known p k.acts begins k.may_be in
    let after : after_look t.looked (viewer_after s known p k.acts) ≡ after_look t.looked q = ap (after_look t.looked) same in
    let le = t.rises in
    record {
      acts = Turn t.looked None ∷ k.acts;
      begun = k.begun;
      sent = k.sent;
      may_be = (
        all_more s us known p k.acts begins k.may_be,
        subst (λ v. MayBe s known v (Turn t.looked None)) (sym same) (sym (ready_is s st bare k.stands) ∙ ready, t.seen, sym (reason_is s st bare t.looked k.stands) ∙ none),
      );
      shown = (b, t.behind, k.shown, t.replied, (t.idle none).1);
      taken = k.taken;
      given = k.given ∙ ap (λ v. old.given ++ take v.written (out_bytes s v)) (sym after);
      stands = subst (λ v. Stands s next (without_input v)) (sym after) (subst (λ u. Stands s u (after_look t.looked bare)) (sym (t.idle none).0) (stands_saw s st bare t.looked k.stands));
      waiting = ap (λ (v : Viewer). v.waiting) after ∙ k.waiting;
      took = k.took;
      passed = subst (λ v. HasPassed v k.sent) (sym after) (passed_as q (after_look t.looked q) k.sent k.passed refl refl refl refl refl);
      numbers = subst (λ v. NumbersUpTo now_most v.entries) (sym after) (t.bounded, numbers_more most now_most q.entries le k.numbers);
      counted = subst (λ u. HasCounted u known) (sym (t.idle none).0) (counted_more st us known begins k.counted);
      turned = λ between. subst (λ (v : Viewer). has_turned v.entries ≡ true) (sym after) refl;
    }
serving_turns looks cuts a b c us known most now_most s p st next box x y true old now k begins ready t reason =
    let q : Viewer = viewer_after s us p k.acts in
    let bare : Viewer = without_input q in
    let same : viewer_after s known p k.acts ≡ q = after_same s us known p k.acts begins k.may_be in
    let cut : CutsAt cuts t.behind c st next known (max most t.looked) now_most = t.cut reason in
    let first : List Update = take cut.number known in
    let made : IsCut s next first (after_look t.looked bare) = cut.stands s (after_look t.looked bare) (counted_more st us known begins k.counted) (stands_saw s st bare t.looked k.stands) in
    let turn : Act = Turn t.looked (Some (record { number = cut.number; chosen = made.chosen })) in
    let v : Viewer = after_cut_as s first made.chosen (after_look t.looked q) in
    let after : after_cut_as s first made.chosen (after_look t.looked (viewer_after s known p k.acts)) ≡ v = ap (λ u. after_cut_as s first made.chosen (after_look t.looked u)) same in
    let fresh = cut.fresh in
    let bounded = cut.bounded in
    let all : length first ≡ cut.number = let there = cut.known in omega (arith, length-take cut.number known, there) in
    let size : Option Size = size_at s.w s.h s.host (Saw t.looked ∷ q.entries) first in
    let found : Option (Rect × List ℕ) = with_chosen made.chosen (update_at s.form s.w s.h (Saw t.looked ∷ q.entries) first) in
    record {
      acts = turn ∷ k.acts;
      begun = k.begun;
      sent = k.sent;
      may_be = (
        all_more s us known p k.acts begins k.may_be,
        subst (λ u. MayBe s known u turn) (sym same)
            (sym (ready_is s st bare k.stands) ∙ ready, t.seen, (sym (reason_is s st bare t.looked k.stands) ∙ reason, cut.known, (omega (arith, fresh), numbers_more most cut.number q.entries (omega (arith, fresh)) k.numbers), made.may_be)),
      );
      shown = (b, t.behind, k.shown, t.replied, cut.cut);
      taken = k.taken;
      given = k.given ∙ (ap (λ t. old.given ++ t) (sym (cut_front s first made.chosen (after_look t.looked q) k.stands.serves.written)) ∙ ap (λ u. old.given ++ take u.written (out_bytes s u)) (sym after));
      stands = subst (λ u. Stands s next (without_input u)) (sym after) made.stands;
      waiting = ap (λ (u : Viewer). u.waiting) after ∙ k.waiting;
      took = k.took;
      passed = subst (λ u. HasPassed u k.sent) (sym after)
          (passed_as q v k.sent k.passed refl refl refl (began_messages (length first) size found (Saw t.looked ∷ q.entries)) (began_last (length first) size found (Saw t.looked ∷ q.entries)));
      numbers = subst (λ u. NumbersUpTo now_most u.entries) (sym after)
          (numbers_began now_most (length first) size found (Saw t.looked ∷ q.entries) (omega (arith, all, bounded)) (t.bounded, numbers_more most now_most q.entries (let le = t.rises in omega (arith, le)) k.numbers));
      counted = cut.counted;
      turned = λ between. subst (λ (u : Viewer). has_turned u.entries ≡ true) (sym after) (turned_began (length first) size found t.looked q.entries);
    }

-- The same over more updates, of a source and a session that are the same.
pub serving_known : {S : Type 0} (looks cuts : S → ℕ → S → Type 0) (a b c : S) (us known : List Update) (most now_most : ℕ) (s : Setup) (p : Viewer) (st next : State) (box : Unpassed) (x y : List Input) (is_offered : Bool) (old now : LinkState)
    → IsServing looks cuts a b us most s p st box x y is_offered old now → Begins us known → next ≡ st → c ≡ b → now_most ≡ most → IsServing looks cuts a c known now_most s p next box x y is_offered old now
serving_known looks cuts a b c us known most now_most s p st next box x y is_offered old now k begins still there rises =
    let same : viewer_after s known p k.acts ≡ viewer_after s us p k.acts = after_same s us known p k.acts begins k.may_be in
    record {
      acts = k.acts;
      begun = k.begun;
      sent = k.sent;
      may_be = all_more s us known p k.acts begins k.may_be;
      shown = subst (λ t. IsShown looks cuts a k.acts t) (sym there) k.shown;
      taken = k.taken;
      given = k.given ∙ ap (λ v. old.given ++ take v.written (out_bytes s v)) (sym same);
      stands = subst (λ t. Stands s t (without_input (viewer_after s known p k.acts))) (sym still) (subst (λ v. Stands s st (without_input v)) (sym same) k.stands);
      waiting = ap (λ (v : Viewer). v.waiting) same ∙ k.waiting;
      took = k.took;
      passed = subst (λ v. HasPassed v k.sent) (sym same) k.passed;
      numbers = subst (λ v. NumbersUpTo now_most v.entries) (sym same) (numbers_more most now_most (viewer_after s us p k.acts).entries (omega (arith, rises)) k.numbers);
      counted = subst (λ t. HasCounted t known) (sym still) (counted_more st us known begins k.counted);
      turned = subst (λ v. IsTurned is_offered s v) (sym same) k.turned;
    }

-- Nothing is unsent, and it isn't ready, so it isn't between two messages.
serving_unready : {S : Type 0} (looks cuts : S → ℕ → S → Type 0) (a b : S) (us : List Update) (most : ℕ) (s : Setup) (p : Viewer) (st : State) (box : Unpassed) (x y : List Input) (old now : LinkState)
    → IsServing looks cuts a b us most s p st box x y false old now → length st.unsent ≡ 0 → is_ready st ≡ false → IsServing looks cuts a b us most s p st box x y true old now
serving_unready looks cuts a b us most s p st box x y old now k none ready =
    record {
      begun = k.begun;
      acts = k.acts;
      sent = k.sent;
      may_be = k.may_be;
      shown = k.shown;
      taken = k.taken;
      given = k.given;
      stands = k.stands;
      waiting = k.waiting;
      took = k.took;
      passed = k.passed;
      numbers = k.numbers;
      counted = k.counted;
      turned = λ b. absurd (true≢false (sym (ready_between s st (without_input (viewer_after s us p k.acts)) k.stands none (record { greeted = b.greeted; begins = b.begins })) ∙ ready));
    }

-- A turn was offered.
offered_if : {S : Type 0} (looks cuts : S → ℕ → S → Type 0) (a b c : S) (us known : List Update) (most now_most : ℕ) (s : Setup) (p : Viewer) (st next : State) (box : Unpassed) (x y : List Input) (is : Bool) (old now : LinkState)
    → IsServing looks cuts a b us most s p st box x y false old now → Begins us known → length st.unsent ≡ 0 → is_ready st ≡ is
    → (is_ready st ≡ false → (next ≡ st) × (c ≡ b) × (now_most ≡ most)) → (is_ready st ≡ true → Turns looks cuts b c st next known most now_most)
    → IsServing looks cuts a c known now_most s p next box x y true old now
offered_if looks cuts a b c us known most now_most s p st next box x y true old now k begins none ready idle turns =
    let t = turns ready in
    serving_turns looks cuts a b c us known most now_most s p st next box x y (wants_cut st.asked t.looked) old now k begins ready t refl
offered_if looks cuts a b c us known most now_most s p st next box x y false old now k begins none ready idle turns =
    let same = idle ready in
    serving_known looks cuts a b c us known most now_most s p st next box x y true old now (serving_unready looks cuts a b us most s p st box x y old now k none ready) begins same.0 same.1 same.2

pub serving_offered : {S : Type 0} (looks cuts : S → ℕ → S → Type 0) (may_end : Type 0) (a b c : S) (us known : List Update) (most now_most : ℕ) (s : Setup) (p : Viewer) (st next : State) (box : Unpassed) (x y : List Input) (is_offered : Bool) (old now : LinkState)
    → IsServing looks cuts a b us most s p st box x y false old now → Begins us known → Offers looks cuts may_end b c st next known most now_most (Ok is_offered)
    → IsServing looks cuts a c known now_most s p next box x y is_offered old now
serving_offered looks cuts may_end a b c us known most now_most s p st next box x y true old now k begins o =
    offered_if looks cuts a b c us known most now_most s p st next box x y (is_ready st) old now k begins o.0 refl o.1 o.2
serving_offered looks cuts may_end a b c us known most now_most s p st next box x y false old now k begins o =
    serving_known looks cuts a b c us known most now_most s p st next box x y false old now k begins o.1 o.2 o.3

-- ---- giving and taking

turned_still : (is_offered : Bool) (s : Setup) (p : Viewer) (n : ℕ) → IsTurned is_offered s p → IsTurned is_offered s (after_writing n p)
turned_still true s p n k = λ b. k (record { greeted = b.greeted; begins = b.begins })
turned_still false s p n k = tt

pub serving_said : {S : Type 0} (looks cuts : S → ℕ → S → Type 0) (a b : S) (us : List Update) (most : ℕ) (s : Setup) (p : Viewer) (st next : State) (box : Unpassed) (x y : List Input) (is_offered : Bool) (old now new : LinkState)
    → IsServing looks cuts a b us most s p st box x y is_offered old now → Says st next now new → IsServing looks cuts a b us most s p next box x y is_offered old new
serving_said looks cuts a b us most s p st next box x y is_offered old now new k says =
    let q : Viewer = viewer_after s us p k.acts in
    let left = unsent_left s st (without_input q) k.stands.serves in
    let within = says.within in
    let written = k.stands.serves.written in
    record {
      acts = Written says.count ∷ k.acts;
      begun = k.begun;
      sent = k.sent;
      may_be = (k.may_be, omega (arith, left, within, written));
      shown = k.shown;
      taken = says.taken ∙ k.taken;
      given = says.given
          ∙ (ap (λ t. t ++ take says.count st.unsent) k.given
          ∙ (append_assoc old.given (take q.written (out_bytes s q)) (take says.count st.unsent)
          ∙ ap (λ t. old.given ++ t) (ap (λ t. take q.written (out_bytes s q) ++ take says.count t) k.stands.serves.unsent ∙ sym (take-add q.written says.count (out_bytes s q)))));
      stands = says.stands s (without_input q) k.stands;
      waiting = k.waiting;
      took = k.took;
      passed = passed_as q (after_writing says.count q) k.sent k.passed refl refl refl refl refl;
      numbers = k.numbers;
      counted = says.counted us k.counted;
      turned = turned_still is_offered s q says.count k.turned;
    }

-- Bytes came.
serving_took : {S : Type 0} (looks cuts : S → ℕ → S → Type 0) (a b : S) (us : List Update) (most : ℕ) (s : Setup) (p : Viewer) (st : State) (box next : Unpassed) (x y : List Input) (is_offered : Bool) (piece : List ℕ) (old now new : LinkState)
    → IsServing looks cuts a b us most s p st box x y is_offered old now → box ≡ all_passed → next.unread ≡ piece → next.waiting ≡ None → new.taken ≡ now.taken ++ piece → new.given ≡ now.given
    → IsServing looks cuts a b us most s p st next x y is_offered old new
serving_took looks cuts a b us most s p st box next x y is_offered piece old now new k empty all none e f =
    let bytes : List ℕ = bytes_in k.acts in
    record {
      begun = k.begun;
      acts = k.acts;
      sent = k.sent;
      may_be = k.may_be;
      shown = k.shown;
      taken = e
          ∙ (ap (λ t. t ++ piece) (k.taken ∙ ap (λ (i : Unpassed). old.taken ++ (bytes ++ i.unread)) empty)
          ∙ (append_assoc old.taken (bytes ++ []) piece ∙ ap (λ t. old.taken ++ t) (ap (λ t. t ++ piece) (append-nil bytes) ∙ ap (λ t. bytes ++ t) (sym all))));
      given = f ∙ k.given;
      stands = k.stands;
      waiting = k.waiting ∙ (ap (λ (i : Unpassed). i.waiting) empty ∙ sym none);
      took = k.took;
      passed = k.passed;
      numbers = k.numbers;
      counted = k.counted;
      turned = k.turned;
    }

-- They were read: a turn is to be had again.
serving_heard_if : {S : Type 0} (looks cuts : S → ℕ → S → Type 0) (a b : S) (us : List Update) (most : ℕ) (s : Setup) (p : Viewer) (st next : State) (box after : Unpassed) (x y : List Input) (is_offered : Bool) (piece : List ℕ) (old now new : LinkState)
    → IsServing looks cuts a b us most s p st box x y is_offered old now → box ≡ all_passed → IsSameSession st next → new.taken ≡ now.taken ++ piece → new.given ≡ now.given → HasHeard piece st next after
    → IsServing looks cuts a b us most s p next after x y false old new
serving_heard_if looks cuts a b us most s p st next box after x y is_offered [] old now new k empty same e f h =
    serving_anew looks cuts a b us most s p next after x y is_offered old new
    (subst (λ (t : State). IsServing looks cuts a b us most s p t after x y is_offered old new) (sym h.0)
    (serving_still looks cuts a b us most s p st box after x y y is_offered old now new k (h.1 ∙ sym empty) refl (e ∙ append-nil now.taken) f))
serving_heard_if looks cuts a b us most s p st next box after x y is_offered (z ∷ zs) old now new k empty same e f h =
    let came : Unpassed = record { unread = z ∷ zs; waiting = None } in
    serving_read looks cuts a b us most s p st next came after x y is_offered old new
    (serving_took looks cuts a b us most s p st box came x y is_offered (z ∷ zs) old now new k empty refl refl e f) same h

pub serving_heard : {S : Type 0} (looks cuts : S → ℕ → S → Type 0) (a b : S) (us : List Update) (most : ℕ) (s : Setup) (p : Viewer) (st next : State) (box after : Unpassed) (x y : List Input) (is_offered : Bool) (answer : Result Bool Fault) (old now new : LinkState)
    → IsServing looks cuts a b us most s p st box x y is_offered old now → box ≡ all_passed → IsSameSession st next → Hears answer st next after now new → IsServing looks cuts a b us most s p next after x y false old new
serving_heard looks cuts a b us most s p st next box after x y is_offered answer old now new k empty same h =
    serving_heard_if looks cuts a b us most s p st next box after x y is_offered h.piece old now new k empty same h.taken h.given h.heard

-- ---- the end

pub held_by : (s : Setup) (us : List Update) (p : Viewer) (acts : List Act) (st : State) → s.w ≤ 4096 → s.h ≤ 4096 → ((role : Role) × (greet : Bool) × (p ≡ new_viewer role greet)) → AllMayBe s us p acts → Stands s st (without_input (viewer_after s us p acts))
    → EachAnswerHolds s us (viewer_after s us p acts)
held_by s us p acts st lw lh begun may stands =
    subst (λ (q : Viewer). EachAnswerHolds s us (viewer_after s us q acts)) (sym begun.2)
    (holds_after_each_answer s lw lh us begun.0 begun.1 acts (subst (λ (q : Viewer). AllMayBe s us q acts) begun.2 may))

served_by : {S : Type 0} (looks cuts : S → ℕ → S → Type 0) (may_end was_set : Type 0) (may_refuse : Fault → Type 0) (a b c : S) (us : List Update) (most : ℕ) (s : Setup) (p : Viewer) (st : State) (box : Unpassed) (x y : List Input) (is_offered : Bool) (answer : Result (Unit {0}) Break) (old new : LinkState)
    → (k : IsServing looks cuts a b us most s p st box x y is_offered old new) → WaitsIfLeft box → EndsSo looks may_end was_set may_refuse b c s (viewer_after s us p k.acts) box answer old new
    → HasServed looks cuts may_end was_set may_refuse a c us s p st box x y answer old new
served_by looks cuts may_end was_set may_refuse a b c us most s p st box x y is_offered answer old new k unread ends =
    record {
      acts = k.acts;
      behind = b;
      sent = k.sent;
      may_be = k.may_be;
      shown = k.shown;
      taken = k.taken;
      unread = unread;
      given = k.given;
      stands = k.stands;
      waiting = k.waiting;
      took = k.took;
      passed = k.passed;
      holds = λ lw lh. held_by s us p k.acts st lw lh k.begun k.may_be k.stands;
      ends = ends;
    }

-- The flag was set.
pub served_stop : {S : Type 0} (looks cuts : S → ℕ → S → Type 0) (may_end was_set : Type 0) (may_refuse : Fault → Type 0) (a b : S) (us : List Update) (most : ℕ) (s : Setup) (p : Viewer) (st : State) (box : Unpassed) (x y : List Input) (is_offered : Bool) (old new : LinkState)
    → IsServing looks cuts a b us most s p st box x y is_offered old new → WaitsIfLeft box → was_set → new.failed ≡ old.failed → new.ended ≡ old.ended → HasServed looks cuts may_end was_set may_refuse a b us s p st box x y (Ok tt) old new
served_stop looks cuts may_end was_set may_refuse a b us most s p st box x y is_offered old new k unread set f e = served_by looks cuts may_end was_set may_refuse a b b us most s p st box x y is_offered (Ok tt) old new k unread (refl, f, inl (set, e))

-- The source has ended.
pub served_gone : {S : Type 0} (looks cuts : S → ℕ → S → Type 0) (may_end was_set : Type 0) (may_refuse : Fault → Type 0) (a b c : S) (us known : List Update) (most least now_most : ℕ) (s : Setup) (p : Viewer) (st next : State) (box : Unpassed) (x y : List Input) (is_offered : Bool) (fault : Fault) (old new : LinkState)
    → IsServing looks cuts a b us most s p st box x y is_offered old new → WaitsIfLeft box → Begins us known → Offers looks cuts may_end b c st next known least now_most (Err fault)
    → HasServed looks cuts may_end was_set may_refuse a c known s p next box x y (Err (At fault)) old new
served_gone looks cuts may_end was_set may_refuse a b c us known most least now_most s p st next box x y is_offered fault old new k unread begins o =
    subst (λ t. HasServed looks cuts may_end was_set may_refuse a c known s p t box x y (Err (At fault)) old new) (sym o.2)
    (served_by looks cuts may_end was_set may_refuse a b c known most s p st box x y is_offered (Err (At fault)) old new (serving_known looks cuts a b b us known most most s p st st box x y is_offered old new k begins refl refl refl) unread (inr (o.0, o.1, o.3)))

bare_halts : (fault : Fault) (s : Setup) (p : Viewer) (old new : LinkState) → LinkHalts fault s (without_input p) old new → LinkHalts fault s p old new
bare_halts LinkEnded s p old new (rose, inl unsent) = (rose, inl unsent)
bare_halts LinkEnded s p old new (rose, inr inside) = (rose, inr (λ b. inside (record { greeted = b.greeted; begins = b.begins })))
bare_halts LinkFailed s p old new k = k
bare_halts fault s p old new k = k

halts_on : (fault : Fault) (s : Setup) (p : Viewer) (old now new : LinkState) → now.failed ≡ old.failed → now.ended ≡ old.ended → LinkHalts fault s p now new → LinkHalts fault s p old new
halts_on fault s p old now new f e k = subst (λ n. HaltsBy fault s p old.failed new.failed n new.ended) e (subst (λ n. HaltsBy fault s p n new.failed now.ended new.ended) f k)

-- The link halts.
pub served_halt : {S : Type 0} (looks cuts : S → ℕ → S → Type 0) (may_end was_set : Type 0) (may_refuse : Fault → Type 0) (a b : S) (us : List Update) (most : ℕ) (s : Setup) (p : Viewer) (st : State) (box : Unpassed) (x y : List Input) (is_offered : Bool) (fault : Fault) (old now new : LinkState)
    → IsServing looks cuts a b us most s p st box x y is_offered old new → WaitsIfLeft box → now.failed ≡ old.failed → now.ended ≡ old.ended → ((t : Setup) (q : Viewer) → Stands t st q → LinkHalts fault t q now new)
    → HasServed looks cuts may_end was_set may_refuse a b us s p st box x y (Err (At fault)) old new
served_halt looks cuts may_end was_set may_refuse a b us most s p st box x y is_offered fault old now new k unread f e halts =
    let q : Viewer = viewer_after s us p k.acts in
    served_by looks cuts may_end was_set may_refuse a b b us most s p st box x y is_offered (Err (At fault)) old new k unread (inl (refl, inr (inr (halts_on fault s q old now new f e (bare_halts fault s q now new (halts s (without_input q) k.stands))))))

-- The viewer's bytes are at fault.
pub served_fault : {S : Type 0} (looks cuts : S → ℕ → S → Type 0) (may_end was_set : Type 0) (may_refuse : Fault → Type 0) (a b : S) (us : List Update) (most : ℕ) (s : Setup) (p : Viewer) (st : State) (box : Unpassed) (x y : List Input) (is_offered : Bool) (fault : Fault) (old new : LinkState)
    → IsServing looks cuts a b us most s p st box x y is_offered old new → WaitsIfLeft box → fault_in st ≡ Some fault → HasServed looks cuts may_end was_set may_refuse a b us s p st box x y (Err (At fault)) old new
served_fault looks cuts may_end was_set may_refuse a b us most s p st box x y is_offered fault old new k unread at =
    served_by looks cuts may_end was_set may_refuse a b b us most s p st box x y is_offered (Err (At fault)) old new k unread (inl (refl, inl (sym (fault_stands s st (without_input (viewer_after s us p k.acts)) k.stands) ∙ at)))

-- Input went on no further: the sink refused it for good, or the bytes after it are at fault.
pub served_relay : {S : Type 0} (looks cuts : S → ℕ → S → Type 0) (may_end was_set : Type 0) (may_refuse : Fault → Type 0) (a b : S) (us : List Update) (most : ℕ) (s : Setup) (p : Viewer) (st next : State) (box after : Unpassed) (x y z : List Input) (why : Break) (old now : LinkState)
    → IsServing looks cuts a b us most s p st box x y false old now → WaitsIfLeft after → IsSameSession st next → GoesOn may_refuse (Err why) st next box after y z
    → HasServed looks cuts may_end was_set may_refuse a b us s p next after x z (Err why) old now
served_relay looks cuts may_end was_set may_refuse a b us most s p st next box after x y z (At fault) old now k unread same g =
    served_fault looks cuts may_end was_set may_refuse a b us most s p next after x z false fault old now
    (serving_read looks cuts a b us most s p st next g.0 after x z false old now (serving_passed looks cuts may_refuse a b us most s p st box g.0 false x y z old now k g.1) same g.2) unread g.3
served_relay looks cuts may_end was_set may_refuse a b us most s p st next box after x y z (Refused fault) old now k unread same g =
    let e = g.0 in
    subst (λ t. HasServed looks cuts may_end was_set may_refuse a b us s p t after x z (Err (Refused fault)) old now) (sym g.1)
    (served_by looks cuts may_end was_set may_refuse a b b us most s p st after x z false (Err (Refused fault)) old now (serving_still looks cuts a b us most s p st box after x y z false old now now k e.1 e.2 refl refl) unread
    (refl, e.3, ap (λ (i : Unpassed). is_some i.waiting) e.1 ∙ e.0))

-- No more is heard: the link halted, or the bytes are at fault.
heard_no_more : {S : Type 0} (looks cuts : S → ℕ → S → Type 0) (may_end was_set : Type 0) (may_refuse : Fault → Type 0) (a b : S) (us : List Update) (most : ℕ) (s : Setup) (p : Viewer) (st : State) (box : Unpassed) (x y : List Input) (is_offered : Bool) (fault : Fault) (piece : List ℕ) (old now new : LinkState)
    → IsServing looks cuts a b us most s p st box x y is_offered old new → WaitsIfLeft box → now.failed ≡ old.failed → now.ended ≡ old.ended → HeardSo (Err fault) piece st now new
    → HasServed looks cuts may_end was_set may_refuse a b us s p st box x y (Err (At fault)) old new
heard_no_more looks cuts may_end was_set may_refuse a b us most s p st box x y is_offered fault piece old now new k unread f e (inl at) = served_fault looks cuts may_end was_set may_refuse a b us most s p st box x y is_offered fault old new k unread at.0
heard_no_more looks cuts may_end was_set may_refuse a b us most s p st box x y is_offered fault piece old now new k unread f e (inr halts) = served_halt looks cuts may_end was_set may_refuse a b us most s p st box x y is_offered fault old now new k unread f e halts.1

waits_if_heard : (piece : List ℕ) (st next : State) (after : Unpassed) → HasHeard piece st next after → WaitsIfLeft after
waits_if_heard [] st next after h = inl (ap (λ (i : Unpassed). i.unread) h.1)
waits_if_heard (z ∷ zs) st next after h = h.all

pub waits_after : (answer : Result Bool Fault) (st next : State) (after : Unpassed) (now new : LinkState) → Hears answer st next after now new → WaitsIfLeft after
waits_after answer st next after now new h = waits_if_heard h.piece st next after h.heard

pub served_hear : {S : Type 0} (looks cuts : S → ℕ → S → Type 0) (may_end was_set : Type 0) (may_refuse : Fault → Type 0) (a b : S) (us : List Update) (most : ℕ) (s : Setup) (p : Viewer) (st next : State) (box after : Unpassed) (x y : List Input) (is_offered : Bool) (fault : Fault) (old now new : LinkState)
    → IsServing looks cuts a b us most s p st box x y is_offered old now → box ≡ all_passed → IsSameSession st next → now.failed ≡ old.failed → now.ended ≡ old.ended → Hears (Err fault) st next after now new
    → HasServed looks cuts may_end was_set may_refuse a b us s p next after x y (Err (At fault)) old new
served_hear looks cuts may_end was_set may_refuse a b us most s p st next box after x y is_offered fault old now new k empty same f e h =
    heard_no_more looks cuts may_end was_set may_refuse a b us most s p next after x y false fault h.piece old now new (serving_heard looks cuts a b us most s p st next box after x y is_offered (Err fault) old now new k empty same h)
    (waits_after (Err fault) st next after now new h) f e h.so

-- Nothing was heard.
unheard : (piece : List ℕ) (st next : State) (after : Unpassed) → HasHeard piece st next after → piece ≡ [] → (next ≡ st) × (after ≡ all_passed)
unheard piece st next after h e = subst (λ (t : List ℕ). HasHeard t st next after) e h

-- The link ended, and all is done.
pub served_end : {S : Type 0} (looks cuts : S → ℕ → S → Type 0) (may_end was_set : Type 0) (may_refuse : Fault → Type 0) (a b : S) (us : List Update) (most : ℕ) (s : Setup) (p : Viewer) (st next : State) (box after : Unpassed) (x y : List Input) (old now new : LinkState)
    → IsServing looks cuts a b us most s p st box x y true old now → box ≡ all_passed → now.failed ≡ old.failed → now.ended ≡ old.ended → (h : Hears (Ok false) st next after now new)
    → HasServed looks cuts may_end was_set may_refuse a b us s p next after x y (Ok tt) old new
served_end looks cuts may_end was_set may_refuse a b us most s p st next box after x y old now new k empty f e h =
    let so = h.so in
    let same : (next ≡ st) × (after ≡ all_passed) = unheard h.piece st next after h.heard so.0 in
    let m : IsServing looks cuts a b us most s p st after x y true old new =
    serving_still looks cuts a b us most s p st box after x y y true old now new k (same.1 ∙ sym empty) refl (h.taken ∙ (ap (λ t. now.taken ++ t) so.0 ∙ append-nil now.taken)) h.given in
    let n : IsServing looks cuts a b us most s p next after x y true old new = subst (λ (t : State). IsServing looks cuts a b us most s p t after x y true old new) (sym same.0) m in
    let q : Viewer = viewer_after s us p n.acts in
    let bare : IsBetween (without_input q) = so.4 s (without_input q) n.stands in
    let between : IsBetween q = record { greeted = bare.greeted; begins = bare.begins } in
    let left = unsent_left s next (without_input q) n.stands.serves in
    let none = so.3 in
    let written = n.stands.serves.written in
    served_by looks cuts may_end was_set may_refuse a b b us most s p next after x y true (Ok tt) old new n (inl (ap (λ (i : Unpassed). i.unread) same.1))
    (refl, so.2 ∙ f, inr (subst (λ t. HasRisen t new.ended) e so.1, record { between = between; passed = n.waiting ∙ ap (λ (i : Unpassed). i.waiting) same.1; turned = n.turned between; written = omega (arith, left, none, written) }))

-- Where all was sent before the link ended a turn was offered.
pub was_offered : (is_offered : Bool) (st next : State) (after : Unpassed) (now new : LinkState) → Hears (Ok false) st next after now new → (is_offered ≡ true) ⊎ (0 < length st.unsent) → is_offered ≡ true
was_offered is_offered st next after now new h (inl e) = e
was_offered is_offered st next after now new h (inr some) =
    let so = h.so in
    let none = so.3 in
    let same : (next ≡ st) × (after ≡ all_passed) = unheard h.piece st next after h.heard so.0 in
    let count : length next.unsent ≡ length st.unsent = ap (λ (x : State). length x.unsent) same.0 in
    absurd (let no : 0 < 0 = omega (arith, none, count, some) in omega (arith, no))

clear_if : (box : Unpassed) (o : Option Input) → box.waiting ≡ o → is_some o ≡ false → WaitsIfLeft box → box ≡ all_passed
clear_if box (Some input) w e k = absurd cc
clear_if box None w e (inl none) = ap (λ (xs : List ℕ). record { unread = xs; waiting = box.waiting }) none ∙ ap (λ (o : Option Input). record { unread = []; waiting = o }) w
clear_if box None w e (inr some) = absurd (true≢false (sym some ∙ ap is_some w))

-- Where no input waits nothing is to be passed on.
pub box_clear : (box : Unpassed) → is_some box.waiting ≡ false → WaitsIfLeft box → box ≡ all_passed
box_clear box e k = clear_if box box.waiting refl e k
