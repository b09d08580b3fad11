-- A piece of a viewer's bytes is taken, message by message. `Session::feed` stops where an input waits.
use Rattle.std.proofs.Common.{◌≡◌, ℕ, Bool, true, false, List, [], ◌∷◌, ◌++◌, drop, Option, Some, None, Err, refl, sym, ap, subst, ◌∙◌, append_assoc, append-nil, inl, inr, ◌⊎◌}
use Rattle.std.specs.Prelude.{if◌then◌else◌, is_some, option_map}
use Rattle.fault.specs.declared.kinds.Fault.{Fault}
use Rattle.byte_reading.specs.Reading.{Reading, Done, Faulty, Want, Gives, after, taken, whole_of, fault_of, wants_more, renewed}
use Rattle.byte_reading.proofs.ReadingLaws.{after-faulty}
use Rattle.rfb_wire.specs.ClientMessage.{ClientMessage, without_text}
use Rattle.rfb_wire.specs.ClientReader.{ahead}
use Rattle.rfb_wire.specs.Greeting.{Greeting}
use Rattle.rfb_wire.specs.Message.{viewer_form, IsOrLoses, FeedsOrLoses}
use Rattle.rfb_wire.proofs.Losing.{goes_on_fed, goes_on_faults, goes_on_taken}
use Rattle.roles.specs.Allowed.{Input, keys_after, passes}
use Rattle.roles.specs.Held.{input_for}
use Rattle.viewer_session.specs.Record.{Took}
use Rattle.viewer_session.specs.Viewer.{Setup, Viewer, after_byte, after_bytes, marked, with_input, with_message}
use Rattle.viewer_session.specs.Session.{State, Serves, Stands, FeedsTo, HasFed, HasKeptShort, IsFeeding, IsSameSession, ReadsOne, at_rest, hello_of, hello_fault, fault_in, is_greeted, marks_in, text_mark, after_taking, with_marks}
use Rattle.viewer_session.proofs.Feeding.{past_hello, takes_whole, goes_on, stays}
use Rattle.viewer_session.proofs.HelloLaws.{past}
use Rattle.viewer_session.proofs.KeptShort.{client_message_short, gives_after, marks_told}
use Rattle.viewer_session.proofs.SessionLaws.{stands_look}

pub feeding_begins : (old : State) (piece : List ℕ) → IsFeeding old old [] piece piece
feeding_begins old piece = λ s p more k. record { viewer = p; stands = k; rest = refl }

-- One part of a piece after another.
pub feeding_on : (old now new : State) (marks others : List Bool) (piece left rest : List ℕ) → IsFeeding old now marks piece left → IsFeeding now new others left rest → IsFeeding old new (marks ++ others) piece rest
feeding_on old now new marks others piece left rest h l = λ s p more k.
    let f : HasFed s (record p { lost = marks ++ (others ++ more) }) now (others ++ more) piece left = h s p (others ++ more) k in
    let g : HasFed s (record f.viewer { lost = others ++ more }) new more left rest = l s f.viewer more f.stands in
    record { viewer = g.viewer; stands = g.stands; rest = ap (λ (ms : List Bool). after_bytes (record p { lost = ms }) piece) (append_assoc marks others more) ∙ (f.rest ∙ g.rest) }

-- ---- readings

some_is : (x y : ClientMessage) → Some x ≡ Some y → x ≡ y
some_is x y e = cc

same_renewed : (r : Reading ClientMessage) → whole_of r ≡ None → renewed viewer_form r ≡ r
same_renewed (Done m) e = absurd cc
same_renewed (Faulty f) e = refl
same_renewed (Want more) e = refl

none_given : (r : Reading ClientMessage) → (None ≡ whole_of r) ⊎ (None ≡ option_map without_text (whole_of r)) → whole_of r ≡ None
none_given (Done m) (inl e) = absurd cc
none_given (Done m) (inr e) = absurd cc
none_given (Faulty f) e = refl
none_given (Want more) e = refl

-- What was given is what was read, or the same without its text.
record HasGiven (r : Reading ClientMessage) (given : ClientMessage) : Type 0 where
  message : ClientMessage
  whole : r ≡ Done message
  or_lost : (given ≡ message) ⊎ (given ≡ without_text message)

some_given : (r : Reading ClientMessage) (m : ClientMessage) → (Some m ≡ whole_of r) ⊎ (Some m ≡ option_map without_text (whole_of r)) → HasGiven r m
some_given (Done x) m (inl e) = record { message = x; whole = refl; or_lost = inl (some_is m x e) }
some_given (Done x) m (inr e) = record { message = x; whole = refl; or_lost = inr (some_is m (without_text x) e) }
some_given (Faulty f) m (inl e) = absurd cc
some_given (Faulty f) m (inr e) = absurd cc
some_given (Want more) m (inl e) = absurd cc
some_given (Want more) m (inr e) = absurd cc

wants_open : (r : Reading ClientMessage) (bs : List ℕ) → whole_of r ≡ None → fault_of (after r bs) ≡ None → wants_more r ≡ true
wants_open (Done x) bs w f = absurd cc
wants_open (Faulty g) bs w f = absurd (let at : fault_of (after {A = ClientMessage} (Faulty g) bs) ≡ Some g = ap fault_of (after-faulty g bs) in cc)
wants_open (Want more) bs w f = refl

-- ---- one step

abbrev with_reading : Viewer → Reading ClientMessage → Viewer
with_reading p r = record p { reading = r }

abbrev with_lost : Viewer → List Bool → Viewer
with_lost p marks = record p { lost = marks }

-- Only the reader has gone on.
read_on : (s : Setup) (now mid : State) (q : Viewer) (r : Reading ClientMessage) → Stands s now q → mid ≡ record now { reader = mid.reader } → IsOrLoses (ahead mid.reader) r → whole_of r ≡ None → Gives HasKeptShort r
    → Stands s mid (with_reading q r)
read_on s now mid q r both e reads w short =
    let k : Serves s now q = both.serves in
    let fresh : Stands s (record now { reader = mid.reader }) (with_reading q r) =
    record {
      serves = record {
        width = k.width;
        height = k.height;
        form = k.form;
        host = k.host;
        role = k.role;
        rests = ap (λ (p : Viewer). with_reading p r) k.rests;
        greets = k.greets;
        reading = reads;
        taken = w;
        short = short;
        keeps = record { asked = k.keeps.asked; have = k.keeps.have; format = k.keeps.format; choice = k.keeps.choice; told = k.keeps.told };
        written = k.written;
        unsent = k.unsent;
        begun = k.begun;
      };
      relays = record { waiting = both.relays.waiting; keys = both.relays.keys; held = both.relays.held };
    } in
    subst (λ (st : State). Stands s st (with_reading q r)) (sym e) fresh

-- A viewer after its hello, with these marks.
past_with : (s : Setup) (st : State) (q : Viewer) (marks : List Bool) → Stands s st q → is_greeted st ≡ true → st.waiting ≡ None → with_lost q marks ≡ past_hello (with_lost q marks)
past_with s st q marks k greeted none = ap (λ (t : Viewer). with_lost t marks) (past s st q k.serves greeted (k.relays.waiting ∙ none))

-- No message was whole.
pub feeding_goes_on : (old mid : State) (left : List ℕ) (used : ℕ) → is_greeted old ≡ true → old.waiting ≡ None → mid ≡ record old { reader = mid.reader } → ReadsOne old mid left used None → IsFeeding old mid [] left (drop used left)
feeding_goes_on old mid left used g none e one = λ s p more k.
    let r : Reading ClientMessage = p.reading in
    let fed = goes_on_fed r (ahead old.reader) one.begun left used k.serves.reading one.feeds in
    let gave = goes_on_taken viewer_form (after r left) one.begun (ahead mid.reader) None fed.0 one.gives in
    let no_whole : whole_of (after r left) ≡ None = none_given (after r left) gave.0 in
    let reads : IsOrLoses (ahead mid.reader) (after r left) = subst (λ (x : Reading ClientMessage). IsOrLoses (ahead mid.reader) x) (same_renewed (after r left) no_whole) gave.1 in
    let on : Stands s mid (with_reading p (after r left)) = read_on s old mid p (after r left) k e reads no_whole (gives_after HasKeptShort r left k.serves.short) in
    record {
      viewer = with_reading p (after r left);
      stands = on;
      rest = ap (λ t. after_bytes t left) (past_with s old p more k g none)
          ∙ (goes_on (with_lost p more) r left no_whole
          ∙ (ap (λ n. after_bytes (past_hello (with_reading (with_lost p more) (after r left))) (drop n left)) (sym fed.1)
          ∙ ap (λ t. after_bytes t (drop used left)) (sym (past_with s mid (with_reading p (after r left)) more on (ap is_greeted e ∙ g) (ap (λ (st : State). st.waiting) e ∙ none)))));
    }

-- ---- a message is taken

marks_if : (q : Viewer) (marks : List Bool) (input : Input) (b : Bool)
    → (if b then record q { lost = marks; keys = keys_after q.keys input; waiting = Some input } else with_lost q marks) ≡ with_lost (if b then record q { keys = keys_after q.keys input; waiting = Some input } else q) marks
marks_if q marks input true = refl
marks_if q marks input false = refl

-- Marks have no part in an input.
marks_stay : (q : Viewer) (marks : List Bool) (o : Option Input) → with_input (with_lost q marks) o ≡ with_lost (with_input q o) marks
marks_stay q marks None = refl
marks_stay q marks (Some input) = marks_if q marks input (passes q.keys input)

takes_message : (q : Viewer) (m : ClientMessage) (more : List Bool) → with_message q (m, more) ≡ with_lost (after_taking m (with_reading q viewer_form)) more
takes_message q m more = marks_stay (record q { entries = Took m ∷ q.entries; reading = viewer_form }) more (input_for q.role m)

-- A message was whole, and was taken.
pub feeding_takes : (old mid new : State) (left : List ℕ) (used : ℕ) (m : ClientMessage) → is_greeted old ≡ true → old.waiting ≡ None → mid ≡ record old { reader = mid.reader } → ReadsOne old mid left used (Some m)
    → ((s : Setup) (p : Viewer) → Stands s mid p → Stands s new (after_taking m p)) → IsFeeding old new (marks_in (text_mark m)) left (drop used left)
feeding_takes old mid new left used m g none e one takes = λ s p more k.
    let r : Reading ClientMessage = p.reading in
    let marks : List Bool = marks_in (text_mark m) ++ more in
    let fed = goes_on_fed r (ahead old.reader) one.begun left used k.serves.reading one.feeds in
    let gave = goes_on_taken viewer_form (after r left) one.begun (ahead mid.reader) (Some m) fed.0 one.gives in
    let has : HasGiven (after r left) m = some_given (after r left) m gave.0 in
    let anew : renewed viewer_form (after r left) ≡ viewer_form = ap (renewed viewer_form) has.whole in
    let reads : IsOrLoses (ahead mid.reader) viewer_form = subst (λ (x : Reading ClientMessage). IsOrLoses (ahead mid.reader) x) anew gave.1 in
    let short : HasKeptShort has.message = subst (λ (x : Reading ClientMessage). Gives HasKeptShort x) has.whole (gives_after HasKeptShort r left k.serves.short) in
    let on : Stands s mid (with_reading p viewer_form) = read_on s old mid p viewer_form k e reads refl client_message_short in
    let front : after_bytes (with_lost p marks) left ≡ after_bytes (with_message (past_hello (with_lost p marks)) (m, more)) (drop used left) =
    ap (λ t. after_bytes t left) (past_with s old p marks k g none)
    ∙ (takes_whole (with_lost p marks) r left has.message (wants_open r left k.serves.taken fed.2) has.whole
    ∙ (ap (λ n. after_bytes (with_message (past_hello (with_lost p marks)) (marked marks has.message)) (drop n left)) (sym fed.1)
    ∙ ap (λ t. after_bytes (with_message (past_hello (with_lost p marks)) t) (drop used left)) (marks_told m has.message more short has.or_lost))) in
    record {
      viewer = after_taking m (with_reading p viewer_form);
      stands = takes s (with_reading p viewer_form) on;
      rest = front
          ∙ (ap (λ t. after_bytes (with_message t (m, more)) (drop used left)) (sym (past_with s old p marks k g none))
          ∙ ap (λ t. after_bytes t (drop used left)) (takes_message (with_lost p marks) m more ∙ lost_again p m marks more));
    }
  where
    lost_again : (p : Viewer) (m : ClientMessage) (marks more : List Bool) → with_lost (after_taking m (with_reading (with_lost p marks) viewer_form)) more ≡ with_lost (after_taking m (with_reading p viewer_form)) more
    lost_again p m marks more = ap (λ (t : Viewer). with_lost t more) (marks_stay (record p { entries = Took m ∷ p.entries; reading = viewer_form }) marks (input_for p.role m))

-- A fault was met.
pub feeding_faults : (old new : State) (left : List ℕ) (fault : Fault) → is_greeted old ≡ true → old.waiting ≡ None → new ≡ record old { reader = new.reader } → FeedsOrLoses (ahead old.reader) (ahead new.reader) left (Err fault) → IsFeeding old new [] left []
feeding_faults old new left fault g none e fed = λ s p more k.
    let r : Reading ClientMessage = p.reading in
    let met = goes_on_faults r (ahead old.reader) (ahead new.reader) left fault k.serves.reading fed in
    let q : Viewer = with_reading p (Faulty fault) in
    let on : Stands s new q = read_on s old new p (Faulty fault) k e (inl met.0) refl tt in
    record {
      viewer = q;
      stands = on;
      rest = ap (λ t. after_bytes t left) (past_with s old p more k g none)
          ∙ (goes_on (with_lost p more) r left (ap whole_of met.1)
          ∙ (ap (λ x. after_bytes (past_hello (with_reading (with_lost p more) x)) (drop (taken r left) left)) met.1
          ∙ (stays (with_lost p more) fault (drop (taken r left) left)
          ∙ ap (λ (t : Viewer). record t { unread = [] }) (sym (past_with s new q more on (ap is_greeted e ∙ g) (ap (λ (st : State). st.waiting) e ∙ none))))));
    }

-- ---- all of a piece

left_unread : (q : Viewer) (left : List ℕ) → (left ≡ []) ⊎ (is_some q.waiting ≡ true) → after_bytes q left ≡ record q { unread = left }
left_unread q left (inl e) = ap (after_bytes q) e ∙ ap (λ (bs : List ℕ). record q { unread = bs }) (sym e)
left_unread q [] (inr e) = refl
left_unread q (b ∷ bs) (inr e) = ap (λ (w : Bool). if w then record q { unread = b ∷ bs } else after_bytes (after_byte q b) bs) e

ends_by : (st : State) (q : Viewer) (left : List ℕ) → q.waiting ≡ st.waiting → (left ≡ []) ⊎ (is_some st.waiting ≡ true) → (left ≡ []) ⊎ (is_some q.waiting ≡ true)
ends_by st q left same (inl e) = inl e
ends_by st q left same (inr e) = inr (ap is_some same ∙ e)

-- All of it was taken, or an input waits.
pub feeds_to : (old new : State) (marks : List Bool) (piece left : List ℕ) → IsFeeding old new marks piece left → (left ≡ []) ⊎ (is_some new.waiting ≡ true) → FeedsTo old new marks piece left
feeds_to old new marks piece left h ends = λ s p k.
    let f : HasFed s (with_marks (marks ++ []) p) new [] piece left = h s (record p { looked = None }) [] (stands_look s old p None k) in
    let q : Viewer = f.viewer in
    let rests : q ≡ at_rest q = f.stands.serves.rests in
    let bare : with_lost q [] ≡ q = ap (λ (t : Viewer). with_lost t []) rests ∙ sym rests in
    let all : after_bytes (with_marks marks p) piece ≡ record q { unread = left } =
    ap (λ (ms : List Bool). after_bytes (with_marks ms p) piece) (sym (append-nil marks))
    ∙ (f.rest ∙ (ap (λ t. after_bytes t left) bare ∙ left_unread q left (ends_by new q left f.stands.relays.waiting ends))) in
    record {
      stands = subst (λ (t : Viewer). Stands s new (at_rest t)) (sym all) (subst (λ (t : Viewer). Stands s new t) rests f.stands);
      unread = ap (λ (t : Viewer). t.unread) all;
      marks = ap (λ (t : Viewer). t.lost) all ∙ ap (λ (t : Viewer). t.lost) rests;
    }

abbrev first_fault : Option Fault → Option Fault → Option Fault
first_fault o q = if is_some o then o else q

pub no_fault_at : (st : State) → hello_fault st ≡ None → fault_of (ahead st.reader) ≡ None → fault_in st ≡ None
no_fault_at st hello reader = ap (λ o. first_fault o (fault_of (ahead st.reader))) hello ∙ reader

-- The screen's size, the role and the last cut stay.
pub same_session : (st : State) → IsSameSession st st
same_session st = record { width = refl; height = refl; role = refl; cut = refl; last = refl }

pub same_read : (old now mid : State) → IsSameSession old now → mid ≡ record now { reader = mid.reader } → IsSameSession old mid
same_read old now mid k e =
    record {
      width = ap (λ (t : State). t.width) e ∙ k.width;
      height = ap (λ (t : State). t.height) e ∙ k.height;
      role = ap (λ (t : State). t.role) e ∙ k.role;
      cut = ap (λ (t : State). t.cut) e ∙ k.cut;
      last = ap (λ (t : State). t.asked.last) e ∙ k.last;
    }

pub same_on : (old now new : State) → IsSameSession old now → IsSameSession now new → IsSameSession old new
same_on old now new k l = record { width = l.width ∙ k.width; height = l.height ∙ k.height; role = l.role ∙ k.role; cut = l.cut ∙ k.cut; last = l.last ∙ k.last }

-- A session whose hello is as before is greeted as before.
pub greeted_by : (old now : State) → now.greeting ≡ old.greeting → is_greeted old ≡ true → is_greeted now ≡ true
greeted_by old now same greeted = ap (λ (o : Option Greeting). is_some (whole_of (hello_of o))) same ∙ greeted

pub greeting_read : (old now mid : State) → now.greeting ≡ old.greeting → mid ≡ record now { reader = mid.reader } → mid.greeting ≡ old.greeting
greeting_read old now mid same e = ap (λ (t : State). t.greeting) e ∙ same

pub fault_met : (old new : Reading ClientMessage) (piece : List ℕ) (fault : Fault) → FeedsOrLoses old new piece (Err fault) → fault_of new ≡ Some fault
fault_met old new piece fault (inl h) = ap fault_of h.1
fault_met old new piece fault (inr h) = ap fault_of h.1
