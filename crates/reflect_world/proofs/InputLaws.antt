-- What of each viewer's input goes to the host is what is allowed of its messages. The law `input_in_every_schedule` is
-- made of it.
use Rattle.std.proofs.Common.{◌≡◌, ℕ, zero, suc, ◌-◌, Bool, true, false, cond, List, [], ◌∷◌, ◌++◌, length, map, take, Option, Some, None, refl, ap, sym, ◌∙◌, subst, arith, append-nil, append_assoc, eq-eqb}
use Rattle.std.specs.Prelude.{◌||◌, ◌==◌, drop, nat_lt}
use Rattle.std.specs.List.{filter_map, list_any}
use Rattle.std.proofs.lemmas.Bool.{eqb-true}
use Rattle.std.proofs.lemmas.List.{length-map, take-append-drop, take_all}
use Rattle.std.proofs.lemmas.List.Elements.{filter_map-append}
use Rattle.raster.specs.Update.{Update}
use Rattle.roles.specs.declared.role.Role.{Role}
use Rattle.roles.specs.declared.role.Role.TheVariants.{Full, View}
use Rattle.roles.specs.Allowed.{Input, allowed, input_of, passing, releases}
use Rattle.roles.proofs.UnbrokenLaws.{picked, whole}
use Rattle.rfb_wire.specs.ClientMessage.{ClientMessage}
use Rattle.reflect_core.specs.Sequential.{Begins}
use Rattle.viewer_session.specs.Acts.{HasPassed, waiting_list}
use Rattle.viewer_session.specs.Record.{Saw, messages_in}
use Rattle.viewer_session.specs.Turn.{has_reason, size_at, update_at}
use Rattle.viewer_session.specs.Viewer.{Setup, Viewer, after_bytes, after_cut, may_look, new_viewer}
use Rattle.viewer_session.proofs.Bytes.{same_role}
use Rattle.viewer_session.proofs.Passing.{began_last, began_messages, passed_as, passed_begins, passed_bytes, passed_on}
use Rattle.reflect_world.specs.Input.{LeavesAllowed, RelaysInEverySchedule, StaysAllowed, bounds_stay, input_by, relayed_by, all_relayed}
use Rattle.reflect_world.specs.Schedule.{Relayed, World, Step, HostBytes, Put, Raise, Join, Bytes, Look, Cut, Written, Send, Take, Leave, beginning, cut_at, for_viewer, happens, leaves_behind, look_at, play, play_from, put_next, send_waiting, take_first, taken_from, Next, next_update, fault_now}
use Rattle.reflect_world.proofs.NextHosts.{next_either}
use Rattle.reflect_world.proofs.Reaching.{play-more}
use Rattle.reflect_world.proofs.Steps.{play_from-append}

-- ---- inputs of one viewer among others

-- Of the inputs of one viewer, those of another are all or none.
same_viewer : (v u : ℕ) (b : Bool) (inputs : List Input) → (v == u) ≡ b → filter_map (input_by v) (map (λ i. record { viewer = u; input = i }) inputs) ≡ cond b inputs []
same_viewer v u true [] e = refl
same_viewer v u true (i ∷ is) e = rw e (ap (λ (l : List Input). i ∷ l) (same_viewer v u true is e))
same_viewer v u false [] e = refl
same_viewer v u false (i ∷ is) e = rw e (same_viewer v u false is e)

take_map : (f : Input → Relayed) (n : ℕ) (inputs : List Input) → take n (map f inputs) ≡ map f (take n inputs)
take_map f zero inputs = refl
take_map f (suc n) [] = refl
take_map f (suc n) (i ∷ is) = ap (λ (l : List Relayed). f i ∷ l) (take_map f n is)

-- More stands at the end of the queue.
more_relayed : (v : ℕ) (taken queue more : List Relayed) → filter_map (input_by v) (taken ++ (queue ++ more)) ≡ filter_map (input_by v) (taken ++ queue) ++ filter_map (input_by v) more
more_relayed v taken queue more = ap (filter_map (input_by v)) (sym (append_assoc taken queue more)) ∙ filter_map-append (input_by v) (taken ++ queue) more

-- What the queue brought to its head was taken.
taken_same : (taken queue : List Relayed) (first : Relayed) → (taken ++ first ∷ []) ++ queue ≡ taken ++ first ∷ queue
taken_same taken queue first = append_assoc taken (first ∷ []) queue

take_same : (w : World) (queue : List Relayed) → w.queue ≡ queue → all_relayed (take_first w queue) ≡ all_relayed w
take_same w [] e = refl
take_same w (first ∷ queue) e = taken_same w.taken queue first ∙ ap (λ (q : List Relayed). w.taken ++ q) (sym e)

-- ---- a viewer in its stay

-- It is there, in this role; what was relayed of it is this and then what it sent in this stay.
record InStay (role : Role) (v : ℕ) (base : List Input) (w : World) : Type 0 where
  viewer : Viewer
  there : w.viewers v ≡ Some viewer
  same_role : viewer.role ≡ role
  sent : List Input
  relayed : relayed_by v w ≡ base ++ sent
  passed : HasPassed viewer sent

is_some_of : (p q : Viewer) → Some p ≡ Some q → p ≡ q
is_some_of p q e = cc

passed_same : (q : Viewer) (xs ys : List Input) → xs ≡ ys → HasPassed q xs → HasPassed q ys
passed_same q xs ys e k = subst (λ l. HasPassed q l) e k

-- A step of this viewer, or of another.
stay_set : (role : Role) (v u : ℕ) (base : List Input) (w now : World) (p q : Viewer) (more : List Input) (b : Bool) → (v == u) ≡ b → w.viewers u ≡ Some p → now.viewers v ≡ cond b (Some q) (w.viewers v)
    → relayed_by v now ≡ relayed_by v w ++ cond b more [] → q.role ≡ p.role → ((sent : List Input) → HasPassed p sent → HasPassed q (sent ++ more)) → InStay role v base w → InStay role v base now
stay_set role v u base w now p q more true same at is relayed roles passes k =
    let mine : k.viewer ≡ p = is_some_of k.viewer p (sym k.there ∙ (ap w.viewers (eqb-true v u same) ∙ at)) in
    record {
      viewer = q;
      there = is;
      same_role = roles ∙ (ap (λ (t : Viewer). t.role) (sym mine) ∙ k.same_role);
      sent = k.sent ++ more;
      relayed = relayed ∙ (ap (λ t. t ++ more) k.relayed ∙ append_assoc base k.sent more);
      passed = passes k.sent (subst (λ (t : Viewer). HasPassed t k.sent) mine k.passed);
    }
stay_set role v u base w now p q more false same at is relayed roles passes k =
    record {
      viewer = k.viewer;
      there = is ∙ k.there;
      same_role = k.same_role;
      sent = k.sent;
      relayed = relayed ∙ (append-nil (relayed_by v w) ∙ k.relayed);
      passed = k.passed;
    }

none_more : (b : Bool) (xs : List Input) → xs ≡ xs ++ cond b [] []
none_more true xs = sym (append-nil xs)
none_more false xs = sym (append-nil xs)

-- A step that relays nothing.
stay_on : (role : Role) (v u : ℕ) (base : List Input) (w now : World) (p q : Viewer) → w.viewers u ≡ Some p → now.viewers v ≡ cond (v == u) (Some q) (w.viewers v)
    → all_relayed now ≡ all_relayed w → q.role ≡ p.role → ((sent : List Input) → HasPassed p sent → HasPassed q sent) → InStay role v base w → InStay role v base now
stay_on role v u base w now p q at is same roles passes k =
    stay_set role v u base w now p q [] (v == u) refl at is (ap (filter_map (input_by v)) same ∙ none_more (v == u) (relayed_by v w)) roles
    (λ sent h. passed_same q sent (sent ++ []) (sym (append-nil sent)) (passes sent h)) k

-- One that concerns no viewer.
stay_still : (role : Role) (v : ℕ) (base : List Input) (w now : World) → now.viewers v ≡ w.viewers v → all_relayed now ≡ all_relayed w → InStay role v base w → InStay role v base now
stay_still role v base w now is same k =
    record { viewer = k.viewer; there = is ∙ k.there; same_role = k.same_role; sent = k.sent; relayed = ap (filter_map (input_by v)) same ∙ k.relayed; passed = k.passed }

stay_for : (role : Role) (v u : ℕ) (base : List Input) (w : World) (o : Option Viewer) (make : Viewer → World) → w.viewers u ≡ o → InStay role v base w
    → ((p : Viewer) → w.viewers u ≡ Some p → InStay role v base (make p)) → InStay role v base (for_viewer w o make)
stay_for role v u base w None make e k f = k
stay_for role v u base w (Some p) make e k f = f p e

stay_if : (role : Role) (v : ℕ) (base : List Input) (b : Bool) (x y : World) → InStay role v base x → InStay role v base y → InStay role v base (cond b x y)
stay_if role v base true x y k l = k
stay_if role v base false x y k l = l

quiet : (p : Viewer) (looked : Option ℕ) (written : ℕ) (sent : List Input) → HasPassed p sent → HasPassed (record p { looked = looked; written = written }) sent
quiet p looked written sent k = passed_as p _ sent k refl refl refl refl refl

passed_cut : (s : Setup) (us : List Update) (p : Viewer) (sent : List Input) → HasPassed p sent → HasPassed (after_cut s us p) sent
passed_cut s us p sent k = passed_as p _ sent k refl refl refl (began_messages (length us) (size_at s.w s.h s.host p.entries us) (update_at s.form s.w s.h p.entries us) p.entries) (began_last (length us) (size_at s.w s.h s.host p.entries us) (update_at s.form s.w s.h p.entries us) p.entries)

stay_look : (s : Setup) (role : Role) (v u : ℕ) (base : List Input) (w : World) (p : Viewer) → w.viewers u ≡ Some p → InStay role v base w → InStay role v base (look_at s w u p)
stay_look s role v u base w p e k =
    stay_if role v base (may_look s p) _ _
    (stay_on role v u base w _ p (record p { looked = Some w.shared.tally; entries = Saw w.shared.tally ∷ p.entries }) e refl refl refl (λ sent h. passed_as p _ sent h refl refl refl refl refl) k)
    (stay_on role v u base w _ p (record p { looked = None }) e refl refl refl (quiet p None p.written) k)

stay_cut : (s : Setup) (role : Role) (v u : ℕ) (base : List Input) (w : World) (p : Viewer) (o : Option ℕ) → w.viewers u ≡ Some p → InStay role v base w → InStay role v base (cut_at s w u p o)
stay_cut s role v u base w p None e k = stay_on role v u base w _ p p e refl refl refl (λ sent h. h) k
stay_cut s role v u base w p (Some looked) e k =
    stay_if role v base (has_reason s.w s.h p.entries looked) _ _
    (stay_on role v u base w _ p (after_cut s w.shared.updates p) e refl refl refl (passed_cut s w.shared.updates p) k)
    (stay_on role v u base w _ p (record p { looked = None }) e refl refl refl (quiet p None p.written) k)

-- One input more in the queue.
one_more : (v u : ℕ) (w : World) (input : Input) (b : Bool) → (v == u) ≡ b → filter_map (input_by v) (w.taken ++ (w.queue ++ record { viewer = u; input = input } ∷ [])) ≡ relayed_by v w ++ cond b (input ∷ []) []
one_more v u w input b e = more_relayed v w.taken w.queue (record { viewer = u; input = input } ∷ []) ∙ ap (λ (l : List Input). relayed_by v w ++ l) (same_viewer v u b (input ∷ []) e)

stay_send : (s : Setup) (role : Role) (v u : ℕ) (base : List Input) (w : World) (p : Viewer) (o : Option Input) → p.waiting ≡ o → w.viewers u ≡ Some p → InStay role v base w → InStay role v base (send_waiting s w u p o)
stay_send s role v u base w p None is e k = stay_on role v u base w _ p (record p { looked = None }) e refl refl refl (quiet p None p.written) k
stay_send s role v u base w p (Some input) is e k =
    stay_if role v base (nat_lt (length w.queue) s.room) _ _
    (stay_set role v u base w _ p (record p { looked = None; waiting = None }) (input ∷ []) (v == u) refl e refl (one_more v u w input (v == u) refl) refl
    (λ sent h. quiet (record p { waiting = None }) None p.written (sent ++ input ∷ []) (passed_same (record p { waiting = None }) (sent ++ waiting_list p.waiting) (sent ++ input ∷ []) (ap (λ (q : Option Input). sent ++ waiting_list q) is) (passed_on p sent h))) k)
    (stay_on role v u base w _ p (record p { looked = None }) e refl refl refl (quiet p None p.written) k)

-- Another viewer leaves.
others_left : (v u : ℕ) (w : World) (p : Viewer) (n : ℕ) → (v == u) ≡ false → filter_map (input_by v) (w.taken ++ (w.queue ++ take n (leaves_behind u p))) ≡ relayed_by v w
others_left v u w p n e =
    let all : List Input = waiting_list p.waiting ++ releases (allowed p.role (messages_in p.entries) false) in
    more_relayed v w.taken w.queue (take n (leaves_behind u p))
    ∙ (ap (λ (l : List Relayed). relayed_by v w ++ filter_map (input_by v) l) (take_map (λ i. record { viewer = u; input = i }) n all)
    ∙ (ap (λ (l : List Input). relayed_by v w ++ l) (same_viewer v u false (take n all) e) ∙ append-nil (relayed_by v w)))

put_still : (s : Setup) (role : Role) (v : ℕ) (base : List Input) (w : World) (o : Option Update) → InStay role v base w → InStay role v base (put_next s w o)
put_still s role v base w None k = stay_still role v base w _ refl refl k
put_still s role v base w (Some u) k = stay_still role v base w _ refl refl k

take_still : (role : Role) (v : ℕ) (base : List Input) (w : World) (queue : List Relayed) → w.queue ≡ queue → InStay role v base w → InStay role v base (take_first w queue)
take_still role v base w [] e k = k
take_still role v base w (first ∷ queue) e k = stay_still role v base w _ refl (take_same w (first ∷ queue) e) k

at_other : (b : Bool) (o q : Option Viewer) → b ≡ false → cond b o q ≡ q
at_other true o q e = absurd cc
at_other false o q e = refl

stay_step : (s : Setup) (role : Role) (v : ℕ) (base : List Input) (w : World) (e : Step) → bounds_stay v e ≡ false → InStay role v base w → InStay role v base (happens s w e)
stay_step s role v base w (HostBytes b) keeps k = stay_still role v base w _ refl refl k
stay_step s role v base w Put keeps k = put_still s role v base w (next_update s w) k
stay_step s role v base w Raise keeps k = stay_still role v base w _ refl refl k
stay_step s role v base w Next keeps k = next_either (InStay role v base) w (next_update s w) (fault_now s w) k (stay_still role v base w _ refl refl k)
stay_step s role v base w (Join u other greet) keeps k = stay_still role v base w _ (at_other (v == u) (Some (new_viewer other greet)) (w.viewers v) keeps) refl k
stay_step s role v base w (Bytes u b lost) keeps k =
    stay_for role v u base w (w.viewers u) _ refl k
    (λ p e. stay_on role v u base w _ p (after_bytes (record p { looked = None; lost = p.lost ++ lost }) (p.unread ++ b)) e refl refl (same_role (record p { looked = None; lost = p.lost ++ lost }) (p.unread ++ b))
    (λ sent h. passed_bytes (record p { looked = None; lost = p.lost ++ lost }) (p.unread ++ b) sent (passed_as p _ sent h refl refl refl refl refl)) k)
stay_step s role v base w (Look u) keeps k = stay_for role v u base w (w.viewers u) (look_at s w u) refl k (λ p e. stay_look s role v u base w p e k)
stay_step s role v base w (Cut u) keeps k = stay_for role v u base w (w.viewers u) _ refl k (λ p e. stay_cut s role v u base w p p.looked e k)
stay_step s role v base w (Written u n) keeps k =
    stay_for role v u base w (w.viewers u) _ refl k (λ p e. stay_on role v u base w _ p _ e refl refl refl (λ sent h. passed_as p _ sent h refl refl refl refl refl) k)
stay_step s role v base w (Send u) keeps k = stay_for role v u base w (w.viewers u) _ refl k (λ p e. stay_send s role v u base w p p.waiting refl e k)
stay_step s role v base w Take keeps k = take_still role v base w w.queue refl k
stay_step s role v base w (Leave u) keeps k =
    stay_for role v u base w (w.viewers u) _ refl k
    (λ p e. record {
      viewer = k.viewer;
      there = at_other (v == u) None (w.viewers v) keeps ∙ k.there;
      same_role = k.same_role;
      sent = k.sent;
      relayed = others_left v u w p (s.room - length w.queue) keeps ∙ k.relayed;
      passed = k.passed;
    })

or_parts : (a b : Bool) → (a || b) ≡ false → (a ≡ false) × (b ≡ false)
or_parts true b e = absurd cc
or_parts false b e = (refl, e)

stay_from : (s : Setup) (role : Role) (v : ℕ) (base : List Input) (w : World) (es : List Step) → list_any (bounds_stay v) es ≡ false → InStay role v base w → InStay role v base (play_from s w es)
stay_from s role v base w [] keeps k = k
stay_from s role v base w (e ∷ es) keeps k =
    let both = or_parts (bounds_stay v e) (list_any (bounds_stay v) es) keeps in
    stay_from s role v base (happens s w e) es both.1 (stay_step s role v base w e both.0 k)

stay_begins : (s : Setup) (w : World) (v : ℕ) (role : Role) (greet : Bool) → InStay role v (relayed_by v w) (happens s w (Join v role greet))
stay_begins s w v role greet =
    record {
      viewer = new_viewer role greet;
      there = ap (λ b. cond b (Some (new_viewer role greet)) (w.viewers v)) (eq-eqb v v refl);
      same_role = refl;
      sent = [];
      relayed = sym (append-nil (relayed_by v w));
      passed = passed_begins role greet;
    }

-- ---- it leaves

-- All that is allowed of one that has left is what is allowed while it is there, and then the releases.
with_releases : (role : Role) (ms : List ClientMessage) → allowed role ms true ≡ allowed role ms false ++ releases (allowed role ms false)
with_releases View ms = refl
with_releases Full ms =
    let passed : List Input = passing [] (filter_map input_of ms) in
    ap (λ (l : List Input). l ++ releases l) (sym (append-nil passed))

leaves_so : (s : Setup) (w : World) (v : ℕ) (p : Viewer) → w.viewers v ≡ Some p
    → relayed_by v (happens s w (Leave v)) ≡ relayed_by v w ++ take (s.room - length w.queue) (waiting_list p.waiting ++ releases (allowed p.role (messages_in p.entries) false))
leaves_so s w v p e =
    let n : ℕ = s.room - length w.queue in
    let all : List Input = waiting_list p.waiting ++ releases (allowed p.role (messages_in p.entries) false) in
    ap (λ (o : Option Viewer). relayed_by v (for_viewer w o (λ q. record w { viewers = λ u. cond (u == v) None (w.viewers u); queue = w.queue ++ take (s.room - length w.queue) (leaves_behind v q) }))) e
    ∙ (more_relayed v w.taken w.queue (take n (leaves_behind v p))
    ∙ (ap (λ (l : List Relayed). relayed_by v w ++ filter_map (input_by v) l) (take_map (λ i. record { viewer = v; input = i }) n all)
    ∙ ap (λ (l : List Input). relayed_by v w ++ l) (same_viewer v v true (take n all) (eq-eqb v v refl))))

leaves_allowed : (s : Setup) (before es : List Step) (v : ℕ) (role : Role) → (k : InStay role v (relayed_by v (play s before)) (play s es)) → LeavesAllowed s before es v k.viewer
leaves_allowed s before es v role k =
    let w : World = play s es in
    let p : Viewer = k.viewer in
    let n : ℕ = s.room - length w.queue in
    let follows : List Input = releases (allowed p.role (messages_in p.entries) false) in
    let all : List Input = waiting_list p.waiting ++ follows in
    let whole_is : allowed p.role (messages_in p.entries) true ≡ k.sent ++ all =
    with_releases p.role (messages_in p.entries) ∙ (ap (λ (l : List Input). l ++ follows) k.passed.all ∙ append_assoc k.sent (waiting_list p.waiting) follows) in
    record {
      sent = k.sent ++ take n all;
      relayed = ap (relayed_by v) (play-more s es (Leave v))
          ∙ (leaves_so s w v p k.there
          ∙ (ap (λ (l : List Input). l ++ take n all) k.relayed ∙ append_assoc (relayed_by v (play s before)) k.sent (take n all)));
      begins = (drop n all, whole_is ∙ (ap (λ (l : List Input). k.sent ++ l) (sym (take-append-drop n all)) ∙ sym (append_assoc k.sent (take n all) (drop n all))));
      whole = λ le. ap (λ (l : List Input). k.sent ++ l) (take_all n all (omega (arith, le, length-map {B = Relayed} all (λ (i : Input). record { viewer = v; input = i })))) ∙ sym whole_is;
    }

-- ---- every schedule

stays_allowed : (s : Setup) (es before since : List Step) (v : ℕ) (role : Role) (greet : Bool) → es ≡ before ++ Join v role greet ∷ since → list_any (bounds_stay v) since ≡ false → StaysAllowed s before es v role
stays_allowed s es before since v role greet split keeps =
    let stay : InStay role v (relayed_by v (play s before)) (play s es) =
    subst (λ w. InStay role v (relayed_by v (play s before)) w) (sym (ap (play s) split ∙ play_from-append s beginning before (Join v role greet ∷ since)))
    (stay_from s role v (relayed_by v (play s before)) (happens s (play s before) (Join v role greet)) since keeps (stay_begins s (play s before) v role greet)) in
    record {
      viewer = stay.viewer;
      there = stay.there;
      sent = stay.sent;
      relayed = stay.relayed;
      all = sym stay.passed.all ∙ ap (λ r. allowed r (messages_in stay.viewer.entries) false) stay.same_role;
      same_role = stay.same_role;
      leaves = leaves_allowed s before es v role stay;
    }

-- What a step relays.
record Relays (s : Setup) (w now : World) : Type 0 where
  grows : Begins (all_relayed w) (all_relayed now)
  absent : (v : ℕ) → w.viewers v ≡ None → relayed_by v now ≡ relayed_by v w

relays_none : (s : Setup) (w now : World) → all_relayed now ≡ all_relayed w → Relays s w now
relays_none s w now e = record { grows = ([], e ∙ sym (append-nil (all_relayed w))); absent = λ v none. ap (filter_map (input_by v)) e }

is_there : (v u : ℕ) (w : World) (p : Viewer) (b : Bool) → (v == u) ≡ b → w.viewers u ≡ Some p → w.viewers v ≡ None → b ≡ false
is_there v u w p true e at none = absurd (let keeps : Some p ≡ None = sym at ∙ (ap w.viewers (sym (eqb-true v u e)) ∙ none) in cc)
is_there v u w p false e at none = refl

-- Inputs of one viewer go to the end of the queue.
relays_some : (s : Setup) (w now : World) (u : ℕ) (p : Viewer) (inputs : List Input) → w.viewers u ≡ Some p → all_relayed now ≡ w.taken ++ (w.queue ++ map (λ i. record { viewer = u; input = i }) inputs) → Relays s w now
relays_some s w now u p inputs at e =
    let more : List Relayed = map (λ i. record { viewer = u; input = i }) inputs in
    record {
      grows = (more, e ∙ sym (append_assoc w.taken w.queue more));
      absent = λ v none. ap (filter_map (input_by v)) e
          ∙ (more_relayed v w.taken w.queue more
          ∙ (ap (λ (l : List Input). relayed_by v w ++ l) (same_viewer v u false inputs (is_there v u w p (v == u) refl at none)) ∙ append-nil (relayed_by v w)));
    }

relays_for : (s : Setup) (w : World) (o : Option Viewer) (make : Viewer → World) → ((p : Viewer) → o ≡ Some p → Relays s w (make p)) → Relays s w (for_viewer w o make)
relays_for s w None make f = relays_none s w w refl
relays_for s w (Some p) make f = f p refl

relays_if : (s : Setup) (w : World) (b : Bool) (x y : World) → Relays s w x → Relays s w y → Relays s w (cond b x y)
relays_if s w true x y k l = k
relays_if s w false x y k l = l

relays_put : (s : Setup) (w : World) (o : Option Update) → Relays s w (put_next s w o)
relays_put s w None = relays_none s w _ refl
relays_put s w (Some u) = relays_none s w _ refl

relays_cut : (s : Setup) (w : World) (v : ℕ) (p : Viewer) (o : Option ℕ) → Relays s w (cut_at s w v p o)
relays_cut s w v p None = relays_none s w _ refl
relays_cut s w v p (Some looked) = relays_if s w (has_reason s.w s.h p.entries looked) _ _ (relays_none s w _ refl) (relays_none s w _ refl)

relays_send : (s : Setup) (w : World) (v : ℕ) (p : Viewer) (o : Option Input) → w.viewers v ≡ Some p → Relays s w (send_waiting s w v p o)
relays_send s w v p None at = relays_none s w _ refl
relays_send s w v p (Some input) at = relays_if s w (nat_lt (length w.queue) s.room) _ _ (relays_some s w _ v p (input ∷ []) at refl) (relays_none s w _ refl)

relays_step : (s : Setup) (w : World) (e : Step) → Relays s w (happens s w e)
relays_step s w (HostBytes b) = relays_none s w _ refl
relays_step s w Put = relays_put s w (next_update s w)
relays_step s w Raise = relays_none s w _ refl
relays_step s w Next = next_either (Relays s w) w (next_update s w) (fault_now s w) (relays_none s w w refl) (relays_none s w _ refl)
relays_step s w (Join v role greet) = relays_none s w _ refl
relays_step s w (Bytes v b lost) = relays_for s w (w.viewers v) _ (λ p at. relays_none s w _ refl)
relays_step s w (Look v) = relays_for s w (w.viewers v) (look_at s w v) (λ p at. relays_if s w (may_look s p) _ _ (relays_none s w _ refl) (relays_none s w _ refl))
relays_step s w (Cut v) = relays_for s w (w.viewers v) _ (λ p at. relays_cut s w v p p.looked)
relays_step s w (Written v n) = relays_for s w (w.viewers v) _ (λ p at. relays_none s w _ refl)
relays_step s w (Send v) = relays_for s w (w.viewers v) _ (λ p at. relays_send s w v p p.waiting at)
relays_step s w Take = relays_none s w _ (take_same w w.queue refl)
relays_step s w (Leave v) =
    relays_for s w (w.viewers v) _
    (λ p at. let all : List Input = waiting_list p.waiting ++ releases (allowed p.role (messages_in p.entries) false) in
    relays_some s w _ v p (take (s.room - length w.queue) all) at (ap (λ (l : List Relayed). w.taken ++ (w.queue ++ l)) (take_map (λ i. record { viewer = v; input = i }) (s.room - length w.queue) all)))

pub relays_allowed : RelaysInEverySchedule
relays_allowed s es =
    record {
      stays = λ v role greet before since split keeps. stays_allowed s es before since v role greet split keeps;
      grows = λ e. subst (λ w. Begins (all_relayed (play s es)) (all_relayed w)) (sym (play-more s es e)) (relays_step s (play s es) e).grows;
      absent = λ v e none. ap (relayed_by v) (play-more s es e) ∙ (relays_step s (play s es) e).absent v none;
      told = record { picked = λ v. picked v (map taken_from (play s es).taken); whole = λ before after t split. whole (map taken_from (play s es).taken) before after t split };
    }
