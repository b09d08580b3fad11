-- Each step of a schedule adds its act to the history where it can be taken, and else nothing. So nothing is left out
-- of the history, and nothing else is in it.
use Rattle.std.proofs.Common.{◌≡◌, ℕ, ◌+◌, ◌-◌, ◌≤◌, Bool, true, false, cond, List, [], ◌∷◌, ◌++◌, length, take, Option, Some, None, refl, ap, sym, ◌∙◌, subst, arith, append_assoc, eq-eqb, ◌⊎◌, inl, inr}
use Rattle.std.specs.Prelude.{◌==◌, ◌&&◌, ◌||◌, unwrap_or, if◌then◌else◌, is_some, is_none, nat_le, nat_lt}
use Rattle.std.specs.List.{list_any}
use Rattle.std.proofs.Math.Bool.{or-true}
use Rattle.std.proofs.lemmas.Bool.{and_parts, or_cases, or_from, or_parts, eqb-true, le-leb, leb-true, lt-ltb, ltb-true}
use Rattle.std.proofs.lemmas.List.{append-nil, length-take, take_all}
use Rattle.std.proofs.lemmas.List.Folds.{list_any-append}
use Rattle.fault.specs.declared.kinds.Fault.{Fault}
use Rattle.byte_reading.specs.Reading.{Reading, Done, Faulty, Want, step, wants_more}
use Rattle.raster.specs.declared.rect.Rect.{Rect}
use Rattle.raster.specs.Update.{Update, view}
use Rattle.rfb_wire.specs.ClientMessage.{ClientMessage, client_message}
use Rattle.roles.specs.declared.role.Role.{Role}
use Rattle.roles.specs.Allowed.{Input, passes}
use Rattle.reflect_core.specs.Asked.{pending, has_asked, last_cut}
use Rattle.reflect_core.specs.Sequential as history
use Rattle.viewer_session.specs.Record.{Entry, Took, Saw, events}
use Rattle.viewer_session.specs.Turn.{has_reason}
use Rattle.viewer_session.specs.Viewer.{Setup, Viewer, after_bytes, after_byte, after_cut, after_hello, after_reading, with_input, marked, viewer_fault, is_greeted, may_look, out_bytes}
use Rattle.reflect_world.proofs.NextHosts.{next_either}
use Rattle.reflect_world.specs.Schedule.{Act, ByViewer, World, Relayed, Step, HostBytes, Put, Raise, Join, Bytes, Look, Cut, Written, Send, Take, Leave, beginning, happens, play, play_from, put_next, set_viewer, with_act, for_viewer, look_at, cut_at, send_waiting, take_first, leaves_behind, Next, next_update, fault_now}
use Rattle.reflect_world.specs.Headline.{CanLook, is_step_of, IsReason, CanCut, CanAct, Adds, HasEachStep}
use Rattle.roles.specs.Held.{input_for}

-- ---- schedules in two parts

pub play_from-append : (s : Setup) (w : World) (xs ys : List Step) → play_from s w (xs ++ ys) ≡ play_from s (play_from s w xs) ys
play_from-append s w [] ys = refl
play_from-append s w (x ∷ xs) ys = play_from-append s (happens s w x) xs ys

-- ---- a Look

may : (s : Setup) (p : Viewer) → is_greeted p ≡ true → viewer_fault p ≡ None → take p.written (out_bytes s p) ≡ out_bytes s p → may_look s p ≡ true
may s p greeted fine written =
    let long : length (out_bytes s p) ≤ p.written = omega (arith, length-take p.written (out_bytes s p), ap length written) in
    ap (λ (b : Bool). b && (is_greeted p && is_none (viewer_fault p))) (le-leb (length (out_bytes s p)) p.written long)
    ∙ (ap (λ (b : Bool). b && is_none (viewer_fault p)) greeted ∙ ap is_none fine)

look_taken : (s : Setup) (w : World) (v : ℕ) → CanLook s w v → (happens s w (Look v)).acts ≡ w.acts ++ record { by = ByViewer v (w.stays v); step = history.Look w.shared.tally } ∷ []
look_taken s w v can =
    let p : Viewer = can.viewer in
    let t : ℕ = w.shared.tally in
    ap (λ (o : Option Viewer). (for_viewer w o (look_at s w v)).acts) can.there
    ∙ ap (λ (b : Bool). (cond b (set_viewer (with_act w (ByViewer v (w.stays v)) (history.Look t)) v (Some (record p { looked = Some t; entries = Saw t ∷ p.entries }))) (set_viewer w v (Some (record p { looked = None })))).acts)
    (may s p can.greeted can.fine can.written)

none_is : (o : Option Fault) → is_none o ≡ true → o ≡ None
none_is None e = refl
none_is (Some fault) e = absurd cc

can_look : (s : Setup) (w : World) (v : ℕ) (p : Viewer) → w.viewers v ≡ Some p → may_look s p ≡ true → CanLook s w v
can_look s w v p there e =
    let parts = and_parts (nat_le (length (out_bytes s p)) p.written) (is_greeted p && is_none (viewer_fault p)) e in
    let hello = and_parts (is_greeted p) (is_none (viewer_fault p)) parts.1 in
    record { viewer = p; there = there; greeted = hello.0; fine = none_is (viewer_fault p) hello.1; written = take_all p.written (out_bytes s p) (leb-true (length (out_bytes s p)) p.written parts.0) }

-- ---- steps of others

-- A step of others leaves a viewer as it is.
other_set : (w : World) (u v : ℕ) (o : Option Viewer) → (v == u) ≡ false → (set_viewer w u o).viewers v ≡ w.viewers v
other_set w u v o e = ap (λ (b : Bool). cond b o (w.viewers v)) e

other_if : (v : ℕ) (o : Option Viewer) (b : Bool) (x y : World) → x.viewers v ≡ o → y.viewers v ≡ o → (cond b x y).viewers v ≡ o
other_if v o true x y k l = k
other_if v o false x y k l = l

other_for : (w : World) (v : ℕ) (o : Option Viewer) (make : Viewer → World) → ((p : Viewer) → (make p).viewers v ≡ w.viewers v) → (for_viewer w o make).viewers v ≡ w.viewers v
other_for w v None make f = refl
other_for w v (Some p) make f = f p

other_put : (s : Setup) (w : World) (v : ℕ) (o : Option Update) → (put_next s w o).viewers v ≡ w.viewers v
other_put s w v None = refl
other_put s w v (Some u) = refl

other_cut : (s : Setup) (w : World) (u v : ℕ) (p : Viewer) (o : Option ℕ) → (v == u) ≡ false → (cut_at s w u p o).viewers v ≡ w.viewers v
other_cut s w u v p None e = other_set w u v (Some p) e
other_cut s w u v p (Some looked) e = other_if v (w.viewers v) (has_reason s.w s.h p.entries looked) _ _ (other_set w u v _ e) (other_set w u v _ e)

other_send : (s : Setup) (w : World) (u v : ℕ) (p : Viewer) (o : Option Input) → (v == u) ≡ false → (send_waiting s w u p o).viewers v ≡ w.viewers v
other_send s w u v p None e = other_set w u v _ e
other_send s w u v p (Some input) e = other_if v (w.viewers v) (nat_lt (length w.queue) s.room) _ _ (other_set w u v _ e) (other_set w u v _ e)

other_take : (w : World) (v : ℕ) (queue : List Relayed) → (take_first w queue).viewers v ≡ w.viewers v
other_take w v [] = refl
other_take w v (i ∷ is) = refl

other_step : (s : Setup) (w : World) (v : ℕ) (e : Step) → is_step_of v e ≡ false → (happens s w e).viewers v ≡ w.viewers v
other_step s w v (HostBytes b) apart = refl
other_step s w v Put apart = other_put s w v (next_update s w)
other_step s w v Raise apart = refl
other_step s w v Next apart = next_either (λ (x : World). x.viewers v ≡ w.viewers v) w (next_update s w) (fault_now s w) refl refl
other_step s w v (Join u role greet) apart = other_set w u v _ apart
other_step s w v (Bytes u b lost) apart = other_for w v (w.viewers u) _ (λ p. other_set w u v _ apart)
other_step s w v (Look u) apart = other_for w v (w.viewers u) (look_at s w u) (λ p. other_if v (w.viewers v) (may_look s p) _ _ (other_set w u v _ apart) (other_set w u v _ apart))
other_step s w v (Cut u) apart = other_for w v (w.viewers u) _ (λ p. other_cut s w u v p p.looked apart)
other_step s w v (Written u n) apart = other_for w v (w.viewers u) _ (λ p. other_set w u v _ apart)
other_step s w v (Send u) apart = other_for w v (w.viewers u) _ (λ p. other_send s w u v p p.waiting apart)
other_step s w v Take apart = other_take w v w.queue
other_step s w v (Leave u) apart = other_for w v (w.viewers u) _ (λ p. other_set w u v None apart)

other_steps : (s : Setup) (w : World) (v : ℕ) (es : List Step) → list_any (is_step_of v) es ≡ false → (play_from s w es).viewers v ≡ w.viewers v
other_steps s w v [] apart = refl
other_steps s w v (e ∷ es) apart =
    other_steps s (happens s w e) v es ((or_parts (is_step_of v e) (list_any (is_step_of v) es) apart).1) ∙ other_step s w v e ((or_parts (is_step_of v e) (list_any (is_step_of v) es) apart).0)

-- ---- the reply

-- That of its last step.
looked_at : Option Viewer → Option ℕ
looked_at None = None
looked_at (Some p) = p.looked

-- ---- the last look of a viewer

-- After these steps a viewer's last one is a Look that could be taken, with this reply.
record WasLook (s : Setup) (before : List Step) (v t : ℕ) : Type 0 where
  earlier : List Step
  between : List Step
  split : before ≡ earlier ++ Look v ∷ between
  look : CanLook s (play s earlier) v
  others : list_any (is_step_of v) between ≡ false
  tally : (play s earlier).shared.tally ≡ t

abbrev Looked : Setup → List Step → Type 0
Looked s before = (v t : ℕ) → looked_at ((play s before).viewers v) ≡ Some t → WasLook s before v t

-- Bytes leave the reply as it is.
reply_if : (o : Option ℕ) (b : Bool) (p q : Viewer) → p.looked ≡ o → q.looked ≡ o → (cond b p q).looked ≡ o
reply_if o true p q k l = k
reply_if o false p q k l = l

reply_input : (o : Option ℕ) (p : Viewer) (i : Option Input) → p.looked ≡ o → (with_input p i).looked ≡ o
reply_input o p None k = k
reply_input o p (Some input) k = reply_if o (passes p.keys input) _ p k k

reply_reading : (o : Option ℕ) (s : Setup) (p : Viewer) (r : Reading ClientMessage) → p.looked ≡ o → (after_reading p r).looked ≡ o
reply_reading o s p (Done m) k =
    let taken = marked p.lost m in
    reply_input o (record p { entries = Took taken.0 ∷ p.entries; lost = taken.1; reading = client_message }) (input_for p.role taken.0) k
reply_reading o s p (Faulty f) k = k
reply_reading o s p (Want next) k = k

reply_byte : (o : Option ℕ) (s : Setup) (p : Viewer) (b : ℕ) → p.looked ≡ o → (after_byte p b).looked ≡ o
reply_byte o s p b k =
    reply_if o (wants_more p.hello) (after_hello p (step p.hello b)) _ k
    (reply_if o (is_some (viewer_fault p)) p (after_reading p (step p.reading b)) k (reply_reading o s p (step p.reading b) k))

reply_bytes : (o : Option ℕ) (s : Setup) (p : Viewer) (bs : List ℕ) → p.looked ≡ o → (after_bytes p bs).looked ≡ o
reply_bytes o s p [] k = k
reply_bytes o s p (b ∷ bs) k = reply_if o (is_some p.waiting) (record p { unread = b ∷ bs }) (after_bytes (after_byte p b) bs) k (reply_bytes o s (after_byte p b) bs (reply_byte o s p b k))

-- Every step of a viewer but a Look leaves none.
mine : (w : World) (u v : ℕ) (o : Option Viewer) → (v == u) ≡ true → looked_at ((set_viewer w u o).viewers v) ≡ looked_at o
mine w u v o e = ap (λ (b : Bool). looked_at (cond b o (w.viewers v))) e

no_reply_if : (v : ℕ) (b : Bool) (x y : World) → looked_at (x.viewers v) ≡ None → looked_at (y.viewers v) ≡ None → looked_at ((cond b x y).viewers v) ≡ None
no_reply_if v true x y k l = k
no_reply_if v false x y k l = l

no_reply_at : (w : World) (u v : ℕ) (o : Option Viewer) (make : Viewer → World) → w.viewers u ≡ o → v ≡ u → ((p : Viewer) → looked_at ((make p).viewers v) ≡ None) → looked_at ((for_viewer w o make).viewers v) ≡ None
unfolding looked_at
no_reply_at w u v None make there same f = ap (λ n. looked_at (w.viewers n)) same ∙ ap looked_at there
no_reply_at w u v (Some p) make there same f = f p

no_reply_for : (w : World) (u v : ℕ) (make : Viewer → World) → (v == u) ≡ true → ((p : Viewer) → looked_at ((make p).viewers v) ≡ None) → looked_at ((for_viewer w (w.viewers u) make).viewers v) ≡ None
no_reply_for w u v make e f = no_reply_at w u v (w.viewers u) make refl (eqb-true v u e) f

no_reply_cut : (s : Setup) (w : World) (u v : ℕ) (p : Viewer) (o : Option ℕ) → p.looked ≡ o → (v == u) ≡ true → looked_at ((cut_at s w u p o).viewers v) ≡ None
unfolding looked_at
no_reply_cut s w u v p None is e = mine w u v (Some p) e ∙ is
no_reply_cut s w u v p (Some t) is e = no_reply_if v (has_reason s.w s.h p.entries t) _ _ (mine w u v _ e) (mine w u v _ e)

no_reply_send : (s : Setup) (w : World) (u v : ℕ) (p : Viewer) (o : Option Input) → (v == u) ≡ true → looked_at ((send_waiting s w u p o).viewers v) ≡ None
unfolding looked_at
no_reply_send s w u v p None e = mine w u v _ e
no_reply_send s w u v p (Some input) e = no_reply_if v (nat_lt (length w.queue) s.room) _ _ (mine w u v _ e) (mine w u v _ e)

-- A Look leaves the tally, where it can be taken.
abbrev IsLookOf : Setup → World → ℕ → ℕ → Step → Type 0
IsLookOf s w v t e = (e ≡ Look v) × CanLook s w v × (w.shared.tally ≡ t)

is_none_of : (o : Option ℕ) (t : ℕ) (A : Type 0) → o ≡ None → o ≡ Some t → A
is_none_of None t A e k = absurd cc
is_none_of (Some n) t A e k = absurd cc

reply_look_if : (s : Setup) (w : World) (v t : ℕ) (p : Viewer) (b : Bool) → w.viewers v ≡ Some p → may_look s p ≡ b
    → looked_at (cond b (Some (record p { looked = Some w.shared.tally; entries = Saw w.shared.tally ∷ p.entries })) (Some (record p { looked = None }))) ≡ Some t → CanLook s w v × (w.shared.tally ≡ t)
unfolding looked_at
reply_look_if s w v t p true there may k = (can_look s w v p there may, cc)
reply_look_if s w v t p false there may k = absurd cc

set_if : (w x : World) (v : ℕ) (b : Bool) (p q : Viewer) → looked_at ((cond b (set_viewer x v (Some p)) (set_viewer w v (Some q))).viewers v) ≡ looked_at (cond b (Some p) (Some q))
set_if w x v true p q = mine x v v (Some p) (eq-eqb v v refl)
set_if w x v false p q = mine w v v (Some q) (eq-eqb v v refl)

reply_look_at : (s : Setup) (w : World) (v t : ℕ) (o : Option Viewer) → w.viewers v ≡ o → looked_at ((for_viewer w o (look_at s w v)).viewers v) ≡ Some t → IsLookOf s w v t (Look v)
unfolding looked_at
reply_look_at s w v t None there k = is_none_of (looked_at (w.viewers v)) t (IsLookOf s w v t (Look v)) (ap looked_at there) k
reply_look_at s w v t (Some p) there k =
    let at : ℕ = w.shared.tally in
    let it = reply_look_if s w v t p (may_look s p) there refl
    (sym (set_if w (with_act w (ByViewer v (w.stays v)) (history.Look at)) v (may_look s p) (record p { looked = Some at; entries = Saw at ∷ p.entries }) (record p { looked = None })) ∙ k) in
    (refl, it.0, it.1)

reply_step : (s : Setup) (w : World) (v t : ℕ) (e : Step) → is_step_of v e ≡ true → looked_at ((happens s w e).viewers v) ≡ Some t → IsLookOf s w v t e
unfolding looked_at
reply_step s w v t (HostBytes b) is k = absurd cc
reply_step s w v t Put is k = absurd cc
reply_step s w v t Raise is k = absurd cc
reply_step s w v t Next is k = absurd cc
reply_step s w v t (Join u role greet) is k = is_none_of _ t _ (mine (record w { stays = λ n. if n == u then w.stays n + 1 else w.stays n }) u v _ is) k
reply_step s w v t (Bytes u b lost) is k =
    is_none_of _ t _ (no_reply_for w u v _ is (λ p. mine w u v _ is ∙ reply_bytes None s (record p { looked = None; lost = p.lost ++ lost }) (p.unread ++ b) refl)) k
reply_step s w v t (Look u) is k =
    let same : v ≡ u = eqb-true v u is in
    subst (λ n. looked_at ((happens s w (Look n)).viewers v) ≡ Some t → IsLookOf s w v t (Look n)) same (reply_look_at s w v t (w.viewers v) refl) k
reply_step s w v t (Cut u) is k = is_none_of _ t _ (no_reply_for w u v _ is (λ p. no_reply_cut s w u v p p.looked refl is)) k
reply_step s w v t (Written u n) is k = is_none_of _ t _ (no_reply_for w u v _ is (λ p. mine w u v _ is)) k
reply_step s w v t (Send u) is k = is_none_of _ t _ (no_reply_for w u v _ is (λ p. no_reply_send s w u v p p.waiting is)) k
reply_step s w v t Take is k = absurd cc
reply_step s w v t (Leave u) is k = is_none_of _ t _ (no_reply_for w u v _ is (λ p. mine (record w { queue = w.queue ++ take (s.room - length w.queue) (leaves_behind u p) }) u v None is)) k

-- So where there is a reply, there was that Look.
looked_none : (s : Setup) → Looked s []
unfolding looked_at
looked_none s v t k = absurd cc

looked_step : (s : Setup) (before : List Step) (e : Step) (v t : ℕ) (b : Bool) → Looked s before → is_step_of v e ≡ b → looked_at ((happens s (play s before) e).viewers v) ≡ Some t → WasLook s (before ++ e ∷ []) v t
looked_step s before e v t true h is k =
    let it = reply_step s (play s before) v t e is k in
    record { earlier = before; between = []; split = ap (λ (x : Step). before ++ x ∷ []) it.0; look = it.1; others = refl; tally = it.2 }
looked_step s before e v t false h is k =
    let was : WasLook s before v t = h v t (ap looked_at (sym (other_step s (play s before) v e is)) ∙ k) in
    record {
      earlier = was.earlier;
      between = was.between ++ e ∷ [];
      split = ap (λ (es : List Step). es ++ e ∷ []) was.split ∙ append_assoc was.earlier (Look v ∷ was.between) (e ∷ []);
      look = was.look;
      others = list_any-append (is_step_of v) was.between (e ∷ []) ∙ or_from (list_any (is_step_of v) was.between) (list_any (is_step_of v) (e ∷ [])) was.others (or_from (is_step_of v e) false is refl);
      tally = was.tally;
    }

looked_more : (s : Setup) (before : List Step) (e : Step) → Looked s before → Looked s (before ++ e ∷ [])
looked_more s before e h v t k =
    looked_step s before e v t (is_step_of v e) h refl (ap (λ (w : World). looked_at (w.viewers v)) (sym (play_from-append s beginning before (e ∷ []))) ∙ k)

looked_from : (s : Setup) (before es : List Step) → Looked s before → Looked s (before ++ es)
looked_from s before [] h = subst (λ (xs : List Step). Looked s xs) (sym (append-nil before)) h
looked_from s before (e ∷ es) h = subst (λ (xs : List Step). Looked s xs) (append_assoc before (e ∷ []) es) (looked_from s (before ++ e ∷ []) es (looked_more s before e h))

has_looked : (s : Setup) (before : List Step) → Looked s before
has_looked s before = looked_from s [] before (looked_none s)

-- ---- a Cut

look_kept : (s : Setup) (w : World) (v : ℕ) → CanLook s w v → looked_at ((happens s w (Look v)).viewers v) ≡ Some w.shared.tally
unfolding looked_at
look_kept s w v can =
    let p : Viewer = can.viewer in
    let t : ℕ = w.shared.tally in
    let now : Viewer = record p { looked = Some t; entries = Saw t ∷ p.entries } in
    ap (λ (o : Option Viewer). looked_at ((for_viewer w o (look_at s w v)).viewers v)) can.there
    ∙ (ap (λ (b : Bool). looked_at ((cond b (set_viewer (with_act w (ByViewer v (w.stays v)) (history.Look t)) v (Some now)) (set_viewer w v (Some (record p { looked = None })))).viewers v)) (may s p can.greeted can.fine can.written)
    ∙ ap (λ (b : Bool). looked_at (cond b (Some now) (w.viewers v))) (eq-eqb v v refl))

reason : (s : Setup) (es : List Entry) (t : ℕ) → IsReason (events s.w s.h es) t → has_reason s.w s.h es t ≡ true
reason s es t (inl over) = ap (λ (b : Bool). b || (is_some (pending (events s.w s.h es)) && has_asked (events s.w s.h es))) (lt-ltb (unwrap_or (last_cut (events s.w s.h es)) 0) t over)
reason s es t (inr asked) =
    ap (λ (o : Option Rect). nat_lt (unwrap_or (last_cut (events s.w s.h es)) 0) t || (is_some o && has_asked (events s.w s.h es))) asked.1
    ∙ (ap (λ (b : Bool). nat_lt (unwrap_or (last_cut (events s.w s.h es)) 0) t || b) asked.2 ∙ or-true (nat_lt (unwrap_or (last_cut (events s.w s.h es)) 0) t))

cut_taken : (s : Setup) (w : World) (v t : ℕ) (p : Viewer) → w.viewers v ≡ Some p → p.looked ≡ Some t → has_reason s.w s.h p.entries t ≡ true
    → (happens s w (Cut v)).acts ≡ w.acts ++ record { by = ByViewer v (w.stays v); step = history.Cut (view w.shared.updates) } ∷ []
cut_taken s w v t p there looked is =
    ap (λ (o : Option Viewer). (for_viewer w o (λ p. cut_at s w v p p.looked)).acts) there
    ∙ (ap (λ (o : Option ℕ). (cut_at s w v p o).acts) looked
    ∙ ap (λ (b : Bool). (cond b (set_viewer (with_act w (ByViewer v (w.stays v)) (history.Cut (view w.shared.updates))) v (Some (after_cut s w.shared.updates p))) (set_viewer w v (Some (record p { looked = None })))).acts) is)

none_or : (o : Option Rect) → is_some o ≡ true → (area : Rect) × (o ≡ Some area)
none_or None e = absurd cc
none_or (Some area) e = (area, refl)

reason_if : (s : Setup) (es : List Entry) (t : ℕ) → (nat_lt (unwrap_or (last_cut (events s.w s.h es)) 0) t ≡ true) ⊎ ((is_some (pending (events s.w s.h es)) && has_asked (events s.w s.h es)) ≡ true) → IsReason (events s.w s.h es) t
reason_if s es t (inl over) = inl (ltb-true (unwrap_or (last_cut (events s.w s.h es)) 0) t over)
reason_if s es t (inr asked) =
    let parts = and_parts (is_some (pending (events s.w s.h es))) (has_asked (events s.w s.h es)) asked in
    let area = none_or (pending (events s.w s.h es)) parts.0 in
    inr (area.0, area.1, parts.1)

is_reason : (s : Setup) (es : List Entry) (t : ℕ) → has_reason s.w s.h es t ≡ true → IsReason (events s.w s.h es) t
is_reason s es t e = reason_if s es t (or_cases (nat_lt (unwrap_or (last_cut (events s.w s.h es)) 0) t) (is_some (pending (events s.w s.h es)) && has_asked (events s.w s.h es)) e)

can_cut : (s : Setup) (before : List Step) (v t : ℕ) (p : Viewer) → (play s before).viewers v ≡ Some p → p.looked ≡ Some t → has_reason s.w s.h p.entries t ≡ true → CanCut s before v
unfolding looked_at
can_cut s before v t p there looked is =
    let was : WasLook s before v t = has_looked s before v t (ap looked_at there ∙ looked) in
    record {
      earlier = was.earlier;
      between = was.between;
      split = was.split;
      look = was.look;
      others = was.others;
      viewer = p;
      there = there;
      reason = subst (λ n. IsReason (events s.w s.h p.entries) n) (sym was.tally) (is_reason s p.entries t is);
    }

cut_taken_if : (s : Setup) (before : List Step) (v : ℕ) → CanCut s before v
    → (happens s (play s before) (Cut v)).acts ≡ (play s before).acts ++ record { by = ByViewer v ((play s before).stays v); step = history.Cut (view (play s before).shared.updates) } ∷ []
unfolding looked_at
cut_taken_if s before v can =
    let start : World = play s can.earlier in
    let w : World = play s before in
    let so_far : w ≡ play_from s (happens s start (Look v)) can.between = ap (play s) can.split ∙ play_from-append s beginning can.earlier (Look v ∷ can.between) in
    let same : w.viewers v ≡ (happens s start (Look v)).viewers v = ap (λ (x : World). x.viewers v) so_far ∙ other_steps s (happens s start (Look v)) v can.between can.others in
    let looked : can.viewer.looked ≡ Some start.shared.tally = ap looked_at (sym can.there ∙ same) ∙ look_kept s start v can.look in
    cut_taken s w v start.shared.tally can.viewer can.there looked (reason s can.viewer.entries start.shared.tally can.reason)

-- ---- each step

taken : (s : Setup) (before : List Step) (e : Step) (act : Act) → CanAct s before e act → (happens s (play s before) e).acts ≡ (play s before).acts ++ act ∷ []
taken s before (HostBytes b) act can = absurd can
taken s before Put act can =
    let w : World = play s before in
    ap (λ (o : Option Update). (put_next s w o).acts) can.1 ∙ ap (λ (a : Act). w.acts ++ a ∷ []) (sym can.2)
taken s before Raise act can = ap (λ (a : Act). (play s before).acts ++ a ∷ []) (sym can)
taken s before Next act can = absurd can
taken s before (Join v role greet) act can = absurd can
taken s before (Bytes v b lost) act can = absurd can
taken s before (Look v) act can = look_taken s (play s before) v can.0 ∙ ap (λ (a : Act). (play s before).acts ++ a ∷ []) (sym can.1)
taken s before (Cut v) act can = cut_taken_if s before v can.0 ∙ ap (λ (a : Act). (play s before).acts ++ a ∷ []) (sym can.1)
taken s before (Written v n) act can = absurd can
taken s before (Send v) act can = absurd can
taken s before Take act can = absurd can
taken s before (Leave v) act can = absurd can

abbrev IsIdle : World → World → Type 0
IsIdle old new = (new.acts ≡ old.acts) × (new.shared ≡ old.shared)

idle_if : (w : World) (b : Bool) (x y : World) → (b ≡ true → IsIdle w x) → IsIdle w y → IsIdle w (cond b x y)
idle_if w true x y k l = k refl
idle_if w false x y k l = l

idle_for : (w : World) (o : Option Viewer) (make : Viewer → World) → ((p : Viewer) → o ≡ Some p → IsIdle w (make p)) → IsIdle w (for_viewer w o make)
idle_for w None make f = (refl, refl)
idle_for w (Some p) make f = f p refl

idle_put : (s : Setup) (w : World) (o : Option Update) → ((u : Update) → o ≡ Some u → ⊥) → IsIdle w (put_next s w o)
idle_put s w None f = (refl, refl)
idle_put s w (Some u) f = absurd (f u refl)

idle_cut : (s : Setup) (before : List Step) (v : ℕ) (p : Viewer) (o : Option ℕ) → (play s before).viewers v ≡ Some p → p.looked ≡ o → (CanCut s before v → ⊥) → IsIdle (play s before) (cut_at s (play s before) v p o)
idle_cut s before v p None there is f = (refl, refl)
idle_cut s before v p (Some t) there is f = idle_if (play s before) (has_reason s.w s.h p.entries t) _ _ (λ e. absurd (f (can_cut s before v t p there is e))) (refl, refl)

idle_send : (s : Setup) (w : World) (v : ℕ) (p : Viewer) (o : Option Input) → IsIdle w (send_waiting s w v p o)
idle_send s w v p None = (refl, refl)
idle_send s w v p (Some input) = idle_if w (nat_lt (length w.queue) s.room) _ _ (λ e. (refl, refl)) (refl, refl)

idle_take : (w : World) (queue : List Relayed) → IsIdle w (take_first w queue)
idle_take w [] = (refl, refl)
idle_take w (i ∷ is) = (refl, refl)

idle : (s : Setup) (before : List Step) (e : Step) → ((act : Act) → CanAct s before e act → ⊥) → IsIdle (play s before) (happens s (play s before) e)
idle s before (HostBytes b) f = (refl, refl)
idle s before Put f =
    let w : World = play s before in
    idle_put s w (next_update s w) (λ u there. f _ (u, there, refl))
idle s before Raise f = absurd (f _ refl)
idle s before Next f = let w : World = play s before in next_either (IsIdle w) w (next_update s w) (fault_now s w) (refl, refl) (refl, refl)
idle s before (Join v role greet) f = (refl, refl)
idle s before (Bytes v b lost) f = idle_for (play s before) ((play s before).viewers v) _ (λ p there. (refl, refl))
idle s before (Look v) f =
    let w : World = play s before in
    idle_for w (w.viewers v) (look_at s w v) (λ p there. idle_if w (may_look s p) _ _ (λ e. absurd (f _ (can_look s w v p there e, refl))) (refl, refl))
idle s before (Cut v) f = idle_for (play s before) ((play s before).viewers v) _ (λ p there. idle_cut s before v p p.looked there refl (λ can. f _ (can, refl)))
idle s before (Written v n) f = idle_for (play s before) ((play s before).viewers v) _ (λ p there. (refl, refl))
idle s before (Send v) f = idle_for (play s before) ((play s before).viewers v) _ (λ p there. idle_send s (play s before) v p p.waiting)
idle s before Take f = idle_take (play s before) (play s before).queue
idle s before (Leave v) f = idle_for (play s before) ((play s before).viewers v) _ (λ p there. (refl, refl))

-- A step of a viewer that isn't there.
abbrev IsAbsent : World → World → ℕ → Step → Type 0
IsAbsent old new v e = (new ≡ old) ⊎ ((role : Role) × (greet : Bool) × (e ≡ Join v role greet))

absent_for : (w : World) (u v : ℕ) (make : Viewer → World) → (v == u) ≡ true → w.viewers v ≡ None → for_viewer w (w.viewers u) make ≡ w
absent_for w u v make e none = ap (λ (o : Option Viewer). for_viewer w o make) (ap w.viewers (sym (eqb-true v u e)) ∙ none)

absent : (s : Setup) (w : World) (v : ℕ) (e : Step) → is_step_of v e ≡ true → w.viewers v ≡ None → IsAbsent w (happens s w e) v e
absent s w v (HostBytes b) is none = absurd cc
absent s w v Put is none = absurd cc
absent s w v Raise is none = absurd cc
absent s w v Next is none = absurd cc
absent s w v (Join u role greet) is none = inr (role, greet, ap (λ n. Join n role greet) (sym (eqb-true v u is)))
absent s w v (Bytes u b lost) is none = inl (absent_for w u v _ is none)
absent s w v (Look u) is none = inl (absent_for w u v _ is none)
absent s w v (Cut u) is none = inl (absent_for w u v _ is none)
absent s w v (Written u n) is none = inl (absent_for w u v _ is none)
absent s w v (Send u) is none = inl (absent_for w u v _ is none)
absent s w v Take is none = absurd cc
absent s w v (Leave u) is none = inl (absent_for w u v _ is none)

pub has_each_step : (s : Setup) (es : List Step) → HasEachStep s es
has_each_step s es before after e split =
    subst (λ (new : World). Adds s before e (play s before) new) (sym (play_from-append s beginning before (e ∷ [])))
    (record { taken = taken s before e; idle = idle s before e; absent = λ v is none. absent s (play s before) v e is none; others = λ v apart. other_step s (play s before) v e apart })
