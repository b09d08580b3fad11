-- Each viewer's looks and cuts, in its record and in the history. So a record can't claim a look that the history
-- doesn't have.
use Rattle.std.proofs.Common.{◌≡◌, ◌≢◌, ℕ, ◌+◌, ◌<◌, ◌≤◌, Bool, true, false, cond, List, [], ◌∷◌, ◌++◌, length, take, Option, Some, None, refl, ap, sym, ◌∙◌, subst, arith, length-append, eq-eqb, ◌⊎◌, inl, inr}
use Rattle.std.specs.Prelude.{reverse, ◌==◌, ◌&&◌, if◌then◌else◌, is_some, nat_lt}
use Rattle.std.specs.List.{filter_map, cons_option}
use Rattle.std.proofs.lemmas.Bool.{eqb-true, eqb-false}
use Rattle.std.proofs.lemmas.Bool.Decides.{eqb_tells}
use Rattle.std.proofs.lemmas.Grind.{reverse_onto}
use Rattle.std.proofs.lemmas.List.{append-nil, take-append-le, take_all}
use Rattle.std.proofs.lemmas.List.Elements.{filter_map-append}
use Rattle.byte_reading.specs.Reading.{Reading, Done, Faulty, Want, step, wants_more}
use Rattle.raster.specs.declared.rect.Rect.{Rect}
use Rattle.raster.specs.declared.size.Size.{Size}
use Rattle.raster.specs.Update.{Update, view}
use Rattle.viewer_session.specs.declared.form.AnswerForm.{AnswerForm}
use Rattle.rfb_wire.specs.ClientMessage.{ClientMessage, client_message}
use Rattle.roles.specs.Allowed.{Input, passes}
use Rattle.reflect_core.specs.Sequential as history
use Rattle.viewer_session.specs.Record.{Entry, Took, Saw, MadeCut, Began, ToldSize, NumbersUpTo}
use Rattle.viewer_session.specs.Turn.{has_reason, record_after_cut, size_at, told_at, update_at}
use Rattle.viewer_session.specs.Viewer.{Setup, Viewer, after_bytes, after_byte, after_cut, after_hello, after_reading, with_input, marked, viewer_fault, may_look, new_viewer}
use Rattle.viewer_session.proofs.Stands.{numbers_more}
use Rattle.reflect_world.proofs.NextHosts.{next_either}
use Rattle.reflect_world.specs.Schedule.{Act, ByHost, ByViewer, World, Relayed, Step, HostBytes, Put, Raise, Join, Bytes, Look, Cut, Written, Send, Take, Leave, beginning, happens, play, play_from, put_next, set_viewer, with_act, for_viewer, look_at, cut_at, send_waiting, take_first, Next, next_update, fault_now}
use Rattle.reflect_world.specs.Headline.{is_by, step_by, own_steps, replied_in, replies, HasOwnSteps}
use Rattle.reflect_world.proofs.History.{IsLegal, legal_step, legal_beginning}
use Rattle.roles.specs.Held.{input_for}

-- ---- one record

-- It has the replies of these steps.
pub record HasOwn (us : List Update) (mine : List history.Step) (es : List Entry) : Type 0 where
  pub numbers : NumbersUpTo (length us) es
  pub same : replies us es ≡ mine

abbrev OwnIf : List Update → List history.Step → Option Viewer → Type 0
OwnIf us mine None = Unit {0}
OwnIf us mine (Some p) = HasOwn us mine p.entries

own_took : (us : List Update) (mine : List history.Step) (m : ClientMessage) (es : List Entry) → HasOwn us mine es → HasOwn us mine (Took m ∷ es)
own_took us mine m es k = record { numbers = k.numbers; same = k.same }

own_saw : (us : List Update) (mine : List history.Step) (n : ℕ) (es : List Entry) → n ≤ length us → HasOwn us mine es → HasOwn us (mine ++ history.Look n ∷ []) (Saw n ∷ es)
own_saw us mine n es le k =
    record { numbers = (le, k.numbers); same = reverse_onto (filter_map (replied_in us) es) (history.Look n) [] ∙ ap (λ t. t ++ history.Look n ∷ []) k.same }

own_made_cut : (us : List Update) (mine : List history.Step) (es : List Entry) → HasOwn us mine es → HasOwn us (mine ++ history.Cut (view us) ∷ []) (MadeCut (length us) ∷ es)
own_made_cut us mine es k =
    record {
      numbers = (omega arith, k.numbers);
      same =
          reverse_onto (filter_map (replied_in us) es) (history.Cut (view (take (length us) us))) []
          ∙ (ap (λ t. t ++ history.Cut (view (take (length us) us)) ∷ []) k.same ∙ ap (λ (q : List Update). mine ++ history.Cut (view q) ∷ []) (take_all (length us) us (omega arith)));
    }

own_began : (us : List Update) (mine : List history.Step) (n : ℕ) (size : Option Size) (o : Option (Rect × List ℕ)) (es : List Entry) → n ≤ length us → HasOwn us mine es → HasOwn us mine (told_at n size o es)
own_began us mine n (Some size) o es le k = record { numbers = (le, k.numbers); same = k.same }
own_began us mine n None None es le k = k
own_began us mine n None (Some found) es le k = record { numbers = (le, k.numbers); same = k.same }

own_cut : (form : AnswerForm) (w h : ℕ) (host : Option Size) (us : List Update) (mine : List history.Step) (es : List Entry) → HasOwn us mine es → HasOwn us (mine ++ history.Cut (view us) ∷ []) (record_after_cut form w h host es us)
own_cut form w h host us mine es k = own_began us (mine ++ history.Cut (view us) ∷ []) (length us) (size_at w h host es us) (update_at form w h es us) (MadeCut (length us) ∷ es) (omega arith) (own_made_cut us mine es k)

-- What was cut stays so when an update is put.
replied_more : (us : List Update) (u : Update) (es : List Entry) → NumbersUpTo (length us) es → filter_map (replied_in (us ++ u ∷ [])) es ≡ filter_map (replied_in us) es
replied_more us u [] k = refl
replied_more us u (Took m ∷ es) k = replied_more us u es k
replied_more us u (Saw n ∷ es) k = ap (λ t. history.Look n ∷ t) (replied_more us u es k.1)
replied_more us u (MadeCut n ∷ es) k =
    ap (λ (q : List Update). history.Cut (view q) ∷ filter_map (replied_in (us ++ u ∷ [])) es) (take-append-le n us (u ∷ []) k.0)
    ∙ ap (λ t. history.Cut (view (take n us)) ∷ t) (replied_more us u es k.1)
replied_more us u (Began area n bytes ∷ es) k = replied_more us u es k.1
replied_more us u (ToldSize size n bytes ∷ es) k = replied_more us u es k.1

own_put_one : (us : List Update) (u : Update) (mine : List history.Step) (o : Option Viewer) → OwnIf us mine o → OwnIf (us ++ u ∷ []) mine o
own_put_one us u mine None k = tt
own_put_one us u mine (Some p) k =
    record {
      numbers = numbers_more (length us) (length (us ++ u ∷ [])) p.entries (omega (arith, length-append us (u ∷ []))) k.numbers;
      same = ap reverse (replied_more us u p.entries k.numbers) ∙ k.same;
    }

-- ---- bytes of a viewer put messages in front of its record, and nothing else

entries_if : (P : List Entry → Type 0) (b : Bool) (p q : Viewer) → P p.entries → P q.entries → P (cond b p q).entries
entries_if P true p q k l = k
entries_if P false p q k l = l

entries_input : (P : List Entry → Type 0) (p : Viewer) (o : Option Input) → P p.entries → P (with_input p o).entries
entries_input P p None k = k
entries_input P p (Some input) k = entries_if P (passes p.keys input) _ p k k

entries_reading : (P : List Entry → Type 0) → ((m : ClientMessage) (es : List Entry) → P es → P (Took m ∷ es)) → (s : Setup) (p : Viewer) (r : Reading ClientMessage) → P p.entries → P (after_reading p r).entries
entries_reading P more s p (Done m) k =
    let taken = marked p.lost m in
    entries_input P (record p { entries = Took taken.0 ∷ p.entries; lost = taken.1; reading = client_message }) (input_for p.role taken.0) (more taken.0 p.entries k)
entries_reading P more s p (Faulty f) k = k
entries_reading P more s p (Want next) k = k

entries_byte : (P : List Entry → Type 0) → ((m : ClientMessage) (es : List Entry) → P es → P (Took m ∷ es)) → (s : Setup) (p : Viewer) (b : ℕ) → P p.entries → P (after_byte p b).entries
entries_byte P more s p b k =
    entries_if P (wants_more p.hello) (after_hello p (step p.hello b)) _ k
    (entries_if P (is_some (viewer_fault p)) p (after_reading p (step p.reading b)) k (entries_reading P more s p (step p.reading b) k))

entries_bytes : (P : List Entry → Type 0) → ((m : ClientMessage) (es : List Entry) → P es → P (Took m ∷ es)) → (s : Setup) (p : Viewer) (bs : List ℕ) → P p.entries → P (after_bytes p bs).entries
entries_bytes P more s p [] k = k
entries_bytes P more s p (b ∷ bs) k =
    entries_if P (is_some p.waiting) (record p { unread = b ∷ bs }) (after_bytes (after_byte p b) bs) k (entries_bytes P more s (after_byte p b) bs (entries_byte P more s p b k))

-- ---- whose step it is

differs_if : (a b : ℕ) → (((a == b) ≡ true) × (a ≡ b)) ⊎ (((a == b) ≡ false) × (a ≢ b)) → a ≢ b → (a == b) ≡ false
differs_if a b (inl t) apart = absurd (apart t.1)
differs_if a b (inr t) apart = t.0

differs : (a b : ℕ) → a ≢ b → (a == b) ≡ false
differs a b apart = differs_if a b (eqb_tells a b) apart

and_no : (a b : Bool) → b ≡ false → (a && b) ≡ false
and_no true b e = e
and_no false b e = refl

act_added : (u k v stay : ℕ) (acts : List Act) (step : history.Step) (b : Bool) → is_by u k (ByViewer v stay) ≡ b
    → filter_map (step_by u k) (acts ++ record { by = ByViewer v stay; step = step } ∷ []) ≡ filter_map (step_by u k) acts ++ cons_option (cond b (Some step) None) []
act_added u k v stay acts step b e =
    filter_map-append (step_by u k) acts (record { by = ByViewer v stay; step = step } ∷ [])
    ∙ ap (λ (c : Bool). filter_map (step_by u k) acts ++ cons_option (cond c (Some step) None) []) e

other_act : (u k v stay : ℕ) (acts : List Act) (step : history.Step) → is_by u k (ByViewer v stay) ≡ false
    → filter_map (step_by u k) (acts ++ record { by = ByViewer v stay; step = step } ∷ []) ≡ filter_map (step_by u k) acts
other_act u k v stay acts step e = act_added u k v stay acts step false e ∙ append-nil (filter_map (step_by u k) acts)

host_act : (u k : ℕ) (acts : List Act) (step : history.Step) → filter_map (step_by u k) (acts ++ record { by = ByHost; step = step } ∷ []) ≡ filter_map (step_by u k) acts
host_act u k acts step = filter_map-append (step_by u k) acts (record { by = ByHost; step = step } ∷ []) ∙ append-nil (filter_map (step_by u k) acts)

own_act : (v stay : ℕ) (acts : List Act) (step : history.Step)
    → filter_map (step_by v stay) (acts ++ record { by = ByViewer v stay; step = step } ∷ []) ≡ filter_map (step_by v stay) acts ++ step ∷ []
own_act v stay acts step = act_added v stay v stay acts step true (ap (λ (b : Bool). b && (stay == stay)) (eq-eqb v v refl) ∙ eq-eqb stay stay refl)

later_if : (stays : ℕ → ℕ) (u v k : ℕ) (b : Bool) → (v == u) ≡ b → stays u < k → is_by u k (ByViewer v (stays v)) ≡ false
later_if stays u v k true e lt =
    let same : stays v ≡ stays u = ap stays (eqb-true v u e) in
    and_no (v == u) (stays v == k) (differs (stays v) k (λ z. absurd (omega (arith, z, same, lt))))
later_if stays u v k false e lt = ap (λ (b : Bool). b && (stays v == k)) e

-- ---- all viewers

-- No step is by a stay that is to come, and each viewer's record has its own steps.
pub record IsOwn (w : World) : Type 0 where
  pub unused : (v k : ℕ) → w.stays v < k → filter_map (step_by v k) w.acts ≡ []
  pub own : (v : ℕ) → OwnIf w.shared.updates (own_steps w v) (w.viewers v)

own_beginning : IsOwn beginning
own_beginning = record { unused = λ v k lt. refl; own = λ v. tt }

own_choice : (us : List Update) (mine : List history.Step) (u v : ℕ) (b : Bool) (o q : Option Viewer) → (u == v) ≡ b → ((u == v) ≡ true → OwnIf us mine o) → ((u == v) ≡ false → OwnIf us mine q) → OwnIf us mine (cond b o q)
own_choice us mine u v true o q e k l = k e
own_choice us mine u v false o q e k l = l e

-- A viewer goes on with no step of the history.
own_set : (w : World) (v : ℕ) (o : Option Viewer) → IsOwn w → OwnIf w.shared.updates (own_steps w v) o → IsOwn (set_viewer w v o)
own_set w v o h k =
    record {
      unused = h.unused;
      own = λ u. own_choice w.shared.updates (own_steps w u) u v (u == v) o (w.viewers u) refl
          (λ e. subst (λ n. OwnIf w.shared.updates (own_steps w n) o) (sym (eqb-true u v e)) k) (λ e. h.own u);
    }

-- It takes one.
own_takes : (w : World) (v : ℕ) (step : history.Step) (p : Viewer) → IsOwn w → HasOwn w.shared.updates (own_steps w v ++ step ∷ []) p.entries → IsOwn (set_viewer (with_act w (ByViewer v (w.stays v)) step) v (Some p))
own_takes w v step p h k =
    let us : List Update = w.shared.updates in
    let now : World = with_act w (ByViewer v (w.stays v)) step in
    record {
      unused = λ u k lt. other_act u k v (w.stays v) w.acts step (later_if w.stays u v k (v == u) refl lt) ∙ h.unused u k lt;
      own = λ u. own_choice us (own_steps now u) u v (u == v) (Some p) (w.viewers u) refl
          (λ e. subst (λ n. OwnIf us (own_steps now n) (Some p)) (sym (eqb-true u v e)) (subst (λ mine. OwnIf us mine (Some p)) (sym (own_act v (w.stays v) w.acts step)) k))
          (λ e.
          let apart : (v == u) ≡ false = differs v u (λ z. absurd (eqb-false u v e (sym z))) in
          subst (λ mine. OwnIf us mine (w.viewers u)) (sym (other_act u (w.stays u) v (w.stays v) w.acts step (ap (λ (b : Bool). b && (w.stays v == w.stays u)) apart))) (h.own u));
    }

own_for : (w : World) (mine : List history.Step) (o : Option Viewer) (make : Viewer → World) → IsOwn w → OwnIf w.shared.updates mine o → ((p : Viewer) → HasOwn w.shared.updates mine p.entries → IsOwn (make p)) → IsOwn (for_viewer w o make)
own_for w mine None make h k f = h
own_for w mine (Some p) make h k f = f p k

own_if : (b : Bool) (x y : World) → IsOwn x → IsOwn y → IsOwn (cond b x y)
own_if true x y k l = k
own_if false x y k l = l

own_put : (s : Setup) (w : World) (o : Option Update) → IsOwn w → IsOwn (put_next s w o)
own_put s w None h = record { unused = h.unused; own = h.own }
own_put s w (Some u) h =
    record {
      unused = λ v k lt. host_act v k w.acts (history.Put u) ∙ h.unused v k lt;
      own = λ v. own_put_one w.shared.updates u _ (w.viewers v) (subst (λ mine. OwnIf w.shared.updates mine (w.viewers v)) (sym (host_act v (w.stays v) w.acts (history.Put u))) (h.own v));
    }

own_look : (s : Setup) (w : World) (v : ℕ) (p : Viewer) → IsLegal w → IsOwn w → HasOwn w.shared.updates (own_steps w v) p.entries → IsOwn (look_at s w v p)
own_look s w v p legal h k =
    own_if (may_look s p) _ _ (own_takes w v (history.Look w.shared.tally) _ h (own_saw w.shared.updates (own_steps w v) w.shared.tally p.entries legal.tally k)) (own_set w v _ h k)

own_cut_at : (s : Setup) (w : World) (v : ℕ) (p : Viewer) (o : Option ℕ) → IsOwn w → HasOwn w.shared.updates (own_steps w v) p.entries → IsOwn (cut_at s w v p o)
own_cut_at s w v p None h k = own_set w v (Some p) h k
own_cut_at s w v p (Some looked) h k =
    own_if (has_reason s.w s.h p.entries looked) _ _
    (own_takes w v (history.Cut (view w.shared.updates)) (after_cut s w.shared.updates p) h (own_cut s.form s.w s.h s.host w.shared.updates (own_steps w v) p.entries k)) (own_set w v _ h k)

own_send : (s : Setup) (w : World) (v : ℕ) (p : Viewer) (o : Option Input) → IsOwn w → HasOwn w.shared.updates (own_steps w v) p.entries → IsOwn (send_waiting s w v p o)
own_send s w v p None h k = own_set w v _ h k
own_send s w v p (Some input) h k = own_if (nat_lt (length w.queue) s.room) _ _ (own_set (record w { queue = _ }) v _ (record { unused = h.unused; own = h.own }) k) (own_set w v _ h k)

own_take : (w : World) (queue : List Relayed) → IsOwn w → IsOwn (take_first w queue)
own_take w [] h = h
own_take w (i ∷ is) h = record { unused = h.unused; own = h.own }

joined_over : (b : Bool) (n k : ℕ) → cond b (n + 1) n < k → n < k
joined_over true n k lt = omega (arith, lt)
joined_over false n k lt = lt

joined_next : (b : Bool) (n : ℕ) → b ≡ true → n < cond b (n + 1) n
joined_next true n e = omega arith
joined_next false n e = absurd cc

own_join : (s : Setup) (w : World) (v : ℕ) (p : Viewer) → p.entries ≡ [] → IsOwn w → IsOwn (set_viewer (record w { stays = λ u. if u == v then w.stays u + 1 else w.stays u }) v (Some p))
own_join s w v p none h =
    let us : List Update = w.shared.updates in
    record {
      unused = λ u k lt. h.unused u k (joined_over (u == v) (w.stays u) k lt);
      own = λ u. own_choice us (filter_map (step_by u (if u == v then w.stays u + 1 else w.stays u)) w.acts) u v (u == v) (Some p) (w.viewers u) refl
          (λ e. subst (λ es. HasOwn us (filter_map (step_by u (if u == v then w.stays u + 1 else w.stays u)) w.acts) es) (sym none) (record { numbers = tt; same = sym (h.unused u _ (joined_next (u == v) (w.stays u) e)) }))
          (λ e. subst (λ (b : Bool). OwnIf us (filter_map (step_by u (cond b (w.stays u + 1) (w.stays u))) w.acts) (w.viewers u)) (sym e) (h.own u));
    }

own_step : (s : Setup) (w : World) (e : Step) → IsLegal w → IsOwn w → IsOwn (happens s w e)
own_step s w (HostBytes b) legal h = record { unused = h.unused; own = h.own }
own_step s w Put legal h = own_put s w (next_update s w) h
own_step s w Raise legal h =
    let step : history.Step = history.Raise (length w.shared.updates) in
    record {
      unused = λ v k lt. host_act v k w.acts step ∙ h.unused v k lt;
      own = λ v. subst (λ mine. OwnIf w.shared.updates mine (w.viewers v)) (sym (host_act v (w.stays v) w.acts step)) (h.own v);
    }
own_step s w Next legal h = next_either IsOwn w (next_update s w) (fault_now s w) h (record { unused = h.unused; own = h.own })
own_step s w (Join v role greet) legal h = own_join s w v (new_viewer role greet) refl h
own_step s w (Bytes v b lost) legal h =
    own_for w (own_steps w v) (w.viewers v) _ h (h.own v)
    (λ p k. own_set w v _ h (entries_bytes (λ es. HasOwn w.shared.updates (own_steps w v) es) (own_took w.shared.updates (own_steps w v)) s (record p { looked = None; lost = p.lost ++ lost }) (p.unread ++ b) k))
own_step s w (Look v) legal h = own_for w (own_steps w v) (w.viewers v) (look_at s w v) h (h.own v) (λ p k. own_look s w v p legal h k)
own_step s w (Cut v) legal h = own_for w (own_steps w v) (w.viewers v) _ h (h.own v) (λ p k. own_cut_at s w v p p.looked h k)
own_step s w (Written v n) legal h = own_for w (own_steps w v) (w.viewers v) _ h (h.own v) (λ p k. own_set w v _ h k)
own_step s w (Send v) legal h = own_for w (own_steps w v) (w.viewers v) _ h (h.own v) (λ p k. own_send s w v p p.waiting h k)
own_step s w Take legal h = own_take w w.queue h
own_step s w (Leave v) legal h =
    own_for w (own_steps w v) (w.viewers v) _ h (h.own v) (λ p k. own_set (record w { queue = _ }) v None (record { unused = h.unused; own = h.own }) tt)

own_from : (s : Setup) (w : World) (es : List Step) → IsLegal w → IsOwn w → IsOwn (play_from s w es)
own_from s w [] legal h = h
own_from s w (e ∷ es) legal h = own_from s (happens s w e) es (legal_step s w e legal) (own_step s w e legal h)

pub has_own_steps : (s : Setup) (es : List Step) → HasOwnSteps (play s es)
has_own_steps s es v p there =
    (subst (λ o. OwnIf (play s es).shared.updates (own_steps (play s es) v) o) there ((own_from s beginning es legal_beginning own_beginning).own v)).same
