-- The updates put are the first of those in the host's bytes. What a Put adds is the next of them.
use Rattle.std.proofs.Common.{◌≡◌, ℕ, Bool, true, false, cond, List, [], ◌∷◌, ◌++◌, length, Option, Some, None, refl, ap, sym, ◌∙◌, subst, append_assoc, append-nil}
use Rattle.std.specs.Prelude.{slice_get, nat_lt}
use Rattle.std.specs.List.{filter_map}
use Rattle.byte_reading.specs.Reading.{messages_from, rest}
use Rattle.raster.specs.Update.{Update}
use Rattle.roles.specs.Allowed.{Input}
use Rattle.raster.specs.Switch.{switch}
use Rattle.host_decoder.specs.Hosts.{ended_updates, updates_in_turn}
use Rattle.host_decoder.specs.Updates.{update_of, updates}
use Rattle.reflect_core.specs.Sequential.{Begins}
use Rattle.viewer_session.specs.Turn.{has_reason}
use Rattle.viewer_session.specs.Viewer.{Setup, Viewer, may_look}
use Rattle.reflect_world.specs.Schedule.{World, Relayed, Step, HostBytes, Put, Raise, Join, Bytes, Look, Cut, Written, Send, Take, Leave, Next, all_updates, next_update, fault_now, next_begins, beginning, happens, play, play_from, put_next, for_viewer, look_at, cut_at, send_waiting, take_first}
use Rattle.reflect_world.specs.Said.{ArePutInOrder}
use Rattle.reflect_world.specs.Host.{host_form}
use Rattle.reflect_world.proofs.HostReading.{past-append}
use Rattle.reflect_world.proofs.NextHosts.{next_either}

order_if : (s : Setup) (b : Bool) (x y : World) → ArePutInOrder s x → ArePutInOrder s y → ArePutInOrder s (cond b x y)
order_if s true x y k l = k
order_if s false x y k l = l

order_for : (s : Setup) (w : World) (o : Option Viewer) (make : Viewer → World) → ArePutInOrder s w → ((p : Viewer) → ArePutInOrder s (make p)) → ArePutInOrder s (for_viewer w o make)
order_for s w None make k f = k
order_for s w (Some p) make k f = f p

-- what comes after a beginning is the first of the rest
next_is : (us more : List Update) (u : Update) → slice_get (us ++ more) (length us) ≡ Some u → (rest : List Update) × (more ≡ u ∷ rest)
next_is [] [] u e = absurd cc
next_is [] (v ∷ more) u e = let same : v ≡ u = cc in (more, ap (λ x. x ∷ more) same)
next_is (v ∷ us) more u e = next_is us more u e

put_begins : (us more : List Update) (u : Update) → slice_get (us ++ more) (length us) ≡ Some u → Begins (us ++ u ∷ []) (us ++ more)
put_begins us more u e =
    let next = next_is us more u e in
    (next.0, ap (λ t. us ++ t) next.1 ∙ sym (append_assoc us (u ∷ []) next.0))

pub order_put : (s : Setup) (w : World) (o : Option Update) → next_update s w ≡ o → ArePutInOrder s w → ArePutInOrder s (put_next s w o)
order_put s w None e k = k
order_put s w (Some u) e k =
    subst (λ all. Begins (w.shared.updates ++ u ∷ []) all) (sym k.1)
    (put_begins w.shared.updates k.0 u (ap (λ all. slice_get all (length w.shared.updates)) (sym k.1) ∙ e))

pub order_bytes : (s : Setup) (w : World) (b : List ℕ) → ArePutInOrder s w → ArePutInOrder s (record w { host_bytes = w.host_bytes ++ b })
order_bytes s w b k =
    let form = host_form s.w s.h in
    let new : List Update = filter_map update_of (messages_from form (rest form w.host_bytes) b) in
    (k.0 ++ new, past-append (ended_updates s.w s.h w.ended) form w.host_bytes b ∙ (ap (λ t. t ++ new) k.1 ∙ append_assoc w.shared.updates k.0 new))

-- ---- the next host

-- With one host more among those that ended, its updates and a switch come after those of the others.
pub ended-more : (w h : ℕ) (ended : List (List ℕ)) (stream : List ℕ) → ended_updates w h (ended ++ stream ∷ []) ≡ updates_in_turn w h ended stream ++ switch w h ∷ []
ended-more w h [] stream = append-nil (updates w h stream ++ switch w h ∷ [])
ended-more w h (first ∷ ended) stream =
    let here : List Update = updates w h first ++ switch w h ∷ [] in
    ap (λ us. here ++ us) (ended-more w h ended stream)
    ∙ (sym (append_assoc here (updates_in_turn w h ended stream) (switch w h ∷ []))
    ∙ ap (λ us. us ++ switch w h ∷ []) (sym (append_assoc here (ended_updates w h ended) (updates w h stream))))

-- None of its updates was whole yet.
pub next_all : (s : Setup) (w : World) → all_updates s (next_begins w) ≡ all_updates s w ++ switch s.w s.h ∷ []
next_all s w = append-nil (ended_updates s.w s.h (w.ended ++ w.host_bytes ∷ [])) ∙ ended-more s.w s.h w.ended w.host_bytes

pub order_next : (s : Setup) (w : World) → ArePutInOrder s w → ArePutInOrder s (next_begins w)
order_next s w k =
    let last : List Update = switch s.w s.h ∷ [] in
    (k.0 ++ last, next_all s w ∙ (ap (λ t. t ++ last) k.1 ∙ append_assoc w.shared.updates k.0 last))

order_cut : (s : Setup) (w : World) (v : ℕ) (p : Viewer) (o : Option ℕ) → ArePutInOrder s w → ArePutInOrder s (cut_at s w v p o)
order_cut s w v p None k = k
order_cut s w v p (Some looked) k = order_if s (has_reason s.w s.h p.entries looked) _ _ k k

order_send : (s : Setup) (w : World) (v : ℕ) (p : Viewer) (o : Option Input) → ArePutInOrder s w → ArePutInOrder s (send_waiting s w v p o)
order_send s w v p None k = k
order_send s w v p (Some input) k = order_if s (nat_lt (length w.queue) s.room) _ _ k k

order_take : (s : Setup) (w : World) (queue : List Relayed) → ArePutInOrder s w → ArePutInOrder s (take_first w queue)
order_take s w [] k = k
order_take s w (i ∷ is) k = k

order_step : (s : Setup) (w : World) (e : Step) → ArePutInOrder s w → ArePutInOrder s (happens s w e)
order_step s w (HostBytes b) k = order_bytes s w b k
order_step s w Put k = order_put s w (next_update s w) refl k
order_step s w Raise k = k
order_step s w Next k = next_either (ArePutInOrder s) w (next_update s w) (fault_now s w) k (order_next s w k)
order_step s w (Join v role greet) k = k
order_step s w (Bytes v b lost) k = order_for s w (w.viewers v) _ k (λ p. k)
order_step s w (Look v) k = order_for s w (w.viewers v) (look_at s w v) k (λ p. order_if s (may_look s p) _ _ k k)
order_step s w (Cut v) k = order_for s w (w.viewers v) _ k (λ p. order_cut s w v p p.looked k)
order_step s w (Written v n) k = order_for s w (w.viewers v) _ k (λ p. k)
order_step s w (Send v) k = order_for s w (w.viewers v) _ k (λ p. order_send s w v p p.waiting k)
order_step s w Take k = order_take s w w.queue k
order_step s w (Leave v) k = order_for s w (w.viewers v) _ k (λ p. k)

order_from : (s : Setup) (w : World) (es : List Step) → ArePutInOrder s w → ArePutInOrder s (play_from s w es)
order_from s w [] k = k
order_from s w (e ∷ es) k = order_from s (happens s w e) es (order_step s w e k)

pub put_in_order : (s : Setup) (es : List Step) → ArePutInOrder s (play s es)
put_in_order s es = order_from s beginning es (all_updates s beginning, refl)
