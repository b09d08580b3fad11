-- What stands in a world's fields after one step more. `play` is such steps.
use Rattle.std.proofs.Common.{◌≡◌, ℕ, ◌+◌, ◌<◌, Bool, true, false, cond, List, [], ◌∷◌, ◌++◌, length, take, Option, Some, None, Ok, Err, inl, inr, refl, ap, sym, ◌∙◌, subst, arith, append-nil}
use Rattle.std.specs.Prelude.{nat_lt, is_some, slice_get, slice_index_or, slice_set, min, ◌==◌, if◌then◌else◌}
use Rattle.std.proofs.lemmas.Bool.{eqb-true}
use Rattle.std.proofs.lemmas.List.{get_or_default, length-set, set-get_or}
use Rattle.fault.specs.declared.kinds.Fault.{Fault}
use Rattle.byte_reading.specs.Reading.{Reading, fault_of, rest}
use Rattle.raster.specs.Screen.{opening}
use Rattle.raster.specs.Update.{Update, view}
use Rattle.joined_runs.specs.declared.rect_form.RectForm.{RectForm}
use Rattle.rfb_wire.specs.ServerMessage.{ServerMessage}
use Rattle.roles.specs.Allowed.{Input}
use Rattle.roles.specs.declared.role.Role.{Role}
use Rattle.fault.specs.declared.kinds.Fault.TheVariants.{Memory, NumbersOut}
use Rattle.raster.specs.Switch.{switch}
use Rattle.host_decoder.specs.Hosts.{ended_updates, updates_in_turn}
use Rattle.reflect_core.specs.Plain.{Plain}
use Rattle.viewer_session.specs.Turn.{has_reason}
use Rattle.viewer_session.specs.Viewer.{Setup, Viewer, may_look, after_cut, after_bytes, new_viewer}
use Rattle.viewer_session.specs.Session.{State, Stands, StandsBut, HasCounted, at_rest, after_look, with_marks, without_look, after_writing, is_ready}
use Rattle.reflect_core.specs.Sequential as history
use Rattle.reflect_world.specs.Host.{HasReadTo, HostSide, HostStands, IsReadOut, IsSameHost, ReadsOn, BeginsNext, form_of, host_form, with_past}
use Rattle.reflect_world.specs.Schedule.{Next, next_update, fault_now, next_host, set_viewer, with_act, Act, ByViewer, World, Step, HostBytes, Put, Join, Bytes, Look, Cut, Written, beginning, happens, play, play_from, put_next, for_viewer, cut_at, Relayed, send_waiting, Send, Take, take_first}
use Rattle.reflect_world.specs.World.{Held, Standing, PlaceBy, PlaceShows, PlaceStands, Reached, Shows, Leaves, StaysFor, StaysSeen, IsBrokenOff, ShowsUnder, place_at, IsFed, HasLooked, IsWritten, GoesOn, IsPut, JoinsUnder, TakesStep, HasSent, plain_form, with_session}
use Rattle.reflect_world.specs.Relay.{RelaySide, TakesFirst, takes_from}
use Rattle.painter.specs.Patch.{SizedUpdate}
use Rattle.painter.specs.Same.{AreSameFrom}
use Rattle.reflect_core.specs.Sequential.{Begins}
use Rattle.reflect_world.proofs.HostReading.{no_next}
use Rattle.reflect_world.proofs.Hosts.{IsNext, next_of}
use Rattle.reflect_world.proofs.HostUpdates.{ended-more, order_bytes, order_next, order_put}
use Rattle.reflect_world.proofs.SameUpdates.{cut_same}
use Rattle.viewer_session.proofs.SessionLaws.{fault_stands}
use Rattle.reflect_world.proofs.Places.{counted_in, place_changed, place_more, place_seen, places_set, place_is_some, place_fed, place_looked, place_written, place_stays, place_cut, place_sent, stands_without_look}

-- ---- the schedule grows

play_from-more : (s : Setup) (w : World) (es : List Step) (e : Step) → play_from s w (es ++ e ∷ []) ≡ happens s (play_from s w es) e
play_from-more s w [] e = refl
play_from-more s w (first ∷ es) e = play_from-more s (happens s w first) es e

pub play-more : (s : Setup) (es : List Step) (e : Step) → play s (es ++ e ∷ []) ≡ happens s (play s es) e
play-more s es e = play_from-more s beginning es e

-- ---- the host and the screen

-- The host goes on, and the rest stays.
abbrev pub with_host : Standing → HostSide → Standing
with_host standing host = record standing { host = host }

-- The host's form that the schedule reads by.
form_is : (s : Setup) (standing : Standing) (w : World) (host : HostSide) → Reached s standing w → IsSameHost standing.host host → host_form s.w s.h ≡ form_of host
form_is s standing w host r same =
    ap (λ n. host_form n s.h) (sym (same.width ∙ r.host_width)) ∙ ap (host_form host.decoder.width) (sym (same.height ∙ r.host_height))

-- Bytes of the host came.
pub bytes_reaches : (standing : Standing) (host : HostSide) (bytes : List ℕ) → IsSameHost standing.host host
    → ((past : List Update) (all : List ℕ) (us : List Update) → HostStands past all us standing.host → HostStands past (all ++ bytes) us host) → TakesStep (HostBytes bytes) standing (with_host standing host)
bytes_reaches standing host bytes same grows s w r =
    record {
      size = r.size;
      plain = r.plain;
      width = r.width;
      height = r.height;
      in_order = order_bytes s w bytes r.in_order;
      updates = r.updates;
      tally = r.tally;
      host_width = same.width ∙ r.host_width;
      host_height = same.height ∙ r.host_height;
      host = grows (ended_updates s.w s.h w.ended) w.host_bytes standing.screen.updates r.host;
      fault = r.fault;
      limit = r.limit;
      queue = r.queue;
      taken = r.taken;
      room = r.room;
      places = r.places;
    }

-- What comes next over a screen of its own size.
next_on : (s : Setup) (standing : Standing) (w : World) (host : HostSide) (past : List Update) (form : Reading ServerMessage) (put : List Update) → Reached s standing w → IsSameHost standing.host host
    → IsNext host.decoder.width host.decoder.height past form w.host_bytes w.shared.updates put → IsNext s.w s.h past form w.host_bytes w.shared.updates put
next_on s standing w host past form put r same next =
    subst (λ n. IsNext s.w n past form w.host_bytes w.shared.updates put) (same.height ∙ r.host_height)
    (subst (λ n. IsNext n host.decoder.height past form w.host_bytes w.shared.updates put) (same.width ∙ r.host_width) next)

-- An update of the host was read: it is the next.
comes_next : (s : Setup) (standing : Standing) (w : World) (host : HostSide) (v : Update) → Reached s standing w → IsSameHost standing.host host → host.waiting ≡ None
    → HasReadTo (ended_updates s.w s.h w.ended) w.host_bytes (standing.screen.updates ++ v ∷ []) host
    → IsNext s.w s.h (ended_updates s.w s.h w.ended) (form_of host) w.host_bytes w.shared.updates (standing.screen.updates ++ v ∷ [])
comes_next s standing w host v r same none reads =
    let past : List Update = ended_updates s.w s.h w.ended in
    let form = form_is s standing w host r same in
    let begins : Begins w.shared.updates (with_past past (form_of host) w.host_bytes) = subst (λ f. Begins w.shared.updates (with_past past f w.host_bytes)) form r.in_order in
    next_on s standing w host past (form_of host) (standing.screen.updates ++ v ∷ []) r same
    (next_of past w.host_bytes w.shared.updates standing.screen.updates host v none begins r.updates.count reads)

is_next : (s : Setup) (standing : Standing) (w : World) (host : HostSide) (put : List Update) → Reached s standing w → IsSameHost standing.host host
    → (next : IsNext s.w s.h (ended_updates s.w s.h w.ended) (form_of host) w.host_bytes w.shared.updates put) → next_update s w ≡ Some next.update
is_next s standing w host put r same next =
    ap (λ f. slice_get (with_past (ended_updates s.w s.h w.ended) f w.host_bytes) (length w.shared.updates)) (form_is s standing w host r same) ∙ next.there

-- There is none.
none_next : (s : Setup) (standing : Standing) (w : World) (host : HostSide) (fault : Option Fault) → Reached s standing w → IsSameHost standing.host host
    → IsReadOut (ended_updates s.w s.h w.ended) w.host_bytes standing.screen.updates (form_of host) fault → next_update s w ≡ None
none_next s standing w host fault r same out =
    let all : List Update = with_past (ended_updates s.w s.h w.ended) (form_of host) w.host_bytes in
    ap (λ f. slice_get (with_past (ended_updates s.w s.h w.ended) f w.host_bytes) (length w.shared.updates)) (form_is s standing w host r same)
    ∙ (ap (slice_get all) (r.updates.count ∙ sym out.none_left) ∙ no_next all)

-- An update of the host was read and put.
reached_put : (s : Setup) (standing : Standing) (w : World) (host : HostSide) (screen : Plain) (v : Update) → Reached s standing w → IsSameHost standing.host host → host.waiting ≡ None
    → HasReadTo (ended_updates s.w s.h w.ended) w.host_bytes (standing.screen.updates ++ v ∷ []) host
    → screen.width ≡ standing.screen.width → screen.height ≡ standing.screen.height → screen.updates ≡ standing.screen.updates ++ v ∷ [] → screen.tally ≡ standing.screen.tally
    → Reached s (record standing { host = host; screen = screen }) (happens s w Put)
reached_put s standing w host screen v r same none reads width height updates tally =
    let form = form_is s standing w host r same in
    let next = comes_next s standing w host v r same none reads in
    let u : Update = next.update in
    let there : next_update s w ≡ Some u = is_next s standing w host (standing.screen.updates ++ v ∷ []) r same next in
    subst (λ o. Reached s (record standing { host = host; screen = screen }) (put_next s w o)) (sym there)
    (record {
      size = r.size;
      plain = r.plain;
      width = width ∙ r.width;
      height = height ∙ r.height;
      in_order = order_put s w (Some u) there r.in_order;
      updates = subst (λ (l : List Update). AreSameFrom s.w s.h opening opening (w.shared.updates ++ u ∷ []) l) (sym updates) next.same;
      tally = tally ∙ r.tally;
      host_width = same.width ∙ r.host_width;
      host_height = same.height ∙ r.host_height;
      host = subst (λ (l : List Update). HostStands (ended_updates s.w s.h w.ended) w.host_bytes l host) (sym updates) (inr reads);
      fault = r.fault;
      limit = r.limit;
      queue = r.queue;
      taken = r.taken;
      room = r.room;
      places = λ v. place_more s w.shared.updates u (place_at standing.places v) (w.viewers v) (r.places v);
    })

-- There is none left.
reached_no_put : (s : Setup) (standing : Standing) (w : World) (host : HostSide) (fault : Option Fault) → Reached s standing w → IsSameHost standing.host host → HostStands (ended_updates s.w s.h w.ended) w.host_bytes standing.screen.updates host
    → IsReadOut (ended_updates s.w s.h w.ended) w.host_bytes standing.screen.updates (form_of host) fault → Reached s (record standing { host = host; host_fault = fault }) (happens s w Put)
reached_no_put s standing w host fault r same stands out =
    let form = form_is s standing w host r same in
    let there : next_update s w ≡ None = none_next s standing w host fault r same out in
    subst (λ o. Reached s (record standing { host = host; host_fault = fault }) (put_next s w o)) (sym there)
    (record {
      size = r.size;
      plain = r.plain;
      width = r.width;
      height = r.height;
      in_order = r.in_order;
      updates = r.updates;
      tally = r.tally;
      host_width = same.width ∙ r.host_width;
      host_height = same.height ∙ r.host_height;
      host = stands;
      fault = sym out.stands_at ∙ ap (λ f. fault_of (rest f w.host_bytes)) (sym form);
      limit = r.limit;
      queue = r.queue;
      taken = r.taken;
      room = r.room;
      places = r.places;
    })

-- ---- one viewer

-- The standing with one place changed.
abbrev pub with_place : Standing → ℕ → Held → Standing
with_place standing v place = record standing { places = slice_set standing.places v (Some place) }

abbrev pub with_screen : Standing → Plain → Standing
with_screen standing screen = record standing { screen = screen }

-- One viewer's place changes, over the same host and screen.
reached_set : (s : Setup) (standing : Standing) (w : World) (acts : List Act) (stays : ℕ → ℕ) (v : ℕ) (place : Held) (p : Viewer) → Reached s standing w → v < 65 → PlaceStands s w.shared.updates place p
    → Reached s (with_place standing v place) (set_viewer (record w { acts = acts; stays = stays }) v (Some p))
reached_set s standing w acts stays v place p r within good =
    record {
      size = r.size;
      plain = r.plain;
      width = r.width;
      height = r.height;
      in_order = r.in_order;
      updates = r.updates;
      tally = r.tally;
      host_width = r.host_width;
      host_height = r.host_height;
      host = r.host;
      fault = r.fault;
      limit = r.limit;
      queue = r.queue;
      taken = r.taken;
      room = length-set standing.places v (Some place) ∙ r.room;
      places = places_set (PlaceStands s w.shared.updates) standing.places w.viewers v place p (omega (arith, r.room)) r.places good;
    }

-- A step of one that is there.
pub reached_for : (s : Setup) (standing new : Standing) (w : World) (v : ℕ) (place : Held) (make : Viewer → World) → Reached s standing w → place_at standing.places v ≡ Some place
    → ((p : Viewer) → PlaceStands s w.shared.updates place p → Reached s new (make p)) → Reached s new (for_viewer w (w.viewers v) make)
reached_for s standing new w v place make r there f =
    let it = place_is_some (PlaceStands s w.shared.updates) (place_at standing.places v) (w.viewers v) place (r.places v) there in
    subst (λ o. Reached s new (for_viewer w o make)) (sym it.1) (f it.0 it.2)

none_is : (number : ℕ) (o : Option ℕ) → o ≡ None → o ≡ Some number → ⊥
none_is number o e f = cc

-- A viewer joins.
pub reached_join : (s : Setup) (standing : Standing) (w : World) (v : ℕ) (role : Role) (greet : Bool) (session : State) → Reached s standing w → v < 65 → Stands s session (new_viewer role greet) → session.asked.last ≡ None
    → Reached s (with_place standing v (record { session = session; looked = None; written = []; unread = [] })) (happens s w (Join v role greet))
reached_join s standing w v role greet session r within stands uncut =
    reached_set s standing w w.acts (λ u. if u == v then w.stays u + 1 else w.stays u) v (record { session = session; looked = None; written = []; unread = [] }) (new_viewer role greet) r within
    (record { session = subst (λ (q : Viewer). Stands s session q) stands.serves.rests stands; unread = refl; marks = refl; counted = λ number e. absurd (none_is number session.asked.last uncut e); looked = refl; ready = λ no. absurd cc; written = refl })

pub reached_bytes : (s : Setup) (standing : Standing) (w : World) (v : ℕ) (bytes unread : List ℕ) (marks : List Bool) (place : Held) (session : State) → Reached s standing w → v < 65 → place_at standing.places v ≡ Some place
    → ((q : Viewer) → Stands s place.session q → StandsBut s session (after_bytes (with_marks marks q) (place.unread ++ bytes)) unread) → ((us : List Update) → HasCounted place.session us → HasCounted session us)
    → Reached s (with_place standing v (record { session = session; looked = None; written = place.written; unread = unread })) (happens s w (Bytes v bytes marks))
reached_bytes s standing w v bytes unread marks place session r within there fed counted =
    reached_for s standing _ w v place _ r there (λ p k. reached_set s standing w w.acts w.stays v _ _ r within (place_fed s w.shared.updates place session p marks bytes unread k fed (counted w.shared.updates)))

reached_look_if : (s : Setup) (standing : Standing) (w : World) (v : ℕ) (place : Held) (p : Viewer) (is : Bool) → Reached s standing w → v < 65
    → PlaceStands s w.shared.updates place (cond is (after_look w.shared.tally p) (without_look p))
    → Reached s (with_place standing v place)
    (cond is (set_viewer (with_act w (ByViewer v (w.stays v)) (history.Look w.shared.tally)) v (Some (after_look w.shared.tally p))) (set_viewer w v (Some (without_look p))))
reached_look_if s standing w v place p true r within k = reached_set s standing w (with_act w (ByViewer v (w.stays v)) (history.Look w.shared.tally)).acts w.stays v place (after_look w.shared.tally p) r within k
reached_look_if s standing w v place p false r within k = reached_set s standing w w.acts w.stays v place (without_look p) r within k

pub reached_look : (s : Setup) (standing : Standing) (w : World) (v : ℕ) (place : Held) (tally : ℕ) (ready : Bool) → Reached s standing w → v < 65 → place_at standing.places v ≡ Some place
    → tally ≡ standing.screen.tally → ready ≡ is_ready place.session → ((q : Viewer) → Stands s place.session q → ready ≡ may_look s q)
    → Reached s (with_place standing v (record place { looked = if ready then Some tally else None })) (happens s w (Look v))
reached_look s standing w v place tally ready r within there is e may =
    reached_for s standing _ w v place _ r there
    (λ p k.
    let same : tally ≡ w.shared.tally = is ∙ r.tally in
    let looked : PlaceStands s w.shared.updates (record place { looked = if ready then Some tally else None }) (cond (may_look s p) (after_look w.shared.tally p) (without_look p)) =
    subst (λ t. PlaceStands s w.shared.updates (record place { looked = if ready then Some tally else None }) (cond (may_look s p) (after_look t p) (without_look p))) same (place_looked s w.shared.updates place p tally ready k e (may (at_rest p) k.session)) in
    reached_look_if s standing w v _ p (may_look s p) r within looked)

pub reached_written : (s : Setup) (standing : Standing) (w : World) (v count : ℕ) (place : Held) (session : State) → Reached s standing w → v < 65 → place_at standing.places v ≡ Some place
    → ((q : Viewer) → Stands s place.session q → Stands s session (after_writing (min count (length place.session.unsent)) q)) → ((us : List Update) → HasCounted place.session us → HasCounted session us)
    → Reached s (with_place standing v (record { session = session; looked = None; written = place.written ++ take (min count (length place.session.unsent)) place.session.unsent; unread = place.unread })) (happens s w (Written v count))
reached_written s standing w v count place session r within there sent counted =
    reached_for s standing _ w v place _ r there (λ p k. reached_set s standing w w.acts w.stays v _ _ r within (place_written s w.shared.updates place session p count k (sent (at_rest p) k.session) (counted w.shared.updates k.counted)))

-- ---- the second half of a turn

same_place_if : (s : Setup) (us : List Update) (places : List (Option Held)) (viewers : ℕ → Option Viewer) (v u : ℕ) (p : Viewer) (is : Bool) → (u == v) ≡ is → PlaceBy (PlaceStands s us) (place_at places u) (viewers u)
    → PlaceBy (PlaceStands s us) (place_at places v) (Some p) → PlaceBy (PlaceStands s us) (place_at places u) (cond is (Some p) (viewers u))
same_place_if s us places viewers v u p true is k there = let same : u ≡ v = eqb-true u v is in subst (λ n. PlaceBy (PlaceStands s us) (place_at places n) (Some p)) (sym same) there
same_place_if s us places viewers v u p false is k there = k

-- No look was taken before it.
pub reached_no_look : (s : Setup) (standing : Standing) (w : World) (v : ℕ) (place : Held) → Reached s standing w → place_at standing.places v ≡ Some place → place.looked ≡ None
    → Reached s standing (happens s w (Cut v))
reached_no_look s standing w v place r there none =
    reached_for s standing _ w v place _ r there
    (λ p k.
    subst (λ o. Reached s standing (cut_at s w v p o)) (sym none ∙ k.looked)
    (record {
      size = r.size;
      plain = r.plain;
      width = r.width;
      height = r.height;
      in_order = r.in_order;
      updates = r.updates;
      tally = r.tally;
      host_width = r.host_width;
      host_height = r.host_height;
      host = r.host;
      fault = r.fault;
      limit = r.limit;
      queue = r.queue;
      taken = r.taken;
      room = r.room;
      places = λ u. same_place_if s w.shared.updates standing.places w.viewers v u p (u == v) refl (r.places u) (subst (λ o. PlaceBy (PlaceStands s w.shared.updates) o (Some p)) (sym there) k);
    }))

reached_cut_if : (s : Setup) (standing : Standing) (w : World) (v looked : ℕ) (place : Held) (p : Viewer) (is : Bool) → Reached s standing w → v < 65
    → PlaceStands s w.shared.updates place (cond is (after_cut s w.shared.updates p) (without_look p))
    → Reached s (with_place standing v place)
    (cond is (set_viewer (with_act w (ByViewer v (w.stays v)) (history.Cut (view w.shared.updates))) v (Some (after_cut s w.shared.updates p))) (set_viewer w v (Some (without_look p))))
reached_cut_if s standing w v looked place p true r within k = reached_set s standing w (with_act w (ByViewer v (w.stays v)) (history.Cut (view w.shared.updates))).acts w.stays v place (after_cut s w.shared.updates p) r within k
reached_cut_if s standing w v looked place p false r within k = reached_set s standing w w.acts w.stays v place (without_look p) r within k

-- The same the other way round.
same_turned : (w h : ℕ) (us vs : List Update) → AreSameFrom w h opening opening us vs → AreSameFrom w h opening opening vs us
same_turned w h us vs same =
    record { count = sym same.count; shows = λ n x y lx ly. sym (same.shows n x y lx ly); touched = λ t lt. sym (same.touched t lt); kinds = sym same.kinds }

place_turned : (s : Setup) (place : Held) (session : State) (p : Viewer) (us : List Update) (looked : ℕ) (is : Bool) → has_reason s.w s.h p.entries looked ≡ is → PlaceStands s us place p
    → (has_reason s.w s.h p.entries looked ≡ false → Stands s session (without_look (at_rest p))) → (has_reason s.w s.h p.entries looked ≡ true → Stands s session (after_cut s us (at_rest p))) → HasCounted session us
    → PlaceStands s us (record { session = session; looked = None; written = place.written; unread = place.unread }) (cond is (after_cut s us p) (without_look p))
place_turned s place session p us looked true e k stays cut counted = place_cut s us place session p k (cut e) counted
place_turned s place session p us looked false e k stays cut counted = place_stays s us place session p k (stays e) counted

-- The session went on.
pub reached_cut : (s : Setup) (standing : Standing) (w : World) (v looked : ℕ) (place : Held) (session : State) → Reached s standing w → v < 65 → place_at standing.places v ≡ Some place → place.looked ≡ Some looked
    → ((q : Viewer) → Stands s place.session q → has_reason s.w s.h q.entries looked ≡ false → Stands s session (without_look q))
    → ((q : Viewer) → HasCounted place.session standing.screen.updates → Stands s place.session q → has_reason s.w s.h q.entries looked ≡ true → Stands s session (after_cut s standing.screen.updates q))
    → (HasCounted place.session standing.screen.updates → HasCounted session standing.screen.updates)
    → Reached s (with_place standing v (record { session = session; looked = None; written = place.written; unread = place.unread })) (happens s w (Cut v))
reached_cut s standing w v looked place session r within there at stays cut counted =
    let put : List Update = standing.screen.updates in
    let us : List Update = w.shared.updates in
    let back : AreSameFrom s.w s.h opening opening put us = same_turned s.w s.h us put r.updates in
    reached_for s standing _ w v place _ r there
    (λ p k.
    let known : HasCounted place.session put = counted_in s.w s.h place.session us put r.updates k.counted in
    let turned =
    place_turned s place session p us looked (has_reason s.w s.h p.entries looked) refl k (stays (at_rest p) k.session)
    (λ e. subst (λ (q : Viewer). Stands s session q) (cut_same s put us (at_rest p) r.plain.copies back) (cut (at_rest p) known k.session e))
    (counted_in s.w s.h session put us back (counted known)) in
    subst (λ o. Reached s (with_place standing v (record { session = session; looked = None; written = place.written; unread = place.unread })) (cut_at s w v p o)) (sym at ∙ k.looked)
    (reached_cut_if s standing w v looked _ p (has_reason s.w s.h p.entries looked) r within turned))

-- ---- the same, as a place's calls say what they do

-- The element at v, whatever it is where there is none.
pub there_is : (standing : Standing) (v : ℕ) (found : Option Held) (place : Held) → length standing.places ≡ 65 → v < 65 → found ≡ slice_index_or standing.places v found → found ≡ Some place → place_at standing.places v ≡ Some place
there_is standing v found place room within at e = get_or_default standing.places v None found (omega (arith, room)) ∙ sym at ∙ e

pub fed_reaches : (standing : Standing) (v : ℕ) (bytes : List ℕ) (marks : List Bool) (found : Option Held) (place new : Held) → v < 65 → found ≡ slice_index_or standing.places v found → found ≡ Some place → IsFed place new bytes marks
    → TakesStep (Bytes v bytes marks) standing (with_place standing v new)
fed_reaches standing v bytes marks found place new within at e k s w r =
    subst (λ h. Reached s (with_place standing v h) (happens s w (Bytes v bytes marks))) (sym k.others)
    (reached_bytes s standing w v bytes new.unread marks place new.session r within (there_is standing v found place r.room within at e) (k.stands s) k.counted)

pub looked_reaches : (standing : Standing) (v : ℕ) (tally : ℕ) (found : Option Held) (place new : Held) → v < 65 → found ≡ slice_index_or standing.places v found → found ≡ Some place → tally ≡ standing.screen.tally → HasLooked place new tally
    → TakesStep (Look v) standing (with_place standing v new)
looked_reaches standing v tally found place new within at e is k s w r =
    subst (λ h. Reached s (with_place standing v h) (happens s w (Look v))) (sym k.others)
    (reached_look s standing w v place tally (is_ready place.session) r within (there_is standing v found place r.room within at e) is refl (k.stands s))

pub written_reaches : (standing : Standing) (v count : ℕ) (found : Option Held) (place new : Held) → v < 65 → found ≡ slice_index_or standing.places v found → found ≡ Some place
    → IsWritten place new (min count (length place.session.unsent)) → TakesStep (Written v count) standing (with_place standing v new)
written_reaches standing v count found place new within at e k s w r =
    subst (λ h. Reached s (with_place standing v h) (happens s w (Written v count))) (sym k.others)
    (reached_written s standing w v count place new.session r within (there_is standing v found place r.room within at e) (k.stands s) k.counted)

same_placed : (s : Setup) (standing : Standing) (w : World) (v : ℕ) (place : Held) → Reached s standing w → v < 65 → place_at standing.places v ≡ Some place → Reached s (with_place standing v place) w
same_placed s standing w v place r within there = let same : slice_set standing.places v (Some place) ≡ standing.places = ap (slice_set standing.places v) (sym there) ∙ set-get_or standing.places v None in rw same r

goes_on_reaches : (standing : Standing) (v : ℕ) (place new : Held) (looked : Option ℕ) (s : Setup) (w : World) → Reached s standing w → v < 65 → place_at standing.places v ≡ Some place → place.looked ≡ looked
    → GoesOn looked place new standing.screen.updates → Reached s (with_place standing v new) (happens s w (Cut v))
goes_on_reaches standing v place new None s w r within there at k =
    subst (λ h. Reached s (with_place standing v h) (happens s w (Cut v))) (sym k)
    (same_placed s standing (happens s w (Cut v)) v place (reached_no_look s standing w v place r there at) within there)
goes_on_reaches standing v place new (Some looked) s w r within there at k =
    subst (λ h. Reached s (with_place standing v h) (happens s w (Cut v))) (sym k.others)
    (reached_cut s standing w v looked place new.session r within there at (k.stays s) (λ q. k.cuts s q r.plain) k.counted)

pub cut_reaches : (standing : Standing) (v : ℕ) (found : Option Held) (place new : Held) → v < 65 → found ≡ slice_index_or standing.places v found → found ≡ Some place → GoesOn place.looked place new standing.screen.updates
    → TakesStep (Cut v) standing (with_place standing v new)
cut_reaches standing v found place new within at e k s w r = goes_on_reaches standing v place new place.looked s w r within (there_is standing v found place r.room within at e) refl k

held_is : (new : Held) → new.looked ≡ None → new.written ≡ [] → new.unread ≡ [] → new ≡ record { session = new.session; looked = None; written = []; unread = [] }
held_is new looked written unread =
    let with_looked : Option ℕ → Held = λ o. record { session = new.session; looked = o; written = new.written; unread = new.unread } in
    let with_written : List ℕ → Held = λ b. record { session = new.session; looked = None; written = b; unread = new.unread } in
    let with_unread : List ℕ → Held = λ b. record { session = new.session; looked = None; written = []; unread = b } in
    ap with_looked looked ∙ (ap with_written written ∙ ap with_unread unread)

pub joined_reaches : (standing : Standing) (v : ℕ) (name : List ℕ) (runs : RectForm) (role : Role) (greet : Bool) (new : Held) → v < 65 → new.looked ≡ None → new.written ≡ [] → new.unread ≡ [] → new.session.asked.last ≡ None
    → ((s : Setup) → s.w ≡ standing.screen.width → s.h ≡ standing.screen.height → s.name ≡ name → s.form ≡ plain_form runs → s.host ≡ None → Stands s new.session (new_viewer role greet))
    → JoinsUnder name runs (Join v role greet) standing (with_place standing v new)
joined_reaches standing v name runs role greet new within looked written unread uncut stands s w named formed untold r =
    subst (λ h. Reached s (with_place standing v h) (happens s w (Join v role greet))) (sym (held_is new looked written unread))
    (reached_join s standing w v role greet new.session r within (stands s (sym r.width) (sym r.height) named formed untold) uncut)

-- What a cut asks for.
pub ready_there : (s : Setup) (standing : Standing) (w : World) (v : ℕ) (found : Option Held) (place : Held) → Reached s standing w → v < 65 → found ≡ slice_index_or standing.places v found → found ≡ Some place
    → (is_some place.looked ≡ true → is_ready place.session ≡ true) × (place.session.width ≡ standing.screen.width) × (place.session.height ≡ standing.screen.height)
ready_there s standing w v found place r within at e =
    let it = place_is_some (PlaceStands s w.shared.updates) (place_at standing.places v) (w.viewers v) place (r.places v) (there_is standing v found place r.room within at e) in
    let k = it.2 in
    (k.ready, k.session.serves.width ∙ sym r.width, k.session.serves.height ∙ sym r.height)

-- ---- a put, as the host and the screen say what they do

pub put_reaches : (old mid new : Standing) (patch : SizedUpdate) → mid ≡ with_host old mid.host → IsSameHost old.host mid.host → mid.host.waiting ≡ None → ReadsOn old.host mid.host (Ok (Some patch))
    → IsPut mid new patch.update → TakesStep Put old new
put_reaches old mid new patch is same none reads put s w r =
    let with_screen_of : Standing → Standing = λ standing. record standing { screen = new.screen } in
    let before : (standing : Standing) → Plain = λ standing. standing.screen in
    let at = ap before is in
    subst (λ n. Reached s n (happens s w Put)) (sym (put.others ∙ ap with_screen_of is))
    (reached_put s old w mid.host new.screen patch.update r same none (reads (ended_updates s.w s.h w.ended) w.host_bytes old.screen.updates r.host)
    (put.size.0 ∙ ap (λ (p : Plain). p.width) at) (put.size.1 ∙ ap (λ (p : Plain). p.height) at) (put.updates ∙ ap (λ (p : Plain). p.updates ++ patch.update ∷ []) at) (put.tally ∙ ap (λ (p : Plain). p.tally) at))

pub none_reaches : (standing : Standing) (host : HostSide) → IsSameHost standing.host host → ReadsOn standing.host host (Ok None) → TakesStep Put standing (record standing { host = host; host_fault = None })
none_reaches standing host same reads s w r =
    let out = reads (ended_updates s.w s.h w.ended) w.host_bytes standing.screen.updates r.host in
    reached_no_put s standing w host None r same (inr out.0) out.1

pub err_reaches : (standing : Standing) (host : HostSide) (fault : Fault) → IsSameHost standing.host host → (fault ≡ Memory → ⊥) → ReadsOn standing.host host (Err fault)
    → TakesStep Put standing (record standing { host = host; host_fault = Some fault })
err_reaches standing host fault same other reads s w r =
    let out = reads (ended_updates s.w s.h w.ended) w.host_bytes standing.screen.updates r.host in
    elim out.1 [
      | inl memory ↦ absurd (other memory)
      | inr read ↦ reached_no_put s standing w host (Some fault) r same out.0 read
    ]

-- ---- a next host

-- The world is as it was, and the host stands for the same.
pub host_stays : (s : Setup) (standing : Standing) (w : World) (host : HostSide) → Reached s standing w → IsSameHost standing.host host → HostStands (ended_updates s.w s.h w.ended) w.host_bytes standing.screen.updates host
    → Reached s (with_host standing host) w
host_stays s standing w host r same stands =
    record {
      size = r.size;
      plain = r.plain;
      width = r.width;
      height = r.height;
      in_order = r.in_order;
      updates = r.updates;
      tally = r.tally;
      host_width = same.width ∙ r.host_width;
      host_height = same.height ∙ r.host_height;
      host = stands;
      fault = r.fault;
      limit = r.limit;
      queue = r.queue;
      taken = r.taken;
      room = r.room;
      places = r.places;
    }

-- Memory was refused: what the fields stood for they stand for.
pub refused_stays : (standing : Standing) (host : HostSide) (fault : Fault) → IsSameHost standing.host host → ReadsOn standing.host host (Err fault) → StaysFor standing (with_host standing host)
refused_stays standing host fault same reads s w r = host_stays s standing w host r same (reads (ended_updates s.w s.h w.ended) w.host_bytes standing.screen.updates r.host).0

-- An update is left to be put: the host goes on.
pub next_waits : (standing : Standing) (mid host : HostSide) (patch : SizedUpdate) → IsSameHost standing.host mid → mid.waiting ≡ None → ReadsOn standing.host mid (Ok (Some patch)) → IsSameHost mid host
    → ((past : List Update) (bytes : List ℕ) (us : List Update) → HasReadTo past bytes (us ++ patch.update ∷ []) mid → HasReadTo past bytes us host) → TakesStep Next standing (with_host standing host)
next_waits standing mid host patch same none reads kept keeps s w r =
    let read = reads (ended_updates s.w s.h w.ended) w.host_bytes standing.screen.updates r.host in
    let next = comes_next s standing w mid patch.update r same none read in
    subst (λ o. Reached s (with_host standing host) (next_host w o (fault_now s w))) (sym (is_next s standing w mid (standing.screen.updates ++ patch.update ∷ []) r same next))
    (host_stays s standing w host r (record { width = kept.width ∙ same.width; height = kept.height ∙ same.height }) (inr (keeps (ended_updates s.w s.h w.ended) w.host_bytes standing.screen.updates read)))

-- Its bytes are at a fault: it goes on.
pub next_faulty : (standing : Standing) (host : HostSide) (fault : Fault) → IsSameHost standing.host host → (fault ≡ Memory → ⊥) → ReadsOn standing.host host (Err fault) → TakesStep Next standing (with_host standing host)
next_faulty standing host fault same other reads s w r =
    let out = reads (ended_updates s.w s.h w.ended) w.host_bytes standing.screen.updates r.host in
    elim out.1 [
      | inl memory ↦ absurd (other memory)
      | inr read ↦ (
          let at : fault_now s w ≡ Some fault = ap (λ f. fault_of (rest f w.host_bytes)) (form_is s standing w host r same) ∙ read.stands_at in
          subst (λ o. Reached s (with_host standing host) (next_host w o (fault_now s w))) (sym (none_next s standing w host (Some fault) r same read))
          (subst (λ o. Reached s (with_host standing host) (next_host w None o)) (sym at) (host_stays s standing w host r same out.0)))
    ]

-- None is left, and there is no fault: the next host begins.
pub next_reaches : (standing : Standing) (mid host : HostSide) → IsSameHost standing.host mid → ReadsOn standing.host mid (Ok None) → IsSameHost mid host → BeginsNext mid host → TakesStep Next standing (with_host standing host)
next_reaches standing mid host same reads switched begins s w r =
    let past : List Update = ended_updates s.w s.h w.ended in
    let out = reads past w.host_bytes standing.screen.updates r.host in
    let form = form_is s standing w mid r same in
    let at : fault_now s w ≡ None = ap (λ f. fault_of (rest f w.host_bytes)) form ∙ out.1.stands_at in
    let here = begins past w.host_bytes standing.screen.updates out.0 out.1 in
    let last : with_past past (form_of mid) w.host_bytes ++ switch mid.decoder.width mid.decoder.height ∷ [] ≡ ended_updates s.w s.h (w.ended ++ w.host_bytes ∷ []) =
    ap (λ f. with_past past f w.host_bytes ++ switch mid.decoder.width mid.decoder.height ∷ []) (sym form)
    ∙ (ap (λ n. updates_in_turn s.w s.h w.ended w.host_bytes ++ switch n mid.decoder.height ∷ []) (same.width ∙ r.host_width)
    ∙ (ap (λ n. updates_in_turn s.w s.h w.ended w.host_bytes ++ switch s.w n ∷ []) (same.height ∙ r.host_height) ∙ sym (ended-more s.w s.h w.ended w.host_bytes))) in
    subst (λ o. Reached s (with_host standing host) (next_host w o (fault_now s w))) (sym (none_next s standing w mid None r same out.1))
    (subst (λ o. Reached s (with_host standing host) (next_host w None o)) (sym at)
    (record {
      size = r.size;
      plain = r.plain;
      width = r.width;
      height = r.height;
      in_order = order_next s w r.in_order;
      updates = r.updates;
      tally = r.tally;
      host_width = switched.width ∙ (same.width ∙ r.host_width);
      host_height = switched.height ∙ (same.height ∙ r.host_height);
      host = inr (subst (λ (l : List Update). HasReadTo l [] standing.screen.updates host) last here);
      fault = r.fault;
      limit = r.limit;
      queue = r.queue;
      taken = r.taken;
      room = r.room;
      places = r.places;
    }))

-- ---- what is seen

pub shows_reached : (s : Setup) (standing : Standing) (w : World) → Reached s standing w → Shows s standing w
shows_reached s standing w r =
    record {
      size = r.size;
      width = r.width;
      height = r.height;
      updates = r.updates;
      fault = r.fault;
      taken = r.taken;
      room = r.room;
      places = λ v. place_seen s w.shared.updates (place_at standing.places v) (w.viewers v) (r.places v);
    }

pub leaves_stays : (old new : Standing) (fault : Fault) → StaysFor old new → Leaves old new fault
leaves_stays old new fault stays = (λ s w r. shows_reached s new w (stays s w r), λ out. stays)

pub leaves_same : (old new : Standing) (fault : Fault) → new ≡ old → Leaves old new fault
leaves_same old new fault same = leaves_stays old new fault (λ s w r. subst (λ (standing : Standing). Reached s standing w) (sym same) r)

pub leaves_seen : (old new : Standing) (fault : Fault) → fault ≡ Memory → StaysSeen old new → Leaves old new fault
leaves_seen old new fault memory seen = (seen, λ out. absurd (let never : Memory ≡ NumbersOut = sym memory ∙ out in cc))

-- A write was broken off.
pub broken_off : (standing : Standing) (v : ℕ) (found : Option Held) (place new : Held) → v < 65 → found ≡ slice_index_or standing.places v found → found ≡ Some place → IsBrokenOff place new → StaysSeen standing (with_place standing v new)
broken_off standing v found place new within at e broken s w r =
    let shown = shows_reached s standing w r in
    let it = place_is_some (PlaceShows s) (place_at standing.places v) (w.viewers v) place (shown.places v) (there_is standing v found place r.room within at e) in
    record {
      size = shown.size;
      width = shown.width;
      height = shown.height;
      updates = shown.updates;
      fault = shown.fault;
      taken = shown.taken;
      room = length-set standing.places v (Some new) ∙ shown.room;
      places = place_changed (PlaceShows s) standing.places w.viewers v new it.0 (omega (arith, shown.room)) shown.places it.1 (record { fault = broken.fault ∙ it.2.fault; written = broken.written ∙ it.2.written });
    }

-- A viewer joins, also where memory was refused before.
pub joined_shows : (standing : Standing) (v : ℕ) (name : List ℕ) (runs : RectForm) (role : Role) (greet : Bool) (new : Held) → v < 65 → new.written ≡ []
    → ((s : Setup) → s.w ≡ standing.screen.width → s.h ≡ standing.screen.height → s.name ≡ name → s.form ≡ plain_form runs → s.host ≡ None → Stands s new.session (new_viewer role greet))
    → ShowsUnder name runs (Join v role greet) standing (with_place standing v new)
joined_shows standing v name runs role greet new within written stands s w named formed untold shown =
    let stood : Stands s new.session (new_viewer role greet) = stands s (sym shown.width) (sym shown.height) named formed untold in
    record {
      size = shown.size;
      width = shown.width;
      height = shown.height;
      updates = shown.updates;
      fault = shown.fault;
      taken = shown.taken;
      room = length-set standing.places v (Some new) ∙ shown.room;
      places = places_set (PlaceShows s) standing.places w.viewers v new (new_viewer role greet) (omega (arith, shown.room)) shown.places (record { fault = fault_stands s new.session (new_viewer role greet) stood; written = written });
    }

-- ---- input

-- A place changed, and inputs went into the queue.
reached_queued : (s : Setup) (standing : Standing) (w : World) (relay : RelaySide) (more : List Relayed) (v : ℕ) (place : Held) (p : Viewer) → Reached s standing w → v < 65 → PlaceStands s w.shared.updates place p
    → relay.queue ≡ standing.relay.queue ++ more → relay.taken ≡ standing.relay.taken
    → Reached s (record (with_place standing v place) { relay = relay }) (set_viewer (record w { queue = w.queue ++ more }) v (Some p))
reached_queued s standing w relay more v place p r within good queue taken =
    let set = reached_set s standing w w.acts w.stays v place p r within good in
    record {
      size = set.size;
      plain = set.plain;
      width = set.width;
      height = set.height;
      in_order = set.in_order;
      updates = set.updates;
      tally = set.tally;
      host_width = set.host_width;
      host_height = set.host_height;
      host = set.host;
      fault = set.fault;
      limit = set.limit;
      queue = queue ∙ ap (λ q. q ++ more) r.queue;
      taken = taken ∙ r.taken;
      room = set.room;
      places = set.places;
    }

no_send : (s : Setup) (w : World) (v : ℕ) (p : Viewer) (o : Option Input) → nat_lt (length w.queue) s.room ≡ false → send_waiting s w v p o ≡ set_viewer w v (Some (record p { looked = None }))
no_send s w v p None full = refl
no_send s w v p (Some input) full =
    ap (λ (b : Bool). cond b (set_viewer (record w { queue = w.queue ++ record { viewer = v; input = input } ∷ [] }) v (Some (record p { looked = None; waiting = None }))) (set_viewer w v (Some (record p { looked = None })))) full

sends : (s : Setup) (w : World) (v : ℕ) (p : Viewer) (o : Option Input) (input : Input) → o ≡ Some input → nat_lt (length w.queue) s.room ≡ true
    → send_waiting s w v p o ≡ set_viewer (record w { queue = w.queue ++ record { viewer = v; input = input } ∷ [] }) v (Some (record p { looked = None; waiting = None }))
sends s w v p o input e room =
    ap (send_waiting s w v p) e
    ∙ ap (λ (b : Bool). cond b (set_viewer (record w { queue = w.queue ++ record { viewer = v; input = input } ∷ [] }) v (Some (record p { looked = None; waiting = None }))) (set_viewer w v (Some (record p { looked = None })))) room

room_is : (s : Setup) (standing : Standing) (w : World) (b : Bool) → Reached s standing w → nat_lt (length standing.relay.queue) standing.room ≡ b → nat_lt (length w.queue) s.room ≡ b
room_is s standing w b r e = ap (λ (q : List Relayed). nat_lt (length q) s.room) (sym r.queue) ∙ (ap (λ n. nat_lt (length standing.relay.queue) n) (sym r.limit) ∙ e)

-- There is no room.
pub held_back : (standing : Standing) (v : ℕ) (found : Option Held) (place new : Held) → v < 65 → found ≡ slice_index_or standing.places v found → found ≡ Some place → nat_lt (length standing.relay.queue) standing.room ≡ false
    → new ≡ record place { looked = None } → TakesStep (Send v) standing (with_place standing v new)
held_back standing v found place new within at e full is s w r =
    let there : place_at standing.places v ≡ Some place = there_is standing v found place r.room within at e in
    subst (λ h. Reached s (with_place standing v h) (happens s w (Send v))) (sym is)
    (reached_for s standing _ w v place _ r there
    (λ p k.
    subst (λ after. Reached s (with_place standing v (record place { looked = None })) after) (sym (no_send s w v p p.waiting (room_is s standing w false r full)))
    (reached_set s standing w w.acts w.stays v (record place { looked = None }) (record p { looked = None }) r within
    (place_stays s w.shared.updates place place.session p k (stands_without_look s place.session (at_rest p) k.session) k.counted))))

-- There is, and an input waits.
pub sent_reaches : (standing : Standing) (v : ℕ) (found : Option Held) (place new : Held) (input : Input) (relay : RelaySide) → v < 65 → found ≡ slice_index_or standing.places v found → found ≡ Some place
    → nat_lt (length standing.relay.queue) standing.room ≡ true → place.session.waiting ≡ Some input → HasSent place new
    → relay.queue ≡ standing.relay.queue ++ record { viewer = v; input = input } ∷ [] → relay.taken ≡ standing.relay.taken
    → TakesStep (Send v) standing (record (with_place standing v new) { relay = relay })
sent_reaches standing v found place new input relay within at e room waits sent queue taken s w r =
    let there : place_at standing.places v ≡ Some place = there_is standing v found place r.room within at e in
    subst (λ h. Reached s (record (with_place standing v h) { relay = relay }) (happens s w (Send v))) (sym sent.others)
    (reached_for s standing _ w v place _ r there
    (λ p k.
    subst (λ after. Reached s (record (with_place standing v (with_session place new.session)) { relay = relay }) after) (sym (sends s w v p p.waiting input (k.session.relays.waiting ∙ waits) (room_is s standing w true r room)))
    (reached_queued s standing w relay (record { viewer = v; input = input } ∷ []) v (with_session place new.session) (record p { looked = None; waiting = None }) r within
    (place_sent s w.shared.updates place new.session p k (sent.stands s (at_rest p) k.session) (sent.counted w.shared.updates k.counted)) queue taken)))

-- None waits.
pub none_reaches_host : (standing : Standing) (v : ℕ) (found : Option Held) (place new : Held) (relay : RelaySide) → v < 65 → found ≡ slice_index_or standing.places v found → found ≡ Some place
    → place.session.waiting ≡ None → HasSent place new → relay.queue ≡ standing.relay.queue → relay.taken ≡ standing.relay.taken
    → TakesStep (Send v) standing (record (with_place standing v new) { relay = relay })
none_reaches_host standing v found place new relay within at e none sent queue taken s w r =
    let there : place_at standing.places v ≡ Some place = there_is standing v found place r.room within at e in
    let next : Standing = record (with_place standing v (with_session place new.session)) { relay = relay } in
    subst (λ h. Reached s (record (with_place standing v h) { relay = relay }) (happens s w (Send v))) (sym sent.others)
    (reached_for s standing _ w v place _ r there
    (λ p k.
    let nothing : p.waiting ≡ None = k.session.relays.waiting ∙ none in
    let good = place_sent s w.shared.updates place new.session p k (sent.stands s (at_rest p) k.session) (sent.counted w.shared.updates k.counted) in
    let queued = reached_queued s standing w relay [] v (with_session place new.session) (record p { looked = None; waiting = None }) r within good (queue ∙ sym (append-nil standing.relay.queue)) taken in
    subst (λ after. Reached s next after) (sym (ap (send_waiting s w v p) nothing))
    (subst (λ (o : Option Input). Reached s next (set_viewer w v (Some (record p { looked = None; waiting = o })))) (sym nothing)
    (subst (λ (q : List Relayed). Reached s next (set_viewer (record w { queue = q }) v (Some (record p { looked = None; waiting = None })))) (append-nil w.queue) queued))))

-- The first of the queue was taken, if there was one.
take_reached : (s : Setup) (standing : Standing) (w : World) (relay : RelaySide) (queue : List Relayed) → w.queue ≡ queue → takes_from queue w.taken relay.queue relay.taken
    → Reached s standing w → Reached s (record standing { relay = relay }) (take_first w queue)
take_reached s standing w relay [] e took r =
    record {
      size = r.size;
      plain = r.plain;
      width = r.width;
      height = r.height;
      in_order = r.in_order;
      updates = r.updates;
      tally = r.tally;
      host_width = r.host_width;
      host_height = r.host_height;
      host = r.host;
      fault = r.fault;
      limit = r.limit;
      queue = took.0 ∙ sym e;
      taken = took.1;
      room = r.room;
      places = r.places;
    }
take_reached s standing w relay (first ∷ left) e took r =
    record {
      size = r.size;
      plain = r.plain;
      width = r.width;
      height = r.height;
      in_order = r.in_order;
      updates = r.updates;
      tally = r.tally;
      host_width = r.host_width;
      host_height = r.host_height;
      host = r.host;
      fault = r.fault;
      limit = r.limit;
      queue = took.0;
      taken = took.1;
      room = r.room;
      places = r.places;
    }

pub takes_reaches : (standing : Standing) (relay : RelaySide) → TakesFirst standing.relay relay → TakesStep Take standing (record standing { relay = relay })
takes_reaches standing relay took s w r =
    take_reached s standing w relay w.queue refl
    (subst (λ (q : List Relayed). takes_from q w.taken relay.queue relay.taken) r.queue
    (subst (λ (t : List Relayed). takes_from standing.relay.queue t relay.queue relay.taken) r.taken took)) r

-- Memory was refused, and the place is as it was.
pub same_seen : (standing : Standing) (v : ℕ) (found : Option Held) (place new : Held) → v < 65 → found ≡ slice_index_or standing.places v found → found ≡ Some place → new ≡ place → StaysSeen standing (with_place standing v new)
same_seen standing v found place new within at e is s w r =
    subst (λ h. Shows s (with_place standing v h) w) (sym is) (shows_reached s (with_place standing v place) w (same_placed s standing w v place r within (there_is standing v found place r.room within at e)))
