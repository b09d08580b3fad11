-- A viewer leaves: what goes into the queue, and what stands in the fields then. `World::leave` owes that nothing which
-- it held is lost where there is room.
use Rattle.std.proofs.Common.{◌≡◌, ℕ, suc, zero, ◌-◌, ◌<◌, ◌≤◌, Bool, true, false, cond, List, [], ◌∷◌, ◌++◌, length, take, Option, Some, None, refl, ap, sym, ◌∙◌, subst, arith, append-nil, append_assoc, length-append}
use Rattle.std.specs.Prelude.{slice_index_or, slice_set, ◌==◌}
use Rattle.std.proofs.lemmas.Bool.{eqb-true, eqb-false}
use Rattle.std.proofs.lemmas.List.{get_or-set_same, get_or-set_other, length-set}
use Rattle.roles.specs.Allowed.{Input}
use Rattle.roles.specs.Held.{left_in}
use Rattle.viewer_session.specs.Session.{at_rest}
use Rattle.viewer_session.specs.Viewer.{Setup, Viewer}
use Rattle.viewer_session.proofs.SessionLaws.{releases_are}
use Rattle.reflect_world.specs.Relay.{RelaySide, relayed_of}
use Rattle.reflect_world.specs.Schedule.{World, Relayed, Leave, for_viewer, leaves_behind, set_viewer}
use Rattle.reflect_world.specs.World.{Held, PlaceBy, PlaceShows, PlaceStands, Reached, Shows, ShowsStep, Standing, TakesStep, left_by, place_at}
use Rattle.reflect_world.proofs.Places.{place_is_some}
use Rattle.reflect_world.proofs.Reaching.{reached_for, there_is}
use Rattle.viewer_session.specs.Acts.{waiting_list}

-- ---- the queue

one_pushed : (queue : List Relayed) (x : Relayed) (xs : List Relayed) (room : ℕ) → length queue < room
    → (queue ++ x ∷ []) ++ take (room - length (queue ++ x ∷ [])) xs ≡ queue ++ take (room - length queue) (x ∷ xs)
one_pushed queue x xs room lt =
    let n : ℕ = room - length (queue ++ x ∷ []) in
    let less : room - length queue ≡ suc n = omega (arith, lt, length-append queue (x ∷ [])) in
    append_assoc queue (x ∷ []) (take n xs) ∙ ap (λ k. queue ++ take k (x ∷ xs)) (sym less)

-- One more went into the queue, and the same is to come of all.
pub pushed_more : (v room : ℕ) (queue more : List Relayed) (input : Input) (left less : List Input) (all : List Relayed) → length queue < room → left ≡ input ∷ less
    → more ≡ queue ++ record { viewer = v; input = input } ∷ []
    → queue ++ take (room - length queue) (relayed_of v left) ≡ all → more ++ take (room - length more) (relayed_of v less) ≡ all
pushed_more v room queue more input left less all lt is pushed e =
    ap (λ (q : List Relayed). q ++ take (room - length q) (relayed_of v less)) pushed
    ∙ (one_pushed queue (record { viewer = v; input = input }) (relayed_of v less) room lt ∙ (ap (λ (l : List Input). queue ++ take (room - length queue) (relayed_of v l)) (sym is) ∙ e))

take_of_none : (k : ℕ) → take k (relayed_of 0 []) ≡ []
take_of_none zero = refl
take_of_none (suc k) = refl

-- None is left.
pub all_pushed : (v room : ℕ) (queue : List Relayed) (left : List Input) (all : List Relayed) → left ≡ [] → queue ++ take (room - length queue) (relayed_of v left) ≡ all → queue ≡ all
all_pushed v room queue left all none e =
    sym (append-nil queue) ∙ (ap (λ q. queue ++ q) (sym (take_of_none (room - length queue))) ∙ (ap (λ (l : List Input). queue ++ take (room - length queue) (relayed_of v l)) (sym none) ∙ e))

-- There is no more room.
pub no_more_room : (v room : ℕ) (queue : List Relayed) (left : List Input) (all : List Relayed) → room ≤ length queue → queue ++ take (room - length queue) (relayed_of v left) ≡ all → queue ≡ all
no_more_room v room queue left all full e =
    let none : 0 ≡ room - length queue = omega (arith, full) in
    sym (append-nil queue) ∙ (ap (λ k. queue ++ take k (relayed_of v left)) none ∙ e)

-- ---- the place

abbrev pub without_viewer : Standing → ℕ → Held → RelaySide → Standing
without_viewer standing v gone relay = record standing { places = slice_set (slice_set standing.places v (Some gone)) v None; relay = relay }

places_unset_if : (P : Held → Viewer → Type 0) (places : List (Option Held)) (viewers : ℕ → Option Viewer) (v u : ℕ) (gone : Held) (is : Bool) → (u == v) ≡ is → v < length places
    → PlaceBy P (place_at places u) (viewers u)
    → PlaceBy P (place_at (slice_set (slice_set places v (Some gone)) v None) u) (cond is None (viewers u))
places_unset_if P places viewers v u gone true is room k =
    let same : u ≡ v = eqb-true u v is in
    let placed : List (Option Held) = slice_set places v (Some gone) in
    subst (λ (o : Option Held). PlaceBy P o None) (sym (ap (place_at (slice_set placed v None)) same ∙ get_or-set_same placed v None None (omega (arith, room, length-set places v (Some gone))))) tt
places_unset_if P places viewers v u gone false is room k =
    let other = eqb-false u v is in
    subst (λ (o : Option Held). PlaceBy P o (viewers u)) (sym (get_or-set_other (slice_set places v (Some gone)) v u None None other ∙ get_or-set_other places v u (Some gone) None other)) k

places_unset : (P : Held → Viewer → Type 0) (places : List (Option Held)) (viewers : ℕ → Option Viewer) (v : ℕ) (gone : Held) → v < length places
    → ((u : ℕ) → PlaceBy P (place_at places u) (viewers u))
    → (u : ℕ) → PlaceBy P (place_at (slice_set (slice_set places v (Some gone)) v None) u) (cond (u == v) None (viewers u))
places_unset P places viewers v gone room k u = places_unset_if P places viewers v u gone (u == v) refl room (k u)

still_all : (places : List (Option Held)) (v : ℕ) (gone : Held) → length (slice_set (slice_set places v (Some gone)) v None) ≡ length places
still_all places v gone = length-set (slice_set places v (Some gone)) v None ∙ length-set places v (Some gone)

left_is : (s : Setup) (standing : Standing) (w : World) (v : ℕ) (place : Held) (p : Viewer) → Reached s standing w → PlaceStands s w.shared.updates place p → relayed_of v (left_by place) ≡ leaves_behind v p
left_is s standing w v place p r k =
    ap (λ (o : Option Input). relayed_of v (waiting_list o ++ left_in place.session.held)) (sym k.session.relays.waiting)
    ∙ ap (λ (l : List Input). relayed_of v (waiting_list p.waiting ++ l))
    (releases_are place.session s (at_rest p) k.session)

queue_is : (s : Setup) (standing : Standing) (w : World) (v : ℕ) (place : Held) (p : Viewer) → Reached s standing w → PlaceStands s w.shared.updates place p
    → standing.relay.queue ++ take (standing.room - length standing.relay.queue) (relayed_of v (left_by place)) ≡ w.queue ++ take (s.room - length w.queue) (leaves_behind v p)
queue_is s standing w v place p r k =
    ap (λ (q : List Relayed). q ++ take (standing.room - length q) (relayed_of v (left_by place))) r.queue
    ∙ (ap (λ n. w.queue ++ take (n - length w.queue) (relayed_of v (left_by place))) r.limit ∙ ap (λ (l : List Relayed). w.queue ++ take (s.room - length w.queue) l) (left_is s standing w v place p r k))

pub without_reaches : (standing : Standing) (v : ℕ) (found : Option Held) (place gone : Held) (relay : RelaySide) → v < 65 → found ≡ slice_index_or standing.places v found → found ≡ Some place
    → relay.queue ≡ standing.relay.queue ++ take (standing.room - length standing.relay.queue) (relayed_of v (left_by place)) → relay.taken ≡ standing.relay.taken
    → TakesStep (Leave v) standing (without_viewer standing v gone relay)
without_reaches standing v found place gone relay within at e queue taken s w r =
    reached_for s standing _ w v place _ r (there_is standing v found place r.room within at e)
    (λ p k. record {
      size = r.size;
      plain = r.plain;
      width = r.width;
      height = r.height;
      in_order = r.in_order;
      updates = r.updates;
      tally = r.tally;
      host_width = r.host_width;
      host_height = r.host_height;
      host = r.host;
      fault = r.fault;
      limit = r.limit;
      queue = queue ∙ queue_is s standing w v place p r k;
      taken = taken ∙ r.taken;
      room = still_all standing.places v gone ∙ r.room;
      places = places_unset (PlaceStands s w.shared.updates) standing.places w.viewers v gone (omega (arith, within, r.room)) r.places;
    })

-- Also where memory was refused before.
pub without_shows : (standing : Standing) (v : ℕ) (found : Option Held) (place gone : Held) (relay : RelaySide) → v < 65 → found ≡ slice_index_or standing.places v found → found ≡ Some place
    → relay.taken ≡ standing.relay.taken → ShowsStep (Leave v) standing (without_viewer standing v gone relay)
without_shows standing v found place gone relay within at e taken s w shown =
    let it = place_is_some (PlaceShows s) (place_at standing.places v) (w.viewers v) place (shown.places v) (there_is standing v found place shown.room within at e) in
    subst
    (λ (o : Option Viewer). Shows s (without_viewer standing v gone relay) (for_viewer w o (λ p. set_viewer (record w { queue = w.queue ++ take (s.room - length w.queue) (leaves_behind v p) }) v None)))
    (sym it.1)
    (record {
      size = shown.size;
      width = shown.width;
      height = shown.height;
      updates = shown.updates;
      fault = shown.fault;
      taken = taken ∙ shown.taken;
      room = still_all standing.places v gone ∙ shown.room;
      places = places_unset (PlaceShows s) standing.places w.viewers v gone (omega (arith, within, shown.room)) shown.places;
    })
