-- A world and its schedule. `play` keeps that the fields stand for the schedule.
use Rattle.std.proofs.Common.{◌≡◌, ℕ, ◌+◌, ◌<◌, ◌≤◌, List, [], ◌∷◌, ◌++◌, length, take, Some, refl, ap, sym, ◌∙◌, subst, arith, append_assoc, inl, inr, Bool, true, false, length-append, Option}
use Rattle.std.specs.Prelude.{map, slice_get, slice_index_or}
use Rattle.std.specs.Option.{option_to_list}
use Rattle.std.proofs.Math.Seq.{take-append_seam}
use Rattle.std.proofs.lemmas.List.{get_or-map, length-map, map-append, take_more}
use Rattle.std.proofs.lemmas.Option.{slice_get-get_or}
use Rattle.fault.specs.declared.kinds.Fault.{Fault}
use Rattle.fault.specs.declared.kinds.Fault.TheVariants.{Memory, NumbersOut}
use Rattle.raster.specs.Size.{IsScreenSize}
use Rattle.reflect_world.specs.Schedule.{Step, World}
use Rattle.reflect_world.specs.World.{IsFaithful, IsServed, IsKept, IsRefusal, JoinsUnder, Kept, Leaves, Reached, Shows, ShowsUnder, Standing, StopsAt, entry_of, setup_of, step_of, step_with, unmarked, with_steps, world_of}
use Rattle.reflect_world.specs.declared.step.ScheduleEntry.{ScheduleEntry}
use Rattle.reflect_world.specs.declared.step.Step as declared
use Rattle.reflect_world.specs.declared.step.Step.TheVariants as code
use Rattle.reflect_world.proofs.InputLaws.{relays_allowed}
use Rattle.reflect_world.proofs.Holds.{in_every_schedule}
use Rattle.reflect_world.proofs.Reaching.{play-more, shows_reached}
use Rattle.reflect_world.proofs.Told.{told_in_every_schedule}

kept_more : (k : Kept) (old new : Standing) (e : Step) → IsKept k old → k.is_refused ≡ false → JoinsUnder k.name k.runs e old new → IsKept (with_steps k (e ∷ [])) new
kept_more k old new e kept fine takes =
    let now : Reached (setup_of k) new (world_of (with_steps k (e ∷ []))) =
    subst (λ w. Reached (setup_of k) new w) (sym (play-more (setup_of k) k.steps e)) (takes (setup_of k) (world_of k) refl refl refl (kept.reached fine)) in
    record { named = kept.named; shows = shows_reached (setup_of k) new (world_of (with_steps k (e ∷ []))) now; reached = λ no. now }

-- An entry was pushed, and its step was taken.
pub kept_pushed : (k : Kept) (entries more : List ScheduleEntry) (entry : ScheduleEntry) (old new : Standing) → IsKept (record k { steps = map entry_of entries }) old → k.is_refused ≡ false → more ≡ entries ++ entry ∷ []
    → JoinsUnder k.name k.runs (entry_of entry) old new → IsKept (record k { steps = map entry_of more }) new
kept_pushed k entries more entry old new kept fine pushed takes =
    let steps : map entry_of more ≡ map entry_of entries ++ entry_of entry ∷ [] = ap (map entry_of) pushed ∙ map-append entry_of entries (entry ∷ []) in
    subst (λ (es : List Step). IsKept (record k { steps = es }) new) (sym steps) (kept_more (record k { steps = map entry_of entries }) old new (entry_of entry) kept fine takes)

-- The same of a viewer that joins, which it may do though memory was refused.
kept_joined_by : (k : Kept) (old new : Standing) (e : Step) → IsKept k old → JoinsUnder k.name k.runs e old new → ShowsUnder k.name k.runs e old new → IsKept (with_steps k (e ∷ [])) new
kept_joined_by k old new e kept takes shows =
    let more = sym (play-more (setup_of k) k.steps e) in
    record {
      named = kept.named;
      shows = subst (λ w. Shows (setup_of k) new w) more (shows (setup_of k) (world_of k) refl refl refl kept.shows);
      reached = λ fine. subst (λ w. Reached (setup_of k) new w) more (takes (setup_of k) (world_of k) refl refl refl (kept.reached fine));
    }

pub kept_joined : (k : Kept) (entries more : List ScheduleEntry) (entry : ScheduleEntry) (old new : Standing) → IsKept (record k { steps = map entry_of entries }) old → more ≡ entries ++ entry ∷ []
    → JoinsUnder k.name k.runs (entry_of entry) old new → ShowsUnder k.name k.runs (entry_of entry) old new → IsKept (record k { steps = map entry_of more }) new
kept_joined k entries more entry old new kept pushed takes shows =
    let steps : map entry_of more ≡ map entry_of entries ++ entry_of entry ∷ [] = ap (map entry_of) pushed ∙ map-append entry_of entries (entry ∷ []) in
    subst (λ (es : List Step). IsKept (record k { steps = es }) new) (sym steps) (kept_joined_by (record k { steps = map entry_of entries }) old new (entry_of entry) kept takes shows)

-- Memory was refused, and nothing else changed.
pub kept_refused : (k : Kept) (standing : Standing) → IsKept k standing → IsKept (record k { is_refused = true }) standing
kept_refused k standing kept = record { named = kept.named; shows = kept.shows; reached = λ no. absurd cc }

-- What is left when the last was taken off again.
last_off : (entries left : List ScheduleEntry) (entry taken_off : ScheduleEntry) → entries ++ entry ∷ [] ≡ left ++ taken_off ∷ [] → left ≡ entries
last_off entries left entry taken_off same =
    let count : length left ≡ length entries = omega (arith, ap length same, length-append entries (entry ∷ []), length-append left (taken_off ∷ [])) in
    sym (take-append_seam left (taken_off ∷ []))
    ∙ (ap (take (length left)) (sym same) ∙ (ap (λ n. take n (entries ++ entry ∷ [])) count ∙ take-append_seam entries (entry ∷ [])))

pub pushed_and_popped : (entries more left : List ScheduleEntry) (entry taken_off : ScheduleEntry) (popped : Option ScheduleEntry) → more ≡ entries ++ entry ∷ [] → more ≡ left ++ option_to_list popped → popped ≡ Some taken_off → left ≡ entries
pushed_and_popped entries more left entry taken_off popped pushed was is = last_off entries left entry taken_off (sym pushed ∙ (was ∙ ap (λ o. left ++ option_to_list o) is))

-- A step wasn't taken, and the entries are as before.
pub kept_stays : (k : Kept) (entries left : List ScheduleEntry) (is_refused : Bool) (fault : Fault) (old new : Standing) → IsKept (record k { steps = map entry_of entries }) old → k.is_refused ≡ false → left ≡ entries
    → Leaves old new fault → (is_refused ≡ false → fault ≡ NumbersOut) → IsKept (record k { steps = map entry_of left; is_refused = is_refused }) new
kept_stays k entries left is_refused fault old new kept fine same leaves out =
    let w : World = world_of (record k { steps = map entry_of entries }) in
    let as_before : IsKept (record k { steps = map entry_of entries; is_refused = is_refused }) new =
    record { named = kept.named; shows = leaves.0 (setup_of k) w (kept.reached fine); reached = λ no. leaves.1 (out no) (setup_of k) w (kept.reached fine) } in
    subst (λ (es : List ScheduleEntry). IsKept (record k { steps = map entry_of es; is_refused = is_refused }) new) (sym same) as_before

-- What isn't refused for want of memory is for want of numbers.
pub out_of_numbers : (e : Step) (standing : Standing) (fault : Fault) → IsRefusal e standing fault → (fault ≡ Memory → ⊥) → fault ≡ NumbersOut
out_of_numbers e standing fault (inl memory) other = absurd (other memory)
out_of_numbers e standing fault (inr out) other = out.0

-- ---- the headline

is_served : (k : Kept) → IsScreenSize k.width k.height → (es : List Step) → IsServed (setup_of k) es
is_served k size es =
    let wide : k.width ≤ 4096 = omega (arith, size.wide.1) in
    let high : k.height ≤ 4096 = omega (arith, size.high.1) in
    let told = told_in_every_schedule (setup_of k) wide high es in
    record { holds = in_every_schedule (setup_of k) wide high es; in_order = told.0; said = told.1; read = told.2; written = told.3; relayed = relays_allowed (setup_of k) es }

pub is_faithful : (k : Kept) → IsScreenSize k.width k.height → IsFaithful k
is_faithful k size before after split = is_served k size before

same_size : (old new : Kept) → new.width ≡ old.width → new.height ≡ old.height → IsScreenSize old.width old.height → IsScreenSize new.width new.height
same_size old new w h size = rw (w, h) size

-- A world with more steps, or with a step refused, is of the same size.
pub size_at : (old new : Kept) (e : Step) (fault : Fault) → IsScreenSize old.width old.height → StopsAt old new e fault → IsScreenSize new.width new.height
size_at old new e fault size (inl p) = same_size old new (ap (λ (k : Kept). k.width) p.1) (ap (λ (k : Kept). k.height) p.1) size
size_at old new e fault size (inr p) = same_size old new (ap (λ (k : Kept). k.width) p.3) (ap (λ (k : Kept). k.height) p.3) size

pub size_with : (old now : Kept) (es : List Step) → now ≡ with_steps old es → IsScreenSize old.width old.height → IsScreenSize now.width now.height
size_with old now es is size = same_size old now (ap (λ (k : Kept). k.width) is) (ap (λ (k : Kept). k.height) is) size

-- ---- steps played one after another

pub played_more : (old now next : Kept) (es played : List Step) (k : ℕ) (x e : Step) → map unmarked played ≡ take k es → now ≡ with_steps old played → k < length es → slice_index_or es k x ≡ x → unmarked e ≡ x → next ≡ with_steps now (e ∷ [])
    → (map unmarked (played ++ e ∷ []) ≡ take (k + 1) es) × (next ≡ with_steps old (played ++ e ∷ []))
played_more old now next es played k x e so_far is room at bare one = (
  map-append unmarked played (e ∷ []) ∙ (ap (λ xs. xs ++ unmarked e ∷ []) so_far ∙ (ap (λ t. take k es ++ t ∷ []) (bare ∙ sym at) ∙ sym (take_more es k x room))),
  one ∙ ap (λ (w : Kept). with_steps w (e ∷ [])) is ∙ ap (λ (more : List Step). record old { steps = more }) (append_assoc old.steps played (e ∷ [])),
)

-- A step with its marks, without them.
pub unmarked_with : (step : declared.Step) (lost : List Bool) → unmarked (step_with step lost) ≡ step_of step
unmarked_with (code.HostBytes bytes) lost = refl
unmarked_with code.Put lost = refl
unmarked_with code.Raise lost = refl
unmarked_with code.Next lost = refl
unmarked_with (code.Bytes viewer bytes) lost = refl
unmarked_with (code.Look viewer) lost = refl
unmarked_with (code.Cut viewer) lost = refl
unmarked_with (code.Written viewer count) lost = refl
unmarked_with (code.Send viewer) lost = refl
unmarked_with code.Take lost = refl

-- The steps of entries with one more.
pub steps_pushed : (entries more : List ScheduleEntry) (entry : ScheduleEntry) → more ≡ entries ++ entry ∷ [] → map entry_of more ≡ map entry_of entries ++ entry_of entry ∷ []
steps_pushed entries more entry pushed = ap (map entry_of) pushed ∙ map-append entry_of entries (entry ∷ [])

-- The step at a place, and its definitional step there.
pub step_at : (steps : List declared.Step) (k : ℕ) (step : declared.Step) → k < length steps → step ≡ slice_index_or steps k step
    → (k < length (map step_of steps)) × (slice_index_or (map step_of steps) k (step_of step) ≡ step_of step) × (slice_get (map step_of steps) k ≡ Some (step_of step))
step_at steps k step room at =
    let within : k < length (map step_of steps) = omega (arith, length-map steps step_of) in
    let there : slice_index_or (map step_of steps) k (step_of step) ≡ step_of step = get_or-map step_of steps k step (step_of step) room ∙ ap step_of (sym at) in
    (within, there, slice_get-get_or (map step_of steps) k (step_of step) within ∙ ap Some there)
