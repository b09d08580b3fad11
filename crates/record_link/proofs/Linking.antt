-- What a link to a recorder keeps, whatever is taken and given.
use Rattle.std.proofs.Common.{◌≡◌, ℕ, ◌+◌, ◌≤◌, Bool, true, false, not, inl, inr, ◌⊎◌, List, [], ◌∷◌, ◌++◌, length, take, drop, map, Option, None, Some, refl, sym, ap, subst, ◌∙◌, arith, append_assoc, append-nil, length-append}
use Rattle.std.specs.Prelude.{count_by, cond}
use Rattle.std.proofs.lemmas.List.Sums.{sum_by-append}
use Rattle.std.proofs.lemmas.List.{map-append, take-append-drop, drop_all}
use Rattle.std.proofs.Math.Seq.{take-append_seam}
use Rattle.byte_reading.specs.Reading.{Reading, after, taken, whole_of, wants_more}
use Rattle.byte_reading.proofs.ReadingLaws.{done_from, after-append, after-taken, after-stays, taken-stays, taken-open}
use Rattle.recording.specs.Waiting.{stamp}
use Rattle.rfb_wire.specs.Handshake.{Joined, host_hello, said_to_host}
use Rattle.rfb_wire.specs.Joining.{ahead}
use Rattle.link.specs.Links.{LinkState}
use Rattle.link.proofs.Sizes.{joined_size, size_most}
use Rattle.record_link.specs.Growing.{Growing, IsKept, IsIndexed, recorded_in, key_points}
use Rattle.record_link.specs.Talking.{Talk, Stands, IsSaying, BeginsWhole, told_to, told_by_now, said_after}
use Rattle.record_link.specs.Linked.{Linked, IsLinked, IsCarried, bytes_of, state_of}
use Rattle.record_link.proofs.Talked.{heard_whole}

-- ---- bytes without their times

unstamped : (time : ℕ) (bytes : List ℕ) → map (λ (p : ℕ × ℕ). p.0) (stamp time bytes) ≡ bytes
unstamped time [] = refl
unstamped time (b ∷ bytes) = ap (λ (xs : List ℕ). b ∷ xs) (unstamped time bytes)

bytes_more : (old : List (ℕ × ℕ)) (time : ℕ) (bytes : List ℕ) → bytes_of (old ++ stamp time bytes) ≡ bytes_of old ++ bytes
unfolding bytes_of
bytes_more old time bytes = map-append (λ (p : ℕ × ℕ). p.0) old (stamp time bytes) ∙ ap (λ (xs : List ℕ). map (λ (p : ℕ × ℕ). p.0) old ++ xs) (unstamped time bytes)

bytes_none : bytes_of [] ≡ []
unfolding bytes_of
bytes_none = refl

-- ---- what a link has taken and given

abbrev link_of : List ℕ → List ℕ → ℕ → LinkState
link_of said bytes failed = record { taken = said; given = bytes; failed = failed; ended = 0 }

state_is : (l : Linked) (said bytes : List ℕ) (failed : ℕ) → l.talk.taken ≡ said → bytes_of (recorded_in l.growing) ≡ bytes → l.failed ≡ failed → state_of l ≡ link_of said bytes failed
state_is l said bytes failed t g f =
    ap (λ (xs : List ℕ). link_of xs (bytes_of (recorded_in l.growing)) l.failed) t
    ∙ (ap (λ (xs : List ℕ). link_of said xs l.failed) g ∙ ap (λ (n : ℕ). link_of said bytes n) f)

pub state_begins : (l : Linked) → l.talk.taken ≡ [] → recorded_in l.growing ≡ [] → l.failed ≡ 0 → state_of l ≡ record { taken = []; given = []; failed = 0; ended = 0 }
state_begins l t r f = state_is l [] [] 0 t (ap bytes_of r ∙ bytes_none) f

pub state_same : (old new : Linked) → new.talk.taken ≡ old.talk.taken → recorded_in new.growing ≡ recorded_in old.growing → new.failed ≡ old.failed → state_of new ≡ state_of old
state_same old new t r f = state_is new old.talk.taken (bytes_of (recorded_in old.growing)) old.failed t (ap bytes_of r) f

pub state_gives : (old new : Linked) (time : ℕ) (bytes : List ℕ) → new.talk.taken ≡ old.talk.taken → recorded_in new.growing ≡ recorded_in old.growing ++ stamp time bytes → new.failed ≡ old.failed → state_of new ≡ record (state_of old) { given = (state_of old).given ++ bytes }
state_gives old new time bytes t r f = state_is new old.talk.taken (bytes_of (recorded_in old.growing) ++ bytes) old.failed t (ap bytes_of r ∙ bytes_more (recorded_in old.growing) time bytes) f

pub state_takes : (old new : Linked) (bytes : List ℕ) → new.talk.taken ≡ old.talk.taken ++ bytes → new.growing ≡ old.growing → new.failed ≡ old.failed → state_of new ≡ record (state_of old) { taken = (state_of old).taken ++ bytes }
state_takes old new bytes t g f = state_is new (old.talk.taken ++ bytes) (bytes_of (recorded_in old.growing)) old.failed t (ap (λ (x : Growing). bytes_of (recorded_in x)) g) f

-- ---- a link begins

pub begins_linked : (l : Linked) → recorded_in l.growing ≡ [] → key_points l.growing ≡ [] → IsSaying l.talk [] [] → IsLinked l
begins_linked l r points says =
    record { heard = []; later = []; parts = ap bytes_of r ∙ bytes_none; past = inl refl; kinds = []; says = says; keys = omega (arith, ap length points) }

-- ---- the recorder says something

-- It says what it has said, in a further step.
past_stays : (old new : Talk) (heard later : List ℕ) (kinds others : List Bool) → IsSaying old heard kinds → IsSaying new heard others → (later ≡ []) ⊎ (wants_more (ahead old.hello) ≡ false) → (later ≡ []) ⊎ (wants_more (ahead new.hello) ≡ false)
past_stays old new heard later kinds others h k (inl none) = inl none
past_stays old new heard later kinds others h k (inr off) = inr (ap wants_more (sym (heard_whole new heard others k) ∙ heard_whole old heard kinds h) ∙ off)

pub says_linked : (old new : Linked) → new.growing ≡ old.growing → ((heard : List ℕ) (kinds : List Bool) → IsSaying old.talk heard kinds → IsSaying new.talk heard kinds) → IsLinked old → IsLinked new
says_linked old new growing says h =
    let k : IsSaying new.talk h.heard h.kinds = says h.heard h.kinds h.says in
    record {
      heard = h.heard;
      later = h.later;
      parts = ap (λ (g : Growing). bytes_of (recorded_in g)) growing ∙ h.parts;
      past = past_stays old.talk new.talk h.heard h.later h.kinds h.kinds h.says k h.past;
      kinds = h.kinds;
      says = k;
      keys = omega (arith, ap (λ (g : Growing). length (key_points g)) growing, h.keys);
    }

whole_more : (kinds : List Bool) → count_by not (kinds ++ false ∷ []) ≡ count_by not kinds + 1
whole_more kinds = sum_by-append (λ kind. cond (not kind) 1 0) kinds (false ∷ [])

some_more : (kinds : List Bool) (kind : Bool) → count_by not kinds ≤ count_by not (kinds ++ kind ∷ [])
some_more kinds kind =
    let parts : count_by not (kinds ++ kind ∷ []) ≡ count_by not kinds + count_by not (kind ∷ []) = sum_by-append (λ kind. cond (not kind) 1 0) kinds (kind ∷ []) in
    omega (arith, parts)

-- It makes a request for all of the screen, where a key moment is begun.
pub asks_key_linked : (old new : Linked) (point : ℕ) → recorded_in new.growing ≡ recorded_in old.growing → key_points new.growing ≡ key_points old.growing ++ point ∷ []
    → ((heard : List ℕ) (kinds : List Bool) → IsSaying old.talk heard kinds → IsSaying new.talk heard (kinds ++ false ∷ [])) → IsLinked old → IsLinked new
asks_key_linked old new point recorded points says h =
    let k : IsSaying new.talk h.heard (h.kinds ++ false ∷ []) = says h.heard h.kinds h.says in
    record {
      heard = h.heard;
      later = h.later;
      parts = ap bytes_of recorded ∙ h.parts;
      past = past_stays old.talk new.talk h.heard h.later h.kinds (h.kinds ++ false ∷ []) h.says k h.past;
      kinds = h.kinds ++ false ∷ [];
      says = k;
      keys = omega (arith, ap length points, length-append (key_points old.growing) (point ∷ []), whole_more h.kinds, h.keys);
    }

pub asks_linked : (old new : Linked) (incremental : Bool) → new.growing ≡ old.growing → ((heard : List ℕ) (kinds : List Bool) → IsSaying old.talk heard kinds → IsSaying new.talk heard (kinds ++ incremental ∷ [])) → IsLinked old → IsLinked new
asks_linked old new incremental growing says h =
    let k : IsSaying new.talk h.heard (h.kinds ++ incremental ∷ []) = says h.heard h.kinds h.says in
    record {
      heard = h.heard;
      later = h.later;
      parts = ap (λ (g : Growing). bytes_of (recorded_in g)) growing ∙ h.parts;
      past = past_stays old.talk new.talk h.heard h.later h.kinds (h.kinds ++ incremental ∷ []) h.says k h.past;
      kinds = h.kinds ++ incremental ∷ [];
      says = k;
      keys = omega (arith, ap (λ (g : Growing). length (key_points g)) growing, some_more h.kinds incremental, h.keys);
    }

-- A session that is joined has a screen of at most 4096 pixels each way.
pub size_linked : (l : Linked) (joined : Joined) → IsLinked l → whole_of (ahead l.talk.hello) ≡ Some joined → (joined.w ≤ 4096) × (joined.h ≤ 4096)
size_linked l joined h whole =
    let size = joined_size None h.heard joined (heard_whole l.talk h.heard h.kinds h.says ∙ done_from (ahead l.talk.hello) joined (sym whole)) in
    (size_most joined.w size.across, size_most joined.h size.down)

-- ---- bytes are given

-- The handshake takes those that it wants, and the others come after it.
parts_more : (given heard later kept all more rest : List ℕ) → given ≡ heard ++ later → later ≡ [] → all ≡ given ++ kept → more ++ rest ≡ kept → all ≡ (heard ++ more) ++ rest
parts_more given heard later kept all more rest parts none is split =
    is ∙ (ap (λ (xs : List ℕ). xs ++ kept) (parts ∙ (ap (λ (xs : List ℕ). heard ++ xs) none ∙ append-nil heard)) ∙ (ap (λ (xs : List ℕ). heard ++ xs) (sym split) ∙ sym (append_assoc heard more rest)))

parts_past : (given heard later kept all more : List ℕ) → given ≡ heard ++ later → more ≡ [] → all ≡ given ++ kept → all ≡ (heard ++ more) ++ (later ++ kept)
parts_past given heard later kept all more parts none is =
    is ∙ (ap (λ (xs : List ℕ). xs ++ kept) parts ∙ (append_assoc heard later kept ∙ ap (λ (xs : List ℕ). xs ++ (later ++ kept)) (sym (ap (λ (xs : List ℕ). heard ++ xs) none ∙ append-nil heard))))

open_rest : (now : Reading Joined) (kept : List ℕ) (b : Bool) → wants_more (after now kept) ≡ b → (drop (taken now kept) kept ≡ []) ⊎ (wants_more (after now kept) ≡ false)
open_rest now kept true on = inl (drop_all (taken now kept) kept (omega (arith, taken-open now kept on)))
open_rest now kept false off = inr off

-- How the handshake goes on.
goes_on : (old new : Talk) (heard kept : List ℕ) (kinds : List Bool) → IsSaying old heard kinds → IsSaying new (heard ++ take (taken (ahead old.hello) kept) kept) kinds → ahead new.hello ≡ after (ahead old.hello) kept
goes_on old new heard kept kinds h k =
    let more : List ℕ = take (taken (ahead old.hello) kept) kept in
    sym (heard_whole new (heard ++ more) kinds k)
    ∙ (after-append (host_hello None) heard more ∙ (ap (λ (r : Reading Joined). after r more) (heard_whole old heard kinds h) ∙ after-taken (ahead old.hello) kept))

hears_by : (b : Bool) (old new : Linked) (kept : List ℕ) → wants_more (ahead old.talk.hello) ≡ b → bytes_of (recorded_in new.growing) ≡ bytes_of (recorded_in old.growing) ++ kept → length (key_points new.growing) ≡ length (key_points old.growing)
    → ((heard : List ℕ) (kinds : List Bool) → IsSaying old.talk heard kinds → IsSaying new.talk (heard ++ take (taken (ahead old.talk.hello) kept) kept) kinds) → IsLinked old → IsLinked new
hears_by true old new kept on given points says h =
    let now : Reading Joined = ahead old.talk.hello in
    let more : List ℕ = take (taken now kept) kept in
    let rest : List ℕ = drop (taken now kept) kept in
    let k : IsSaying new.talk (h.heard ++ more) h.kinds = says h.heard h.kinds h.says in
    let goes : ahead new.talk.hello ≡ after now kept = goes_on old.talk new.talk h.heard kept h.kinds h.says k in
    let none : h.later ≡ [] = elim h.past [ inl is ↦ is | inr off ↦ absurd (let never : true ≡ false = sym on ∙ off in cc) ] in
    record {
      heard = h.heard ++ more;
      later = rest;
      parts = parts_more (bytes_of (recorded_in old.growing)) h.heard h.later kept (bytes_of (recorded_in new.growing)) more rest h.parts none given (take-append-drop (taken now kept) kept);
      past = elim (open_rest now kept (wants_more (after now kept)) refl) [ inl is ↦ inl is | inr off ↦ inr (ap wants_more goes ∙ off) ];
      kinds = h.kinds;
      says = k;
      keys = omega (arith, points, h.keys);
    }
hears_by false old new kept off given points says h =
    let now : Reading Joined = ahead old.talk.hello in
    let more : List ℕ = take (taken now kept) kept in
    let k : IsSaying new.talk (h.heard ++ more) h.kinds = says h.heard h.kinds h.says in
    let goes : ahead new.talk.hello ≡ after now kept = goes_on old.talk new.talk h.heard kept h.kinds h.says k in
    let none : more ≡ [] = ap (λ (n : ℕ). take n kept) (taken-stays now kept off) in
    record {
      heard = h.heard ++ more;
      later = h.later ++ kept;
      parts = parts_past (bytes_of (recorded_in old.growing)) h.heard h.later kept (bytes_of (recorded_in new.growing)) more h.parts none given;
      past = inr (ap wants_more (goes ∙ after-stays now kept off) ∙ off);
      kinds = h.kinds;
      says = k;
      keys = omega (arith, points, h.keys);
    }

pub hears_linked : (old new : Linked) (time : ℕ) (kept : List ℕ) → recorded_in new.growing ≡ recorded_in old.growing ++ stamp time kept → key_points new.growing ≡ key_points old.growing
    → ((heard : List ℕ) (kinds : List Bool) → IsSaying old.talk heard kinds → IsSaying new.talk (heard ++ take (taken (ahead old.talk.hello) kept) kept) kinds) → IsLinked old → IsLinked new
hears_linked old new time kept recorded points says h =
    hears_by (wants_more (ahead old.talk.hello)) old new kept refl (ap bytes_of recorded ∙ bytes_more (recorded_in old.growing) time kept) (ap length points) says h

-- ---- what is promised

stands_first : (b : Bool) (t : Talk) (heard : List ℕ) (kinds : List Bool) → Stands b t heard kinds → BeginsWhole kinds
stands_first false t heard kinds s = subst BeginsWhole (sym s.2) tt
stands_first true t heard kinds s = subst BeginsWhole (sym s.2) refl

none_told : (o : Option Joined) → told_by_now o [] ≡ []
none_told None = refl
none_told (Some joined) = refl

stands_says : (b : Bool) (t : Talk) (heard : List ℕ) (kinds : List Bool) → after (host_hello None) heard ≡ ahead t.hello → Stands b t heard kinds → (count : ℕ) × (t.taken ≡ take count (said_after kinds heard))
stands_says false t heard kinds whole s =
    let all : said_after kinds heard ≡ said_to_host None heard = ap (λ (ks : List Bool). said_after ks heard) s.2
    ∙ (ap (λ (xs : List ℕ). said_to_host None heard ++ xs) (none_told (whole_of (after (host_hello None) heard))) ∙ append-nil (said_to_host None heard)) in
    (t.hello.sent, s.0 ∙ ap (take t.hello.sent) (sym all))
stands_says true t heard kinds whole s =
    let told : told_to s.0 kinds ≡ told_by_now (whole_of (after (host_hello None) heard)) kinds = ap (λ (o : Option Joined). told_by_now o kinds) (sym (ap whole_of whole ∙ s.3)) in
    let all : t.taken ++ t.pending ≡ said_after kinds heard = s.5 ∙ ap (λ (xs : List ℕ). said_to_host None heard ++ xs) told in
    (length t.taken, sym (take-append_seam t.taken t.pending) ∙ ap (take (length t.taken)) all)

pub is_carried : (l : Linked) → IsKept l.growing → IsIndexed l.growing → IsLinked l → IsCarried l
is_carried l kept indexed h =
    let whole : after (host_hello None) h.heard ≡ ahead l.talk.hello = heard_whole l.talk h.heard h.kinds h.says in
    let says = stands_says l.talk.is_asked l.talk h.heard h.kinds whole h.says.stands in
    record {
      kept = kept;
      indexed = indexed;
      kinds = h.kinds;
      said = record {
        heard = h.heard;
        later = h.later;
        parts = h.parts;
        one = h.says.one;
        past = elim h.past [ inl none ↦ inl none | inr off ↦ inr (ap wants_more whole ∙ off) ];
        first = stands_first l.talk.is_asked l.talk h.heard h.kinds h.says.stands;
        count = says.0;
        says = says.1;
      };
      keys = h.keys;
    }
