-- Each host was told a beginning of what is said, and the input is divided between them. `run_all` owes that, and the
-- steps of a teller owe it at every moment.
use Rattle.std.proofs.Common.{◌≡◌, ℕ, ◌≤◌, List, [], ◌∷◌, ◌++◌, length, map, refl, sym, ap, subst, ◌∙◌, append_assoc, append-nil, length-append, arith}
use Rattle.std.proofs.lemmas.List.{map-append}
use Rattle.roles.specs.Strokes.{StrokesKept, StrokesStand, Taken}
use Rattle.link.specs.Links.{LinkState}
use Rattle.run_traits.specs.Unused.{unused}
use Rattle.host_writer.specs.Writing.{Did, TellsSoFar, all_taken, last_said, said, says, taken_from, taken_in}
use Rattle.input_relay.specs.declared.queue.Message.{Message}
use Rattle.reflector.specs.Tellings.{AreTellings, AreToldInTurn, Desk, IsTelling, IsToldOver, TellsHosts, desk}

abbrev head_of : ℕ → List ℕ → ℕ
head_of d [] = d
head_of d (x ∷ xs) = x

abbrev tail_of : List ℕ → List ℕ
tail_of [] = []
tail_of (x ∷ xs) = xs

-- Where no more is left than there was to be, what was given is the rest.
given_of : (old new left all : List ℕ) → new ++ left ≡ old ++ all → length left ≤ length all → (given : List ℕ) × (new ≡ old ++ given) × (all ≡ given ++ left)
given_of [] new left all e le = (new, refl, sym e)
given_of (o ∷ old) [] left all e le =
    let longer : length left ≡ length ((o ∷ old) ++ all) = ap length e in
    let count = length-append (o ∷ old) all in
    absurd (omega (arith, longer, count, le))
given_of (o ∷ old) (n ∷ new) left all e le =
    let k = given_of old new left all (ap (λ (xs : List ℕ). tail_of xs) e) le in
    (k.0, ap (λ x. x ∷ new) (ap (λ (xs : List ℕ). head_of o xs) e) ∙ ap (λ xs. o ∷ xs) k.1, k.2)

last_within : (before : List Taken) (w h : ℕ) (did : List Did) → length (last_said before w h did) ≤ length (said before w h did)
last_within before w h [] = omega arith
last_within before w h (d ∷ did) = let count = length-append (said before w h did) (says before w h d did) in omega (arith, count)

told_over : {S : Type 0} (looks : S → ℕ → S → Type 0) (a b : S) (x y : List Message) (s t : StrokesKept) (w h : ℕ) (came left : LinkState) (before : List Taken) → StrokesStand s before → came ≡ unused
    → (k : TellsSoFar looks a b x y s t w h came left) → IsToldOver w h before k.did came left
told_over looks a b x y s t w h came left before stand fresh k =
    let says = k.said before stand in
    let first = k.within in
    let last = last_within before w h k.did in
    let count = ap length says.0 in let count_last = ap length says.1 in
    let g = given_of came.given left.given k.left k.all k.given (omega (arith, first, last, count, count_last)) in
    record { given = g.0; gave = g.1; begins = (k.left, sym says.0 ∙ g.2); heard = k.taken; fresh = fresh }

-- What is written of a screen is written of one of that size.
sized : {S : Type 0} (looks : S → ℕ → S → Type 0) (a b : S) (x y : List Message) (s t : StrokesKept) (w h w' h' : ℕ) (came left : LinkState) → w ≡ w' → h ≡ h' → TellsSoFar looks a b x y s t w h came left → TellsSoFar looks a b x y s t w' h' came left
sized looks a b x y s t w h w' h' came left ew eh k = subst (λ n. TellsSoFar looks a b x y s t w' n came left) eh (subst (λ n. TellsSoFar looks a b x y s t n h came left) ew k)

-- One host more.
told_on : (w h : ℕ) (before : List Taken) (links : List LinkState) (taken : List Message) (did : List Did) (came left : LinkState) → AreToldInTurn w h before links taken → IsToldOver w h (before ++ map taken_from taken) did came left
    → AreToldInTurn w h before (links ++ came ∷ left ∷ []) (taken ++ taken_in did)
told_on w h before [] taken did came left none k = (
  did,
  [],
  ap (λ ms. ms ++ taken_in did) none ∙ sym (append-nil (taken_in did)),
  subst (λ (bs : List Taken). IsToldOver w h bs did came left) (ap (λ ms. before ++ map taken_from ms) none ∙ append-nil before) k,
  refl,
)
told_on w h before (c ∷ []) taken did came left none k = absurd none
told_on w h before (c ∷ l ∷ links) taken did came left t k =
    let first = taken_in t.0 in
    let all : before ++ map taken_from taken ≡ all_taken before t.0 ++ map taken_from t.1 = ap (λ ms. before ++ map taken_from ms) t.2 ∙ (ap (λ ts. before ++ ts) (map-append taken_from first t.1) ∙ sym (append_assoc before (map taken_from first) (map taken_from t.1))) in (
      t.0,
      t.1 ++ taken_in did,
      ap (λ ms. ms ++ taken_in did) t.2 ∙ append_assoc first t.1 (taken_in did),
      t.3,
      told_on w h (all_taken before t.0) links t.1 did came left t.4 (subst (λ (bs : List Taken). IsToldOver w h bs did came left) all k),
    )

-- All of them, and the strokes stand for all that was taken.
abbrev AreTold : {S : Type 0} → (w h : ℕ) → Desk S → Type 0
AreTold {S} w h d = AreToldInTurn w h [] d.links d.taken × StrokesStand d.strokes (map taken_from d.taken)

-- One more, to which was written what is said so far.
told_more : {S : Type 0} (looks : S → ℕ → S → Type 0) (w h : ℕ) (before new : Desk S) (came left : LinkState) → AreTold w h before → came ≡ unused → TellsSoFar looks before.source new.source before.taken new.taken before.strokes new.strokes w h came left
    → new.links ≡ before.links ++ came ∷ left ∷ [] → AreTold w h new
told_more looks w h before new came left so fresh k noted =
    let over = told_over looks _ _ _ _ _ _ w h came left (map taken_from before.taken) so.1 fresh k in
    let longer : AreToldInTurn w h [] (before.links ++ came ∷ left ∷ []) (before.taken ++ taken_in k.did) = told_on w h [] before.links before.taken k.did came left so.0 over in (
      subst (λ (ls : List LinkState). AreToldInTurn w h [] ls new.taken) (sym noted) (subst (λ (ms : List Message). AreToldInTurn w h [] (before.links ++ came ∷ left ∷ []) ms) (sym k.inputs) longer),
      subst (λ (ts : List Taken). StrokesStand new.strokes ts) (sym (map-append taken_from before.taken (taken_in k.did)) ∙ ap (λ ms. map taken_from ms) (sym k.inputs)) (k.strokes (map taken_from before.taken) so.1),
    )

module _ {S : Type 0} (looks : S → ℕ → S → Type 0) (width height : S → ℕ) (w h : ℕ) (sizes : (s : S) → (width s ≡ w) × (height s ≡ h)) where
  all_told : (source : S) (began : StrokesKept) (befores : List (Desk S)) (new : Desk S) → StrokesStand began [] → AreTellings looks width height (desk [] source [] began) befores new → AreTold w h new
  all_told source began [] new none k = subst (λ (d : Desk S). AreTold w h d) (sym k) (refl, none)
  all_told source began (before ∷ befores) new none k =
      let t = k.1 in
      let size = sizes before.source in
      told_more looks w h before new t.came t.left (all_told source began befores before none k.0) t.fresh (sized looks _ _ _ _ _ _ _ _ w h t.came t.left size.0 size.1 t.writes.so_far) t.links

  -- The same, where nothing was taken before.
  told_from : (source : S) (first : List Message) (began : StrokesKept) (new : Desk S) → first ≡ [] → StrokesStand began [] → IsTelling looks width height (desk [] source first began) new → AreTold w h new
  told_from source first began new nothing none k =
      let same : IsTelling looks width height (desk [] source [] began) new = subst (λ (ms : List Message). IsTelling looks width height (desk [] source ms began) new) nothing k in
      all_told source began same.0 new none same.1

  pub in_turn_so_far : (source : S) (first : List Message) (began : StrokesKept) (new : Desk S) → IsTelling looks width height (desk [] source first began) new → first ≡ [] → StrokesStand began [] → AreToldInTurn w h [] new.links new.taken
  in_turn_so_far source first began new k nothing none = (told_from source first began new nothing none k).0

  -- While one more is told.
  pub in_turn_with : (source : S) (first : List Message) (began : StrokesKept) (before new : Desk S) (came left : LinkState) → IsTelling looks width height (desk [] source first began) before → first ≡ [] → StrokesStand began [] → came ≡ unused
      → TellsSoFar looks before.source new.source before.taken new.taken before.strokes new.strokes (width before.source) (height before.source) came left → new.links ≡ before.links ++ came ∷ left ∷ [] → AreToldInTurn w h [] new.links new.taken
  in_turn_with source first began before new came left k nothing none fresh writes noted =
      let size = sizes before.source in
      (told_more looks w h before new came left (told_from source first began before nothing none k) fresh (sized looks _ _ _ _ _ _ _ _ w h came left size.0 size.1 writes) noted).0

pub in_turn : {S : Type 0} (looks : S → ℕ → S → Type 0) (w h : ℕ) (source : S) (links : List LinkState) (taken : List Message) (strokes : StrokesKept) → TellsHosts looks (λ s. w) (λ s. h) source links taken strokes
    → AreToldInTurn w h [] links taken × StrokesStand strokes (map taken_from taken)
in_turn looks w h source links taken strokes k = all_told looks (λ s. w) (λ s. h) w h (λ s. (refl, refl)) source k.began k.told.befores (desk links k.told.source taken strokes) k.none_down k.told.tellings
