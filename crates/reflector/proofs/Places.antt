-- The places that were started, and the senders that they give back. `run_all` hands them back, and `settle` asks that
-- they are of one relay.
use Rattle.std.proofs.Common.{◌≡◌, ◌<◌, zero, suc, List, [], ◌∷◌, ◌++◌, drop, length, map, slice_index_or, take, sym, ap, ◌∙◌, append_assoc, arith}
use Rattle.std.proofs.lemmas.List.{map-append}
use Rattle.std.proofs.lemmas.Simd.{map-map}
use Rattle.std.specs.List.{All}
use Rattle.shared_screen.proofs.Every.{all_tail}

-- What is so of all values is so of all that have them.
pub all_of_map : {X Y : Type 0} (P : X → Type 0) (f : Y → X) (ys : List Y) → All P (map f ys) → All (λ y. P (f y)) ys
all_of_map P f [] h k d lt = absurd (omega arith)
all_of_map P f (y ∷ ys) h zero d lt = h zero (f d) (omega arith)
all_of_map P f (y ∷ ys) h (suc k) d lt = all_of_map P f ys (all_tail P (f y) (map f ys) h) k d (omega arith)

-- What the senders have, the places have that give them back.
pub of_senders : {X Y Z : Type 0} (g : X → Z) (f : Y → X) (ys : List Y) (xs : List X) (zs : List Z) → map f ys ≡ xs → map g xs ≡ zs → map (λ y. g (f y)) ys ≡ zs
of_senders g f ys xs zs e h = sym (map-map g f ys) ∙ (ap (map g) e ∙ h)

pub all_of_senders : {X Y : Type 0} (P : X → Type 0) (f : Y → X) (ys : List Y) (xs : List X) → map f ys ≡ xs → All P xs → All (λ y. P (f y)) ys
all_of_senders P f ys xs e h = all_of_map P f ys (rw e h)

-- One more has the first of the values that were left.
pub grown : {X Y : Type 0} (f : Y → X) (ys : List Y) (y : Y) (x : X) (xs all : List X) → f y ≡ x → map f ys ++ x ∷ xs ≡ all → map f (ys ++ y ∷ []) ++ xs ≡ all
grown f ys y x xs all e h = ap (λ l. l ++ xs) (map-append f ys (y ∷ [])) ∙ (append_assoc (map f ys) (f y ∷ []) xs ∙ (ap (λ z. map f ys ++ z ∷ xs) e ∙ h))

-- What was taken from the front of a list.
pub first_left : {X : Type 0} (xs ys : List X) (x : X) → 0 < length xs → x ≡ slice_index_or xs 0 x → ys ≡ take 0 xs ++ drop 1 xs → xs ≡ x ∷ ys
first_left [] ys x some value rest = absurd (omega arith)
first_left (z ∷ zs) ys x some value rest = ap (λ t. t ∷ zs) (sym value) ∙ ap (λ t. x ∷ t) (sym rest)

pub grown_by : {X Y : Type 0} (f : Y → X) (ys : List Y) (y : Y) (x : X) (xs rest all : List X) → xs ≡ x ∷ rest → f y ≡ x → map f ys ++ xs ≡ all → map f (ys ++ y ∷ []) ++ rest ≡ all
grown_by f ys y x xs rest all first e h = grown f ys y x rest all e (ap (λ l. map f ys ++ l) (sym first) ∙ h)

pub pair_of : {X Y : Type 0} (x : X) (y : Y) (both : X × Y) → x ≡ both.0 → y ≡ both.1 → (x, y) ≡ both
pair_of x y both e f = ap (λ t. (t, y)) e ∙ ap (λ t. (both.0, t)) f

-- What all have, all but the first have.
pub all_but_first : {X : Type 0} (P : X → Type 0) (xs : List X) → All P xs → All P (drop 1 xs)
all_but_first P [] h = h
all_but_first P (x ∷ xs) h = all_tail P x xs h
