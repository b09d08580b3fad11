-- The doors have the numbers from 1 on, as one after the other is added.
use Rattle.std.proofs.Common.{◌≡◌, ◌+◌, ◌++◌, ◌∷◌, ◌∙◌, [], Bool, true, false, ap, arith, length, length-append, List, map, refl, subst, suc, sym, zero, ℕ}
use Rattle.std.specs.Prelude.{if◌then◌else◌}
use Rattle.std.specs.List.{range_with_len}
use Rattle.std.proofs.lemmas.List.{map-append}
use Rattle.roles.specs.declared.role.Role.{Role}
use Rattle.serve.specs.declared.place_door.PlaceDoor.{PlaceDoor}
use Rattle.serve.specs.Doors.{AreNumbered, place_of}

-- Behind the numbers from one on, one after the other, comes the next.
more : (first n : ℕ) → range_with_len first (suc n) ≡ range_with_len first n ++ (first + n) ∷ []
more first zero = ap (λ (number : ℕ). number ∷ []) (let same : first ≡ first + 0 = omega arith in same)
more first (suc n) =
    let same : first + 1 + n ≡ first + suc n = omega arith in
    ap (λ (numbers : List ℕ). first ∷ numbers) (more (first + 1) n ∙ ap (λ (number : ℕ). range_with_len (first + 1) n ++ number ∷ []) same)

-- One more is added, or refused for want of memory.
pub one_more : {R G : Type 0} (is_added : Bool) (old new : List (Role × PlaceDoor R G)) (role : Role) (door : PlaceDoor R G)
    → new ≡ (if is_added then old ++ (role, door) ∷ [] else old) → place_of door ≡ length old + 1 → AreNumbered old → AreNumbered new
one_more {R} {G} true old new role door added number numbered =
    let longer : length (old ++ (role, door) ∷ []) ≡ suc (length old) = omega (arith, length-append old ((role, door) ∷ [])) in
    let next : place_of door ≡ 1 + length old = omega (arith, number) in
    subst (λ (doors : List (Role × PlaceDoor R G)). AreNumbered doors) (sym added)
    (map-append (λ (door : Role × PlaceDoor R G). place_of door.1) old ((role, door) ∷ [])
    ∙ (ap (λ (numbers : List ℕ). numbers ++ place_of door ∷ []) numbered
    ∙ (ap (λ (n : ℕ). range_with_len 1 (length old) ++ n ∷ []) next ∙ (sym (more 1 (length old)) ∙ ap (range_with_len 1) (sym longer)))))
one_more {R} {G} false old new role door added number numbered =
    subst (λ (doors : List (Role × PlaceDoor R G)). AreNumbered doors) (sym added) numbered
