-- Beside each door stands the role of its lobby, as one after the other is added.
use Rattle.std.proofs.Common.{◌≡◌, ◌++◌, ◌∷◌, Bool, true, false, List, [], append-nil, subst, sym}
use Rattle.std.specs.Prelude.{if◌then◌else◌, is_some, Option, None}
use Rattle.std.specs.List.{All}
use Rattle.std.proofs.lemmas.List.Elements.{All-append, All-cons, All-nil}
use Rattle.roles.specs.declared.role.Role.{Role}
use Rattle.roles.specs.declared.role.Role.TheVariants.{View}
use Rattle.serve.specs.declared.place_door.PlaceDoor.{PlaceDoor}
use Rattle.serve.specs.Doors.{HaveTheirRoles, role_for}

-- One more is added, or refused for want of memory.
pub one_more : {R G : Type 0} (is_added : Bool) (old new : List (Role × PlaceDoor R G)) (role : Role) (door : PlaceDoor R G)
    → new ≡ (if is_added then old ++ (role, door) ∷ [] else old) → role ≡ role_for door → HaveTheirRoles old → HaveTheirRoles new
one_more {R} {G} true old new role door added same told =
    let Told : Role × PlaceDoor R G → Type 0 = λ door. door.0 ≡ role_for door.1 in
    let one : All Told ((role, door) ∷ []) = All-cons Told (role, door) [] same (All-nil Told) in
    subst (λ (doors : List (Role × PlaceDoor R G)). HaveTheirRoles doors) (sym added) (All-append Told old ((role, door) ∷ []) told one)
one_more {R} {G} false old new role door added same told =
    subst (λ (doors : List (Role × PlaceDoor R G)). HaveTheirRoles doors) (sym added) told

-- Where nobody records, no role is added.
pub nobody_more : {A : Type 0} (recorder : Option A) (roles : List Role) → recorder ≡ None → roles ≡ roles ++ (if is_some recorder then View ∷ [] else [])
nobody_more recorder roles none = rw none (sym (append-nil roles))
