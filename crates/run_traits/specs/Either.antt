-- Links and doors of one of two kinds.
use Rattle.std.specs.Prelude.{◌≡◌, ◌⊎◌, Bool, Result}
use Rattle.fault.specs.declared.kinds.Fault.{Fault}
use Rattle.link.specs.Links.{LinkState}
use Rattle.link.specs.declared.either_link.EitherLink.{EitherLink}
use Rattle.link.specs.declared.either_link.EitherLink.TheVariants as link
use Rattle.roles.specs.declared.role.Role.{Role}
use Rattle.run_traits.specs.declared.left_link.EitherLeft.{EitherLeft}
use Rattle.run_traits.specs.declared.left_link.EitherLeft.TheVariants as left
use Rattle.run_traits.specs.declared.either_door.EitherDoor.{EitherDoor}
use Rattle.run_traits.specs.declared.either_door.EitherDoor.TheVariants.{First, Second}

-- The link that was left.
abbrev pub left_either : {A B : Type 0} → EitherLeft A B → EitherLink A B
left_either (left.First l) = link.First l.link
left_either (left.Second l) = link.Second l.link

-- Doors of two kinds, A and B, whose viewers' links are V and W.
module _ {A B V W : Type 0} where
  -- The door that it holds is for viewers of this role.
  abbrev pub is_for_either : (A → Role → Type 0) → (B → Role → Type 0) → EitherDoor A B V W → Role → Type 0
  is_for_either first second (First door) role = first door role
  is_for_either first second (Second door) role = second door role

  -- The door that it holds may let a viewer in as its own relation says, or let none in. A door stays of its kind.
  abbrev pub lets_in_either : (A → Bool → A → Type 0) → (B → Bool → B → Type 0) → EitherDoor A B V W → Bool → EitherDoor A B V W → Type 0
  lets_in_either first second (First old) came (First new) = first old came new
  lets_in_either first second (Second old) came (Second new) = second old came new
  lets_in_either first second old came new = ⊥

  -- The door that it holds may see a viewer off whose link was left in this state and whose visit ended with this
  -- answer. A link of the other kind, which it never handed out, changes nothing.
  abbrev pub sees_off_either : (A → LinkState → Result (Unit {0}) Fault → A → Type 0) → (B → LinkState → Result (Unit {0}) Fault → B → Type 0) → EitherDoor A B V W → LinkState → Result (Unit {0}) Fault → EitherDoor A B V W → Type 0
  sees_off_either first second (First old) state why (First new) = first old state why new ⊎ (new ≡ old)
  sees_off_either first second (Second old) state why (Second new) = second old state why new ⊎ (new ≡ old)
  sees_off_either first second old state why new = ⊥
