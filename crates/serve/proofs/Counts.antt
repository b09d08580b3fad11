-- The doors of a run are from 1 to 64 where there are as many of each role as the settings say. `run_all` asks for
-- that.
use Rattle.std.proofs.Common.{◌≡◌, ◌≤◌, ◌+◌, suc, refl, Bool, true, false, List, [], ◌∷◌, ◌++◌, length, map, ap, ap₂, sym, ◌∙◌, arith, length-append}
use Rattle.std.specs.Prelude.{if◌then◌else◌, replicate}
use Rattle.std.specs.Arc.{arc_value}
use Rattle.std.proofs.lemmas.List.{length-replicate}
use Rattle.roles.specs.declared.role.Role.{Role}
use Rattle.roles.specs.declared.role.Role.TheVariants.{Full, View}
use Rattle.settings.specs.ByRole.{HasPlaces, places_for}
use Rattle.settings.specs.declared.values.Settings.{Settings}
use Rattle.serve.specs.Doors.{IsEntryFor}
use Rattle.serve.specs.declared.open.RoleEntry.{RoleEntry}

-- An entry has the places of its role.
pub entry_places : (role : Role) (settings : Settings) (entry : RoleEntry) → IsEntryFor role settings entry → places_for (arc_value entry.lobby).role entry.settings.now ≡ places_for role settings
entry_places role settings entry is = ap₂ places_for is.1 is.0

-- Of viewers with full control there are 32 at most.
pub full_most : (settings : Settings) → HasPlaces settings → places_for Full settings ≤ 32
full_most settings places = go settings.view_only
  where
    go : (b : Bool) → (if b then 0 else settings.full_places) ≤ 32
    go true = omega arith
    go false = places.1

length_of_map : {X : Type 0} (f : X → Role) (xs : List X) → length (map f xs) ≡ length xs
length_of_map f [] = refl
length_of_map f (x ∷ xs) = ap (λ n. suc n) (length_of_map f xs)

-- As many as the settings say can be served.
pub counted : {X : Type 0} (f : X → Role) (xs : List X) (settings : Settings) → map f xs ≡ replicate (places_for Full settings) Full ++ replicate settings.view_places View → HasPlaces settings
    → (1 ≤ length xs) × (length xs ≤ 64)
counted f xs settings told places =
    let full = places_for Full settings in
    let most : full ≤ 32 = full_most settings places in
    let all : length xs ≡ full + settings.view_places =
    sym (length_of_map f xs) ∙ (ap length told ∙ (length-append (replicate full Full) _ ∙ (ap (λ n. n + length (replicate settings.view_places View)) (length-replicate full Full) ∙ ap (λ n. full + n) (length-replicate settings.view_places View)))) in
    (omega (arith, all, places.2), omega (arith, all, most, places.3))

-- So can they with one place more, in which the run is recorded, if it is.
pub counted_all : {X : Type 0} (f : X → Role) (xs : List X) (settings : Settings) (recorded : Bool)
    → map f xs ≡ (replicate (places_for Full settings) Full ++ replicate settings.view_places View) ++ (if recorded then View ∷ [] else []) → HasPlaces settings
    → (1 ≤ length xs) × (length xs ≤ 65)
counted_all f xs settings recorded told places =
    let full = places_for Full settings in
    let most : full ≤ 32 = full_most settings places in
    let viewers = replicate full Full ++ replicate settings.view_places View in
    let last : List Role = if recorded then View ∷ [] else [] in
    let one : length last ≤ 1 = at_most_one recorded in
    let count : length viewers ≡ full + settings.view_places =
    length-append (replicate full Full) _ ∙ (ap (λ n. n + length (replicate settings.view_places View)) (length-replicate full Full) ∙ ap (λ n. full + n) (length-replicate settings.view_places View)) in
    let all : length xs ≡ length viewers + length last = sym (length_of_map f xs) ∙ (ap length told ∙ length-append viewers last) in
    (omega (arith, all, count, places.2), omega (arith, all, count, most, one, places.3))
  where
    at_most_one : (b : Bool) → length (if b then View ∷ [] else []) ≤ 1
    at_most_one true = omega arith
    at_most_one false = omega arith
