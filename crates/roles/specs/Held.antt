-- What is kept of a viewer's input: the keys that are down, and the last pointer event.
use Rattle.std.specs.Prelude.{◌≡◌, ℕ, Bool, true, false, ◌==◌, ◌&&◌, nat_lt, if◌then◌else◌, List, [], ◌∷◌, ◌++◌, map, Option, Some, None}
use Rattle.std.specs.List.{list_all}
use Rattle.rfb_wire.specs.ClientMessage.{ClientMessage}
use Rattle.roles.specs.declared.role.Role.{Role}
use Rattle.roles.specs.declared.role.Role.TheVariants.{Full, View}
use Rattle.roles.specs.declared.input.Input as declared
use Rattle.roles.specs.declared.input.Input.TheVariants as code
use Rattle.roles.specs.Allowed.{Input, Key, Pointer, Cut, input_of, passes, keys_after, keys_down, last_pointer, allowed}

-- The input of the definitions for which an `Input` of the code stands.
abbrev pub input_in : declared.Input → Input
input_in (code.Key down key) = Key down key
input_in (code.Pointer mask x y) = Pointer mask x y
input_in (code.Cut text) = Cut text

-- The keys that are down by rising number, and the mask and position of the last pointer event (0, 0, 0 before the
-- first).
pub record Kept : Type 0 where
  pub keys : List ℕ
  pub mask : ℕ
  pub x : ℕ
  pub y : ℕ

-- What is kept before the first message.
abbrev pub nothing_kept : Kept
nothing_kept = record { keys = []; mask = 0; x = 0; y = 0 }

-- Each key is lower than those after it.
abbrev pub is_rising : List ℕ → Bool
is_rising [] = true
is_rising (k ∷ ks) = list_all (λ other. nat_lt k other) ks && is_rising ks

-- What is kept stands for the messages taken of a viewer of this role.
pub record HeldStands (role : Role) (kept : Kept) (messages : List ClientMessage) : Type 0 where
  pub keys : kept.keys ≡ keys_down [] (allowed role messages false)
  pub pointer : (kept.mask, kept.x, kept.y) ≡ last_pointer (0, 0, 0) (allowed role messages false)

-- The input in a message of a viewer of this role.
abbrev pub input_for : Role → ClientMessage → Option Input
input_for View message = None
input_for Full message = input_of message

-- Whether a message passes where these keys are down.
abbrev pub passes_if : List ℕ → Option Input → Bool
passes_if keys None = false
passes_if keys (Some input) = passes keys input

-- What is kept after an input that passes.
abbrev pub kept_with : Kept → Input → Kept
kept_with kept (Key down key) = record kept { keys = keys_after kept.keys (Key down key) }
kept_with kept (Pointer mask x y) = record kept { mask = mask; x = x; y = y }
kept_with kept (Cut text) = kept

-- What is kept after an input, if there is one, that may pass or not.
abbrev pub kept_after : Kept → Option Input → Kept
kept_after kept None = kept
kept_after kept (Some input) = if passes kept.keys input then kept_with kept input else kept

-- The input of a message where it passes, as a list.
abbrev pub passed_if : Bool → Option Input → List Input
passed_if pass None = []
passed_if pass (Some input) = if pass then input ∷ [] else []

-- What is still to be released where the viewer leaves: mask 0 at the last position if the last mask wasn't 0.
abbrev pub pointer_left : ℕ × ℕ × ℕ → List Input
pointer_left last = if last.0 == 0 then [] else Pointer 0 last.1 last.2 ∷ []

-- All that is still to be released where the viewer leaves, the keys first.
abbrev pub left_in : Kept → List Input
left_in kept = map (λ key. Key false key) kept.keys ++ pointer_left (kept.mask, kept.x, kept.y)
