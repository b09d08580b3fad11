-- Which input of several places goes to the host: while a place has a key or a button down, no other place breaks in
-- (RFC 6143, 7.5.4 and 7.5.5; the rule is this project's own).
use Rattle.std.specs.Prelude.{◌≡◌, ◌≢◌, ◌⊎◌, ℕ, ◌+◌, ◌<◌, min, Bool, false, not, ◌&&◌, ◌||◌, ◌==◌, nat_lt, if◌then◌else◌, List, [], ◌∷◌, ◌++◌, length, slice_index, slice_set}
use Rattle.std.specs.List.{list_any}
use Rattle.fault.specs.declared.limits.TheConstants.{LIMIT}
use Rattle.roles.specs.Allowed.{Input, passes, keys_down, last_pointer}
use Rattle.roles.specs.Held.{Kept, kept_with}

-- An input that was taken, with the place that sent it.
pub record Taken : Type 0 where
  pub place : ℕ
  pub input : Input

-- This input, taken from this place.
abbrev pub input_from : ℕ → Input → Taken
input_from place input = record { place = place; input = input }

-- The inputs of one place, in order.
abbrev pub sent_by : ℕ → List Taken → List Input
sent_by place [] = []
sent_by place (t ∷ ts) = if t.place == place then t.input ∷ sent_by place ts else sent_by place ts

-- The keys of a place that are down after what passed: those of which its last event is a press.
abbrev pub keys_of : ℕ → List Taken → List ℕ
keys_of place passed = keys_down [] (sent_by place passed)

-- The buttons of a place that are down after what passed: the mask of its last pointer event.
abbrev pub buttons_of : ℕ → List Taken → ℕ
buttons_of place passed = (last_pointer (0, 0, 0) (sent_by place passed)).0

-- A place has a key or a button down.
abbrev pub has_down : ℕ → List Taken → Bool
has_down place passed = nat_lt 0 (length (keys_of place passed)) || nat_lt 0 (buttons_of place passed)

-- A place other than this one has a key or a button down.
abbrev pub another_has_down : ℕ → List Taken → Bool
another_has_down place passed = list_any (λ t. not (t.place == place) && has_down t.place passed) passed

-- An input passes where no other place has a key or a button down, unless it releases a key that its own place doesn't
-- have down, or presses a further key while that place has 64 down.
abbrev pub passes_after : List Taken → Taken → Bool
passes_after passed t = not (another_has_down t.place passed) && passes (keys_of t.place passed) t.input

-- The inputs of the first list, which have passed already, followed by those of the second list that pass after them,
-- in order.
abbrev pub unbroken_after : List Taken → List Taken → List Taken
unbroken_after passed [] = passed
unbroken_after passed (t ∷ ts) = if passes_after passed t then unbroken_after (passed ++ t ∷ []) ts else unbroken_after passed ts

-- The inputs that pass, of all that were taken, in order.
abbrev pub unbroken : List Taken → List Taken
unbroken taken = unbroken_after [] taken

-- Those inputs of the second list that are dropped, in order, where the inputs of the first list have passed already.
abbrev pub left_out_after : List Taken → List Taken → List Taken
left_out_after passed [] = []
left_out_after passed (t ∷ ts) = if passes_after passed t then left_out_after (passed ++ t ∷ []) ts else t ∷ left_out_after passed ts

-- How many inputs of a place were dropped. A count at LIMIT stays there.
abbrev pub dropped : ℕ → List Taken → ℕ
dropped place taken = min LIMIT (length (sent_by place (left_out_after [] taken)))

-- The first list has some elements of the second, in the same order, each at most once: either the second list's first
-- element is left out, or both lists begin with it.
abbrev pub IsPickedFrom : {A : Type 0} → List A → List A → Type 0
IsPickedFrom picked [] = picked ≡ []
IsPickedFrom {A} picked (x ∷ xs) = IsPickedFrom picked xs ⊎ ((rest : List A) × (picked ≡ x ∷ rest) × IsPickedFrom rest xs)

-- ---- what is kept of it

-- What is kept: the place whose input passed last, what is kept of that place's input, and how many inputs were dropped
-- of each place, from place 0 on.
pub record StrokesKept : Type 0 where
  pub place : ℕ
  pub held : Kept
  pub counts : List ℕ

-- What is kept stands for the inputs that were taken. No place other than the one kept has a key or a button down.
pub record StrokesStand (kept : StrokesKept) (taken : List Taken) : Type 0 where
  pub keys : kept.held.keys ≡ keys_of kept.place (unbroken taken)
  pub buttons : kept.held.mask ≡ buttons_of kept.place (unbroken taken)
  pub others : (place : ℕ) → place ≢ kept.place → has_down place (unbroken taken) ≡ false
  pub counts : (place : ℕ) → place < length kept.counts → slice_index kept.counts place ≡ dropped place taken

-- A key or a button is down.
abbrev pub is_holding : Kept → Bool
is_holding held = nat_lt 0 (length held.keys) || nat_lt 0 held.mask

-- An input passes where this is kept.
abbrev pub lets_pass : StrokesKept → Taken → Bool
lets_pass kept t = (kept.place == t.place || not (is_holding kept.held)) && passes kept.held.keys t.input

-- What is kept after that input, but for the counts.
abbrev pub let_through : StrokesKept → Taken → StrokesKept
let_through kept t = if lets_pass kept t then record kept { place = t.place; held = kept_with kept.held t.input } else kept

-- The counts with one more for this place.
abbrev pub counts_after : ℕ → List ℕ → List ℕ
counts_after place counts = if nat_lt place (length counts) then slice_set counts place (min LIMIT (slice_index counts place + 1)) else counts
