-- The last text that is kept.
use Rattle.std.specs.Prelude.{ℕ, Bool, false, nat_lt, List, [], Option, Some, None}
use Rattle.raster.specs.Update.{NumberedText}

-- The text of these bytes with its update's number; none where there is no number.
abbrev pub numbered : List ℕ → Option ℕ → Option NumberedText
numbered bytes None = None
numbered bytes (Some number) = Some (record { text = bytes; number = number })

-- The number of the update that brought a text, where there is a text.
abbrev pub number_of : Option NumberedText → Option ℕ
number_of None = None
number_of (Some last) = Some last.number

-- The bytes of a text; none where there is no text.
abbrev pub bytes_of : Option NumberedText → List ℕ
bytes_of None = []
bytes_of (Some last) = last.text

-- The text kept after an update of this number, which brings this text or none.
abbrev pub newer : Option NumberedText → ℕ → Option (List ℕ) → Option NumberedText
newer last number None = last
newer last number (Some text) = Some (record { text = text; number = number })

-- There is a text, and an update after the one of this number brought it.
abbrev pub is_later : Option NumberedText → ℕ → Bool
is_later None number = false
is_later (Some last) number = nat_lt number last.number
