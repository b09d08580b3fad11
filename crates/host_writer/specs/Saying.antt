-- What is being said to the host, and how far it is given (own).
use Rattle.std.specs.Prelude.{ℕ, Option, Some, None, List, [], drop}

-- A spelling, and how many of its bytes were given.
pub record Speech : Type 0 where
  pub said : List ℕ
  pub given : ℕ

-- Its bytes that aren't given yet.
abbrev pub left_of : Speech → List ℕ
left_of speech = drop speech.given speech.said

-- These bytes are to be said, and none of them is given yet.
abbrev pub begun : List ℕ → Speech
begun bytes = record { said = bytes; given = 0 }

-- The bytes of the text that a spelling ends with, if it has one.
abbrev pub text_in : Option (List ℕ) → List ℕ
text_in None = []
text_in (Some text) = text
