-- The lines of a script: a word, and what follows its blank.
use Rattle.std.specs.Prelude.{◌≡◌, ◌≤◌, ◌++◌, ◌∷◌, ℕ, List, Option, IfSome, IfNone, codes, length}
use Rattle.std.specs.Fmt.{decimal}
use Rattle.replay.specs.Script.{IsHex, blank}
use Rattle.replay.specs.declared.line.Line.{Line}
use Rattle.replay.specs.declared.line.Line.TheVariants.{Screen, Host, Raise, Open, Greet, Viewer, Turn, Leave, Input, Dropped, Next}
use Rattle.replay.specs.declared.line.Access.{Access}
use Rattle.replay.specs.declared.line.Access.TheVariants.{Full, View}

-- The line's numbers are in range: a screen has from 1 to 4096 pixels each way and a name of 1 to 255 bytes, and
-- viewers are numbered from 1 to 64.
abbrev pub IsInRange : Line → Type 0
IsInRange (Screen width height name) = (1 ≤ width) × (width ≤ 4096) × (1 ≤ height) × (height ≤ 4096) × (1 ≤ length name.now) × (length name.now ≤ 255)
IsInRange (Host bytes) = Unit {0}
IsInRange Raise = Unit {0}
IsInRange (Open viewer access) = (1 ≤ viewer) × (viewer ≤ 64)
IsInRange (Greet viewer access) = (1 ≤ viewer) × (viewer ≤ 64)
IsInRange (Viewer viewer bytes) = (1 ≤ viewer) × (viewer ≤ 64)
IsInRange (Turn viewer) = (1 ≤ viewer) × (viewer ≤ 64)
IsInRange (Leave viewer) = (1 ≤ viewer) × (viewer ≤ 64)
IsInRange Input = Unit {0}
IsInRange Next = Unit {0}
IsInRange (Dropped viewer) = (1 ≤ viewer) × (viewer ≤ 64)

-- The line's first word.
abbrev pub word_of : Line → List ℕ
word_of (Screen width height name) = codes "screen"
word_of (Host bytes) = codes "host"
word_of Raise = codes "raise"
word_of (Open viewer access) = codes "open"
word_of (Greet viewer access) = codes "greet"
word_of (Viewer viewer bytes) = codes "viewer"
word_of (Turn viewer) = codes "turn"
word_of (Leave viewer) = codes "leave"
word_of Input = codes "input"
word_of Next = codes "next"
word_of (Dropped viewer) = codes "dropped"

-- What a viewer may do, as a word.
abbrev pub access_word : Access → List ℕ
access_word Full = codes "full"
access_word View = codes "view"

-- What follows the blank after that word: W H NAME, HEX, V full or V view, V HEX or V. Numbers are decimal, with
-- neither a sign nor leading zeros.
abbrev pub SaysBehind : Line → List ℕ → Type 0
SaysBehind (Screen width height name) rest = rest ≡ decimal width ++ (blank ∷ (decimal height ++ (blank ∷ name.now)))
SaysBehind (Host bytes) rest = IsHex rest bytes.items
SaysBehind Raise rest = ⊥
SaysBehind (Open viewer access) rest = rest ≡ decimal viewer ++ (blank ∷ access_word access)
SaysBehind (Greet viewer access) rest = rest ≡ decimal viewer ++ (blank ∷ access_word access)
SaysBehind (Viewer viewer bytes) rest = (hex : List ℕ) × (rest ≡ decimal viewer ++ (blank ∷ hex)) × IsHex hex bytes.items
SaysBehind (Turn viewer) rest = rest ≡ decimal viewer
SaysBehind (Leave viewer) rest = rest ≡ decimal viewer
SaysBehind Input rest = ⊥
SaysBehind Next rest = ⊥
SaysBehind (Dropped viewer) rest = rest ≡ decimal viewer

-- A text is this line: its word, a blank and what follows it; or a word alone.
abbrev pub Says : Line → List ℕ → Type 0
Says Raise text = text ≡ codes "raise"
Says Input text = text ≡ codes "input"
Says Next text = text ≡ codes "next"
Says line text = (rest : List ℕ) × (text ≡ word_of line ++ (blank ∷ rest)) × SaysBehind line rest

-- After this word the text spells the line that was found. Where none was found, it spells none.
pub record ReadsBehind (word text : List ℕ) (found : Option Line) : Type 0 where
  pub some : IfSome found (λ line. IsInRange line × (word_of line ≡ word) × SaysBehind line text)
  pub none : IfNone found ((line : Line) → IsInRange line → word_of line ≡ word → ¬ SaysBehind line text)
