-- A password, and a file that holds one.
use Rattle.std.specs.Prelude.{ℕ, Option, Some, None, ◌-◌, ◌==◌, ◌&&◌, ◌||◌, Bool, not, nat_le, if◌then◌else◌, List, [], ◌∷◌, ◌++◌, length, take, replicate}
use Rattle.std.specs.List.{list_all, take_while}
use Rattle.std.specs.Str.Lines.{strip_carriage_return}
use Rattle.vnc_auth.specs.Answer.{opened}

-- The eight bytes that count: the first eight. A shorter password is filled up with 0.
abbrev pub counting : List ℕ → List ℕ
counting bytes = take 8 bytes ++ replicate (8 - length bytes) 0

-- The first line: what stands before the first line feed, without a carriage return at its end.
abbrev pub first_line : List ℕ → List ℕ
first_line bytes = strip_carriage_return (take_while (λ c. not (c == 10)) bytes)

-- A byte of a line of text: a printable character of ASCII, a carriage return or a line feed.
abbrev pub is_text : ℕ → Bool
is_text c = (nat_le 32 c && nat_le c 126) || (c == 13) || (c == 10)

-- The bytes are what vncpasswd writes: eight, or sixteen with a second password for viewers that only look on, and not
-- all of them are text.
abbrev pub is_stored : List ℕ → Bool
is_stored bytes = ((length bytes == 8) || (length bytes == 16)) && not (list_all is_text bytes)

-- The key that all such files are encrypted with.
abbrev pub stored_key : List ℕ
stored_key = 23 ∷ 82 ∷ 107 ∷ 6 ∷ 35 ∷ 78 ∷ 88 ∷ 7 ∷ []

-- The password that a line is. An empty line is none.
abbrev pub password_of : List ℕ → Option (List ℕ)
password_of line = if length line == 0 then None else Some (counting line)

-- The password in a file: what is stored there, or else its first line.
abbrev pub password_in : List ℕ → Option (List ℕ)
password_in bytes = if is_stored bytes then Some (opened stored_key (take 8 bytes)) else password_of (first_line bytes)
