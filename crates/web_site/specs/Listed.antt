-- Whether a text is in a list.
use Rattle.std.specs.Prelude.{ℕ, Bool, List, String, bytes_eq}
use Rattle.std.specs.List.{list_any}
use Rattle.std.specs.String.{string_bytes}
use Rattle.std.specs.declared.alloc.Global.{Global}

-- This text is one of the list.
abbrev pub lists : List (String Global) → List ℕ → Bool
lists texts text = list_any (λ one. bytes_eq (string_bytes one) text) texts
