-- What a table of files was read from.
use Rattle.std.specs.Prelude.{ℕ, List}
use Rattle.std.specs.String.{string_bytes}
use Rattle.web_site.specs.declared.walk.Found.{Found}
use Rattle.web_site.specs.declared.walk.Found.TheVariants.{File}
use Rattle.web_site.specs.declared.table.WebFile.{WebFile}

-- A disk said that there is a regular file at this file's path, and gave this file's bytes as what is in it.
abbrev pub IsFileOf : (List ℕ → Found → Type 0) → (List ℕ → List ℕ → Type 0) → WebFile → Type 0
IsFileOf has gave file = ((size : ℕ) × has (string_bytes file.path) (File size)) × gave (string_bytes file.path) file.body
