-- The table of files, and what goes into it.
use Rattle.std.specs.Prelude.{◌≡◌, ℕ, ◌+◌, nat_le, nat_lt, List, [], ◌∷◌, ◌++◌, length, sum_by, find, bytes_eq, if◌then◌else◌, Option, None, Some, Result, Ok, Err, String, IsSomeAnd}
use Rattle.std.specs.declared.alloc.Global.{Global}
use Rattle.std.specs.String.{string_bytes}
use Rattle.web_site.specs.declared.media_type.MediaType.{MediaType}
use Rattle.web_site.specs.declared.table.WebFile.{WebFile}
use Rattle.web_site.specs.declared.table.TableFault.{TableFault}
use Rattle.web_site.specs.declared.table.TableFault.TheVariants.{OtherEnding, TooManyFiles, TooManyBytes}
use Rattle.web_site.specs.declared.walk.Found.{Found}
use Rattle.web_site.specs.declared.walk.Found.TheVariants.{File, Folder, Other}
use Rattle.web_site.specs.declared.walk.Step.{Step}
use Rattle.web_site.specs.declared.walk.Step.TheVariants.{Read, Enter, Pass}
use Rattle.web_site.specs.MediaTypes.{media_type_by_name}

-- The file of exactly this path.
abbrev pub file_at : List WebFile → List ℕ → Option WebFile
file_at files path = find (λ f. bytes_eq (string_bytes f.path) path) files

-- How many bytes the files have.
abbrev pub total : List WebFile → ℕ
total files = sum_by (λ f. length f.body) files

-- Why a file of this media type and size doesn't go in, if it doesn't. At most 2,000 files with at most 16 MiB go in.
abbrev pub refusal : List WebFile → Option MediaType → ℕ → Option TableFault
refusal files None size = Some OtherEnding
refusal files (Some media_type) size =
    if nat_le 2000 (length files) then Some TooManyFiles else
    if nat_lt 16777216 (total files + size) then Some TooManyBytes else
    None

-- One more file is in the table, at its end. Its media type is that of its ending.
abbrev pub IsAdded : List WebFile → List WebFile → String Global → List ℕ → Type 0
IsAdded old new path body =
    IsSomeAnd (media_type_by_name (string_bytes path)) (λ media_type. new ≡ old ++ record { path = path; media_type = media_type; body = body } ∷ [])

-- What is done with a file: one of another ending is passed over, and one that doesn't fit is a fault.
abbrev pub met_file : Option TableFault → Result Step TableFault
met_file None = Ok Read
met_file (Some OtherEnding) = Ok Pass
met_file (Some fault) = Err fault

-- What is done with what a folder has under a name: folders are entered, and anything else that is no regular file,
-- such as a link, is passed over.
abbrev pub met : List WebFile → List ℕ → Found → Result Step TableFault
met files name Folder = Ok Enter
met files name Other = Ok Pass
met files name (File size) = met_file (refusal files (media_type_by_name name) size)
