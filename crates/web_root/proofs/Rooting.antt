-- A table keeps that its files are those of a disk.
use Rattle.std.proofs.Common.{◌≡◌, ℕ, List, [], ◌∷◌, ◌++◌, All, Option, None, Some, sym, subst}
use Rattle.std.specs.Prelude.{IsSomeAnd, OnOk, Result, Ok, Err, String}
use Rattle.std.proofs.lemmas.List.Elements.{All-nil, All-cons, All-append}
use Rattle.std.specs.declared.alloc.Global.{Global}
use Rattle.std.specs.String.{string_bytes}
use Rattle.web_site.specs.declared.walk.Found.{Found}
use Rattle.web_site.specs.declared.walk.Found.TheVariants.{File}
use Rattle.web_site.specs.declared.table.WebFile.{WebFile}
use Rattle.web_site.specs.declared.media_type.MediaType.{MediaType}
use Rattle.web_site.specs.MediaTypes.{media_type_by_name}
use Rattle.web_site.specs.Tables.{IsAdded}
use Rattle.web_root.specs.Roots.{IsFileOf}

abbrev file_of : String Global → List ℕ → MediaType → WebFile
file_of path body media_type = record { path = path; media_type = media_type; body = body }

by_media_type : (has : List ℕ → Found → Type 0) (gave : List ℕ → List ℕ → Type 0) (old new : List WebFile) (path : String Global) (body : List ℕ) (media_type : Option MediaType)
    → IsSomeAnd media_type (λ k. new ≡ old ++ file_of path body k ∷ [])
    → ((size : ℕ) × has (string_bytes path) (File size)) × gave (string_bytes path) body
    → All (IsFileOf has gave) old → All (IsFileOf has gave) new
by_media_type has gave old new path body None is one all = absurd is
by_media_type has gave old new path body (Some media_type) is one all =
    subst (λ (files : List WebFile). All (IsFileOf has gave) files) (sym is)
    (All-append (IsFileOf has gave) old (file_of path body media_type ∷ []) all (All-cons (IsFileOf has gave) (file_of path body media_type) [] one (All-nil (IsFileOf has gave))))

-- One more file of the disk is added.
pub added_file : (has : List ℕ → Found → Type 0) (gave : List ℕ → List ℕ → Type 0) (old new : List WebFile) (path : String Global) (body : List ℕ)
    → IsAdded old new path body
    → ((size : ℕ) × has (string_bytes path) (File size)) → gave (string_bytes path) body
    → All (IsFileOf has gave) old → All (IsFileOf has gave) new
added_file has gave old new path body is regular gives all = by_media_type has gave old new path body (media_type_by_name (string_bytes path)) is (regular, gives) all

-- What holds anyway holds where it went well.
pub anyway : {X E : Type 0} {P : Type 0} (r : Result X E) → P → OnOk r P
anyway (Ok x) p = p
anyway (Err e) p = record {}
