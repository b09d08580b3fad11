-- What a file system may answer where bytes of a file are read (POSIX, read and lseek).
use Rattle.std.specs.Prelude.{◌≡◌, ◌≢◌, ◌≤◌, ℕ, List, [], ◌++◌, length, take, Result, Ok, Err}
use Rattle.std.specs.IoError.{error_kind}
use Rattle.std.specs.declared.io.Error.{Error}
use Rattle.std.specs.declared.io.ErrorKind.{ErrorKind}

-- These bytes were read next, at most as many as there is room for. None at all is the end of the file: then all that
-- was read so far is all that it has. At an error nothing was read; the file has failed, unless the call was
-- interrupted.
abbrev pub ReadsAs : Result ℕ Error → (is_all : List ℕ → Type 0) → (has_failed : Type 0) → (old new into : List ℕ) → Type 0
ReadsAs (Ok count) is_all has_failed old new into = (count ≤ length into) × (new ≡ old ++ take count into) × (count ≡ 0 → is_all old)
ReadsAs (Err error) is_all has_failed old new into = (new ≡ old) × (error_kind error ≢ ErrorKind.Interrupted → has_failed)

-- Reading goes on at this place; or the file has failed, and it goes on where it was.
abbrev pub GoesAs : {A : Type 0} → Result A Error → (has_failed : Type 0) → (place : ℕ) → (old_place new_place : ℕ) → (old new : List ℕ) → Type 0
GoesAs (Ok fine) has_failed place old_place new_place old new = (new_place ≡ place) × (new ≡ [])
GoesAs (Err error) has_failed place old_place new_place old new = (new_place ≡ old_place) × (new ≡ old) × has_failed
