-- How a recorded session may open: the versions 3.3, 3.5, 3.7 and 3.8 of RFB, with security type None (RFC 6143, 7.1
-- and appendix A). What the host says alone is recorded, and not what it was told.
use Rattle.std.specs.Prelude.{◌≡◌, ℕ, ◌+◌, ◌<◌, true, ◌==◌, ◌||◌, if◌then◌else◌, bytes_eq, List, [], ◌∷◌, ◌++◌, length, Result, Ok, Err}
use Rattle.std.specs.List.{list_any}
use Rattle.byte_reading.specs.Reading.{Reading, Done, ◌>>=◌, byte, bytes, u32}
use Rattle.playback.specs.declared.bad.BadOpening.{BadOpening}
use Rattle.playback.specs.declared.bad.BadOpening.TheVariants as bad

-- An opening that is one of ours, or why it isn't.
abbrev pub Opened : Type 0
Opened = Result (Unit {0}) BadOpening

-- "RFB 003.00", the minor version's digit, and a line feed (7.1.1).
abbrev pub version : ℕ → List ℕ
version minor = 82 ∷ 70 ∷ 66 ∷ 32 ∷ 48 ∷ 48 ∷ 51 ∷ 46 ∷ 48 ∷ 48 ∷ (48 + minor) ∷ 10 ∷ []

-- Version 3.3: the host decides, in four bytes. 1 is None, and 0 a refusal (appendix A).
abbrev pub judged_kind : ℕ → Opened
judged_kind kind = if kind == 1 then Ok tt else (if kind == 0 then Err bad.Refused else Err bad.NoNone)

abbrev pub kind : Reading Opened
kind = u32 >>= λ number. Done (judged_kind number)

-- SecurityResult: 0 is OK (7.1.3).
abbrev pub judged_result : ℕ → Opened
judged_result number = if number == 0 then Ok tt else Err bad.NotPassed

abbrev pub result : Reading Opened
result = u32 >>= λ number. Done (judged_result number)

-- These security types, of which one is to be None, and what follows them.
abbrev pub offered : Reading Opened → List ℕ → Reading Opened
offered next types = if list_any (λ t. t == 1) types then next else Done (Err bad.NoNone)

-- As many types as are told; no type at all is a refusal (7.1.2).
abbrev pub counted : Reading Opened → ℕ → Reading Opened
counted next count = if count == 0 then Done (Err bad.Refused) else (bytes count >>= offered next)

abbrev pub security : Reading Opened → Reading Opened
security next = byte >>= counted next

-- What follows a version. In 3.7 no result follows None (appendix A).
abbrev pub by_version : List ℕ → Reading Opened
by_version field =
    if bytes_eq field (version 8) then security result
    else (if bytes_eq field (version 7) then security (Done (Ok tt))
    else (if bytes_eq field (version 3) || bytes_eq field (version 5) then kind else Done (Err bad.UnknownVersion)))

-- The opening of a recorded session.
unfoldable pub opening : Reading Opened
opening = bytes 12 >>= by_version

-- ---- the same in bytes

-- The types have None among them.
pub record AreTypes (types : List ℕ) : Type 0 where
  pub count : length types < 256
  pub none : list_any (λ t. t == 1) types ≡ true

-- What opens a session with security type None, in each version.
pub data IsOpening : List ℕ → Type 0 where
  In_3_3 : IsOpening (version 3 ++ (0 ∷ 0 ∷ 0 ∷ 1 ∷ []))
  In_3_5 : IsOpening (version 5 ++ (0 ∷ 0 ∷ 0 ∷ 1 ∷ []))
  In_3_7 : (types : List ℕ) → AreTypes types → IsOpening (version 7 ++ length types ∷ types)
  In_3_8 : (types : List ℕ) → AreTypes types → IsOpening (version 8 ++ length types ∷ (types ++ (0 ∷ 0 ∷ 0 ∷ 0 ∷ [])))
