-- What bytes that have come show of an opening.
use Rattle.std.specs.Prelude.{◌≡◌, ◌<◌, ℕ, Bool, true, false, if◌then◌else◌, List, ◌++◌, length, drop, Option, option_map, Ok, Err}
use Rattle.byte_reading.specs.Reading.{Reading, Done, after, taken, whole_of, wants_more}
use Rattle.recording.specs.declared.bad.BadRecording.TheVariants as recording
use Rattle.playback.specs.Opening.{Opened, opening, result}
use Rattle.playback.specs.declared.bad.BadPlayback.{BadPlayback}
use Rattle.playback.specs.declared.bad.BadPlayback.TheVariants.{Recording, Opening, File}

-- Where the opening is whole in these bytes: what follows it, and whether it is one of ours. Nothing where it isn't
-- whole.
abbrev pub seen : Reading Opened → List ℕ → Option (List ℕ × Opened)
seen form bytes = option_map (λ opened. (drop (taken form bytes) bytes, opened)) (whole_of (after form bytes))

-- What follows the security types: a SecurityResult in version 3.8, and nothing in 3.7.
abbrev pub after_types : (has_result : Bool) → Reading Opened
after_types has_result = if has_result then result else Done (Ok tt)

-- The bytes of an opening that have come, and whether it was whole.
pub record Begun : Type 0 where
  pub begun : List ℕ
  pub is_open : Bool

-- Further bytes have come of an opening that wasn't whole. It isn't whole yet (false), or they end it (true).
abbrev pub GoesOn : Bool → (old new more : List ℕ) → Type 0
GoesOn false old new more = (new ≡ old ++ more) × (wants_more (after opening new) ≡ true)
GoesOn true old new more = (after opening (old ++ more) ≡ Done (Ok tt)) × (taken opening (old ++ more) ≡ length (old ++ more)) × (0 < length more)

-- Why no more is heard of these bytes: memory was refused, or their opening isn't one of ours.
abbrev pub IsNoOpening : BadPlayback → (bytes : List ℕ) → Type 0
IsNoOpening (Recording bad) bytes = bad ≡ recording.Memory
IsNoOpening (Opening bad) bytes = after opening bytes ≡ Done (Err bad)
IsNoOpening File bytes = ⊥
