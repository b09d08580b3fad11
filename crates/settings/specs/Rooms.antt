-- The room of a run: the size of the screen that viewers are told, into which the screens of all hosts fit.
use Rattle.std.specs.Prelude.{◌≡◌, ◌≤◌, ◌++◌, ℕ, List, codes, IfSome, MatchOption, Option}
use Rattle.std.specs.Fmt.{decimal}
use Rattle.settings.specs.declared.room.Room.{Room}
use Rattle.settings.specs.declared.values.Settings.{Settings}

-- The text of a room: its width and its height in decimal digits, with neither signs nor leading zeros, and an x
-- between them.
abbrev pub room_text : ℕ → ℕ → List ℕ
room_text width height = decimal width ++ (codes "x" ++ decimal height)

-- A host's screen of this size fits into the room, if there is one.
abbrev pub FitsInto : Option Room → (host_width host_height : ℕ) → Type 0
FitsInto room host_width host_height = IfSome room (λ r. (host_width ≤ r.width) × (host_height ≤ r.height))

-- The room by these settings has this size: the one that the settings say or, where they say none, that of the first
-- host's screen.
abbrev pub IsRoomFor : Settings → (host_width host_height : ℕ) → (width height : ℕ) → Type 0
IsRoomFor settings host_width host_height width height =
    MatchOption settings.room ((width ≡ host_width) × (height ≡ host_height)) (λ room. (width ≡ room.width) × (height ≡ room.height))
