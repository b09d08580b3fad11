-- What the texts spell that clap takes as they are, or that they spell nothing: those of the room, the time and the speed.
-- `told` reads them.
use Rattle.std.proofs.Common.{◌≡◌, ◌⊎◌, ◌≤◌, inl, inr, refl, sym, subst, ap, ◌∙◌, true, List, Option, Some, None, ℕ}
use Rattle.std.specs.Prelude.{codes, is_some}
use Rattle.std.specs.String.{string_bytes}
use Rattle.clap.specs.Words.{Text, first_value}
use Rattle.clap.specs.declared.parser.matches.Found.{Found}
use Rattle.command_line.specs.Given.{IsNoRoom, IsNoSpeed, IsNoTime, IsRoom, IsSpeed, IsTime}
use Rattle.command_line.specs.Values.{AreValuesOf, IsMisread}
use Rattle.play_control.specs.Times.{IsClockText, IsClockTime}
use Rattle.play_control.specs.Speeds.{SpellsSpeed}
use Rattle.play_control.specs.declared.clock_time.ClockTime.{ClockTime}
use Rattle.play_control.specs.declared.speed.Speed.{Speed}
use Rattle.settings.specs.Recordings.{PlaysFrom}
use Rattle.settings.specs.Rooms.{room_text}
use Rattle.settings.specs.declared.room.Room.{Room}
use Rattle.settings.specs.declared.values.Settings.{Settings}

-- ---- the room

pub is_room : (o : Option Text) (text : Text) (room : Room) → o ≡ Some text → text ≡ room_text room.width room.height → IsRoom o (Some room)
is_room o text room some spells = subst (λ (t : Option Text). IsRoom t (Some room)) (sym some) (room, refl, spells)

pub is_not_told : (o : Option Text) → o ≡ None → IsRoom o None
is_not_told o none = subst (λ (t : Option Text). IsRoom t None) (sym none) refl

pub has_no_room : (f : Found) (text : Text) (status : ℕ) → (status ≡ 4) ⊎ (status ≡ 2) → first_value f (codes "room") ≡ Some text → IsNoRoom text → (status ≡ 4) ⊎ ((status ≡ 2) × IsMisread f)
has_no_room f text status (inl four) first none = inl four
has_no_room f text status (inr two) first none = inr (two, inl (text, first, none))

-- ---- the time

pub is_time : (o : Option Text) (text : Text) (time : ClockTime) → o ≡ Some text → IsClockTime time → IsClockText text time → IsTime o (Some time)
is_time o text time some is spells = subst (λ (t : Option Text). IsTime t (Some time)) (sym some) (time, refl, is, spells)

pub is_no_time_told : (o : Option Text) → o ≡ None → IsTime o None
is_no_time_told o none = subst (λ (t : Option Text). IsTime t None) (sym none) refl

pub has_no_time : (f : Found) (text : Text) (status : ℕ) → (status ≡ 4) ⊎ (status ≡ 2) → first_value f (codes "from") ≡ Some text → IsNoTime text → (status ≡ 4) ⊎ ((status ≡ 2) × IsMisread f)
has_no_time f text status (inl four) first none = inl four
has_no_time f text status (inr two) first none = inr (two, inr (inl (text, first, none)))

-- ---- the speed

pub is_speed : (o : Option Text) (text : Text) (speed : Speed) → o ≡ Some text → 25 ≤ speed.hundredths → speed.hundredths ≤ 1600 → SpellsSpeed text speed.hundredths → IsSpeed o (Some speed)
is_speed o text speed some slow fast spells = subst (λ (t : Option Text). IsSpeed t (Some speed)) (sym some) (speed, refl, slow, fast, spells)

pub is_no_speed_told : (o : Option Text) → o ≡ None → IsSpeed o None
is_no_speed_told o none = subst (λ (t : Option Text). IsSpeed t None) (sym none) refl

pub has_no_speed : (f : Found) (text : Text) (status : ℕ) → (status ≡ 4) ⊎ (status ≡ 2) → first_value f (codes "speed") ≡ Some text → IsNoSpeed text → (status ≡ 4) ⊎ ((status ≡ 2) × IsMisread f)
has_no_speed f text status (inl four) first none = inl four
has_no_speed f text status (inr two) first none = inr (two, inr (inr (inl (text, first, none))))

-- ---- options of recordings, without one

time_given : (o : Option Text) (time : Option ClockTime) → IsTime o time → is_some time ≡ true → is_some o ≡ true
time_given None time is some = let bad = ap is_some (sym is) ∙ some in cc
time_given (Some text) time is some = refl

speed_given : (o : Option Text) (speed : Option Speed) → IsSpeed o speed → is_some speed ≡ true → is_some o ≡ true
speed_given None speed is some = let bad = ap is_some (sym is) ∙ some in cc
speed_given (Some text) speed is some = refl

given : (f : Found) (s : Settings) → AreValuesOf f s → (is_some s.from ≡ true) ⊎ (is_some s.speed ≡ true)
    → (is_some (first_value f (codes "from")) ≡ true) ⊎ (is_some (first_value f (codes "speed")) ≡ true)
given f s of (inl from) = inl (time_given (first_value f (codes "from")) s.from of.from from)
given f s of (inr speed) = inr (speed_given (first_value f (codes "speed")) s.speed of.speed speed)

pub plays_nothing : (f : Found) (s : Settings) (status : ℕ) → AreValuesOf f s → (status ≡ 4) ⊎ (status ≡ 2) → (is_some s.from ≡ true) ⊎ (is_some s.speed ≡ true)
    → ((path : List ℕ) → PlaysFrom (string_bytes s.host) path → ⊥) → (status ≡ 4) ⊎ ((status ≡ 2) × IsMisread f)
plays_nothing f s status of (inl four) option none = inl four
plays_nothing f s status of (inr two) option none = inr (two, inr (inr (inr (given f s of option, string_bytes s.host, of.host, none))))
