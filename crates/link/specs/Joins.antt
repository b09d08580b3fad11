-- Joining a host over a link.
use Rattle.std.specs.Prelude.{◌≡◌, ◌⊎◌, ℕ, false, List, [], ◌∷◌, ◌++◌, Option}
use Rattle.pixel_format.specs.PixelFormat.{host_format}
use Rattle.byte_reading.specs.Reading.{Faulty, after, Spells}
use Rattle.fault.specs.declared.kinds.Fault.{Fault}
use Rattle.fault.specs.declared.kinds.Fault.TheVariants.{LinkFailed, LinkEnded}
use Rattle.rfb_wire.specs.Handshake.{Joined, host_hello, said_to_host}
use Rattle.rfb_wire.specs.ClientMessage.{desktop_size}
use Rattle.rfb_wire.specs.Writing.{set_pixel_format_bytes, set_encodings_bytes, request_bytes}
use Rattle.link.specs.Links.{LinkState, HasRisen}

-- What a host is told before its first update: the pixel format, the encodings CopyRect, Hextile, RRE and Raw, then
-- DesktopSize (RFC 6143, 7.8.2), and a request of its whole screen.
abbrev pub first_messages : Joined → List ℕ
first_messages joined =
    set_pixel_format_bytes host_format ++ set_encodings_bytes (1 ∷ 5 ∷ 2 ∷ 0 ∷ desktop_size ∷ []) ++ request_bytes false (record { x = 0; y = 0; w = joined.w; h = joined.h })

-- One whole handshake of the host was taken, and the client's side with this password and the first messages were
-- given. The link neither failed nor ended.
pub record Joins (password : Option (List ℕ)) (old new : LinkState) (joined : Joined) : Type 0 where
  pub heard : List ℕ
  pub taken : new.taken ≡ old.taken ++ heard
  pub spells : Spells (host_hello password) heard joined
  pub given : new.given ≡ old.given ++ said_to_host password heard ++ first_messages joined
  pub failed : new.failed ≡ old.failed
  pub ended : new.ended ≡ old.ended

-- Which count has risen where the fault is the link's: how often it failed, or how often it said that it ended. Only
-- `LinkFailed` and `LinkEnded` are faults of a link.
abbrev pub Rises : Fault → (failed_old failed_new : ℕ) → (ended_old ended_new : ℕ) → Type 0
Rises LinkFailed failed_old failed_new ended_old ended_new = HasRisen failed_old failed_new
Rises LinkEnded failed_old failed_new ended_old ended_new = HasRisen ended_old ended_new
Rises _ failed_old failed_new ended_old ended_new = ⊥

-- The link failed in the meantime, or it said in the meantime that it ended.
abbrev pub LinkFails : Fault → (old new : LinkState) → Type 0
LinkFails fault old new = Rises fault old.failed new.failed old.ended new.ended

-- The link failed or ended in the meantime, or the handshake that was taken from the host is at fault for a client with
-- this password.
abbrev pub FailsAs : Option (List ℕ) → Fault → (old new : LinkState) → Type 0
FailsAs password fault old new = LinkFails fault old new ⊎ ((heard : List ℕ) × (new.taken ≡ old.taken ++ heard) × (after (host_hello password) heard ≡ Faulty fault))
