-- What a viewer reads of its stream, computed. A definition that says something else is refused here.
use Rattle.std.proofs.Common.{◌≡◌, List, [], ◌∷◌, ◌++◌, false, refl}
use Rattle.std.specs.Prelude.{Option, Some, None}
use Rattle.raster.specs.Update.{Update, Put}
use Rattle.rfb_wire.specs.ServerMessage.{ServerMessage, FramebufferUpdate, Bell, ServerCutText}
use Rattle.roles.specs.declared.role.Role.TheVariants.{Full}
use Rattle.reflect_world.specs.Schedule as schedule
use Rattle.reflect_world.specs.Schedule.{World, Step, HostBytes, Raise, Join, Bytes, play}
use Rattle.viewer_session.specs.Stream.{heard, listener}
use Rattle.viewer_session.specs.Viewer.{Viewer}
use Rattle.reflect_world.proofs.Vectors.{small, red_blue, ask, turn}

abbrev read_by : List Update → Option Viewer → List ServerMessage
read_by us None = []
read_by us (Some p) = (listener 2 1 (heard 2 1 us p.entries)).messages

abbrev read : World → List ServerMessage
read w = read_by w.shared.updates (w.viewers 1)

-- An update, and at the next cut the last of two Bells as one, and a text.
pub update_bell_and_text : read (play small ((HostBytes red_blue ∷ schedule.Put ∷ Raise ∷ Join 1 Full false ∷ Bytes 1 ask [] ∷ turn)
    ++ HostBytes (2 ∷ 2 ∷ 3 ∷ 0 ∷ 0 ∷ 0 ∷ 0 ∷ 0 ∷ 0 ∷ 2 ∷ 0x48 ∷ 0x69 ∷ []) ∷ schedule.Put ∷ schedule.Put ∷ schedule.Put ∷ Raise ∷ turn))
    ≡ FramebufferUpdate (Put (record { x = 0; y = 0; w = 2; h = 1 }) (0xFF0000 ∷ 0x0000FF ∷ []) ∷ []) ∷ Bell ∷ ServerCutText (0x48 ∷ 0x69 ∷ []) ∷ []
update_bell_and_text = refl

-- In 16 bits per pixel.
pub in_the_format_taken : read (play small (HostBytes red_blue ∷ schedule.Put ∷ Raise ∷ Join 1 Full false
    ∷ Bytes 1 (0 ∷ 0 ∷ 0 ∷ 0 ∷ 0x10 ∷ 0x10 ∷ 0x01 ∷ 0x01 ∷ 0x00 ∷ 0x1F ∷ 0x00 ∷ 0x3F ∷ 0x00 ∷ 0x1F ∷ 0x0B ∷ 0x05 ∷ 0 ∷ 0 ∷ 0 ∷ 0 ∷ []) []
    ∷ Bytes 1 ask [] ∷ turn)) ≡ FramebufferUpdate (Put (record { x = 0; y = 0; w = 2; h = 1 }) (0xF800 ∷ 0x001F ∷ []) ∷ []) ∷ []
in_the_format_taken = refl
