-- Texts that are kept are short (RFC 6143, 7.6.4; the bound is this project's own).
use Rattle.std.specs.Prelude.{◌≤◌, length}
use Rattle.raster.specs.Update.{Update, Paints, Bell, Cut}
use Rattle.rfb_wire.specs.ClientMessage.{longest_text}
use Rattle.rfb_wire.specs.ServerMessage.{ServerMessage, FramebufferUpdate, SetColorMapEntries, ServerCutText, LostText}
use Rattle.rfb_wire.specs.ServerMessage as server

-- A text in a message of the host has at most 65,536 bytes.
abbrev pub HasShortText : ServerMessage → Type 0
HasShortText (FramebufferUpdate paints) = Unit {0}
HasShortText SetColorMapEntries = Unit {0}
HasShortText server.Bell = Unit {0}
HasShortText (ServerCutText text) = length text ≤ longest_text
HasShortText (LostText len) = Unit {0}

-- The text that an update brings, if any, has at most 65,536 bytes.
abbrev pub BringsShortText : Update → Type 0
BringsShortText (Paints size paints) = Unit {0}
BringsShortText Bell = Unit {0}
BringsShortText (Cut text) = length text ≤ longest_text
