-- What is read of a host has short texts alone. So the updates of a host's bytes may be kept.
use Rattle.std.proofs.Common.{◌≡◌, ℕ, ◌*◌, Bool, true, false, cond, length, refl, arith}
use Rattle.std.specs.Prelude.{◌==◌, nat_le, if◌then◌else◌}
use Rattle.std.proofs.lemmas.Bool.{leb-true}
use Rattle.pixel_format.specs.PixelFormat.{PixelFormat}
use Rattle.byte_reading.specs.Reading.{Done, ◌>>=◌, bytes, padding, times, u16, u32, Gives}
use Rattle.byte_reading.proofs.ReadingLaws.{gives_then, gives_bind, gives_bytes, gives_if, gives_padding}
use Rattle.rfb_wire.specs.ClientMessage.{longest_text}
use Rattle.rfb_wire.specs.ServerMessage.{FramebufferUpdate, SetColorMapEntries, ServerCutText, LostText, rectangle, server_message}
use Rattle.rfb_wire.specs.Texts.{HasShortText}

short_if : (len : ℕ) (b : Bool) → nat_le len longest_text ≡ b → Gives HasShortText (cond b (bytes len >>= λ text. Done (ServerCutText text)) (padding len (Done (LostText len))))
short_if len true e = gives_then (λ text. length text ≡ len) HasShortText (bytes len) (λ text. Done (ServerCutText text)) (gives_bytes len) (λ text same. omega (arith, leb-true len longest_text e, same))
short_if len false e = gives_padding HasShortText len (Done (LostText len)) tt

pub server_message_short : (format : PixelFormat) (w h : ℕ) → Gives HasShortText (server_message format w h)
server_message_short format w h = λ kind.
    gives_if HasShortText (kind == 0) _ _
    (gives_padding HasShortText 1 (u16 >>= λ count. times count (rectangle format w h) >>= λ paints. Done (FramebufferUpdate paints))
    (gives_bind HasShortText u16 (λ count. times count (rectangle format w h) >>= λ paints. Done (FramebufferUpdate paints))
    (λ count. gives_bind HasShortText (times count (rectangle format w h)) (λ paints. Done (FramebufferUpdate paints)) (λ paints. tt))))
    (gives_if HasShortText (kind == 1) _ _
    (gives_padding HasShortText 3 (u16 >>= λ count. padding (count * 6) (Done SetColorMapEntries))
    (gives_bind HasShortText u16 (λ count. padding (count * 6) (Done SetColorMapEntries)) (λ count. gives_padding HasShortText (count * 6) (Done SetColorMapEntries) tt)))
    (gives_if HasShortText (kind == 2) _ _ tt
    (gives_if HasShortText (kind == 3) _ _
    (gives_padding HasShortText 3 (u32 >>= λ len. if nat_le len longest_text then (bytes len >>= λ text. Done (ServerCutText text)) else padding len (Done (LostText len)))
    (gives_bind HasShortText u32 (λ len. if nat_le len longest_text then (bytes len >>= λ text. Done (ServerCutText text)) else padding len (Done (LostText len))) (λ len. short_if len (nat_le len longest_text) refl)))
    tt)))
