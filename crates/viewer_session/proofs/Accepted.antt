-- What is read of a viewer has accepted pixel formats alone. So each answer has a format in which it can be read back.
use Rattle.std.proofs.Common.{◌≡◌, ℕ, Bool, true, false, List, refl}
use Rattle.std.specs.Prelude.{◌==◌, ◌&&◌, not, slice_index, nat_le, if◌then◌else◌}
use Rattle.byte_reading.specs.Reading.{Done, Gives, ◌>>=◌, byte, bytes, padding, u16, u32, times, unless}
use Rattle.pixel_format.specs.PixelFormat.{IsAccepted, accepts, is_accepted, format_at}
use Rattle.fault.specs.declared.kinds.Fault.TheVariants.{BadFormat}
use Rattle.raster.specs.Encoding.{rect}
use Rattle.rfb_wire.specs.ClientMessage.{ClientMessage, SetPixelFormat, SetEncodings, Ask, Key, Pointer, CutText, LostText, client_message, choice_of, flag, longest_text}
use Rattle.byte_reading.proofs.ReadingLaws.{gives_bind, gives_if, gives_padding}

-- A pixel format in a message is an accepted one.
abbrev pub HasAcceptedFormat : ClientMessage → Type 0
HasAcceptedFormat (SetPixelFormat format) = IsAccepted format
HasAcceptedFormat message = Unit {0}

accepted_is : (a b : Bool) → (a && b) ≡ true → b ≡ true
accepted_is true b e = e
accepted_is false b e = absurd cc

fine_format : (field : List ℕ) (b : Bool) → accepts field ≡ b → Gives HasAcceptedFormat (unless (not b) BadFormat (Done (SetPixelFormat (format_at field))))
fine_format field true e = accepted_is (if slice_index field 3 == 0 then false else true) (is_accepted (format_at field)) e
fine_format field false e = tt

pub client_message_fine : Gives HasAcceptedFormat client_message
client_message_fine = λ b.
    gives_if HasAcceptedFormat (b == 0) _ _ (gives_padding HasAcceptedFormat 3 (bytes 16 >>= λ field. unless (not (accepts field)) BadFormat (Done (SetPixelFormat (format_at field)))) (gives_bind HasAcceptedFormat (bytes 16) (λ field. unless (not (accepts field)) BadFormat (Done (SetPixelFormat (format_at field)))) (λ field. fine_format field (accepts field) refl)))
    (gives_if HasAcceptedFormat (b == 2) _ _ (gives_padding HasAcceptedFormat 1 (u16 >>= λ count. times count u32 >>= λ encodings. Done (SetEncodings (choice_of encodings))) (gives_bind HasAcceptedFormat u16 (λ count. times count u32 >>= λ encodings. Done (SetEncodings (choice_of encodings))) (λ count. gives_bind HasAcceptedFormat (times count u32) (λ encodings. Done (SetEncodings (choice_of encodings))) (λ es. tt))))
    (gives_if HasAcceptedFormat (b == 3) _ _ (gives_bind HasAcceptedFormat flag (λ incremental. rect >>= λ area. Done (Ask incremental area)) (λ incremental. gives_bind HasAcceptedFormat rect (λ area. Done (Ask incremental area)) (λ area. tt)))
    (gives_if HasAcceptedFormat (b == 4) _ _ (gives_bind HasAcceptedFormat flag (λ down. padding 2 (u32 >>= λ key. Done (Key down key))) (λ down. gives_padding HasAcceptedFormat 2 (u32 >>= λ key. Done (Key down key)) (gives_bind HasAcceptedFormat u32 (λ key. Done (Key down key)) (λ key. tt))))
    (gives_if HasAcceptedFormat (b == 5) _ _ (gives_bind HasAcceptedFormat byte (λ mask. u16 >>= λ x. u16 >>= λ y. Done (Pointer mask x y)) (λ mask. gives_bind HasAcceptedFormat u16 (λ x. u16 >>= λ y. Done (Pointer mask x y)) (λ x. gives_bind HasAcceptedFormat u16 (λ y. Done (Pointer mask x y)) (λ y. tt))))
    (gives_if HasAcceptedFormat (b == 6) _ _ (gives_padding HasAcceptedFormat 3 (u32 >>= λ len. if nat_le len longest_text then (bytes len >>= λ text. Done (CutText text)) else padding len (Done (LostText len))) (gives_bind HasAcceptedFormat u32 (λ len. if nat_le len longest_text then (bytes len >>= λ text. Done (CutText text)) else padding len (Done (LostText len)))
    (λ len. gives_if HasAcceptedFormat (nat_le len longest_text) _ _ (gives_bind HasAcceptedFormat (bytes len) (λ text. Done (CutText text)) (λ text. tt)) (gives_padding HasAcceptedFormat len (Done (LostText len)) tt)))) tt)))))
