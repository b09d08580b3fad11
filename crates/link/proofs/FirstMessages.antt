-- What a host is told once its handshake is whole. A join owes just these messages.
use Rattle.std.proofs.Common.{◌≡◌, ℕ, false, List, [], ◌∷◌, ◌++◌, length, sym, ap, ◌∙◌, arith, append_assoc}
use Rattle.std.proofs.lemmas.List.{append-nil, drop_all}
use Rattle.pixel_format.specs.PixelFormat.{host_format}
use Rattle.rfb_wire.specs.Handshake.{Joined}
use Rattle.rfb_wire.specs.ClientMessage.{desktop_size}
use Rattle.rfb_wire.specs.Writing.{Writes, set_pixel_format_bytes, set_encodings_bytes, request_bytes}
use Rattle.link.specs.Joins.{first_messages}

-- A message that fills its slice is the slice.
pub writes_whole : (spelling old new : List ℕ) (count : ℕ) → Writes spelling old new count → length spelling ≡ length old → new ≡ spelling
writes_whole spelling old new count w e = w.written ∙ (ap (λ t. spelling ++ t) (drop_all (length spelling) old (omega (arith, e))) ∙ append-nil spelling)

-- The three messages, one after another, are the first messages.
pub all_messages : (joined : Joined) (w h : ℕ) (format encodings request : List ℕ) → joined.w ≡ w → joined.h ≡ h → format ≡ set_pixel_format_bytes host_format → encodings ≡ set_encodings_bytes (1 ∷ 5 ∷ 2 ∷ 0 ∷ desktop_size ∷ [])
    → request ≡ request_bytes false (record { x = 0; y = 0; w = w; h = h }) → format ++ (encodings ++ request) ≡ first_messages joined
all_messages joined w h format encodings request p q f e r =
    sym (append_assoc format encodings request)
    ∙ (ap (λ x. (x ++ encodings) ++ request) f
    ∙ (ap (λ x. (set_pixel_format_bytes host_format ++ x) ++ request) e
    ∙ ap (λ x. (set_pixel_format_bytes host_format ++ set_encodings_bytes (1 ∷ 5 ∷ 2 ∷ 0 ∷ desktop_size ∷ [])) ++ x) (r ∙ ap (λ v. request_bytes false (record { x = 0; y = 0; w = v; h = h })) (sym p) ∙ ap (λ k. request_bytes false (record { x = 0; y = 0; w = joined.w; h = k })) (sym q))))
