-- What follows once all bytes of a part have come. The decoder then stands at the part after it, or at a fault.
use Rattle.std.proofs.Common.{◌≡◌, ℕ, ◌*◌, ◌<◌, ◌≤◌, Bool, true, false, List, [], ◌∷◌, length, take, inr, refl, arith, sym, ap, subst, ◌∙◌}
use Rattle.std.specs.Prelude.{if◌then◌else◌, nat_le, slice_index}
use Rattle.std.proofs.lemmas.Bool.{lt-leb, le-leb}
use Rattle.pixel_format.specs.PixelFormat.{host_format}
use Rattle.byte_reading.specs.Reading.{Reading, Done, Faulty, ◌>>=◌, after, bytes, padding, u32, Spells}
use Rattle.raster.specs.declared.rect.Rect.{Rect}
use Rattle.raster.specs.Screen.{Canvas}
use Rattle.raster.specs.Update.{Paint}
use Rattle.painter.specs.Painter.{Painting}
use Rattle.rfb_wire.specs.ClientMessage.{longest_text}
use Rattle.rfb_wire.specs.ServerHeads.{colour_map_head, text_head, update_head}
use Rattle.rfb_wire.specs.ServerMessage.{ServerMessage, SetColorMapEntries, ServerCutText, LostText, data_of, fault_outside, fields_of, set_color_map_entries}
use Rattle.host_decoder.specs.declared.part.HostPart.TheVariants as part
use Rattle.host_decoder.specs.declared.passed.Passed.TheVariants as passed
use Rattle.host_decoder.specs.declared.state.HostState.{HostState}
use Rattle.host_decoder.specs.Decoder.{GoesOn, Holds, StandsUnpainted, form_of, keeping, passing, rectangles, with_others}
use Rattle.host_decoder.proofs.HostParts.{head_read}

-- Outside an update no paint is held.
pub outside_update : (painter : Painting) (start : Canvas) (sofar : List Paint) (state : HostState) (r : Reading ServerMessage) → Holds start painter sofar → sofar ≡ [] → StandsUnpainted painter.width painter.height state r → GoesOn painter painter state start r
outside_update painter start sofar state r holds none stands = inr (stands start painter (subst (λ ps. Holds start painter ps) none holds))

-- ---- what is read after a part

pub behind_kind : (w h : ℕ) (sofar : List Paint) (bs : List ℕ) → length bs ≡ 1 → after (form_of w h sofar part.Kind) bs ≡ fields_of host_format w h (slice_index bs 0)
behind_kind w h sofar [] e = absurd (omega (arith, e))
behind_kind w h sofar (b ∷ []) e = refl
behind_kind w h sofar (b ∷ d ∷ bs) e = absurd (omega (arith, e))

pub behind_count : (w h : ℕ) (sofar : List Paint) (bs : List ℕ) (count : ℕ) → length bs ≡ 3 → sofar ≡ [] → Spells update_head (take 3 bs) count → after (form_of w h sofar part.Count) bs ≡ rectangles w h sofar count
behind_count w h sofar bs count e none spells = head_read 3 update_head (λ n. rectangles w h [] n) bs count e spells ∙ ap (λ ps. rectangles w h ps count) (sym none)

pub behind_encoding : (w h : ℕ) (sofar : List Paint) (left : ℕ) (area : Rect) (bs : List ℕ) (encoding : ℕ) → length bs ≡ 4 → Spells u32 (take 4 bs) encoding
    → after (form_of w h sofar (part.Encoding left area)) bs ≡ with_others w h sofar left (data_of host_format w h area encoding)
behind_encoding w h sofar left area bs encoding e spells = head_read 4 u32 (λ n. with_others w h sofar left (data_of host_format w h area n)) bs encoding e spells

pub behind_outside : (w h : ℕ) (sofar : List Paint) (bs : List ℕ) (encoding : ℕ) → length bs ≡ 4 → Spells u32 (take 4 bs) encoding → after (form_of w h sofar part.Outside) bs ≡ Faulty (fault_outside encoding)
behind_outside w h sofar bs encoding e spells = head_read 4 u32 (λ n. Faulty (fault_outside n)) bs encoding e spells

pub behind_colours : (bs : List ℕ) (count : ℕ) → length bs ≡ 5 → Spells colour_map_head (take 5 bs) count → passing (count * 6) passed.Colours ≡ after set_color_map_entries bs
behind_colours bs count e spells = sym (head_read 5 colour_map_head (λ n. padding (n * 6) (Done SetColorMapEntries)) bs count e spells)

-- What follows the length of a text.
abbrev text_of : ℕ → Reading ServerMessage
text_of len = if nat_le len longest_text then (bytes len >>= λ text. Done (ServerCutText text)) else padding len (Done (LostText len))

chosen : (b : Bool) (len : ℕ) → nat_le len longest_text ≡ b → text_of len ≡ (if b then (bytes len >>= λ text. Done (ServerCutText text)) else padding len (Done (LostText len)))
chosen b len e = ap (λ t. if t then (bytes len >>= λ text. Done (ServerCutText text)) else padding len (Done (LostText len))) e

pub long_text : (w h : ℕ) (bs : List ℕ) (len : ℕ) → length bs ≡ 7 → Spells text_head (take 7 bs) len → longest_text < len → passing len (passed.Text len) ≡ after (form_of w h [] part.Length) bs
long_text w h bs len e spells lt = sym (head_read 7 text_head text_of bs len e spells ∙ chosen false len (lt-leb len longest_text lt))

pub short_text : (w h : ℕ) (bs : List ℕ) (len : ℕ) → length bs ≡ 7 → Spells text_head (take 7 bs) len → len ≤ longest_text → keeping [] len ≡ after (form_of w h [] part.Length) bs
short_text w h bs len e spells le = sym (head_read 7 text_head text_of bs len e spells ∙ chosen true len (le-leb len longest_text le))
