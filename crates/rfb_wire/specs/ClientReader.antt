-- How reading a viewer's message goes on, by what its reader holds.
use Rattle.std.specs.Prelude.{◌≡◌, ℕ, suc, Bool, true, false, ◌<◌, ◌≤◌, ◌==◌, ◌||◌, ◌&&◌, ◌⊎◌, is_none, unwrap_or, Some, List, ◌++◌, length, take}
use Rattle.std.specs.List.{list_any}
use Rattle.fault.specs.declared.kinds.Fault.TheVariants.{UnknownMessage}
use Rattle.byte_reading.specs.Reading.{Reading, Done, Faulty, ◌>>=◌, step, after, taken, fault_of, bytes, padding, u32, times}
use Rattle.rfb_wire.specs.ClientMessage as client
use Rattle.rfb_wire.specs.ClientMessage.{ClientMessage, SetEncodings, CutText, LostText, client_message, set_pixel_format, set_encodings, key_event, pointer_event, text, kind_of}
use Rattle.rfb_wire.specs.HeldText.{kept_text}
use Rattle.rfb_wire.specs.Message.{message_of, losing}
use Rattle.rfb_wire.specs.declared.client_reader.found.Found.{Found}
use Rattle.rfb_wire.specs.declared.client_reader.part.Part.{Part}
use Rattle.rfb_wire.specs.declared.client_reader.part.Part.TheVariants as part
use Rattle.rfb_wire.specs.declared.client_reader.state.State.{State}
use Rattle.rfb_wire.specs.declared.client_reader.state.State.TheVariants.{Fields, Keeping, Passing, Whole, Failed}

-- ---- a list of encodings, whose numbers are noted as they come and not kept

-- The choice where this is found and these numbers are left.
abbrev pub choice_with : Found → List ℕ → client.Choice
choice_with found es =
    record {
      kind = unwrap_or found.kind (kind_of es);
      copy = found.copy || list_any (λ e. e == 1) es;
      resizes = found.resizes || list_any (λ e. e == client.desktop_size) es;
      zrle = found.zrle || (is_none found.kind && client.is_zrle_first es);
    }

-- The rest of SetEncodings, of which this many numbers are left.
abbrev pub numbers : ℕ → Found → Reading ClientMessage
numbers n found = times n u32 >>= λ es. Done (SetEncodings (choice_with found es))

-- ---- the rest of a text

-- The rest of a text that is kept, of which these bytes have come and this many are left.
abbrev pub keeping : List ℕ → ℕ → Reading ClientMessage
keeping = kept_text CutText

-- The rest of a text of len bytes that is read past, of which this many are left.
abbrev pub passing : ℕ → ℕ → Reading ClientMessage
passing left len = padding left (Done (LostText len))

-- ---- any part of a message

-- What is read from the beginning of a part on.
abbrev pub form_of : Part → Reading ClientMessage
form_of part.Kind = client_message
form_of part.Format = set_pixel_format
form_of part.Count = set_encodings
form_of (part.Number left found) = numbers (suc left) found
form_of part.Ask = client.ask
form_of part.Key = key_event
form_of part.Pointer = pointer_event
form_of part.Length = text CutText LostText

-- How a reader that holds this goes on.
abbrev pub ahead : State → Reading ClientMessage
ahead (Fields fields) = after (form_of fields.0) fields.1
ahead (Keeping kept) = keeping kept.0 kept.1
ahead (Passing len left) = passing left len
ahead (Whole message) = Done (message_of message)
ahead (Failed fault) = Faulty fault

-- More is to come of a message.
abbrev pub is_partial : State → Bool
is_partial (Fields fields) = true
is_partial (Keeping kept) = true
is_partial (Passing len left) = true
is_partial (Whole message) = false
is_partial (Failed fault) = false

-- The type of the message has come, so no next byte, such as 255, shows an unknown type.
abbrev pub KnowsType : Reading ClientMessage → Type 0
KnowsType reading = fault_of (step reading 255) ≡ Some (UnknownMessage 255) → ⊥

-- ---- what a reader does

-- The first n bytes of a piece were used, at least one.
pub record Uses (old new : Reading ClientMessage) (piece : List ℕ) (n : ℕ) : Type 0 where
  pub some : 0 < n
  pub fits : n ≤ length piece
  pub goes_on : new ≡ after old (take n piece)
  pub all : taken old (take n piece) ≡ n

-- The same as Uses, where memory for a text may have been refused.
abbrev pub UsesOrLoses : Reading ClientMessage → Reading ClientMessage → List ℕ → ℕ → Type 0
UsesOrLoses old new piece n = Uses old new piece n ⊎ Uses (losing old) new piece n
