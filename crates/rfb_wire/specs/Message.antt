-- What the messages in the code stand for, and what a reader of a viewer's messages does.
use Rattle.std.specs.Prelude.{◌≡◌, ℕ, ◌⊎◌, List, Result}
use Rattle.fault.specs.declared.kinds.Fault.{Fault}
use Rattle.byte_reading.specs.Reading.{Reading, Done, Faulty, Want, Feeds}
use Rattle.rfb_wire.specs.declared.choice.Choice as declared_choice
use Rattle.rfb_wire.specs.declared.message.ClientMessage as declared
use Rattle.rfb_wire.specs.declared.message.ClientMessage.TheVariants as code
use Rattle.rfb_wire.specs.ClientMessage.{ClientMessage, SetPixelFormat, SetEncodings, Ask, Key, Pointer, CutText, LostText, Choice, client_message, without_text}

-- The choice of the definitions for which a choice in the code stands.
abbrev pub choice_in : declared_choice.Choice → Choice
choice_in c = record { kind = c.kind; copy = c.copy; resizes = c.resizes; zrle = c.zrle }

-- The message of the definitions for which a message in the code stands.
abbrev pub message_of : declared.ClientMessage → ClientMessage
message_of (code.Format format) = SetPixelFormat format
message_of (code.Encodings choice) = SetEncodings (choice_in choice)
message_of (code.Ask incremental area) = Ask incremental area
message_of (code.Key down key) = Key down key
message_of (code.Pointer mask x y) = Pointer mask x y
message_of (code.Cut text) = CutText text
message_of (code.CutLost len) = LostText len

-- The form of a viewer's messages.
abbrev pub viewer_form : Reading ClientMessage
viewer_form = client_message

-- The same reading, where memory for the text of its message was refused.
abbrev pub losing : Reading ClientMessage → Reading ClientMessage
losing (Done message) = Done (without_text message)
losing (Faulty fault) = Faulty fault
losing (Want more) = Want (λ b. losing (more b))

-- A reader of messages was fed a piece. Want of memory only changes a text that would be kept to one that is lost.
abbrev pub FeedsOrLoses : Reading ClientMessage → Reading ClientMessage → List ℕ → Result ℕ Fault → Type 0
FeedsOrLoses old new piece answer = Feeds old new piece answer ⊎ Feeds (losing old) new piece answer

-- Reading goes on as this reading, or as it does where memory for the message's text was refused.
abbrev pub IsOrLoses : Reading ClientMessage → Reading ClientMessage → Type 0
IsOrLoses now reading = (now ≡ reading) ⊎ (now ≡ losing reading)
