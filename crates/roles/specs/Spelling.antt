-- How an input is spelled to the host (RFC 6143, 7.5.4 to 7.5.6).
use Rattle.std.specs.Prelude.{ℕ, List}
use Rattle.rfb_wire.specs.Writing.{key_bytes, pointer_bytes, client_text_bytes}
use Rattle.roles.specs.Allowed.{Input, Key, Pointer, Cut}

-- The spelling of an input.
abbrev pub input_bytes : Input → List ℕ
input_bytes (Key down key) = key_bytes down key
input_bytes (Pointer mask x y) = pointer_bytes mask x y
input_bytes (Cut text) = client_text_bytes text
