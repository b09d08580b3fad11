-- The lines of requests: one word, or `state json`, or `end` and the number of a place, or `call`, a role and an
-- address.
use Rattle.std.specs.Prelude.{◌≡◌, ℕ, ◌<◌, ◌^◌, ◌++◌, List, codes}
use Rattle.std.specs.Fmt.{decimal}
use Rattle.std.specs.Net.Grammar.{IsSocketText}
use Rattle.std.specs.Net.Socket.{socket_port}
use Rattle.roles.specs.declared.role.Role.{Role}
use Rattle.roles.specs.declared.role.Role.TheVariants.{Full, View}
use Rattle.run_control.specs.declared.request.StateForm.TheVariants.{Text, Json}
use Rattle.run_control.specs.declared.request.Request.{Request}
use Rattle.run_control.specs.declared.request.Request.TheVariants.{State, Drain, Undrain, End, Next, Call, Stop}

-- A number of a place is below 2 ^ 64. Nobody listens at port 0.
abbrev pub IsInRange : Request → Type 0
IsInRange (End place) = place < 2 ^ 64
IsInRange (Call role address) = 0 < socket_port address
IsInRange _ = Unit {0}

-- How a call in this role begins.
abbrev pub call_in : Role → List ℕ
call_in Full = codes "call full "
call_in View = codes "call view "

-- The bytes of a request's line, without its line feed. Numbers are decimal, with neither a sign nor leading zeros. An
-- address is one of IPv4 or, in brackets, of IPv6, with a port, in any of its spellings.
abbrev pub Says : Request → List ℕ → Type 0
Says (State Text) text = text ≡ codes "state"
Says (State Json) text = text ≡ codes "state json"
Says Drain text = text ≡ codes "drain"
Says Undrain text = text ≡ codes "undrain"
Says (End place) text = text ≡ codes "end " ++ decimal place
Says Next text = text ≡ codes "next"
Says (Call role address) text = (said : List ℕ) × (text ≡ call_in role ++ said) × IsSocketText said address
Says Stop text = text ≡ codes "stop"
