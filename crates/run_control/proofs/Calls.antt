-- Calls, as they are spelled, and lines that are no request.
use Rattle.std.proofs.Common.{◌≡◌, ◌<◌, ◌^◌, List, ℕ, Option, Some, None, ap, arith}
use Rattle.std.specs.Prelude.{IfNone, codes}
use Rattle.std.specs.Net.Grammar.{IsSocketText}
use Rattle.std.specs.Net.Socket.{socket_port}
use Rattle.std.specs.declared.net.socket_addr.SocketAddr.{SocketAddr}
use Rattle.std.proofs.NetLemmas.Theorems.{IsSocketText_unique}
use Rattle.roles.specs.declared.role.Role.{Role}
use Rattle.roles.specs.declared.role.Role.TheVariants.{Full, View}
use Rattle.run_control.specs.declared.request.StateForm.TheVariants.{Text, Json}
use Rattle.run_control.specs.declared.request.Request.{Request}
use Rattle.run_control.specs.declared.request.Request.TheVariants.{State, Drain, Undrain, End, Next, Call, Stop}
use Rattle.run_control.specs.Request.{IsInRange, Says}

-- A text that spells an address with port 0 spells none with another port.
pub no_port : (text : List ℕ) (read address : SocketAddr) → IsSocketText text read → socket_port read ≡ 0 → 0 < socket_port address → IsSocketText text address → ⊥
no_port text read address is none some says =
    let same : socket_port read ≡ socket_port address = ap socket_port (IsSocketText_unique text read address is says) in
    absurd (omega (arith, same, none, some))

-- What calls nobody in either role calls nobody.
pub in_neither_role : (line : List ℕ) → ((address : SocketAddr) → 0 < socket_port address → Says (Call Full address) line → ⊥) → ((address : SocketAddr) → 0 < socket_port address → Says (Call View address) line → ⊥) → (role : Role) (address : SocketAddr) → 0 < socket_port address → Says (Call role address) line → ⊥
in_neither_role line full view Full address port says = full address port says
in_neither_role line full view View address port says = view address port says

-- The line says none of these words.
record IsNoWord (line : List ℕ) : Type 0 where
  text : line ≡ codes "state" → ⊥
  json : line ≡ codes "state json" → ⊥
  drain : line ≡ codes "drain" → ⊥
  undrain : line ≡ codes "undrain" → ⊥
  next : line ≡ codes "next" → ⊥
  stop : line ≡ codes "stop" → ⊥

abbrev EndsNobody : List ℕ → Type 0
EndsNobody line = (place : ℕ) → place < 2 ^ 64 → Says (End place) line → ⊥

abbrev CallsNobody : List ℕ → Type 0
CallsNobody line = (role : Role) (address : SocketAddr) → 0 < socket_port address → Says (Call role address) line → ⊥

says_nothing : (line : List ℕ) → IsNoWord line → EndsNobody line → CallsNobody line → (request : Request) → IsInRange request → Says request line → ⊥
says_nothing line word end call (State Text) range says = word.text says
says_nothing line word end call (State Json) range says = word.json says
says_nothing line word end call Drain range says = word.drain says
says_nothing line word end call Undrain range says = word.undrain says
says_nothing line word end call (End place) range says = end place range says
says_nothing line word end call Next range says = word.next says
says_nothing line word end call (Call role address) range says = call role address range says
says_nothing line word end call Stop range says = word.stop says

pub no_request : (line : List ℕ) (found : Option Request) → (line ≡ codes "state" → ⊥) → (line ≡ codes "state json" → ⊥) → (line ≡ codes "drain" → ⊥) → (line ≡ codes "undrain" → ⊥) → (line ≡ codes "next" → ⊥) → (line ≡ codes "stop" → ⊥) → IfNone found (EndsNobody line) → IfNone found (CallsNobody line) → IfNone found ((request : Request) → IsInRange request → Says request line → ⊥)
no_request line (Some request) text json drain undrain next stop end call = tt
no_request line None text json drain undrain next stop end call =
    says_nothing line (record { text = text; json = json; drain = drain; undrain = undrain; next = next; stop = stop }) end call
