-- What each place sent is what was taken from it so far, followed by what the queue still holds of it.
use Rattle.std.specs.Prelude.{if◌then◌else◌, ◌≡◌, ℕ, ◌≤◌, ◌<◌, ◌==◌, true, false, List, [], ◌∷◌, ◌++◌}
use mathlib.Core.Option as maybe
use mathlib.Core.Option.{none, some}
use lib.ListN.{get_elem?}
use Rattle.roles.specs.declared.input.Input.{Input}
use Rattle.input_relay.specs.declared.queue.Message.{Message}
use Rattle.input_relay.specs.declared.queue.Strand.{Strand}
use Rattle.input_relay.specs.declared.queue.View.{View}

-- an input with the place that sent it
abbrev pub message : ℕ → Input → Message
message from input = record { from = from; input = input }

-- a place, with all that it sent
abbrev pub strand : ℕ → List Input → Strand
strand from sent = record { from = from; sent = sent }

-- a sender's view
abbrev pub sender : ℕ → List Input → View
sender from put = record { sends = true; gets = false; from = from; put = put; got = []; known = [] }

-- the taker's view: how many senders were made, what it got, and the senders that came back
abbrev pub taker : ℕ → List Message → List Strand → View
taker made got known = record { sends = false; gets = true; from = made; put = []; got = got; known = known }

-- the view of a sender that came back
abbrev pub spent : View
spent = record { sends = false; gets = false; from = 0; put = []; got = []; known = [] }

-- the inputs of one place, in their order
abbrev pub of : ℕ → List Message → List Input
of p [] = []
of p (m ∷ ms) = if p == m.from then m.input ∷ of p ms else of p ms

-- each sender has one pass, which knows what was sent
abbrev pub FitsSender : (ℕ → maybe.Option ℕ) → (ℕ → List Input) → ℕ → View → Type 0
FitsSender seat sent pass v = v.sends ≡ true → (seat v.from ≡ some pass) × (v.put ≡ sent v.from)

-- the one taker knows what it got; senders that aren't made yet have sent nothing; and of the senders that came back it
-- knows all that each had sent
abbrev pub FitsTaker : ℕ → (ℕ → maybe.Option ℕ) → (ℕ → List Input) → List Message → ℕ → View → Type 0
FitsTaker reader seat sent got pass v =
    v.gets ≡ true
    → (pass ≡ reader) × (v.got ≡ got)
    × ((p : ℕ) → v.from ≤ p → (seat p ≡ none) × (sent p ≡ []))
    × ((k : ℕ) (s : Strand) → get_elem? v.known k ≡ some s → (seat s.from ≡ none) × (s.sent ≡ sent s.from) × (s.from < v.from))

-- what each place sent is what was got from it, followed by what the queue still holds of it
abbrev pub Delivers : List Message → List View → Type 0
Delivers items views =
    (reader : ℕ) × (seat : ℕ → maybe.Option ℕ) × (sent : ℕ → List Input) × (got : List Message)
    × ((p : ℕ) → of p (got ++ items) ≡ sent p)
    × ((pass : ℕ) (v : View) → get_elem? views pass ≡ some v → FitsSender seat sent pass v × FitsTaker reader seat sent got pass v)

-- the strands with x after what q sent
abbrev pub grown : (ℕ → List Input) → ℕ → Input → ℕ → List Input
grown sent q x p = if p == q then sent p ++ x ∷ [] else sent p

-- the seats with that of q changed
abbrev pub seated : (ℕ → maybe.Option ℕ) → ℕ → maybe.Option ℕ → ℕ → maybe.Option ℕ
seated seat q to p = if p == q then to else seat p

-- these messages hold all that each strand sent
abbrev pub Accounted : List Strand → List Message → Type 0
Accounted known all = (k : ℕ) (s : Strand) → get_elem? known k ≡ some s → of s.from all ≡ s.sent
