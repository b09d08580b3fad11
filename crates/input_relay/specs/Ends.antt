-- What a clause sees of the ends of a relay.
use Rattle.std.specs.Prelude.{◌≡◌, ℕ, zero, suc, [], ◌∷◌, ◌++◌, ◌≤◌, ◌^◌, ◌⊎◌, List, map}
use Rattle.atomic_table.specs.Seated.{TableId}
use Rattle.crossbeam_queue.specs.Passes.{view}
use Rattle.fault.specs.declared.kinds.Fault.{Fault}
use Rattle.fault.specs.declared.kinds.Fault.TheVariants.{QueueFull, NumbersOut}
use Rattle.roles.specs.declared.input.Input.{Input}
use Rattle.roles.specs.Allowed as definitions
use Rattle.roles.specs.Held.{input_in}
use Rattle.input_relay.specs.declared.queue.Message.{Message}
use Rattle.input_relay.specs.declared.queue.Strand.{Strand}
use Rattle.input_relay.specs.Relay.{strand}
use Rattle.input_relay.specs.declared.queue.Sender.{Sender}
use Rattle.input_relay.specs.declared.queue.Taker.{Taker}
use Rattle.input_relay.specs.declared.queue.Gauge.{Gauge}
use Rattle.input_relay.specs.declared.queue.Settled.{Settled}

module _ {R : Type 0} where
  -- the number of its place
  abbrev pub place_of : Sender R → ℕ
  place_of s = s.place

  -- the inputs that this place has sent
  abbrev pub sent_of : Sender R → List Input
  sent_of s = (view s.pass).put

  -- those inputs as what a viewer's messages may ask of the host
  abbrev pub inputs_of : Sender R → List definitions.Input
  inputs_of s = map input_in (sent_of s)

  -- its relay
  abbrev pub relay_of : Sender R → TableId
  relay_of s = s.pass.table_id

  -- what the taker has taken, in order
  abbrev pub taken_of : Taker R → List Message
  taken_of t = (view t.pass).got

  -- its relay
  abbrev pub host_of : Taker R → TableId
  host_of t = t.pass.table_id

  -- its place, with all that it sent
  abbrev pub strand_of : Sender R → Strand
  strand_of s = strand (place_of s) (sent_of s)

  -- what was taken so far of a relay whose ends came back
  abbrev pub taken_at_end : Settled R → List Message
  taken_at_end t = (view t.pass).got

  -- what each sender that came back had sent
  abbrev pub known_at_end : Settled R → List Strand
  known_at_end t = (view t.pass).known

  -- which relay it was
  abbrev pub relay_at_end : Settled R → TableId
  relay_at_end t = t.pass.table_id

-- the relay whose waiting inputs a gauge counts
abbrev pub seen_by : Gauge → TableId
seen_by g = g.pass.table_id

-- Why an input is refused: the queue was full, or that place had sent 2^55.
abbrev pub IsRefusal : Fault → (count : ℕ) → Type 0
IsRefusal fault count = (fault ≡ QueueFull) ⊎ ((fault ≡ NumbersOut) × (2 ^ 55 ≤ count))

-- the places from 0 on, which have sent nothing
abbrev pub fresh : ℕ → List Strand
fresh zero = []
fresh (suc n) = fresh n ++ strand n [] ∷ []
