-- Senders that places give back.
use Rattle.std.specs.Prelude.{◌≡◌, []}
use Rattle.atomic_table.specs.Seated.{TableId}
use Rattle.input_relay.specs.Ends.{place_of, relay_of}
use Rattle.input_relay.specs.declared.queue.Sender.{Sender}

module _ {R : Type 0} where
  -- Both are the same sender, and the second may have sent more since.
  abbrev pub IsSameSender : Sender R → Sender R → Type 0
  IsSameSender old new = (relay_of new ≡ relay_of old) × (place_of new ≡ place_of old)

-- A name that is no relay's.
abbrev pub no_relay : TableId
no_relay = record { words = 0; slots = 0; views_name = 0; atom = 0; block = 0; offset = 0; slot_names = [] }
