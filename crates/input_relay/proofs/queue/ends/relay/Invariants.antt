use Rattle.std.proofs.Common.{◌≡◌, ◌≤◌, [], All, map, vec_len, vec_capacity}
use Rattle.std.specs.Arc.{arc_value}
use Rattle.crossbeam_queue.specs.Passes.{view, IsPassOf}
use Rattle.input_relay.specs.Relay.{taker}
use Rattle.input_relay.specs.Ends.{relay_of, strand_of, fresh}
use Rattle.input_relay.proofs.queue.ends.relay.Given as goal

abbrev pub invariant-loop-place : goal.invariant-loop-place
invariant-loop-place g l = record {
  made : map strand_of l.senders.items ≡ fresh l.place;
  count : vec_len l.senders ≡ l.place;
  room : l.places ≤ vec_capacity l.senders;
  own : All (λ s. relay_of s ≡ l.pass.table_id) l.senders.items;
  seated : IsPassOf (arc_value l.line) l.pass;
  knows : view l.pass ≡ taker l.place [] [];
}
