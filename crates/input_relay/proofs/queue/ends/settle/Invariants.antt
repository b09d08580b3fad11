use Rattle.std.proofs.Common.{◌≡◌, ◌++◌, All, map, length}
use Rattle.std.specs.Vec.Iter.{into_iter_items, into_iter_len}
use Rattle.std.specs.Arc.{arc_value}
use Rattle.crossbeam_queue.specs.Passes.{view, IsPassOf}
use Rattle.input_relay.specs.Relay.{taker}
use Rattle.input_relay.specs.Ends.{relay_of, strand_of}
use Rattle.input_relay.proofs.queue.ends.settle.Given as goal

abbrev pub invariant-loop-sender : goal.invariant-loop-sender
invariant-loop-sender g l = record {
  whole : l.yielded ++ into_iter_items l.sender-iterator ≡ into_iter_items l.initial.sender-iterator;
  counted : into_iter_len l.sender-iterator ≡ length (into_iter_items l.sender-iterator);
  own : All (λ s. relay_of s ≡ l.pass.table_id) (into_iter_items l.sender-iterator);
  seated : IsPassOf (arc_value l.line) l.pass;
  knows : view l.pass ≡ taker (view l.initial.pass).from (view l.initial.pass).got (map strand_of l.yielded);
}
