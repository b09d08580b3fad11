use Rattle.std.proofs.Common.{◌≡◌, ◌+◌, ◌*◌, ◌++◌, length, take}
use Rattle.std.specs.List.{flat_map}
use Rattle.copy_log.specs.Notes.{paints}
use Rattle.rfb_wire.specs.Writing.{update_head_bytes}
use Rattle.update_encoder.specs.Answer.{copy_bytes}
use Rattle.update_encoder.proofs.front.write_front.Given as goal

abbrev pub invariant-loop-copy : goal.invariant-loop-copy
invariant-loop-copy l =
    record {
      len : l.len ≡ 4 + 16 * l.copy-index;
      bytes : take l.len l.out ≡ update_head_bytes (length l.copies + l.fn.count) ++ flat_map copy_bytes (paints (take l.copy-index l.copies));
    }
