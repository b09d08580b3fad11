use Rattle.std.proofs.Common.{◌≡◌, ◌-◌, ◌<◌, slice_index}
use Rattle.zrle_codec.specs.Indexed.{AreIndexedTo}
use Rattle.zrle_codec.proofs.palette.index_values.Given as goal

abbrev pub invariant-loop-k : goal.invariant-loop-k
invariant-loop-k l =
    record {
      indexed : AreIndexedTo l.values l.palette l.indices l.count l.k;
      last : 0 < l.k → (l.index < l.count) × (slice_index l.palette l.index ≡ slice_index l.values (l.k - 1));
    }
