use Rattle.std.proofs.Common.{◌≡◌, ◌++◌, take}
use Rattle.std.specs.List.{flat_map}
use Rattle.zrle_codec.specs.Cpixel.{cpixel_bytes}
use Rattle.zrle_codec.proofs.pixels.append_pixels.Given as goal

abbrev pub invariant-loop-value : goal.invariant-loop-value
invariant-loop-value l = l.out.items ≡ l.initial.out.items ++ flat_map (cpixel_bytes l.pixels.format) (take l.value-index l.values)
