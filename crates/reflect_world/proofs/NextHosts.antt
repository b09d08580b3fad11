-- What a step to the next host leaves: the world as it was, or the same with another host's bytes.
use Rattle.std.proofs.Common.{Option, Some, None}
use Rattle.fault.specs.declared.kinds.Fault.{Fault}
use Rattle.raster.specs.Update.{Update}
use Rattle.reflect_world.specs.Schedule.{World, next_begins, next_host}

pub next_either : (P : World → Type 0) (w : World) (o : Option Update) (f : Option Fault) → P w → P (next_begins w) → P (next_host w o f)
next_either P w None None stays begins = begins
next_either P w None (Some fault) stays begins = stays
next_either P w (Some u) f stays begins = stays
