-- A host that was joined has a screen that can be served. `run_all` asks for that.
use Rattle.std.specs.Prelude.{ℕ, List, Option}
use Rattle.link.specs.Links.{LinkState}
use Rattle.link.specs.Joins.{Joins}
use Rattle.link.proofs.Sizes.{joined_size, size_least, size_most}
use Rattle.raster.specs.Size.{IsScreenSize}
use Rattle.rfb_wire.specs.Handshake.{Joined}

pub is_screen : (password : Option (List ℕ)) (old new : LinkState) (joined : Joined) → Joins password old new joined → IsScreenSize joined.w joined.h
is_screen password old new joined joins =
    let size = joined_size password joins.heard joined joins.spells.says in
    record {
      wide = (size_least joined.w size.across, size_most joined.w size.across);
      high = (size_least joined.h size.down, size_most joined.h size.down);
    }
