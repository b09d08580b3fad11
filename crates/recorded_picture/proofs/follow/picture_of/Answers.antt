use Rattle.std.proofs.Common.{None, subst, sym}
use Rattle.raster.specs.Size.{IsScreenSize}
use Rattle.rfb_wire.specs.Handshake.{Joined}
use Rattle.link.proofs.Sizes.{joined_screen}
use Rattle.recorded_picture.proofs.follow.picture_of.Goals as goal

pub show_stream-requires : goal.show_stream-requires
show_stream-requires g c =
    let joins = c.in_ok-joined.ensures.joined in
    subst (λ (j : Joined). IsScreenSize j.w j.h) (sym c.joined.view_is) (joined_screen None joins.heard c.in_ok-joined.joined joins.spells.says)
