use Rattle.std.proofs.Common.{length, subst}
use Rattle.std.specs.Prelude.{IfSome}
use Rattle.raster.specs.Screen.{value_at}
use Rattle.painter.specs.Board.{Posted}
use Rattle.painter.specs.Encoded.{IsHextileOf}
use Rattle.painter.proofs.board.Board.encoded.Goals as goal

pub returns : goal.returns
returns c =
    let s = c.self.inside in
    subst (λ (b : Posted). IfSome c.find.result (λ bytes. IsHextileOf c.args.format.now (value_at b.width b.colours) c.args.area.now bytes.now)) c.self.view_is
    (c.find.ensures (value_at s.width s.colours.items) (length s.encoded.bytes.items) c.self.invariant.2)
