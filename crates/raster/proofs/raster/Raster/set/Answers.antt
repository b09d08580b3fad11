use Rattle.std.proofs.Common.{refl, ap, arith}
use Rattle.raster.specs.Picture.{Picture}
use Rattle.raster.proofs.Rows.{one_filled}
use Rattle.raster.proofs.raster.Raster.set.Goals as goal

pub returns : goal.returns
returns c =
    rw (← c.self.view_is)
    (record {
      width = refl;
      height = refl;
      shows = one_filled c.self.inside.width c.self.inside.height c.args.x c.args.y c.args.colour c.self.inside.colours.items c.self.invariant.count
          (omega (arith, ap (λ (p : Picture). p.width) c.self.view_is)) (omega (arith, ap (λ (p : Picture). p.height) c.self.view_is));
    })
