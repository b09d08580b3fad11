use Rattle.std.proofs.Common.{drop}
use Rattle.raster.specs.Screen.{Canvas}
use Rattle.painter.specs.Forms.{AreFormsBut}
use Rattle.painter.specs.Patch.{AreTiles, ShowsTiles}
use Rattle.painter.proofs.forms.Forms.renew_tiles.Given as goal

abbrev pub invariant-loop-number : goal.invariant-loop-number
invariant-loop-number l =
    record {
      tiles : AreTiles l.width l.height (drop l.number-index l.numbers) l.left;
      shows : (screen : Canvas) → ShowsTiles l.width l.height l.numbers l.colours screen → ShowsTiles l.width l.height (drop l.number-index l.numbers) l.left screen;
      stand : (screen : Canvas) → ShowsTiles l.width l.height l.numbers l.colours screen → AreFormsBut l.numbers l.width l.height screen l.fn.self.list.items
          → AreFormsBut (drop l.number-index l.numbers) l.width l.height screen l.self.list.items;
    }
