use Rattle.std.proofs.Common.{◌≡◌}
use Rattle.host_decoder.proofs.Drawn.{around_anywhere, over_anywhere}
use Rattle.host_decoder.proofs.data.Data.feed.Goals as goal
use Rattle.host_decoder.proofs.data.Data.feed.Goals.{in-Raw, in-Copy, in-Rre, in-Hextile}

pub returns-clause-fed : goal.returns-clause-fed
returns-clause-fed c start paints reading h =
    let area = c.self.inside.area in
    let painter = c.args.painter.now in
    let stands = rw (← c.self.view_is) at h in
    let width : c.self.inside.width ≡ painter.width = rw (← c.self.view_is) at c.requires.width in
    let height : c.self.inside.height ≡ painter.height = rw (← c.self.view_is) at c.requires.height in
    elim c.match-self.branch [
      | in-Raw w ↦
          let s = rw w.in-Raw.is at stands in
          let fed = rw c.draw_on.ensures at (w.paint_pixels.ensures.fed start paints reading) in
          rw (w.result-is, w.painter-is, w.self-inside-is) (fed (around_anywhere start paints area area painter s.0) s.1)
      | in-Copy w ↦
          let s = rw w.in-Copy.is at stands in
          let fed = rw c.draw_on.ensures at (w.feed.ensures.fed start paints reading) in
          rw (w.result-is, w.painter-is, w.self-inside-is, width, height) (fed (over_anywhere start paints area painter s.0) (rw (width, height) at s.1))
      | in-Rre w ↦
          let s = rw w.in-Rre.is at stands in
          let fed = rw c.draw_on.ensures at (w.paint_pixels-in-Rre.ensures.fed start paints reading) in
          rw (w.result-is, w.painter-is, w.self-inside-is) (fed (around_anywhere start paints area area painter s.0) s.1)
      | in-Hextile w ↦
          let s = rw w.in-Hextile.is at stands in
          let fed = rw c.draw_on.ensures at (w.paint_pixels-in-Hextile.ensures.fed start paints reading) in
          rw (w.result-is, w.painter-is, w.self-inside-is) (fed (around_anywhere start paints area area painter s.0) s.1)
    ]
