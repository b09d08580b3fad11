use Rattle.std.proofs.Common.{subst, sym}
use Rattle.shared_parts.specs.Parts.{ShowsArea}
use Rattle.zrle_answer.proofs.Writing.{shows_area}
use Rattle.zrle_answer.proofs.rectangle.RectangleWriter.part.Goals as goal

pub returns : goal.returns
returns c =
    let shows = shows_area c.args.pixels.now.format c.args.width c.args.colours.now c.args.area.now c.clear.new.self.items c.append.new.out.items c.clear.ensures.items c.in_ok-append.ensures.ok c.in_ok-append.ensures.few in
    subst (ShowsArea c.args.pixels.now.format c.args.width c.args.colours.now c.args.area.now) (sym c.as_slice.ensures.value) shows
