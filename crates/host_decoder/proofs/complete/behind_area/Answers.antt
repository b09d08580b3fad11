use Rattle.host_decoder.proofs.Rectangles.{encoding_next, area_fault, outside_next}
use Rattle.host_decoder.proofs.complete.behind_area.Goals as goal

pub returns-then-within-clause-stands : goal.returns-then-within-clause-stands
returns-then-within-clause-stands c start sofar holds =
    encoding_next c.args.painter.now.width c.args.painter.now.height start c.args.painter.now sofar c.args.left c.args.b.now c.read-area.result c.of.result c.requires c.read-area.ensures.spelled
    (cc (c.within.ensures, c.if-within.true, c.size-width.ensures.0, c.size-width.ensures.1)) c.of.ensures holds

pub returns-then-is_at_corner-clause-stands : goal.returns-then-is_at_corner-clause-stands
returns-then-is_at_corner-clause-stands c start sofar holds =
    outside_next c.args.painter.now.width c.args.painter.now.height start c.args.painter.now sofar c.args.left c.args.b.now c.read-area.result c.of-then-is_at_corner.result c.requires c.read-area.ensures.spelled
    (cc (c.within.ensures, c.if-within.false, c.size-width.ensures.0, c.size-width.ensures.1)) (cc (c.is_at_corner.ensures, c.if-is_at_corner.true)) c.of-then-is_at_corner.ensures holds

pub returns-else-is_at_corner-clause-stands : goal.returns-else-is_at_corner-clause-stands
returns-else-is_at_corner-clause-stands c start sofar holds =
    area_fault c.args.painter.now.width c.args.painter.now.height sofar c.args.left c.args.b.now c.read-area.result c.requires c.read-area.ensures.spelled
    (cc (c.within.ensures, c.if-within.false, c.size-width.ensures.0, c.size-width.ensures.1)) (cc (c.is_at_corner.ensures, c.if-is_at_corner.false))
