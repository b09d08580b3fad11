use Rattle.std.proofs.lemmas.Result.{on_ok_weaker}
use Rattle.zrle_answer.proofs.Writing.{appends_shown}
use Rattle.zrle_answer.proofs.rectangle.RectangleWriter.append.Goals as goal

pub returns-clause-ok : goal.returns-clause-ok
returns-clause-ok c accepted =
    on_ok_weaker c.append_part.result
    (λ e. appends_shown c.args.pixels.now.format c.args.width c.args.colours.now c.args.area.now c.args.begun c.args.out.now.items c.append_part.new.out.items c.in_ok-part.part.now c.areas_show_their_colours.ensures accepted c.in_ok-part.ensures e)
    c.append_part.ensures.ok
