-- A text of a room is cut at its x, and what stands on both sides are its numbers.
use Rattle.std.proofs.Common.{None, Some}
use Rattle.settings.proofs.Rooms.{cut_at_x, so_where_none}
use Rattle.settings.proofs.room.Room.read.Goals as goal

pub returns-in_err-width-clause-none : goal.returns-in_err-width-clause-none
returns-in_err-width-clause-none c = so_where_none c.from_residual.result (λ width height size e. cut_at_x c.args.text.now width height None c.in_err-width.ensures.cases size.wide.0 size.wide.1 e)

pub returns-in_err-width-2-clause-none : goal.returns-in_err-width-2-clause-none
returns-in_err-width-2-clause-none c = so_where_none c.from_residual-in_err-width-2.result (λ width height size e.
    c.in_err-width-2.ensures.none width size.wide.0 size.wide.1 (cut_at_x c.args.text.now width height (Some (c.in_ok-width.width, c.in_ok-width.height)) c.in_ok-width.ensures.cases size.wide.0 size.wide.1 e).0)

pub returns-in_err-height-clause-none : goal.returns-in_err-height-clause-none
returns-in_err-height-clause-none c = so_where_none c.from_residual-in_err-height.result (λ width height size e.
    c.in_err-height.ensures.none height size.high.0 size.high.1 (cut_at_x c.args.text.now width height (Some (c.in_ok-width.width, c.in_ok-width.height)) c.in_ok-width.ensures.cases size.wide.0 size.wide.1 e).1)
