use Rattle.std.proofs.Common.{refl, None, arith, length}
use Rattle.replay.proofs.Lines.{bad_height, bad_name, bad_width, empty_is, no_height, no_width, screen_none}
use Rattle.replay.proofs.line.screen_line.Goals as goal
use Rattle.replay.proofs.line.screen_line.Goals.{then-is_empty-via-then-is_empty, then-is_empty-via-else-is_empty+then-name-gt255}

pub returns-in_err-width : goal.returns-in_err-width
returns-in_err-width c = screen_none c.args.text.now c.from_residual.result c.from_residual.ensures (no_width c.args.text.now c.in_err-width.ensures.none)

pub returns-in_err-height : goal.returns-in_err-height
returns-in_err-height c =
    screen_none c.args.text.now c.from_residual-in_err-height.result c.from_residual-in_err-height.ensures
    (no_height c.args.text.now c.in_ok-width.width.now c.in_ok-width.rest.now c.in_ok-width.ensures.found.0 c.in_ok-width.ensures.found.1 c.in_err-height.ensures.none)

pub returns-in_err-width-2 : goal.returns-in_err-width-2
returns-in_err-width-2 c =
    screen_none c.args.text.now c.from_residual-in_err-width-2.result c.from_residual-in_err-width-2.ensures
    (bad_width c.args.text.now c.in_ok-width.width.now c.in_ok-width.rest.now c.in_ok-width.ensures.found.0 c.in_ok-width.ensures.found.1 c.in_err-width-2.ensures.none)

pub returns-in_err-height-2 : goal.returns-in_err-height-2
returns-in_err-height-2 c =
    screen_none c.args.text.now c.from_residual-in_err-height-2.result c.from_residual-in_err-height-2.ensures
    (bad_height c.args.text.now c.in_ok-width.width.now c.in_ok-width.rest.now c.in_ok-height.height.now c.in_ok-height.name.now c.in_ok-width.ensures.found.0 c.in_ok-width.ensures.found.1
    c.in_ok-height.ensures.found.0 c.in_ok-height.ensures.found.1 c.in_err-height-2.ensures.none)

pub returns-then-is_empty : goal.returns-then-is_empty
returns-then-is_empty c =
    screen_none c.args.text.now None refl
    (bad_name c.args.text.now c.in_ok-width.width.now c.in_ok-width.rest.now c.in_ok-height.height.now c.in_ok-height.name.now c.in_ok-width.ensures.found.0 c.in_ok-width.ensures.found.1
    c.in_ok-height.ensures.found.0 c.in_ok-height.ensures.found.1 (λ some few. elim c.then-is_empty.branch [
      | then-is_empty-via-then-is_empty w ↦ absurd (omega (arith, some, empty_is (length c.in_ok-height.name.now) c.is_empty.result c.is_empty.ensures w.if-is_empty.true))
      | then-is_empty-via-else-is_empty+then-name-gt255 w ↦ absurd (omega (arith, few, w.if-name-gt255.true))
    ]))
