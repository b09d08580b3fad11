use Rattle.std.proofs.Common.{arith}
use Rattle.std.proofs.Math.Seq.{take-nil}
use Rattle.hextile_codec.specs.declared.stage.Stage.TheVariants.{Head}
use Rattle.hextile_codec.specs.Carried.{carried_by}
use Rattle.hextile_codec.specs.Ahead.{tile_rest}
use Rattle.hextile_codec.proofs.Goes.{goes_none}
use Rattle.hextile_codec.proofs.head.draw_announced.Goals as goal

pub returns-then-head_len-gt0-clause-drawn : goal.returns-then-head_len-gt0-clause-drawn
returns-then-head_len-gt0-clause-drawn g c =
    record {
      leads = λ part stands. record { grown = part; goes = goes_none (tile_rest c.args.format.now c.args.area.w c.args.area.h (carried_by c.args.carried) (Head c.args.mask) part); shows = tt };
      later = omega (arith, c.if-head_len-gt0.true, c.head_len.ensures.value);
    }

pub returns-clause-drawn : goal.returns-clause-drawn
returns-clause-drawn g c =
    record { leads = λ part stands. rw (take-nil c.draw_head-drawn.result.used) at (c.draw_head-drawn.ensures.drawn.leads part stands); later = c.draw_head-drawn.ensures.drawn.later }
