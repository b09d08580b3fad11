-- A text has one point at most, and where it has none it is a whole number.
use Rattle.std.proofs.Common.{refl}
use Rattle.play_control.proofs.Speeds.{none_with_one, none_with_two, none_without}
use Rattle.play_control.proofs.speed.hundredths.Goals as goal

pub returns-then-has_point-clause-none : goal.returns-then-has_point-clause-none
returns-then-has_point-clause-none c =
    let there = c.if-has_point.ensures.yes refl in
    none_with_one c.args.text.now c.with_point.result there.0 there.1 c.with_point.ensures.none

pub returns-then-has_point-2-clause-none : goal.returns-then-has_point-2-clause-none
returns-then-has_point-2-clause-none c =
    let there = c.if-has_point-2.ensures.yes refl in
    none_with_two c.args.text.now c.with_point-then-has_point-2.result (c.if-has_point.ensures.no refl) there.0 c.with_point-then-has_point-2.ensures.none

pub returns-in-None-clause-none : goal.returns-in-None-clause-none
returns-in-None-clause-none c = none_without c.args.text.now (c.if-has_point.ensures.no refl) (c.if-has_point-2.ensures.no refl) c.in-None.ensures.none
