-- A text is a number of pixels where `parse` reads it, it begins with a digit from 1 on, and its number isn't too
-- large.
use Rattle.std.proofs.Common.{sym, ap, ◌∙◌, arith}
use Rattle.std.specs.Prelude.{get_or, nat_le}
use Rattle.settings.proofs.Rooms.{large_read, low_is_none, none_read, number_read, so_where_none}
use Rattle.settings.proofs.room.pixels.Goals as goal

pub returns-then-begins_low-clause-none : goal.returns-then-begins_low-clause-none
returns-then-begins_low-clause-none c = low_is_none c.args.text.now (ap (λ t. nat_le (get_or t 0 0) 48) (sym c.as_bytes.ensures.value) ∙ (sym c.begins_low.ensures ∙ c.if-begins_low.true))

pub returns-in_err-number-clause-none : goal.returns-in_err-number-clause-none
returns-in_err-number-clause-none c = so_where_none c.from_residual.result (λ n low most e. none_read c.args.text.now c.parse.result c.parse.ensures.value.0 c.in_err-number.ensures.value n most e)

pub returns-then-number-gt-MOST-clause-none : goal.returns-then-number-gt-MOST-clause-none
returns-then-number-gt-MOST-clause-none c = λ n low most e. large_read c.args.text.now c.parse.result c.in_ok-number.number c.parse.ensures.value.0 c.in_ok-number.ensures.value c.if-number-gt-MOST.true n most e

pub returns-clause-found : goal.returns-clause-found
returns-clause-found c =
    let read = number_read c.args.text.now c.parse.result c.in_ok-number.number c.parse.ensures.value.0 c.in_ok-number.ensures.value
    (ap (λ t. nat_le (get_or t 0 0) 48) (sym c.as_bytes.ensures.value) ∙ (sym c.begins_low.ensures ∙ c.if-begins_low.false)) in
    (read.0, omega (arith, c.if-number-gt-MOST.false), read.1)
