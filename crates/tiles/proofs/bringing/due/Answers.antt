use Rattle.std.proofs.Common.{ap, sym, ◌∙◌}
use Rattle.std.specs.Prelude.{nat_lt}
use Rattle.tiles.specs.Grid.{is_due_at, stamp_at}
use Rattle.tiles.proofs.GridLaws.{due_stands}
use Rattle.tiles.proofs.bringing.due.Goals as goal

pub returns-in-Some-clause-stands : goal.returns-in-Some-clause-stands
returns-in-Some-clause-stands c us stands =
    ap (nat_lt c.in-Some.number) c.stamp.ensures.value
    ∙ (ap (λ o. is_due_at o (stamp_at c.args.grid.now c.args.t)) (sym c.in-Some.is ∙ c.sent.ensures)
    ∙ due_stands c.args.grid.now c.args.have.now us c.args.t stands c.requires.there)
