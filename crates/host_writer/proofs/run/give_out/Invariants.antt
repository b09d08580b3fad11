use Rattle.std.proofs.Common.{◌≡◌}
use Rattle.host_writer.specs.Moment.{Gives, IsOpen}
use Rattle.host_writer.proofs.run.give_out.Given as goal

abbrev pub invariant-loop : goal.invariant-loop
invariant-loop g l =
    (goal.iterator-loop g).can_next l.iterator' × (goal.iterator-loop g).is_finite l.iterator'
    × record {
      gives : Gives l.fn.telling.saying l.telling.saying (g.L.Link.state l.fn.telling.link) (g.L.Link.state l.telling.link);
      is_open : IsOpen (g.L.Link.state l.fn.telling.link) (g.L.Link.state l.telling.link);
      source : l.telling.source ≡ l.fn.telling.source;
      taker : l.telling.taker ≡ l.fn.telling.taker;
      strokes : l.telling.strokes ≡ l.fn.telling.strokes;
      drops : l.telling.drops ≡ l.fn.telling.drops;
      request : l.telling.request ≡ l.fn.telling.request;
      asked : l.telling.asked ≡ l.fn.telling.asked;
      first : l.telling.first ≡ l.fn.telling.first;
    }
