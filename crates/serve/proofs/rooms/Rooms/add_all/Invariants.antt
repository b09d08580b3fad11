use Rattle.std.proofs.Common.{◌≡◌, ◌+◌, ◌++◌, length}
use Rattle.std.specs.Prelude.{replicate}
use Rattle.std.specs.Arc.{arc_value}
use Rattle.serve.specs.Doors.{roles_in}
use Rattle.serve.proofs.rooms.Rooms.add_all.Given as goal

abbrev pub invariant-loop-place : goal.invariant-loop-place
invariant-loop-place g l =
    (length l.self.doors.items ≡ length l.fn.self.doors.items + l._place)
    × (length l.self.seats.items ≡ length l.fn.self.seats.items + l._place)
    × (roles_in l.self.doors.items ≡ roles_in l.fn.self.doors.items ++ replicate l._place (arc_value l.fn.entry.lobby).role)
