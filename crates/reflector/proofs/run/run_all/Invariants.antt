-- What the run was, in what its threads left and what it began with.
use Rattle.std.proofs.Common.{map}
use Rattle.input_relay.specs.Ends.{taken_of}
use Rattle.shared_screen.specs.History.{puts_of}
use Rattle.run_traits.specs.LinkTrails.{links_in}
use Rattle.host_turns.specs.Running.{came_over}
use Rattle.reflector.proofs.run.run_all.Given as goal

abbrev pub ghosts-shown : goal.ghosts-shown
ghosts-shown g a = record {
  course = record {
    host = a.began.now.host.value;
    room_width = a.began.now.room.width;
    room_height = a.began.now.room.height;
    password = a.began.now.room.password;
    form = a.form;
    roles = map (λ door. door.0) a.began.now.doors.value.items;
    last_end = a.left.read.last;
    came = came_over a.began.now.has_called (g.L.Link.state a.began.now.link.value);
    links = map g.L.Link.state a.left.read.links.items;
    told = links_in g.L.Link.state a.left.told.told_links;
    taken = taken_of a.left.told.taker;
    updates = puts_of a.left.read.publisher.changes;
  };
}
