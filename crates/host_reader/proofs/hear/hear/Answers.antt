-- A piece was taken, and read to its end or not. Or the link answered otherwise.
use Rattle.std.proofs.Common.{◌≡◌, refl}
use Rattle.host_reader.proofs.Steps.{far_goes_on, far_stops, far_waits, gives_nothing, run_ends, running_goes_on, running_stops, took_piece}
use Rattle.host_reader.proofs.hear.hear.Goals as goal

pub returns-in-Ok-clause-so_far : goal.returns-in-Ok-clause-so_far
returns-in-Ok-clause-so_far g c = λ w h screen start old wide high far.
    far_goes_on w h screen c.args.decoder.now c.put_piece.new.decoder c.args.painter.now c.put_piece.new.painter c.args.is_between c.in-Ok.between start (g.L.Link.state c.args.link.now) (g.L.Link.state c.take-took.new.self) c.split_at.result.0.now old _ _ wide high far
    (took_piece (g.L.Link.state c.args.link.now) (g.L.Link.state c.take-took.new.self) c.take-took.new.into c.take-took.new.into c.split_at.result.0.now c.in-Bytes.count c.split_at.ensures.front refl c.in-Bytes.ensures.2)
    (c.in-Ok.ensures.puts screen)

pub returns-in-Ok-clause-keeps : goal.returns-in-Ok-clause-keeps
returns-in-Ok-clause-keeps g c = λ w h screen start old wide high running.
    running_goes_on w h screen c.args.decoder.now c.put_piece.new.decoder c.args.painter.now c.put_piece.new.painter c.args.is_between c.in-Ok.between start (g.L.Link.state c.args.link.now) (g.L.Link.state c.take-took.new.self) c.split_at.result.0.now old _ _ wide high running
    (took_piece (g.L.Link.state c.args.link.now) (g.L.Link.state c.take-took.new.self) c.take-took.new.into c.take-took.new.into c.split_at.result.0.now c.in-Bytes.count c.split_at.ensures.front refl c.in-Bytes.ensures.2)
    (c.in-Ok.ensures.puts screen)

pub returns-in-Err-clause-so_far : goal.returns-in-Err-clause-so_far
returns-in-Err-clause-so_far g c = λ w h screen start old wide high far.
    far_stops w h screen c.args.decoder.now c.args.painter.now c.args.is_between start (g.L.Link.state c.args.link.now) (g.L.Link.state c.take-took.new.self) c.split_at.result.0.now old _ _ c.in-Err.fault wide high far
    (took_piece (g.L.Link.state c.args.link.now) (g.L.Link.state c.take-took.new.self) c.take-took.new.into c.take-took.new.into c.split_at.result.0.now c.in-Bytes.count c.split_at.ensures.front refl c.in-Bytes.ensures.2)
    (c.in-Err.ensures.puts screen)

pub returns-in-Err-clause-keeps : goal.returns-in-Err-clause-keeps
returns-in-Err-clause-keeps g c = λ w h screen start old wide high running.
    running_stops w h screen c.args.decoder.now c.args.painter.now c.args.is_between start (g.L.Link.state c.args.link.now) (g.L.Link.state c.take-took.new.self) c.split_at.result.0.now old _ _ c.in-Err.fault wide high running
    (took_piece (g.L.Link.state c.args.link.now) (g.L.Link.state c.take-took.new.self) c.take-took.new.into c.take-took.new.into c.split_at.result.0.now c.in-Bytes.count c.split_at.ensures.front refl c.in-Bytes.ensures.2)
    (c.in-Err.ensures.puts screen)

pub returns-clause-given : goal.returns-clause-given
returns-clause-given g c = gives_nothing c.take-took.result _ _ c.take-took.new.into c.take-took.ensures

pub returns-clause-so_far : goal.returns-clause-so_far
returns-clause-so_far g c = λ w h screen start old wide high far.
    far_waits w h screen _ _ c.take-took.result c.args.is_between start (g.L.Link.state c.args.link.now) (g.L.Link.state c.take-took.new.self) c.take-took.new.into old _ c.in_default.not-Bytes c.take-took.ensures far

pub returns-clause-keeps : goal.returns-clause-keeps
returns-clause-keeps g c = λ w h screen start old wide high running.
    run_ends w h screen _ _ c.take-took.result c.args.is_between c.outcome.result start (g.L.Link.state c.args.link.now) (g.L.Link.state c.take-took.new.self) c.take-took.new.into old _ c.outcome.ensures c.in_default.not-Bytes c.take-took.ensures running
