use Rattle.reflector.proofs.threads.start_all.Goals as goal

-- All sources of the run's screen are as large as that, and so is the writer's.
pub start_writer-requires-after_bounds : goal.start_writer-requires-after_bounds
start_writer-requires-after_bounds g c κs within s = let it = c.requires.screen s in rw (it.0, it.1) c.requires.size
