use Rattle.serve.proofs.run.reflect.Given as goal

-- The history that was just opened, of a screen of the room's size.
abbrev pub ghosts-over : goal.ghosts-over
ghosts-over g a = record { book = a.history.seen.book; width = a.room.width; height = a.room.height }
