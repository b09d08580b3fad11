use Rattle.connection_tests.proofs.run.ends_well.Given as goal

-- The history that was just opened, of the tests' screen.
abbrev pub ghosts-over : goal.ghosts-over
ghosts-over g a = record { book = a.history.seen.book; width = 1024; height = 512 }
