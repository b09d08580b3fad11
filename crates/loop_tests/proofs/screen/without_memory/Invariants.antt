use Rattle.loop_tests.proofs.screen.without_memory.Given as goal

-- The histories that were just opened, of a screen of that size.
abbrev pub ghosts-plays : goal.ghosts-plays
ghosts-plays g a = record { book = a.opened.seen.book; width = 4; height = 4 }
