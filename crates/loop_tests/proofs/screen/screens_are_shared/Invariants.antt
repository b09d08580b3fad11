use Rattle.loop_tests.proofs.screen.screens_are_shared.Given as goal

-- The history that was just opened, of a screen of that size.
abbrev pub ghosts-plays : goal.ghosts-plays
ghosts-plays g a = record { book = a.opened.seen.book; width = 4; height = 4 }
