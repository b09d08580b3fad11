use Rattle.loop_tests.proofs.spares.boards_are_let_go_after_a_stall.Given as goal

-- The history that was just opened, of a screen of that size.
abbrev pub ghosts-counts : goal.ghosts-counts
ghosts-counts g a = record { book = a.history.seen.book; width = 4; height = 4 }
