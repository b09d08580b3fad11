use Rattle.run_tests.proofs.ends.goes_right.Given as goal

-- The history that was just opened, of the course's screen.
abbrev pub ghosts-over : goal.ghosts-over
ghosts-over g a = record { book = a.history.seen.book; width = a.course.now.view.now.w; height = a.course.now.view.now.h }
