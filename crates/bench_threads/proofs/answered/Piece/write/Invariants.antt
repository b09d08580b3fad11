use Rattle.update_encoder.specs.Coming.{AnswerStands}
use Rattle.bench_threads.proofs.answered.Piece.write.Given as goal

abbrev pub invariant-loop-turn : goal.invariant-loop-turn
invariant-loop-turn l = AnswerStands l.answer l.cut
