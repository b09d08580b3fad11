use Rattle.std.proofs.Common.{◌≡◌, length}
use Rattle.update_encoder.specs.Coming.{AnswerStands}
use Rattle.c_trial.proofs.bench.answers.write_all.Given as goal

abbrev pub invariant-loop-turn : goal.invariant-loop-turn
invariant-loop-turn l =
    record {
      stands : AnswerStands l.answer l.cut;
      values : length l.room.values.items ≡ length l.fn.room.values.items;
      out : length l.room.out.items ≡ length l.fn.room.out.items;
    }
