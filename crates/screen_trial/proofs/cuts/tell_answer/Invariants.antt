use Rattle.std.proofs.Common.{◌≡◌, length}
use Rattle.update_encoder.specs.Coming.{AnswerStands}
use Rattle.screen_trial.proofs.cuts.tell_answer.Given as goal

abbrev pub invariant-loop-turn : goal.invariant-loop-turn
invariant-loop-turn l =
    record {
      stands : AnswerStands l.answer l.cut;
      values : length l.values ≡ length l.fn.values;
      out : length l.out ≡ length l.fn.out;
    }
