use Rattle.std.proofs.Common.{◌≡◌, ◌+◌, ◌*◌, ◌≤◌, length}
use Rattle.c_trial.proofs.bench.answers.bench_answers.Given as goal

abbrev pub invariant-loop-time : goal.invariant-loop-time
invariant-loop-time l =
    record {
      values : 16 * l.cut.width ≤ length l.room.values.items;
      out : 12 + 64 * l.cut.width ≤ length l.room.out.items;
      width : l.source.board.width ≡ l.cut.width;
      height : l.source.board.height ≡ l.cut.height;
    }
