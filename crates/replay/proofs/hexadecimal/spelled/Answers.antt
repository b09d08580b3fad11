use Rattle.std.proofs.Common.{ap, sym, ◌∙◌, arith, lit<, slice_index, ◌++◌, [], ◌∷◌, List, ℕ, ◌<◌, ◌≢◌, ◌%◌}
use Rattle.std.specs.String.{string_bytes}
use Rattle.replay.specs.Script.{blank}
use Rattle.replay.proofs.Spelled.{digits_of, text-more, text-more_word}
use Rattle.replay.proofs.hexadecimal.spelled.Goals as goal
use Rattle.replay.proofs.hexadecimal.spelled.Goals.{then-index-gt0+then-index-eq0+in_ok-push, else-index-gt0, else-index-gt0-via-then-index-gt0+else-index-eq0, else-index-gt0-via-else-index-gt0}

pub loop-index-preserved : goal.loop-index-preserved
loop-index-preserved c =
    c.in_ok-push_byte.ensures ∙
    elim c.if-index-gt0.branch [
      | then-index-gt0+then-index-eq0+in_ok-push w ↦
          ap (λ (before : List ℕ). before ++ digits_of (slice_index c.args.bytes.now c.loop-index.index)) (ap string_bytes w.text-is ∙ w.in_ok-push.ensures.bytes ∙ ap (λ (b : List ℕ). string_bytes c.loop-index.text ++ b) (w.in_ok-push.ensures.ascii (lit< tt)) ∙ ap (λ (b : List ℕ). b ++ blank ∷ []) c.loop-index.invariant)
          ∙ sym (text-more_word c.args.bytes.now c.loop-index.index c.loop-index-test.true w.if-index-gt0.true w.if-index-eq0.true)
      | else-index-gt0 w ↦
          let goes_on : 0 < c.loop-index.index → c.loop-index.index % 4 ≢ 0 = elim w.else-index-gt0.branch [
            | else-index-gt0-via-then-index-gt0+else-index-eq0 w' ↦ λ _. w'.if-index-eq0.false
            | else-index-gt0-via-else-index-gt0 w' ↦ λ some. absurd (omega arith)
          ] in
          ap (λ (before : List ℕ). before ++ digits_of (slice_index c.args.bytes.now c.loop-index.index)) (ap string_bytes w.text-is ∙ c.loop-index.invariant)
          ∙ sym (text-more c.args.bytes.now c.loop-index.index c.loop-index-test.true goes_on)
    ]
