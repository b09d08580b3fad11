-- Each turn reads to the end of a block, or of the piece.
use Rattle.std.proofs.Common.{◌≡◌, ◌+◌, ◌≤◌, ◌++◌, ℕ, List, length, take, drop, sym, ap, subst, arith, length-drop}
use Rattle.std.proofs.lemmas.Result.{err_from_is_err_and}
use Rattle.rebuilt_index.specs.Failing.{HasNoIndex}
use Rattle.rebuilt_index.specs.Seeking.{HasRebuilt}
use Rattle.rebuilt_index.specs.declared.rebuild.Rebuilder.{Rebuilder}
use Rattle.rebuilt_index.proofs.Pieces.{reads_further}
use Rattle.rebuilt_index.proofs.Stopping.{rejoined}
use Rattle.rebuilt_index.proofs.rebuild.Rebuilder.feed.Goals.{then-start-used+in_ok-used, else-start-used}
use Rattle.rebuilt_index.proofs.rebuild.Rebuilder.feed.Goals as goal

turned : (begin used n : ℕ) (f g : Rebuilder) (piece : List ℕ) → g ≡ f → n ≡ used → (fed : List ℕ) → (begin ≤ used) × HasRebuilt f (fed ++ take used piece) → (begin ≤ n) × HasRebuilt g (fed ++ take n piece)
turned begin used n f g piece same count fed k =
    subst (λ (x : Rebuilder). (begin ≤ n) × HasRebuilt x (fed ++ take n piece)) (sym same)
    (subst (λ (m : ℕ). (begin ≤ m) × HasRebuilt f (fed ++ take m piece)) (sym count) k)

pub loop-start-preserved : goal.loop-start-preserved
loop-start-preserved c =
    let piece : List ℕ = c.args.piece.now in
    let begin : ℕ = c.loop-start.start in
    let inv = c.loop-start.invariant in
    elim c.if-start-used.branch [
      | then-start-used+in_ok-used b ↦
          let long : length b.split_at.result.1.now ≡ length (drop begin piece) = ap length b.split_at.ensures.back in
          record {
            within = omega (arith, b.used-is, b.in_ok-used.ensures.within, long, length-drop begin piece, c.loop-start-test.true);
            rebuilt = λ fed k.
                let before = inv.rebuilt fed k in
                let here : c.loop-start.used ≡ begin = omega (arith, before.0, b.if-start-used.true) in
                turned (begin + 1) (begin + b.in_ok-used.field-0) c.if-start-used.used b.read.new.self c.if-start-used.self piece b.self-is b.used-is fed
                (reads_further c.loop-start.self b.read.new.self fed piece b.split_at.result.1.now begin c.loop-start.used b.in_ok-used.field-0 b.split_at.ensures.back here c.loop-start-test.true before.1 b.in_ok-used.ensures.rebuilt);
          }
      | else-start-used b ↦
          record {
            within = omega (arith, b.used-is, inv.within);
            rebuilt = λ fed k.
                let before = inv.rebuilt fed k in
                let more : begin + 1 ≤ c.loop-start.used = omega (arith, b.if-start-used.false) in
                turned (begin + 1) c.loop-start.used c.if-start-used.used c.loop-start.self c.if-start-used.self piece b.self-is b.used-is fed (more, before.1);
          }
    ]

pub returns-in_err-used-clause-err : goal.returns-in_err-used-clause-err
returns-in_err-used-clause-err c =
    let exit = c.from_residual-in_err-used in
    let p = err_from_is_err_and exit.result exit.ensures.1 in
    let piece : List ℕ = c.args.piece.now in
    let begin : ℕ = c.loop-start.start in
    let used : ℕ = c.loop-start.used in
    rw (p.1, p.2) (λ fed k.
    let before = c.loop-start.invariant.rebuilt fed k in
    let here : used ≡ begin = omega (arith, before.0, c.if-start-used.true) in
    subst (λ (xs : List ℕ). HasNoIndex ⊥ c.in_err-used.field-0.0 xs) (rejoined fed piece c.split_at.result.1.now begin used c.split_at.ensures.back here) (c.in_err-used.ensures.err (fed ++ take used piece) before.1))
