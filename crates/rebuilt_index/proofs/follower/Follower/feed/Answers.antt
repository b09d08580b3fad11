-- Each turn follows to the end of a message, or of the piece.
use Rattle.std.proofs.Common.{◌≡◌, ◌+◌, ◌≤◌, ◌++◌, ℕ, List, length, take, drop, sym, ap, subst, arith, length-drop}
use Rattle.std.proofs.lemmas.Result.{err_from_is_err_and}
use Rattle.rebuilt_index.specs.Following.{Follows}
use Rattle.rebuilt_index.specs.declared.follower.Follower.{Follower}
use Rattle.rebuilt_index.proofs.Feeding.{goes_further}
use Rattle.rebuilt_index.proofs.Stopping.{stops_piece}
use Rattle.rebuilt_index.proofs.follower.Follower.feed.Goals.{then-start-used+in_ok-used, else-start-used}
use Rattle.rebuilt_index.proofs.follower.Follower.feed.Goals as goal

turned : (begin used n : ℕ) (f g : Follower) (piece : List ℕ) → g ≡ f → n ≡ used → (w h : ℕ) (stream : List ℕ) → (begin ≤ used) × Follows w h f (stream ++ take used piece) → (begin ≤ n) × Follows w h g (stream ++ take n piece)
turned begin used n f g piece same count w h stream k =
    subst (λ (x : Follower). (begin ≤ n) × Follows w h x (stream ++ take n piece)) (sym same)
    (subst (λ (m : ℕ). (begin ≤ m) × Follows w h f (stream ++ take m piece)) (sym count) k)

pub loop-start-preserved : goal.loop-start-preserved
loop-start-preserved c =
    let piece : List ℕ = c.args.piece.now in
    let begin : ℕ = c.loop-start.start in
    let inv = c.loop-start.invariant in
    elim c.if-start-used.branch [
      | then-start-used+in_ok-used b ↦
          let long : length b.split_at.result.1.now ≡ length (drop begin piece) = ap length b.split_at.ensures.back in
          record {
            within = omega (arith, b.used-is, b.in_ok-used.ensures.within, long, length-drop begin piece, c.loop-start-test.true);
            follows = λ w h stream k.
                let before = inv.follows w h stream k in
                let here : c.loop-start.used ≡ begin = omega (arith, before.0, b.if-start-used.true) in
                turned (begin + 1) (begin + b.in_ok-used.field-0) c.if-start-used.used b.take_message.new.self c.if-start-used.self piece b.self-is b.used-is w h stream
                (goes_further w h c.loop-start.self _ b.take_message.new.self stream piece b.split_at.result.1.now begin c.loop-start.used b.in_ok-used.field-0 b.split_at.ensures.back here c.loop-start-test.true before.1
                b.feed.ensures.size.0 b.feed.ensures.size.1 b.in_ok-used.ensures.feeds b.take_message.ensures);
          }
      | else-start-used b ↦
          record {
            within = omega (arith, b.used-is, inv.within);
            follows = λ w h stream k.
                let before = inv.follows w h stream k in
                let more : begin + 1 ≤ c.loop-start.used = omega (arith, b.if-start-used.false) in
                turned (begin + 1) c.loop-start.used c.if-start-used.used c.loop-start.self c.if-start-used.self piece b.self-is b.used-is w h stream (more, before.1);
          }
    ]

pub returns-in_err-used-clause-err : goal.returns-in_err-used-clause-err
returns-in_err-used-clause-err c =
    let p = err_from_is_err_and c.from_residual.result c.from_residual.ensures.1 in
    rw (p.1, p.2) (λ w h stream k.
    let before = c.loop-start.invariant.follows w h stream k in
    let here : c.loop-start.used ≡ c.loop-start.start = omega (arith, before.0, c.if-start-used.true) in
    stops_piece w h c.loop-start.self c.feed.new.self c.feed.new.painter stream c.args.piece.now c.split_at.result.1.now c.loop-start.start c.loop-start.used c.in_err-used.field-0.0 c.split_at.ensures.back here before.1
    c.in_err-used.ensures.feeds)
