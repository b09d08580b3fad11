use Rattle.std.proofs.Common.{◌≤◌, List, length, take, refl, ◌∙◌, subst, arith}
use Rattle.std.specs.Arc.{arc_value}
use Rattle.painter.specs.Board.{BoardStands}
use Rattle.reflect_core.specs.Sequential.{Begins}
use Rattle.shared_screen.specs.History.{Change, puts_of}
use Rattle.shared_screen.proofs.Renewing.{stands_at_first}
use Rattle.shared_screen.proofs.stamped.Stamped.renewed.Goals as goal

pub returns : goal.returns
returns g c =
    let me = c.self.inside in
    let was = c.self.invariant in
    let log : List Change = c.args.newest.now in
    let both : List Change = c.learn-2.new.self in
    let p : Begins me.front both = subst (λ (l : List Change). Begins l both) c.again-both.ensures c.learn-2.ensures.mine in
    let q : Begins log both = subst (λ (l : List Change). Begins l both) c.front-2.ensures c.learn-2.ensures.told in
    let older = c.if-number.false in
    let le : length (puts_of me.front) ≤ length (puts_of log) = omega (arith, older, c.number.ensures.number, was.1) in
    let stood : BoardStands (arc_value me.board) (take (arc_value me.board).number (puts_of log)) = stands_at_first (arc_value me.board) me.front log both p q le was.0.shows in
    let sized = c.if-not-go_on.ensures.size refl in
    record {
      size = (sized.width ∙ was.0.size.0, sized.height ∙ was.0.size.1);
      shows = c.if-not-go_on.ensures.stands (puts_of log) refl stood c.board.ensures.shows;
    }
