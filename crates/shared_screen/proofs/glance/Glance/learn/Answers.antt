use Rattle.std.proofs.Common.{sym}
use Rattle.shared_screen.proofs.Histories.{tally_rises}
use Rattle.shared_screen.proofs.glance.Glance.learn.Goals as goal

pub returns-clause-rises : goal.returns-clause-rises
returns-clause-rises g c = (
  tally_rises c.args.self.now c.learn.new.self (rw (sym c.self.view_is) c.learn.ensures.mine) c.is_legal.ensures,
  tally_rises c.args.news.now c.learn.new.self (rw (sym c.news.view_is) c.learn.ensures.told) c.is_legal.ensures,
)
