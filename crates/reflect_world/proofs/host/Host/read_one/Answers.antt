use Rattle.std.proofs.Common.{refl}
use Rattle.reflect_world.specs.contracts.host.Host.{the_view}
use Rattle.reflect_world.proofs.Hosts.{HasReadOne, one_fails, one_is_read}
use Rattle.reflect_world.proofs.host.Host.read_one.Goals as goal

pub take-requires : goal.take-requires
take-requires c = rw c.bytes.ensures at c.in-Ok.ensures.within

read : (c : goal.After-whole) → HasReadOne c.args.self.now (record { decoder = c.whole.new.self; painter = c.feed.new.painter; unread = c.take.new.self; waiting = c.self.inside.waiting }) c.whole.result
read c =
    one_is_read (the_view c.self.inside) c.args.self.now c.feed.new.self c.whole.new.self c.feed.new.painter c.bytes.result.now c.take.new.self c.self.inside.waiting c.in-Ok.used c.whole.result
    c.self.view_is c.requires.stands c.requires.none c.bytes.ensures (λ e. let no = (c.in-Ok.ensures.refused e).0 in absurd cc) (c.in-Ok.ensures.size.0, c.in-Ok.ensures.size.1) c.whole.ensures.size c.in-Ok.ensures.feeds (c.whole.ensures.given c.feed.new.painter)
    c.take.ensures refl

pub returns-in-Ok-clause-size : goal.returns-in-Ok-clause-size
returns-in-Ok-clause-size c = (read c).size

pub returns-in-Ok-clause-message : goal.returns-in-Ok-clause-message
returns-in-Ok-clause-message c = (read c).message

pub returns-in-Ok-clause-shorter : goal.returns-in-Ok-clause-shorter
returns-in-Ok-clause-shorter c = (read c).shorter

pub returns-in-Ok-clause-end : goal.returns-in-Ok-clause-end
returns-in-Ok-clause-end c = λ e. (read c).at_end (let is = e in cc)

pub returns-in-Err-clause-err : goal.returns-in-Err-clause-err
returns-in-Err-clause-err c =
    one_fails (the_view c.self.inside) c.args.self.now c.feed.new.self c.feed.new.painter c.bytes.result.now c.clear.new.self c.self.inside.waiting c.in-Err.fault
    c.self.view_is c.requires.none c.bytes.ensures (λ e. let so = c.in-Err.ensures.refused e in (let at = so.0 in cc, so.1)) (c.in-Err.ensures.size.0, c.in-Err.ensures.size.1) c.in-Err.ensures.feeds c.clear.ensures refl
