use Rattle.painter.proofs.SameLaws.{behind_each, none_each}
use Rattle.painter.proofs.law.same_updates_are_put_together.Goals as goal

pub returns-clause-none : goal.returns-clause-none
returns-clause-none c w h start = none_each w h start

pub returns-clause-behind : goal.returns-clause-behind
returns-clause-behind c w h start us vs more others same next = behind_each w h start us vs more others same next
