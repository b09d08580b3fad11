-- One after another.
use Rattle.playback.proofs.Reeling.{reads_then}
use Rattle.playback.proofs.reel.FileReel.read_on.Goals as goal

pub returns-in_err-feed-clause-on : goal.returns-in_err-feed-clause-on
returns-in_err-feed-clause-on g c = reads_then c.args.self.now c.read_more.new.self c.feed.new.self c.in_ok-read_more.ensures.on c.in_err-feed.ensures.on

pub returns-clause-on : goal.returns-clause-on
returns-clause-on g c = reads_then c.args.self.now c.read_more.new.self c.feed.new.self c.in_ok-read_more.ensures.on c.in_ok-feed.ensures.on
