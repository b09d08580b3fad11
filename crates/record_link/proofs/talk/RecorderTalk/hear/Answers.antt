-- The handshake is heard on.
use Rattle.std.proofs.Common.{refl}
use Rattle.record_link.proofs.Talked.{hears_saying}
use Rattle.record_link.proofs.talk.RecorderTalk.hear.Goals as goal

pub returns-in_err-feed-clause-says : goal.returns-in_err-feed-clause-says
returns-in_err-feed-clause-says c = rw (← c.self.view_is) (λ heard kinds h. hears_saying _ _ c.args.bytes.now heard kinds c.feed.ensures.heard c.feed.ensures.same refl refl refl h)

pub returns-clause-says : goal.returns-clause-says
returns-clause-says c = rw (← c.self.view_is) (λ heard kinds h. hears_saying _ _ c.args.bytes.now heard kinds c.feed.ensures.heard c.feed.ensures.same refl refl refl h)
