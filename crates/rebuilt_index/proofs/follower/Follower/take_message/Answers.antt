-- A message is whole, or none is.
use Rattle.std.proofs.Common.{◌++◌, Bool, take, sym, subst}
use Rattle.byte_reading.specs.Reading.{rest, taken}
use Rattle.host_decoder.specs.Decoder.{host_message}
use Rattle.rebuilt_index.specs.Following.{FollowsBy}
use Rattle.rebuilt_index.proofs.Feeding.{starts}
use Rattle.rebuilt_index.proofs.Steps.{step}
use Rattle.rebuilt_index.proofs.follower.Follower.take_message.Goals as goal

pub returns : goal.returns
returns c = λ w h stream piece fed.
    let old = c.args.self.now in
    let given = c.whole-event.ensures.given old.painter _ _ fed.reads in
    let all = step w h old.decoder.width old.decoder.height stream piece c.whole-event.new.self old.painter c.whole-event.result fed.wide fed.high c.whole-event.ensures.size.0 c.whole-event.ensures.size.1
    (starts c.whole-event.result old.decoder.state c.whole-event.new.self.state c.whole-event.ensures.some) fed.wants fed.fine given.0 given.1 in
    subst (λ (b : Bool). FollowsBy w h c.whole-event.new.self old.painter b (stream ++ take (taken (rest (host_message w h) stream) piece) piece)) (sym c.is_some-self.ensures) all
