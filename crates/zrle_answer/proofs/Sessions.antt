-- What a session sends is followed from its beginning to its end.
use Rattle.std.proofs.Common.{◌≡◌, ℕ, ◌≤◌, List, ◌++◌, ◌∙◌, refl, sym, subst, Some, ap, inl}
use Rattle.pixel_format.specs.PixelFormat.{PixelFormat}
use Rattle.update_encoder.specs.Follower.{Received, Format, Answer, follows, only_message}
use Rattle.zrle_codec.specs.OneThing.{PartsAreRead}
use Rattle.zrle_answer.specs.Rectangle.{ZlibStream}
use Rattle.zrle_answer.specs.Answer.{IsAnswer}
use Rattle.zrle_answer.specs.Follower.{ZrleFollower, FollowsAll, in_format}
use Rattle.zrle_answer.specs.Follower.FollowsAll.{none, one_more}
use Rattle.zrle_answer.specs.Followed.{AreSent, FollowingGoesOn, SessionsAreFollowed}
use Rattle.zrle_answer.specs.Followed.AreSent.{nothing, takes, says, answers}
use Rattle.zrle_answer.proofs.Followed.{answers_are_followed}
use Rattle.zrle_answer.proofs.Alike.{other_messages_are_followed_alike}

-- A follower whose format and stream are those of a session.
record IsLed (w h : ℕ) (before : ZrleFollower) (received : List Received) (stream : ZlibStream) : Type 0 where
  after : ZrleFollower
  follows : FollowsAll w h before received after
  stream_is : after.stream ≡ stream

led : {w h : ℕ} {format : PixelFormat} {from stream : ZlibStream} {received : List Received} → PartsAreRead → (before : ZrleFollower) → w ≤ 4096 → h ≤ 4096 → before.known.format ≡ format → before.stream ≡ from
    → AreSent w h format from received stream → IsLed w h before received stream
led parts before lw lh f s (nothing w h format stream) = record { after = before; follows = none w h before; stream_is = s }
led parts before lw lh f s (takes w h format new from stream received more) =
    let next : ZrleFollower = in_format before new in
    let rest = led parts next lw lh refl s more in
    record { after = rest.after; follows = one_more w h before next rest.after (Format new) received refl rest.follows; stream_is = rest.stream_is }
led parts before lw lh f s (says w h format from stream bytes message received is more) =
    let next : ZrleFollower = record { known = follows w h before.known (Answer bytes); stream = before.stream } in
    let here : only_message before.known.format w h bytes ≡ Some message = ap (λ g. only_message g w h bytes) f ∙ is in
    let rest = led parts next lw lh f s more in
    record {
      after = rest.after;
      follows = one_more w h before next rest.after (Answer bytes) received (other_messages_are_followed_alike w h before bytes message here) rest.follows;
      stream_is = rest.stream_is;
    }
led parts before lw lh f s (answers w h style canvas copies sent rectangles from between stream bytes received ok on each few is more) =
    let here : IsAnswer style canvas copies sent rectangles before.stream bytes between = subst (λ t. IsAnswer style canvas copies sent rectangles t bytes between) (sym s) is in
    let found = answers_are_followed parts w h style canvas copies sent rectangles before bytes between lw lh ok on each few f here in
    let rest = led parts found.0 lw lh (found.2.same_format ∙ f) found.2.stream_is more in
    record { after = rest.after; follows = one_more w h before found.0 rest.after (Answer bytes) received (inl found.1) rest.follows; stream_is = rest.stream_is }

pub sessions_are_followed : PartsAreRead → SessionsAreFollowed
sessions_are_followed parts w h before received stream lw lh sent = let all = led parts before lw lh refl refl sent in (all.after, all.follows, all.stream_is)

goes_on : {w h : ℕ} {before between : ZrleFollower} {received : List Received} → (after : ZrleFollower) (others : List Received) → FollowsAll w h before received between → FollowsAll w h between others after
    → FollowsAll w h before (received ++ others) after
goes_on after others (none w h follower) more = more
goes_on after others (one_more w h before between last first received k rest) more = one_more w h before between after first (received ++ others) k (goes_on after others rest more)

pub following_goes_on : FollowingGoesOn
following_goes_on w h before between after received others k l = goes_on after others k l
