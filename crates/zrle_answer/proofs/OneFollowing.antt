-- A follower is led to one state alone.
use Rattle.std.proofs.Common.{◌≡◌, ℕ, List, ◌∙◌, refl, sym, ap, subst, inl, inr}
use Rattle.update_encoder.specs.Follower.{Received, Format, Answer}
use Rattle.zrle_codec.specs.OneThing.{DataBringOneThing}
use Rattle.zrle_answer.specs.Follower.{ZrleFollower, Follows, FollowsAll, after_update, in_format}
use Rattle.zrle_answer.specs.Follower.FollowsAll.{none, one_more}
use Rattle.zrle_answer.specs.Followed.{FollowingIsOneThing, FollowingAllIsOneThing, FollowingLeadsSomewhere}
use Rattle.zrle_answer.proofs.OneReading.{one_update}

one_answer : DataBringOneThing → (w h : ℕ) (before after known : ZrleFollower) (bytes : List ℕ) → Follows w h before (Answer bytes) after → Follows w h before (Answer bytes) known → after ≡ known
one_answer bring w h before after known bytes (inl k) (inl l) =
    let one = one_update bring before.known.format w h before.stream k.stream l.stream bytes k.paints l.paints k.reads l.reads in
    k.leaves ∙ (ap (λ ps. after_update before ps k.stream) one.0 ∙ (ap (λ s. after_update before l.paints s) one.1 ∙ sym l.leaves))
one_answer bring w h before after known bytes (inl k) (inr l) = absurd (l.0 k.paints k.stream k.reads)
one_answer bring w h before after known bytes (inr k) (inl l) = absurd (k.0 l.paints l.stream l.reads)
one_answer bring w h before after known bytes (inr k) (inr l) = k.1 ∙ sym l.1

pub following_is_one_thing : DataBringOneThing → FollowingIsOneThing
following_is_one_thing bring w h before after known (Format format) k l = k ∙ sym l
following_is_one_thing bring w h before after known (Answer bytes) k l = one_answer bring w h before after known bytes k l

all_one : {w h : ℕ} {before after : ZrleFollower} {received : List Received} → DataBringOneThing → (known : ZrleFollower) → FollowsAll w h before received after → FollowsAll w h before received known → after ≡ known
all_one bring known (none w h follower) (none w' h' follower') = refl
all_one bring known (one_more w h before between after first others k more) (one_more w' h' before' between' after' first' others' k' more') =
    let same : between ≡ between' = following_is_one_thing bring w h before between between' first k k' in
    all_one bring after' more (subst (λ f. FollowsAll w h f others after') (sym same) more')

pub following_all_is_one_thing : DataBringOneThing → FollowingAllIsOneThing
following_all_is_one_thing bring w h before after known received k l = all_one bring known k l

pub following_leads_somewhere : FollowingLeadsSomewhere
following_leads_somewhere w h before (Format format) k = k (in_format before format) refl
following_leads_somewhere w h before (Answer bytes) k =
    k before (inr (λ paints stream reads. k (after_update before paints stream) (inl (record { paints = paints; stream = stream; reads = reads; leaves = refl })), refl))
