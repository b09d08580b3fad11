-- What each viewer is told in every schedule. The law `told_in_every_schedule` is made of it.
use Rattle.std.proofs.Common.{◌≡◌, ℕ, ◌+◌, ◌-◌, ◌≤◌, List, ◌∷◌, ◌++◌, length, take, ap, sym, ◌∙◌, subst, arith, append_assoc}
use Rattle.std.proofs.Math.Seq.{take-append-add}
use Rattle.raster.specs.Update.{Update}
use Rattle.raster.proofs.Spellings.{Each}
use Rattle.rfb_wire.specs.Texts.{BringsShortText}
use Rattle.host_decoder.proofs.ShortUpdates.{each_begins, turn_short}
use Rattle.update_encoder.specs.Follower.{HoldsArea}
use Rattle.viewer_session.specs.Record.{Entry, Began}
use Rattle.viewer_session.specs.Viewer.{Setup, out_bytes}
use Rattle.viewer_session.specs.Stream.{heard, stream_of, Listener}
use Rattle.viewer_session.proofs.Stands.{AllAnswered}
use Rattle.viewer_session.proofs.Streams.{heard_begins, stream-append, is_heard}
use Rattle.reflect_world.specs.Schedule.{Step, play}
use Rattle.reflect_world.specs.Said.{IsRead, hello_of, HoldsAfterEachWritten, ToldInEverySchedule}
use Rattle.reflect_world.proofs.Holds.{good_in, holds_after_each}
use Rattle.reflect_world.proofs.HostUpdates.{put_in_order}
use Rattle.viewer_session.proofs.Good.{IsGood, answered_behind}

short_updates : (s : Setup) (es : List Step) → Each BringsShortText (play s es).shared.updates
short_updates s es =
    let order = put_in_order s es in
    each_begins BringsShortText (play s es).shared.updates order.0
    (subst (λ us. Each BringsShortText us) order.1 (turn_short s.w s.h (play s es).ended (play s es).host_bytes))

pub read_in : (s : Setup) → s.w ≤ 4096 → s.h ≤ 4096 → (es : List Step) → IsRead s (play s es)
read_in s lw lh es v p e later earlier split =
    let good : IsGood s (play s es).shared.updates p = good_in s lw lh es v p e in
    is_heard s.w s.h (play s es).shared.updates earlier (short_updates s es)
    (answered_behind s.w s.h (play s es).shared.updates later earlier (subst (λ q. AllAnswered s.w s.h (play s es).shared.updates q) split good.record_stands.answers))

-- what was written, where it is at least so long
written_begins : (front more : List ℕ) (n : ℕ) → length front ≤ n → (rest : List ℕ) × (take n (front ++ more) ≡ front ++ rest)
written_begins front more n le =
    let whole : length front + (n - length front) ≡ n = omega arith in
    (take (n - length front) more, ap (λ k. take k (front ++ more)) (sym whole) ∙ take-append-add front more (n - length front))

pub holds_after_written : (s : Setup) → s.w ≤ 4096 → s.h ≤ 4096 → (es : List Step) → HoldsAfterEachWritten s (play s es)
holds_after_written s lw lh es v p e later earlier area n bytes split le =
    let us : List Update = (play s es).shared.updates in
    let upto : List Entry = Began area n bytes ∷ earlier in
    let begins = heard_begins s.w s.h us later upto in
    let said : p.said_after ≡ stream_of (heard s.w s.h us upto) ++ stream_of begins.0 =
    (good_in s lw lh es v p e).said
    ∙ (ap (λ q. stream_of (heard s.w s.h us q)) split
    ∙ (ap stream_of begins.1 ∙ stream-append (heard s.w s.h us upto) begins.0)) in
    let out : out_bytes s p ≡ (hello_of s p ++ stream_of (heard s.w s.h us upto)) ++ stream_of begins.0 =
    ap (λ t. hello_of s p ++ t) said ∙ sym (append_assoc (hello_of s p) (stream_of (heard s.w s.h us upto)) (stream_of begins.0)) in
    let written = written_begins (hello_of s p ++ stream_of (heard s.w s.h us upto)) (stream_of begins.0) p.written le in
    let read = read_in s lw lh es v p e later upto split in (
      (written.0, ap (take p.written) out ∙ written.1),
      subst (λ (l : Listener). HoldsArea l.follower area (take n us)) (sym read.2) (holds_after_each s lw lh es v p e later earlier area n bytes split).held,
    )

pub told_in_every_schedule : ToldInEverySchedule
told_in_every_schedule s lw lh es = (
  put_in_order s es,
  λ v p e. (good_in s lw lh es v p e).said,
  read_in s lw lh es,
  holds_after_written s lw lh es,
)
