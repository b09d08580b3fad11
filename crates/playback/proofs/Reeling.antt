-- What was read of a file stays what its reader has seen and hasn't, whatever the file system answers.
use Rattle.std.proofs.Common.{◌≡◌, ℕ, Bool, true, false, List, [], ◌++◌, take, drop, refl, sym, ap, subst, ◌∙◌, append_assoc, append-nil}
use Rattle.std.proofs.lemmas.List.{take-append-drop}
use Rattle.recording.specs.Recording.{line}
use Rattle.recording.specs.BlockReading.{first_block}
use Rattle.recording.specs.Progress.{Progress, HasRead, Uses, ahead}
use Rattle.recording.proofs.ReadBack.{begins_read, feeds_read}
use Rattle.playback.specs.Reels.{Reel, HasBlocks, ReadsOn, first_in, stream_in, stream_of}

pub reel_begins : (r : Reel) → r.start ≡ 0 → stream_of r ≡ r.unread → ahead r.reader ≡ first_block → HasBlocks r []
reel_begins r start unread begins = record { start = λ e. start; fed = []; parts = unread; read = subst (HasRead [] []) (sym begins) begins_read }

-- At another place.
pub reel_goes : (r : Reel) → r.is_behind ≡ true → stream_of r ≡ r.unread → ahead r.reader ≡ first_block → HasBlocks r []
reel_goes r behind unread begins =
    record { start = λ e. absurd (let never : true ≡ false = sym behind ∙ e in cc); fed = []; parts = unread; read = subst (HasRead [] []) (sym begins) begins_read }

-- Nothing has changed.
pub reads_none : (old new : Reel) → new ≡ old → ReadsOn old new
reads_none old new same =
    record { place = ap (λ (r : Reel). r.is_behind) same; before = ap (λ (r : Reel). r.before) same; start = ap (λ (r : Reel). r.start) same; gone = λ gone h. subst (λ (r : Reel). HasBlocks r gone) (sym same) h }

stream_more : (b : Bool) (old new more : List ℕ) → new ≡ old ++ more → stream_in b new ≡ stream_in b old ++ more
stream_more true old new more e = ap (λ (xs : List ℕ). line ++ xs) e ∙ sym (append_assoc line old more)
stream_more false old new more e = e

-- More was read, where the reader has seen all.
pub reads_more : (old : Reel) (start : ℕ) (so_far unread : List ℕ) → old.unread ≡ [] → start ≡ old.start → so_far ≡ old.so_far ++ unread → ReadsOn old (record old { start = start; so_far = so_far; unread = unread })
reads_more old start so_far unread none same all =
    record {
      place = refl;
      before = refl;
      start = same;
      gone = λ gone h. record {
        start = λ e. same ∙ h.start e;
        fed = h.fed;
        parts = stream_more old.is_behind old.so_far so_far unread all ∙ ap (λ (xs : List ℕ). xs ++ unread) (h.parts ∙ (ap (λ (xs : List ℕ). h.fed ++ xs) none ∙ append-nil h.fed));
        read = h.read;
      };
    }

-- The reader has seen more.
pub reads_fed : (old : Reel) (unread : List ℕ) (reader : Progress) (n : ℕ) → unread ≡ drop n old.unread → Uses (ahead old.reader) (ahead reader) old.unread n → ReadsOn old (record old { unread = unread; reader = reader })
reads_fed old unread reader n left u =
    record {
      place = refl;
      before = refl;
      start = refl;
      gone = λ gone h. record {
        start = h.start;
        fed = h.fed ++ take n old.unread;
        parts = h.parts ∙ (ap (λ (xs : List ℕ). h.fed ++ xs) (sym (take-append-drop n old.unread) ∙ ap (λ (xs : List ℕ). take n old.unread ++ xs) (sym left))
            ∙ sym (append_assoc h.fed (take n old.unread) unread));
        read = feeds_read h.fed gone (ahead old.reader) (ahead reader) old.unread n h.read u;
      };
    }

-- One after another.
pub reads_then : (old mid new : Reel) → ReadsOn old mid → ReadsOn mid new → ReadsOn old new
reads_then old mid new h k = record { place = k.place ∙ h.place; before = k.before ∙ h.before; start = k.start ∙ h.start; gone = λ gone b. k.gone gone (h.gone gone b) }

-- What was read before it went to another place was read from the beginning on.
pub first_stays : (b c : Bool) (before so_far new : List ℕ) → b ≡ false → c ≡ true → new ≡ so_far → first_in c new [] ≡ first_in b before so_far
first_stays false true before so_far new e f g = g
first_stays true c before so_far new e f g = absurd cc
first_stays b false before so_far new e f g = absurd cc
