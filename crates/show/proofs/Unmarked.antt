-- A link whose state begins with two marks, and that link without them.
use Rattle.std.proofs.Common.{◌≡◌, ◌⊎◌, ℕ, ◌+◌, ◌<◌, List, [], ◌∷◌, ◌++◌, Option, Some, None, refl, sym, ap, subst, ◌∙◌, arith, inl, inr}
use Rattle.fault.specs.declared.kinds.Fault.{Fault}
use Rattle.fault.specs.declared.kinds.Fault.TheVariants.{LinkEnded, LinkFailed}
use Rattle.link.specs.Joins.{Joins, FailsAs}
use Rattle.link.specs.Links.{HasRisen, LinkState, TakesAs, GivesAs}
use Rattle.link.specs.declared.link.Took.{Took}
use Rattle.link.specs.declared.link.Took.TheVariants as took
use Rattle.link.specs.declared.link.Gave.{Gave}
use Rattle.link.specs.declared.link.Gave.TheVariants as gave
use Rattle.raster.specs.Screen.{opening}
use Rattle.raster.specs.Update.{Update}
use Rattle.rfb_wire.specs.Handshake.{Joined}
use Rattle.host_reader.specs.Running.{ArePut, LinkStops, Stops}
use Rattle.playback.specs.Playing.{IsPlayed, IsPlayedOut, Played, state_of}
use Rattle.recorded_picture.specs.Recorded.{HasNone, ShowsAll, ShowsStream, StopsIn}
use Rattle.show.specs.Marked.{mark, marked, marked_state}
use Rattle.show.specs.Shown.{HasNoPng, ShowsAsPng, ShowsRecording}

-- ---- the link keeps its marks

keeps_marks : (old new : Played) → new.until ≡ old.until → new.key ≡ old.key → marked_state new ≡ marked old.until old.key (state_of new)
keeps_marks old new until key =
    ap (λ u. marked u new.key (state_of new)) until ∙ ap (λ k. marked old.until k (state_of new)) key

pub takes_marked : (answer : Took) (old new : Played) (into : List ℕ) → new.until ≡ old.until → new.key ≡ old.key
    → TakesAs answer (state_of old) (state_of new) into → TakesAs answer (marked_state old) (marked_state new) into
takes_marked (took.Bytes count) old new into until key k =
    (k.0, k.1, keeps_marks old new until key ∙ ap (marked old.until old.key) k.2)
takes_marked took.Nothing old new into until key k = keeps_marks old new until key ∙ ap (marked old.until old.key) k
takes_marked took.End old new into until key k = keeps_marks old new until key ∙ ap (marked old.until old.key) k
takes_marked took.Failed old new into until key k = keeps_marks old new until key ∙ ap (marked old.until old.key) k

pub gives_marked : (answer : Gave) (old new : Played) (bytes : List ℕ) → new.until ≡ old.until → new.key ≡ old.key
    → GivesAs answer (state_of old) (state_of new) bytes → GivesAs answer (marked_state old) (marked_state new) bytes
gives_marked (gave.Bytes count) old new bytes until key k =
    (k.0, k.1, keeps_marks old new until key ∙ ap (marked old.until old.key) k.2)
gives_marked gave.Nothing old new bytes until key k = keeps_marks old new until key ∙ ap (marked old.until old.key) k
gives_marked gave.End old new bytes until key k = keeps_marks old new until key ∙ ap (marked old.until old.key) k
gives_marked gave.Failed old new bytes until key k = keeps_marks old new until key ∙ ap (marked old.until old.key) k

-- ---- a reader leaves the marks as they are

same_mark : (a b : Option ℕ) → mark a ≡ mark b → a ≡ b
same_mark None None e = refl
same_mark None (Some n) e = absurd (omega (arith, e))
same_mark (Some m) None e = absurd (omega (arith, e))
same_mark (Some m) (Some n) e =
    let same : m ≡ n = omega (arith, e) in
    ap Some same

-- What was taken from this state on, where the marks and what follows them begin so.
record IsUnmarked (until key : Option ℕ) (new : Played) (taken : List ℕ) : Type 0 where
  pub until_same : new.until ≡ until
  pub key_same : new.key ≡ key
  pub taken_same : new.taken ≡ taken

unmarked : (until key : Option ℕ) (new : Played) (taken : List ℕ) → (marked_state new).taken ≡ mark until ∷ mark key ∷ taken → IsUnmarked until key new taken
unmarked until key new taken e =
    let first : mark new.until ≡ mark until = cc in
    let behind : mark new.key ∷ new.taken ≡ mark key ∷ taken = cc in
    let second : mark new.key ≡ mark key = cc in
    let others : new.taken ≡ taken = cc in
    record {
      until_same = same_mark new.until until first;
      key_same = same_mark new.key key second;
      taken_same = others;
    }

-- The state between the handshake and the rest, without the marks.
abbrev plain : LinkState → List ℕ → LinkState
plain between taken = record between { taken = taken }

joins_plain : (old : Played) (between : LinkState) (joined : Joined) (k : Joins None (marked_state old) between joined) → Joins None (state_of old) (plain between (old.taken ++ k.heard)) joined
joins_plain old between joined k =
    record {
      heard = k.heard;
      taken = refl;
      spells = k.spells;
      given = k.given;
      failed = k.failed;
      ended = k.ended;
    }

-- All that was taken, where it was a handshake and then a stream.
both_taken : (old new : Played) (between : LinkState) (joined : Joined) (k : Joins None (marked_state old) between joined) (stream : List ℕ) → (marked_state new).taken ≡ between.taken ++ stream
    → IsUnmarked old.until old.key new ((old.taken ++ k.heard) ++ stream)
both_taken old new between joined k stream e =
    unmarked old.until old.key new ((old.taken ++ k.heard) ++ stream) (e ∙ ap (λ (xs : List ℕ). xs ++ stream) k.taken)

record IsUnmarkedPng (old new : Played) (bytes : List ℕ) : Type 0 where
  pub shows : ShowsAsPng (state_of old) (state_of new) bytes
  pub until : new.until ≡ old.until
  pub key : new.key ≡ old.key

shows_unmarked : (old new : Played) (bytes : List ℕ) → ShowsAsPng (marked_state old) (marked_state new) bytes → IsUnmarkedPng old new bytes
shows_unmarked old new bytes k =
    let all : ShowsAll (marked_state old) (marked_state new) k.picture = k.shows in
    let stream : ShowsStream all.joined.w all.joined.h all.between (marked_state new) k.picture = all.shows in
    let took : IsUnmarked old.until old.key new ((old.taken ++ all.joins.heard) ++ stream.stream) = both_taken old new all.between all.joined all.joins stream.stream stream.taken in
    record {
      shows = record {
        picture = k.picture;
        shows = record {
          between = plain all.between (old.taken ++ all.joins.heard);
          joined = all.joined;
          joins = joins_plain old all.between all.joined all.joins;
          shows = record {
            stream = stream.stream;
            taken = took.taken_same;
            ended = stream.ended;
            size = stream.size;
            shows = stream.shows;
          };
        };
        file = k.file;
      };
      until = took.until_same;
      key = took.key_same;
    }

risen : (old between new : ℕ) → old ≡ 0 → between ≡ old → HasRisen between new → 0 < new
risen old between new none same (inl more) = omega (arith, none, same, more)
risen old between new none same (inr most) = omega (arith, most)

-- The file that is made of a marked link shows the recording. The link, which played this recording, is what it was.
pub shows_recording : (has_come : ℕ → Type 0) (is_all : ℕ → List ℕ → Type 0) (old new start end : Played) (bytes : List ℕ) → start ≡ old → new ≡ end → old.ended ≡ 0
    → IsPlayed has_come new → (0 < new.ended → IsPlayedOut is_all new) → ShowsAsPng (marked_state start) (marked_state end) bytes → ShowsRecording has_come is_all old new bytes
shows_recording has_come is_all old new start end bytes begun ended none played out k =
    let m : ShowsAsPng (marked_state old) (marked_state new) bytes = subst (λ (p : Played). ShowsAsPng (marked_state p) (marked_state new) bytes) begun (subst (λ (p : Played). ShowsAsPng (marked_state start) (marked_state p) bytes) (sym ended) k) in
    let all : ShowsAll (marked_state old) (marked_state new) m.picture = m.shows in
    let u : IsUnmarkedPng old new bytes = shows_unmarked old new bytes m in
    record {
      shows = u.shows;
      played = played;
      out = out (risen old.ended all.between.ended new.ended none all.joins.ended all.shows.ended);
      until = u.until;
      key = u.key;
    }

fails_unmarked : (fault : Fault) (old new : Played) → FailsAs None fault (marked_state old) (marked_state new) → FailsAs None fault (state_of old) (state_of new)
fails_unmarked fault old new (inl k) = inl k
fails_unmarked fault old new (inr k) = inr (k.0, (unmarked old.until old.key new (old.taken ++ k.0) k.1).taken_same, k.2)

-- How the link stops is told by its counts, which are the same.
link_stops : (fault : Fault) (w h : ℕ) (stream : List ℕ) (old new : LinkState) (taken now : List ℕ) → LinkStops w h fault stream old new → LinkStops w h fault stream (record old { taken = taken }) (record new { taken = now })
link_stops LinkFailed w h stream old new taken now k = k
link_stops LinkEnded w h stream old new taken now k = k
link_stops _ w h stream old new taken now k = absurd k

how_stopped : (fault : Fault) (w h : ℕ) (stream : List ℕ) (old new : LinkState) (taken now : List ℕ) (put : List Update)
    → ((ArePut w h opening stream [] put × LinkStops w h fault stream old new) ⊎ Stops w h opening fault stream [] put)
    → ((ArePut w h opening stream [] put × LinkStops w h fault stream (record old { taken = taken }) (record new { taken = now })) ⊎ Stops w h opening fault stream [] put)
how_stopped fault w h stream old new taken now put (inl k) = inl (k.0, link_stops fault w h stream old new taken now k.1)
how_stopped fault w h stream old new taken now put (inr k) = inr k

stops_unmarked : (fault : Fault) (old new : Played) (between : LinkState) (joined : Joined) (k : Joins None (marked_state old) between joined) → StopsIn joined.w joined.h fault between (marked_state new)
    → StopsIn joined.w joined.h fault (plain between (old.taken ++ k.heard)) (state_of new)
stops_unmarked fault old new between joined k (inl memory) = inl memory
stops_unmarked fault old new between joined k (inr ends) =
    inr (
      ends.0,
      ends.1,
      record {
        stream = ends.2.stream;
        taken = (both_taken old new between joined k ends.2.stream ends.2.taken).taken_same;
        stops = how_stopped fault joined.w joined.h ends.2.stream between (marked_state new) (old.taken ++ k.heard) new.taken ends.1 ends.2.stops;
      },
    )

none_unmarked : (fault : Fault) (old new : Played) → HasNone fault (marked_state old) (marked_state new) → HasNone fault (state_of old) (state_of new)
none_unmarked fault old new (inl fails) = inl (fails_unmarked fault old new fails)
none_unmarked fault old new (inr k) =
    inr (record {
      between = plain k.between (old.taken ++ k.joins.heard);
      joined = k.joined;
      joins = joins_plain old k.between k.joined k.joins;
      stops = stops_unmarked fault old new k.between k.joined k.joins k.stops;
    })

no_png_unmarked : (fault : Fault) (old new : Played) → HasNoPng fault (marked_state old) (marked_state new) → HasNoPng fault (state_of old) (state_of new)
no_png_unmarked fault old new (inl memory) = inl memory
no_png_unmarked fault old new (inr none) = inr (none_unmarked fault old new none)

pub shows_nothing : (old new start end : Played) (fault : Fault) → start ≡ old → new ≡ end → HasNoPng fault (marked_state start) (marked_state end) → HasNoPng fault (state_of old) (state_of new)
shows_nothing old new start end fault begun ended k =
    no_png_unmarked fault old new (subst (λ (p : Played). HasNoPng fault (marked_state p) (marked_state new)) begun (subst (λ (p : Played). HasNoPng fault (marked_state start) (marked_state p)) (sym ended) k))
