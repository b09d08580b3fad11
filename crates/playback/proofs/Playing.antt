-- What a link to a recording keeps, whatever is read and taken.
use Rattle.std.proofs.Common.{◌≡◌, ℕ, zero, suc, min, ◌+◌, ◌<◌, ◌≤◌, ◌⊎◌, inl, inr, Bool, true, false, List, [], ◌∷◌, ◌++◌, length, take, drop, Option, None, Some, Ok, Err, refl, sym, ap, subst, ◌∙◌, arith, append_assoc, append-nil}
use Rattle.std.specs.Prelude.{All, not, is_some, ◌&&◌}
use Rattle.std.specs.List.{list_any}
use Rattle.std.proofs.lemmas.List.{take-append-drop, take_all, take_min, drop_min, take-map, drop-drop}
use Rattle.std.proofs.lemmas.List.Elements.{All-nil, All-append}
use Rattle.byte_reading.specs.Reading.{Reading, Done, Faulty, Want, after, taken, wants_more, whole_of}
use Rattle.byte_reading.proofs.ReadingLaws.{done_from}
use Rattle.rfb_wire.specs.Handshake.{host_hello}
use Rattle.rfb_wire.specs.Joining.{ahead as hello_ahead}
use Rattle.rfb_wire.specs.declared.host_talk.HostTalk.{HostTalk}
use Rattle.recording.specs.Recording.{Block, line, said_in}
use Rattle.recording.specs.Waiting.{stamp}
use Rattle.recording.specs.BlockReading.{Found, found, going_on, blocks_in, rest_of}
use Rattle.recording.specs.Progress.{Progress, HasRead, ahead}
use Rattle.recording.specs.declared.bad.BadRecording.{BadRecording}
use Rattle.recording.specs.declared.bad.BadRecording.TheVariants as recording
use Rattle.recording.proofs.ReadBack.{goes_on_read}
use Rattle.playback.specs.Opening.{opening}
use Rattle.playback.specs.Openings.{Begun, GoesOn, IsNoOpening}
use Rattle.playback.specs.Heard.{bytes_of, greeting, heard_in, heard_of, handshake_in, is_later, up_to, said_by}
use Rattle.playback.specs.Reels.{Reel, HasBlocks, ReadsOn, IsNoMore, first_in, first_of, later_in, stream_in, stream_of}
use Rattle.playback.specs.Playing.{Played, HasCome, HasUsed, HasHandshake, HasFront, Plays, PlaysAt, IsAtPlace, IsPlaying, IsPlayed, IsPlayedOut, IsWhy, IsGoing, IsReady, IsAtKey, IsDue, IsLate}
use Rattle.playback.specs.declared.bad.BadPlayback.{BadPlayback}
use Rattle.playback.specs.declared.bad.BadPlayback.TheVariants.{Recording, Opening, File}
use Rattle.recording.proofs.Recorded.{said_append}
use Rattle.playback.proofs.Hearing.{unstamped, bytes_append, bytes_len, stamp_append, said_one, all_stamped, heard_none, heard_more, heard_opens, stays_open, up_to_append, up_to_one, up_to_none, up_to_begins, blocks_all, blocks_end, rest_bad, any_later}
use Rattle.playback.proofs.Handshakes.{handshake_begun, handshake_begins, handshake_ends, open_handshake, said_none}

-- ---- what was used, and what is left

-- All that is said in what was read begins with what was used, and what is left of the block at hand.
pub used_begins : (p : Played) (gone : List Block) (used : List (ℕ × ℕ)) → HasUsed p gone used
    → (more : List (ℕ × ℕ)) × (said_by p.until (stream_of p.reel) ≡ used ++ (drop p.used (said_in (up_to p.until (found (ahead p.reel.reader)))) ++ more))
unfolding said_by
used_begins p gone used h =
    let now : List Block = found (ahead p.reel.reader) in
    let all = blocks_all p.reel gone h.blocks in
    let front = up_to_begins p.until now all.0 in
    let said : List (ℕ × ℕ) = said_in (up_to p.until now) in
    let left : List (ℕ × ℕ) = drop p.used said ++ said_in front.0 in
    let blocks : up_to p.until (blocks_in (stream_of p.reel)) ≡ gone ++ (up_to p.until now ++ front.0) =
    ap (up_to p.until) all.1 ∙ (up_to_append p.until gone (now ++ all.0) h.early ∙ ap (λ (bs : List Block). gone ++ bs) front.1) in
    let parts : said_in (up_to p.until now ++ front.0) ≡ take p.used said ++ left =
    said_append (up_to p.until now) front.0 ∙ (ap (λ (xs : List (ℕ × ℕ)). xs ++ said_in front.0) (sym (take-append-drop p.used said)) ∙ append_assoc (take p.used said) (drop p.used said) (said_in front.0)) in (
      said_in front.0,
      ap said_in blocks ∙ (said_append gone (up_to p.until now ++ front.0) ∙ (ap (λ (xs : List (ℕ × ℕ)). said_in gone ++ xs) parts
          ∙ (sym (append_assoc (said_in gone) (take p.used said) left) ∙ ap (λ (xs : List (ℕ × ℕ)). xs ++ left) (sym h.is)))),
    )

-- ---- what is promised

-- What is heard of the beginning of a file goes on behind what was played of it.
first_by : (has_come : ℕ → Type 0) (begun : Begun) (sent : ℕ) (used played all left : List (ℕ × ℕ)) (o : Bool) → Plays has_come begun sent used played o → all ≡ used ++ left → (rest : List (ℕ × ℕ)) × (heard_in all ≡ played ++ rest)
first_by has_come begun sent used played all left false plays is = (heard_in all, sym (ap (λ (xs : List (ℕ × ℕ)). xs ++ heard_in all) plays.2))
first_by has_come begun sent used played all left true plays is =
    let pending : List (ℕ × ℕ) = stamp plays.1 (drop sent greeting) in
    (pending ++ left, ap heard_in is ∙ (heard_more used left plays.0 ∙ (ap (λ (xs : List (ℕ × ℕ)). xs ++ left) (sym plays.3) ∙ append_assoc played pending left)))

-- Before a key moment there is nothing behind the handshake.
no_later : (until : Option ℕ) (first : List (ℕ × ℕ)) → handshake_in first ++ said_by until (line ++ []) ≡ handshake_in first
no_later until first = ap (λ (xs : List (ℕ × ℕ)). handshake_in first ++ xs) (said_none until) ∙ append-nil (handshake_in first)

front_by : (until key : Option ℕ) (talk : HostTalk) (so_far : List ℕ) (played : List (ℕ × ℕ)) → HasFront key talk played → ((rest : List (ℕ × ℕ)) × (heard_in (said_by until so_far) ≡ played ++ rest))
    → (left : List (ℕ × ℕ)) × (played ++ left ≡ heard_of until (is_some key) so_far [])
front_by until None talk so_far played front all = (all.0, sym all.1)
front_by until (Some place) talk so_far played front all =
    let begins = handshake_begins talk played all.0 front in
    (begins.0, sym (no_later until (heard_in (said_by until so_far)) ∙ (ap handshake_in all.1 ∙ begins.1)))

played_by : (has_come : ℕ → Type 0) (p : Played) (used played left : List (ℕ × ℕ)) (b : Bool) → PlaysAt has_come p used played b → said_by p.until (stream_in b p.reel.so_far) ≡ used ++ left
    → (more : List (ℕ × ℕ)) × (played ++ more ≡ heard_of p.until (is_some p.key) (first_in b p.reel.before p.reel.so_far) (later_in b p.reel.so_far))
played_by has_come p used played left false plays all =
    front_by p.until p.key p.hello p.reel.so_far played plays.1 (first_by has_come p.opening p.sent used played (said_by p.until p.reel.so_far) left p.opening.is_open plays.0 all)
played_by has_come p used played left true plays all =
    let front : List (ℕ × ℕ) = handshake_in (heard_in (said_by p.until p.reel.before)) in
    let parts : played ++ left ≡ front ++ said_by p.until (line ++ p.reel.so_far) =
    ap (λ (xs : List (ℕ × ℕ)). xs ++ left) plays.3 ∙ (append_assoc front used left ∙ ap (λ (xs : List (ℕ × ℕ)). front ++ xs) (sym all)) in
    (left, parts ∙ ap (λ (k : Bool). heard_of p.until k p.reel.before p.reel.so_far) (sym (ap is_some plays.0)))

place_by : (has_come : ℕ → Type 0) (p : Played) (used played : List (ℕ × ℕ)) (b : Bool) → PlaysAt has_come p used played b → (b ≡ false → p.reel.start ≡ 0) → IsAtPlace b p.key p.reel.start
place_by has_come p used played false plays start = start refl
place_by has_come p used played true plays start = plays.0

pub is_played : (has_come : ℕ → Type 0) (is_all : ℕ → List ℕ → Type 0) (has_failed : Type 0) (p : Played) → IsPlaying has_come is_all has_failed p → IsPlayed has_come p
is_played has_come is_all has_failed p h =
    let begins = used_begins p h.gone h.used h.from in
    let left = played_by has_come p h.used h.played (drop p.used (said_in (up_to p.until (found (ahead p.reel.reader)))) ++ begins.0) p.reel.is_behind h.plays begins.1 in
    record {
      played = h.played;
      left = left.0;
      heard = left.1;
      taken = h.taken;
      had_come = h.had_come;
      place = place_by has_come p h.used h.played p.reel.is_behind h.plays h.from.blocks.start;
    }

-- ---- the beginning

opening_wants : wants_more (after opening []) ≡ true
unfolding opening
opening_wants = refl

no_front : (key : Option ℕ) (talk : HostTalk) → hello_ahead talk ≡ host_hello None → HasFront key talk []
no_front None talk e = tt
no_front (Some place) talk e = handshake_begun talk e

pub begins_playing : (has_come : ℕ → Type 0) (is_all : ℕ → List ℕ → Type 0) (has_failed : Type 0) (p : Played) → HasBlocks p.reel [] → p.reel.is_behind ≡ false → hello_ahead p.hello ≡ host_hello None → p.opening ≡ record { begun = []; is_open = false } → p.sent ≡ 0 → p.used ≡ 0 → p.time ≡ 0 → p.taken ≡ [] → p.is_over ≡ false → p.why ≡ None
    → IsPlaying has_come is_all has_failed p
begins_playing has_come is_all has_failed p blocks first hello begun sent used time taken on fine =
    let none : [] ≡ take p.used (said_in (up_to p.until (found (ahead p.reel.reader)))) = ap (λ (n : ℕ). take n (said_in (up_to p.until (found (ahead p.reel.reader))))) (sym used) in
    record {
      gone = [];
      used = [];
      played = [];
      from = record { blocks = blocks; early = refl; is = none };
      plays = subst (PlaysAt has_come p [] []) (sym first) (subst (λ (b : Begun). Plays has_come b p.sent [] [] b.is_open) (sym begun) (refl, opening_wants, refl, sent), no_front p.key p.hello hello);
      taken = taken;
      had_come = All-nil (λ (b : ℕ × ℕ). HasCome has_come b.1);
      shown = inl time;
      over = λ over. absurd (let never : true ≡ false = sym over ∙ on in cc);
      why = subst (λ (w : Option BadPlayback). IsWhy has_failed w p) (sym fine) tt;
    }

-- A reason stays one as long as nothing more is read.
same_why : (has_failed : Type 0) (why : Option BadPlayback) (old new : Played) → new.reel ≡ old.reel → new.until ≡ old.until → IsWhy has_failed why old → IsWhy has_failed why new
same_why has_failed None old new r u h = tt
same_why has_failed (Some (Recording bad)) old new r u h = subst (λ (q : Reel). (bad ≡ recording.Memory) ⊎ (rest_of (stream_of q) ≡ Done (Err bad))) (sym r) h
same_why has_failed (Some (Opening bad)) old new r u h = ap (λ (q : Reel). after opening (bytes_of (said_by new.until (first_of q)))) r ∙ (ap (λ (t : Option ℕ). after opening (bytes_of (said_by t (first_of old.reel)))) u ∙ h)
same_why has_failed (Some File) old new r u h = h

-- ---- blocks

at_hand : (r : Reel) (b : Block) → whole_of (ahead r.reader) ≡ Some (Ok b) → ahead r.reader ≡ Done (Ok b)
at_hand r b whole = done_from (ahead r.reader) (Ok b) (sym whole)

none_now : (now : Reading Found) → whole_of now ≡ None → found now ≡ []
none_now (Done x) e = absurd cc
none_now (Faulty f) e = refl
none_now (Want more) e = refl

never_over : (is_all : ℕ → List ℕ → Type 0) (p : Played) → p.is_over ≡ false → p.is_over ≡ true → IsPlayedOut is_all p
never_over is_all p on over = absurd (let never : true ≡ false = sym over ∙ on in cc)

-- All of the block at hand was used, and the next one is begun.
pub turned : (has_come : ℕ → Type 0) (is_all : ℕ → List ℕ → Type 0) (has_failed : Type 0) (p : Played) (q : Progress) (b : Block) → IsPlaying has_come is_all has_failed p → IsGoing p → whole_of (ahead p.reel.reader) ≡ Some (Ok b) → length b.said ≤ p.used → is_later p.until b ≡ false
    → ahead q ≡ going_on (ahead p.reel.reader) → IsPlaying has_come is_all has_failed (record p { reel = record p.reel { reader = q }; used = 0 })
turned has_come is_all has_failed p q b h going whole long early on =
    let r : Reel = record p.reel { reader = q } in
    let new : Played = record p { reel = r; used = 0 } in
    let now : ahead p.reel.reader ≡ Done (Ok b) = at_hand p.reel b whole in
    let one : found (ahead p.reel.reader) ≡ b ∷ [] = ap found now in
    let gone : List Block = h.gone ++ b ∷ [] in
    let blocks : HasBlocks r gone = record {
      start = h.from.blocks.start;
      fed = h.from.blocks.fed;
      parts = h.from.blocks.parts;
      read = subst (λ (bs : List Block). HasRead h.from.blocks.fed (h.gone ++ bs) (ahead q)) one
          (subst (HasRead h.from.blocks.fed (h.gone ++ found (ahead p.reel.reader))) (sym on) (goes_on_read h.from.blocks.fed h.gone (ahead p.reel.reader) h.from.blocks.read));
    } in
    let said : said_in (up_to p.until (found (ahead p.reel.reader))) ≡ stamp b.time b.said = ap said_in (ap (up_to p.until) one ∙ up_to_one p.until b early) ∙ said_one b in
    let fits : length (stamp b.time b.said) ≤ p.used = omega (arith, long, sym (bytes_len (stamp b.time b.said)), ap length (unstamped b.time b.said)) in
    let all : h.used ≡ said_in gone = h.from.is ∙ (ap (λ (xs : List (ℕ × ℕ)). said_in h.gone ++ take p.used xs) said
    ∙ (ap (λ (xs : List (ℕ × ℕ)). said_in h.gone ++ xs) (take_all p.used (stamp b.time b.said) fits ∙ sym (said_one b)) ∙ sym (said_append h.gone (b ∷ [])))) in
    record {
      gone = gone;
      used = h.used;
      played = h.played;
      from = record {
        blocks = blocks;
        early = up_to_append p.until h.gone (b ∷ []) h.from.early ∙ ap (λ (bs : List Block). h.gone ++ bs) (up_to_one p.until b early);
        is = all ∙ sym (append-nil (said_in gone));
      };
      plays = h.plays;
      taken = h.taken;
      had_come = h.had_come;
      shown = h.shown;
      over = never_over is_all new going.on;
      why = subst (λ (w : Option BadPlayback). IsWhy has_failed w new) (sym going.fine) tt;
    }

-- The same of what was read, where nothing but the reader has changed.
pub turns : (has_come : ℕ → Type 0) (is_all : ℕ → List ℕ → Type 0) (has_failed : Type 0) (p : Played) (r : Reel) (b : Block) → IsPlaying has_come is_all has_failed p → IsGoing p → whole_of (ahead p.reel.reader) ≡ Some (Ok b) → length b.said ≤ p.used → is_later p.until b ≡ false
    → r ≡ record p.reel { reader = r.reader } → ahead r.reader ≡ going_on (ahead p.reel.reader) → IsPlaying has_come is_all has_failed (record p { reel = r; used = 0 })
turns has_come is_all has_failed p r b h going whole long early same on =
    subst (λ (x : Reel). IsPlaying has_come is_all has_failed (record p { reel = x; used = 0 })) (sym same) (turned has_come is_all has_failed p r.reader b h going whole long early on)

pub ready_turned : (p : Played) (r : Reel) → IsReady p → r ≡ record p.reel { reader = r.reader } → IsReady (record p { reel = r; used = 0 })
ready_turned p r ready same = record { greeted = ready.greeted; still = λ e. ready.still (sym (ap (λ (x : Reel). x.is_behind) same) ∙ e) }

-- What was used is all that is said in the blocks that are gone.
no_block : (p : Played) (gone : List Block) (used : List (ℕ × ℕ)) → HasUsed p gone used → up_to p.until (found (ahead p.reel.reader)) ≡ [] → used ≡ said_in gone
no_block p gone used h none =
    h.is ∙ (ap (λ (bs : List Block). said_in gone ++ take p.used (said_in bs)) none ∙ (ap (λ (xs : List (ℕ × ℕ)). said_in gone ++ xs) (take_all p.used [] (omega arith)) ∙ append-nil (said_in gone)))

-- All of the greeting was handed out, so that nothing is left of what is heard of this.
all_heard : (has_come : ℕ → Type 0) (begun : Begun) (sent : ℕ) (used played : List (ℕ × ℕ)) (o : Bool) → Plays has_come begun sent used played o → (o ≡ true → sent ≡ 18) → played ≡ heard_in used
all_heard has_come begun sent used played false plays greeted =
    plays.2 ∙ sym (heard_none used (ap (λ (xs : List ℕ). wants_more (after opening xs)) (sym plays.0) ∙ plays.1))
all_heard has_come begun sent used played true plays greeted =
    sym (append-nil played) ∙ (ap (λ (n : ℕ). played ++ stamp plays.1 (drop n greeting)) (sym (greeted refl)) ∙ plays.3)

-- So nothing is left of the handshake either, unless it is whole.
out_by : (until key : Option ℕ) (talk : HostTalk) (so_far : List ℕ) (played : List (ℕ × ℕ)) → HasFront key talk played → (is_some key ≡ true → whole_of (hello_ahead talk) ≡ None) → played ≡ heard_in (said_by until so_far) → played ≡ heard_of until (is_some key) so_far []
out_by until None talk so_far played front still is = is
out_by until (Some place) talk so_far played front still is =
    sym (no_later until (heard_in (said_by until so_far)) ∙ (ap handshake_in (sym is) ∙ open_handshake talk played front (still refl)))

played_out_by : (has_come : ℕ → Type 0) (p : Played) (used played : List (ℕ × ℕ)) (b : Bool) → PlaysAt has_come p used played b → (p.opening.is_open ≡ true → p.sent ≡ 18) → (b ≡ false → is_some p.key ≡ true → whole_of (hello_ahead p.hello) ≡ None)
    → used ≡ said_by p.until (stream_in b p.reel.so_far) → played ≡ heard_of p.until (is_some p.key) (first_in b p.reel.before p.reel.so_far) (later_in b p.reel.so_far)
played_out_by has_come p used played false plays greeted still is =
    out_by p.until p.key p.hello p.reel.so_far played plays.1 (still refl) (all_heard has_come p.opening p.sent used played p.opening.is_open plays.0 greeted ∙ ap heard_in is)
played_out_by has_come p used played true plays greeted still is =
    plays.3 ∙ (ap (λ (xs : List (ℕ × ℕ)). handshake_in (heard_in (said_by p.until p.reel.before)) ++ xs) is ∙ ap (λ (k : Bool). heard_of p.until k p.reel.before p.reel.so_far) (sym (ap is_some plays.0)))

played_out : (has_come : ℕ → Type 0) (is_all : ℕ → List ℕ → Type 0) (p : Played) (gone : List Block) (used played : List (ℕ × ℕ)) → PlaysAt has_come p used played p.reel.is_behind → IsReady p → p.taken ≡ bytes_of played
    → used ≡ said_in gone → up_to p.until (blocks_in (stream_of p.reel)) ≡ gone → (is_all p.reel.start p.reel.so_far ⊎ (list_any (is_later p.until) (blocks_in (stream_of p.reel)) ≡ true)) → IsPlayedOut is_all p
unfolding said_by
played_out has_come is_all p gone used played plays ready taken is all why =
    record {
      all = taken ∙ ap bytes_of (played_out_by has_come p used played p.reel.is_behind plays ready.greeted ready.still (is ∙ ap said_in (sym all)));
      why = why;
    }

plays_on : (has_come : ℕ → Type 0) (p new : Played) (used played : List (ℕ × ℕ)) (b : Bool) → new.opening ≡ p.opening → new.sent ≡ p.sent → new.key ≡ p.key → new.hello ≡ p.hello → new.until ≡ p.until → new.reel.start ≡ p.reel.start → new.reel.before ≡ p.reel.before
    → PlaysAt has_come p used played b → PlaysAt has_come new used played b
plays_on has_come p new used played false opening sent key hello until start before plays = (
  subst (λ (o : Begun). Plays has_come o new.sent used played o.is_open) (sym opening) (subst (λ (n : ℕ). Plays has_come p.opening n used played p.opening.is_open) (sym sent) plays.0),
  subst (λ (k : Option ℕ). HasFront k new.hello played) (sym key) (subst (λ (t : HostTalk). HasFront p.key t played) (sym hello) plays.1),
)
plays_on has_come p new used played true opening sent key hello until start before plays = (
  key ∙ (plays.0 ∙ ap Some (sym start)),
  ap (λ (o : Begun). o.is_open) opening ∙ plays.1,
  sent ∙ plays.2,
  plays.3 ∙ (ap (λ (xs : List ℕ). handshake_in (heard_in (said_by p.until xs)) ++ used) (sym before) ∙ ap (λ (t : Option ℕ). handshake_in (heard_in (said_by t new.reel.before)) ++ used) (sym until)),
)

-- More was read of the file, or it is over, or there is a reason why there is no more.
pub read_on : (has_come : ℕ → Type 0) (is_all : ℕ → List ℕ → Type 0) (has_failed : Type 0) (p : Played) (r : Reel) (over : Bool) (why : Option BadPlayback) → IsPlaying has_come is_all has_failed p → whole_of (ahead p.reel.reader) ≡ None → IsReady p → ReadsOn p.reel r
    → (over ≡ true → (r.unread ≡ []) × is_all r.start r.so_far × (r.reader ≡ p.reel.reader)) → IsWhy has_failed why (record p { reel = r; used = 0; is_over = over; why = why })
    → IsPlaying has_come is_all has_failed (record p { reel = r; used = 0; is_over = over; why = why })
read_on has_come is_all has_failed p r over why h none ready on ended is_why =
    let open_now : found (ahead p.reel.reader) ≡ [] = none_now (ahead p.reel.reader) none in
    let all : h.used ≡ said_in h.gone = no_block p h.gone h.used h.from (ap (up_to p.until) open_now) in
    let blocks : HasBlocks r h.gone = on.gone h.gone h.from.blocks in
    let new : Played = record p { reel = r; used = 0; is_over = over; why = why } in
    let plays : PlaysAt has_come new h.used h.played r.is_behind = subst (PlaysAt has_come new h.used h.played) (sym on.place) (plays_on has_come p new h.used h.played p.reel.is_behind refl refl refl refl refl on.start on.before h.plays) in
    let still : IsReady new = record { greeted = ready.greeted; still = λ e. ready.still (sym on.place ∙ e) } in
    record {
      gone = h.gone;
      used = h.used;
      played = h.played;
      from = record { blocks = blocks; early = h.from.early; is = all ∙ sym (append-nil (said_in h.gone)) };
      plays = plays;
      taken = h.taken;
      had_come = h.had_come;
      shown = h.shown;
      over = λ is_over.
          let e = ended is_over in
          let last : blocks_in (stream_of r) ≡ h.gone = blocks_end r h.gone blocks e.0 (ap (λ q. found (ahead q)) e.2 ∙ open_now) in
          played_out has_come is_all new h.gone h.used h.played plays still h.taken all (ap (up_to p.until) last ∙ h.from.early) (inl e.1);
      why = is_why;
    }

pub no_more : (has_failed : Type 0) (why : BadPlayback) (p : Played) → IsNoMore has_failed why → IsWhy has_failed (Some why) p
no_more has_failed (Recording bad) p h = inl h
no_more has_failed (Opening bad) p h = absurd h
no_more has_failed File p h = h

-- The block at hand is too late, and all before it was played.
pub finished : (has_come : ℕ → Type 0) (is_all : ℕ → List ℕ → Type 0) (has_failed : Type 0) (p : Played) → IsPlaying has_come is_all has_failed p → IsLate p → IsReady p → IsPlaying has_come is_all has_failed (record p { is_over = true })
finished has_come is_all has_failed p h late ready =
    let now : ahead p.reel.reader ≡ Done (Ok late.block) = at_hand p.reel late.block late.whole in
    let none : up_to p.until (found (ahead p.reel.reader)) ≡ [] = ap (λ (q : Reading Found). up_to p.until (found q)) now ∙ up_to_none p.until late.block [] late.late in
    let all : h.used ≡ said_in h.gone = no_block p h.gone h.used h.from none in
    let every = blocks_all p.reel h.gone h.from.blocks in
    let parts : blocks_in (stream_of p.reel) ≡ h.gone ++ late.block ∷ every.0 = every.1 ∙ ap (λ (q : Reading Found). h.gone ++ (found q ++ every.0)) now in
    let early : up_to p.until (blocks_in (stream_of p.reel)) ≡ h.gone = ap (up_to p.until) parts
    ∙ (up_to_append p.until h.gone (late.block ∷ every.0) h.from.early ∙ (ap (λ (bs : List Block). h.gone ++ bs) (up_to_none p.until late.block every.0 late.late) ∙ append-nil h.gone)) in
    let any : list_any (is_later p.until) (blocks_in (stream_of p.reel)) ≡ true = ap (list_any (is_later p.until)) parts ∙ any_later p.until h.gone late.block every.0 late.late in
    let new : Played = record p { is_over = true } in
    record {
      gone = h.gone;
      used = h.used;
      played = h.played;
      from = record { blocks = h.from.blocks; early = h.from.early; is = h.from.is };
      plays = h.plays;
      taken = h.taken;
      had_come = h.had_come;
      shown = h.shown;
      over = λ is_over. played_out has_come is_all new h.gone h.used h.played h.plays (record { greeted = ready.greeted; still = ready.still }) h.taken all early (inr any);
      why = same_why has_failed p.why p new refl refl h.why;
    }

-- The recording can't be read on.
pub stopped : (has_come : ℕ → Type 0) (is_all : ℕ → List ℕ → Type 0) (has_failed : Type 0) (p : Played) (bad : BadRecording) → IsPlaying has_come is_all has_failed p → whole_of (ahead p.reel.reader) ≡ Some (Err bad) → IsPlaying has_come is_all has_failed (record p { why = Some (Recording bad) })
stopped has_come is_all has_failed p bad h whole =
    let now : ahead p.reel.reader ≡ Done (Err bad) = done_from (ahead p.reel.reader) (Err bad) (sym whole) in
    record {
      gone = h.gone;
      used = h.used;
      played = h.played;
      from = record { blocks = h.from.blocks; early = h.from.early; is = h.from.is };
      plays = h.plays;
      taken = h.taken;
      had_come = h.had_come;
      shown = h.shown;
      over = λ over. let k = h.over over in record { all = k.all; why = k.why };
      why = inr (rest_bad p.reel h.gone bad h.from.blocks now);
    }

-- A block is begun.
pub begun_at : (has_come : ℕ → Type 0) (is_all : ℕ → List ℕ → Type 0) (has_failed : Type 0) (p : Played) (time : ℕ) → IsPlaying has_come is_all has_failed p → HasCome has_come time → IsPlaying has_come is_all has_failed (record p { time = time })
begun_at has_come is_all has_failed p time h come =
    record {
      gone = h.gone;
      used = h.used;
      played = h.played;
      from = record { blocks = h.from.blocks; early = h.from.early; is = h.from.is };
      plays = h.plays;
      taken = h.taken;
      had_come = h.had_come;
      shown = inr come;
      over = λ over. let k = h.over over in record { all = k.all; why = k.why };
      why = same_why has_failed p.why p (record p { time = time }) refl refl h.why;
    }

-- ---- bytes are handed out

greeting_more : (has_come : ℕ → Type 0) (begun : Begun) (sent n : ℕ) (used played : List (ℕ × ℕ)) (o : Bool) → o ≡ true → Plays has_come begun sent used played o
    → (time : ℕ) × HasCome has_come time × Plays has_come begun (sent + n) used (played ++ stamp time (take n (drop sent greeting))) o
greeting_more has_come begun sent n used played false is plays = absurd cc
greeting_more has_come begun sent n used played true is plays =
    let t : ℕ = plays.1 in
    let left : List ℕ = drop sent greeting in
    let parts : stamp t (take n left) ++ stamp t (drop (sent + n) greeting) ≡ stamp t left =
    ap (λ (xs : List ℕ). stamp t (take n left) ++ stamp t xs) (sym (drop-drop n sent greeting)) ∙ (sym (stamp_append t (take n left) (drop n left)) ∙ ap (stamp t) (take-append-drop n left)) in
    (t, plays.2, (plays.0, t, plays.2, append_assoc played (stamp t (take n left)) (stamp t (drop (sent + n) greeting)) ∙ (ap (λ (xs : List (ℕ × ℕ)). played ++ xs) parts ∙ plays.3)))

more_taken : (taken bytes : List ℕ) (played : List (ℕ × ℕ)) (time : ℕ) → taken ≡ bytes_of played → taken ++ bytes ≡ bytes_of (played ++ stamp time bytes)
more_taken taken bytes played time e = ap (λ (xs : List ℕ). xs ++ bytes) e ∙ (ap (λ (xs : List ℕ). bytes_of played ++ xs) (sym (unstamped time bytes)) ∙ sym (bytes_append played (stamp time bytes)))

more_come : (has_come : ℕ → Type 0) (played : List (ℕ × ℕ)) (time : ℕ) (bytes : List ℕ) → All (λ (b : ℕ × ℕ). HasCome has_come b.1) played → HasCome has_come time → All (λ (b : ℕ × ℕ). HasCome has_come b.1) (played ++ stamp time bytes)
more_come has_come played time bytes h come = All-append (λ (b : ℕ × ℕ). HasCome has_come b.1) played (stamp time bytes) h (all_stamped (HasCome has_come) time bytes come)

-- The handshake goes on, where there is a key moment to go to.
front_more : (key : Option ℕ) (old new : HostTalk) (played more : List (ℕ × ℕ)) → (is_some key ≡ true → HasHandshake old played → HasHandshake new (played ++ more)) → HasFront key old played → HasFront key new (played ++ more)
front_more None old new played more go front = tt
front_more (Some place) old new played more go front = go refl front

greets_at : (has_come : ℕ → Type 0) (p : Played) (talk : HostTalk) (n : ℕ) (new : List ℕ) (used played : List (ℕ × ℕ)) (b : Bool) → p.opening.is_open ≡ true → p.sent < 18
    → ((not b && is_some p.key) ≡ true → (played : List (ℕ × ℕ)) (time : ℕ) → HasHandshake p.hello played → HasHandshake talk (played ++ stamp time (take n (drop p.sent greeting)))) → PlaysAt has_come p used played b
    → (time : ℕ) × HasCome has_come time × PlaysAt has_come (record p { hello = talk; sent = p.sent + n; taken = new }) used (played ++ stamp time (take n (drop p.sent greeting))) b
greets_at has_come p talk n new used played false open_now some go plays =
    let more = greeting_more has_come p.opening p.sent n used played p.opening.is_open open_now plays.0 in
    (more.0, more.1, (more.2, front_more p.key p.hello talk played (stamp more.0 (take n (drop p.sent greeting))) (λ is. go is played more.0) plays.1))
greets_at has_come p talk n new used played true open_now some go plays = absurd (omega (arith, some, plays.2))

-- Some of the greeting is handed out.
pub greets : (has_come : ℕ → Type 0) (is_all : ℕ → List ℕ → Type 0) (has_failed : Type 0) (p : Played) (talk : HostTalk) (n : ℕ) (new : List ℕ) → IsPlaying has_come is_all has_failed p → IsGoing p → p.opening.is_open ≡ true → p.sent < 18
    → ((not p.reel.is_behind && is_some p.key) ≡ true → (played : List (ℕ × ℕ)) (time : ℕ) → HasHandshake p.hello played → HasHandshake talk (played ++ stamp time (take n (drop p.sent greeting))))
    → new ≡ p.taken ++ take n (drop p.sent greeting) → IsPlaying has_come is_all has_failed (record p { hello = talk; sent = p.sent + n; taken = new })
greets has_come is_all has_failed p talk n new h going open_now some go is =
    let next : Played = record p { hello = talk; sent = p.sent + n; taken = new } in
    let more = greets_at has_come p talk n new h.used h.played p.reel.is_behind open_now some go h.plays in
    record {
      gone = h.gone;
      used = h.used;
      played = h.played ++ stamp more.0 (take n (drop p.sent greeting));
      from = record { blocks = h.from.blocks; early = h.from.early; is = h.from.is };
      plays = more.2;
      taken = is ∙ more_taken p.taken (take n (drop p.sent greeting)) h.played more.0 h.taken;
      had_come = more_come has_come h.played more.0 (take n (drop p.sent greeting)) h.had_come more.1;
      shown = h.shown;
      over = never_over is_all next going.on;
      why = same_why has_failed p.why p next refl refl h.why;
    }

-- ---- the block at hand is used

take_further : (n k t : ℕ) (xs : List ℕ) → t ≡ n + k → take t xs ≡ take n xs ++ take k (drop n xs)
take_further zero k t xs e = let same : t ≡ k = omega (arith, e) in ap (λ i. take i xs) same
take_further (suc n) k zero xs e = absurd (omega arith)
take_further (suc n) zero (suc t) [] e = refl
take_further (suc n) (suc k) (suc t) [] e = refl
take_further (suc n) k (suc t) (x ∷ xs) e = ap (λ (ys : List ℕ). x ∷ ys) (take_further n k t xs (omega arith))

drop_stamp : (time n : ℕ) (xs : List ℕ) → drop n (stamp time xs) ≡ stamp time (drop n xs)
drop_stamp time zero xs = refl
drop_stamp time (suc n) [] = refl
drop_stamp time (suc n) (x ∷ xs) = drop_stamp time n xs

-- What is said in the block at hand, which isn't too late.
said_now : (p : Played) (b : Block) → whole_of (ahead p.reel.reader) ≡ Some (Ok b) → is_later p.until b ≡ false → said_in (up_to p.until (found (ahead p.reel.reader))) ≡ stamp b.time b.said
said_now p b whole early =
    ap said_in (ap (λ (q : Reading Found). up_to p.until (found q)) (at_hand p.reel b whole) ∙ up_to_one p.until b early) ∙ said_one b

more_used : (p : Played) (gone : List Block) (used : List (ℕ × ℕ)) (b : Block) (start count : ℕ) → HasUsed p gone used → whole_of (ahead p.reel.reader) ≡ Some (Ok b) → is_later p.until b ≡ false → start ≡ min p.used (length b.said)
    → used ++ stamp b.time (take count (drop start b.said)) ≡ said_in gone ++ take (start + count) (said_in (up_to p.until (found (ahead p.reel.reader))))
more_used p gone used b start count h whole early is =
    let said : said_in (up_to p.until (found (ahead p.reel.reader))) ≡ stamp b.time b.said = said_now p b whole early in
    let bytes : List ℕ = take count (drop start b.said) in
    let first : take p.used (stamp b.time b.said) ≡ stamp b.time (take start b.said) =
    take-map (λ (x : ℕ). (x, b.time)) p.used b.said ∙ ap (stamp b.time) (sym (ap (λ (n : ℕ). take n b.said) is ∙ take_min p.used b.said)) in
    let both : take (start + count) (stamp b.time b.said) ≡ stamp b.time (take start b.said) ++ stamp b.time bytes =
    take-map (λ (x : ℕ). (x, b.time)) (start + count) b.said ∙ (ap (stamp b.time) (take_further start count (start + count) b.said refl) ∙ stamp_append b.time (take start b.said) bytes) in
    let old : used ≡ said_in gone ++ stamp b.time (take start b.said) = h.is ∙ (ap (λ (xs : List (ℕ × ℕ)). said_in gone ++ take p.used xs) said ∙ ap (λ (xs : List (ℕ × ℕ)). said_in gone ++ xs) first) in
    ap (λ (xs : List (ℕ × ℕ)). xs ++ stamp b.time bytes) old ∙ (append_assoc (said_in gone) (stamp b.time (take start b.said)) (stamp b.time bytes)
    ∙ (ap (λ (xs : List (ℕ × ℕ)). said_in gone ++ xs) (sym both) ∙ ap (λ (xs : List (ℕ × ℕ)). said_in gone ++ take (start + count) xs) (sym said)))

block_more : (has_come : ℕ → Type 0) (begun : Begun) (sent : ℕ) (used played more : List (ℕ × ℕ)) (o : Bool) → o ≡ true → sent ≡ 18 → Plays has_come begun sent used played o → Plays has_come begun sent (used ++ more) (played ++ more) o
block_more has_come begun sent used played more false is all plays = absurd cc
block_more has_come begun sent used played more true is all plays =
    let none : stamp plays.1 (drop sent greeting) ≡ [] = ap (λ (n : ℕ). stamp plays.1 (drop n greeting)) all in
    let played_all : played ≡ heard_in used = sym (append-nil played) ∙ (ap (λ (xs : List (ℕ × ℕ)). played ++ xs) (sym none) ∙ plays.3) in (
      stays_open used more (Ok tt) plays.0,
      plays.1,
      plays.2,
      ap (λ (xs : List (ℕ × ℕ)). (played ++ more) ++ xs) none ∙ (append-nil (played ++ more) ∙ (ap (λ (xs : List (ℕ × ℕ)). xs ++ more) played_all ∙ sym (heard_more used more plays.0))),
    )

says_at : (has_come : ℕ → Type 0) (p new : Played) (used played more : List (ℕ × ℕ)) (b : Bool) → p.opening.is_open ≡ true → p.sent ≡ 18 → new.opening ≡ p.opening → new.sent ≡ p.sent → new.key ≡ p.key → new.until ≡ p.until → new.reel ≡ p.reel
    → ((not b && is_some p.key) ≡ true → HasHandshake p.hello played → HasHandshake new.hello (played ++ more)) → PlaysAt has_come p used played b → PlaysAt has_come new (used ++ more) (played ++ more) b
says_at has_come p new used played more false open_now greeted opening sent key until reel go plays =
    let both : Plays has_come p.opening p.sent (used ++ more) (played ++ more) p.opening.is_open = block_more has_come p.opening p.sent used played more p.opening.is_open open_now greeted plays.0 in (
      subst (λ (o : Begun). Plays has_come o new.sent (used ++ more) (played ++ more) o.is_open) (sym opening) (subst (λ (n : ℕ). Plays has_come p.opening n (used ++ more) (played ++ more) p.opening.is_open) (sym sent) both),
      subst (λ (k : Option ℕ). HasFront k new.hello (played ++ more)) (sym key) (front_more p.key p.hello new.hello played more go plays.1),
    )
says_at has_come p new used played more true open_now greeted opening sent key until reel go plays =
    let front : List (ℕ × ℕ) = handshake_in (heard_in (said_by p.until p.reel.before)) in (
      key ∙ (plays.0 ∙ ap (λ (r : Reel). Some r.start) (sym reel)),
      ap (λ (o : Begun). o.is_open) opening ∙ plays.1,
      sent ∙ plays.2,
      ap (λ (xs : List (ℕ × ℕ)). xs ++ more) plays.3 ∙ (append_assoc front used more ∙ (ap (λ (r : Reel). handshake_in (heard_in (said_by p.until r.before)) ++ (used ++ more)) (sym reel)
          ∙ ap (λ (t : Option ℕ). handshake_in (heard_in (said_by t new.reel.before)) ++ (used ++ more)) (sym until))),
    )

-- Some of the block at hand is handed out.
pub says : (has_come : ℕ → Type 0) (is_all : ℕ → List ℕ → Type 0) (has_failed : Type 0) (p : Played) (talk : HostTalk) (b : Block) (start count : ℕ) (new : List ℕ) → IsPlaying has_come is_all has_failed p → IsGoing p → p.opening.is_open ≡ true → p.sent ≡ 18
    → whole_of (ahead p.reel.reader) ≡ Some (Ok b) → is_later p.until b ≡ false → HasCome has_come b.time → start ≡ min p.used (length b.said) → new ≡ p.taken ++ take count (drop start b.said)
    → ((not p.reel.is_behind && is_some p.key) ≡ true → (played : List (ℕ × ℕ)) (time : ℕ) → HasHandshake p.hello played → HasHandshake talk (played ++ stamp time (take count (drop start b.said))))
    → IsPlaying has_come is_all has_failed (record p { hello = talk; used = start + count; taken = new })
says has_come is_all has_failed p talk b start count new h going open_now greeted whole early come is all go =
    let bytes : List ℕ = take count (drop start b.said) in
    let next : Played = record p { hello = talk; used = start + count; taken = new } in
    record {
      gone = h.gone;
      used = h.used ++ stamp b.time bytes;
      played = h.played ++ stamp b.time bytes;
      from = record { blocks = h.from.blocks; early = h.from.early; is = more_used p h.gone h.used b start count h.from whole early is };
      plays = says_at has_come p next h.used h.played (stamp b.time bytes) p.reel.is_behind open_now greeted refl refl refl refl refl (λ e. go e h.played b.time) h.plays;
      taken = all ∙ more_taken p.taken bytes h.played b.time h.taken;
      had_come = more_come has_come h.played b.time bytes h.had_come come;
      shown = h.shown;
      over = never_over is_all next going.on;
      why = same_why has_failed p.why p next refl refl h.why;
    }

-- ---- the opening

opens_more : (has_come : ℕ → Type 0) (old new : Begun) (sent time : ℕ) (used played : List (ℕ × ℕ)) (more : List ℕ) (o n : Bool) → o ≡ false → Plays has_come old sent used played o → GoesOn n old.begun new.begun more → HasCome has_come time
    → Plays has_come new sent (used ++ stamp time more) played n
opens_more has_come old new sent time used played more true n is plays goes come = absurd cc
opens_more has_come old new sent time used played more false false is plays goes come =
    let all : new.begun ≡ bytes_of (used ++ stamp time more) = goes.0 ∙ more_taken old.begun more used time plays.0 in
    (all, goes.1, plays.2, plays.3)
opens_more has_come old new sent time used played more false true is plays goes come =
    let all : old.begun ++ more ≡ bytes_of (used ++ stamp time more) = more_taken old.begun more used time plays.0 in
    let whole : after opening (bytes_of (used ++ stamp time more)) ≡ Done (Ok tt) = ap (after opening) (sym all) ∙ goes.0 in
    let count : taken opening (bytes_of (used ++ stamp time more)) ≡ length (bytes_of (used ++ stamp time more)) = subst (λ (xs : List ℕ). taken opening xs ≡ length xs) all goes.1 in
    (whole, time, come, ap (λ (xs : List (ℕ × ℕ)). xs ++ stamp time (drop sent greeting)) plays.2 ∙ (ap (λ (k : ℕ). stamp time (drop k greeting)) plays.3 ∙ sym (heard_opens used time more goes.2 whole count)))

-- As long as it isn't whole the file is read from its beginning on.
opens_at : (has_come : ℕ → Type 0) (p new : Played) (time : ℕ) (used played : List (ℕ × ℕ)) (more : List ℕ) (b : Bool) → p.opening.is_open ≡ false → new.sent ≡ p.sent → new.key ≡ p.key → new.hello ≡ p.hello → GoesOn new.opening.is_open p.opening.begun new.opening.begun more → HasCome has_come time
    → PlaysAt has_come p used played b → PlaysAt has_come new (used ++ stamp time more) played b
opens_at has_come p new time used played more false closed sent key hello goes come plays = (
  subst (λ (n : ℕ). Plays has_come new.opening n (used ++ stamp time more) played new.opening.is_open) (sym sent) (opens_more has_come p.opening new.opening p.sent time used played more p.opening.is_open new.opening.is_open closed plays.0 goes come),
  subst (λ (k : Option ℕ). HasFront k new.hello played) (sym key) (subst (λ (t : HostTalk). HasFront p.key t played) (sym hello) plays.1),
)
opens_at has_come p new time used played more true closed sent key hello goes come plays = absurd (let never : true ≡ false = sym plays.1 ∙ closed in cc)

-- More of the opening has come.
pub opens : (has_come : ℕ → Type 0) (is_all : ℕ → List ℕ → Type 0) (has_failed : Type 0) (p : Played) (o : Begun) (b : Block) (start count : ℕ) → IsPlaying has_come is_all has_failed p → IsGoing p → p.opening.is_open ≡ false → GoesOn o.is_open p.opening.begun o.begun (take count (drop start b.said))
    → whole_of (ahead p.reel.reader) ≡ Some (Ok b) → is_later p.until b ≡ false → HasCome has_come b.time → start ≡ min p.used (length b.said) → IsPlaying has_come is_all has_failed (record p { opening = o; used = start + count })
opens has_come is_all has_failed p o b start count h going closed goes whole early come is =
    let bytes : List ℕ = take count (drop start b.said) in
    let next : Played = record p { opening = o; used = start + count } in
    record {
      gone = h.gone;
      used = h.used ++ stamp b.time bytes;
      played = h.played;
      from = record { blocks = h.from.blocks; early = h.from.early; is = more_used p h.gone h.used b start count h.from whole early is };
      plays = opens_at has_come p next b.time h.used h.played bytes p.reel.is_behind closed refl refl refl goes come h.plays;
      taken = h.taken;
      had_come = h.had_come;
      shown = h.shown;
      over = never_over is_all next going.on;
      why = same_why has_failed p.why p next refl refl h.why;
    }

begun_is : (has_come : ℕ → Type 0) (begun : Begun) (sent : ℕ) (used played : List (ℕ × ℕ)) (o : Bool) → o ≡ false → Plays has_come begun sent used played o → (begun.begun ≡ bytes_of used) × (wants_more (after opening begun.begun) ≡ true)
begun_is has_come begun sent used played true is plays = absurd cc
begun_is has_come begun sent used played false is plays = (plays.0, plays.1)

begun_at_first : (has_come : ℕ → Type 0) (p : Played) (used played : List (ℕ × ℕ)) (b : Bool) → p.opening.is_open ≡ false → PlaysAt has_come p used played b
    → (b ≡ false) × (p.opening.begun ≡ bytes_of used) × (wants_more (after opening p.opening.begun) ≡ true)
begun_at_first has_come p used played false closed plays = let h = begun_is has_come p.opening p.sent used played p.opening.is_open closed plays.0 in (refl, h.0, h.1)
begun_at_first has_come p used played true closed plays = absurd (let never : true ≡ false = sym plays.1 ∙ closed in cc)

first_is : (b : Bool) (before so_far : List ℕ) → b ≡ false → first_in b before so_far ≡ stream_in b so_far
first_is true before so_far e = absurd cc
first_is false before so_far e = refl

-- An opening that isn't whole wants more.
pub still_wants : (has_come : ℕ → Type 0) (is_all : ℕ → List ℕ → Type 0) (has_failed : Type 0) (p : Played) → IsPlaying has_come is_all has_failed p → p.opening.is_open ≡ false → wants_more (after opening p.opening.begun) ≡ true
still_wants has_come is_all has_failed p h closed = (begun_at_first has_come p h.used h.played p.reel.is_behind closed h.plays).2

refused_why : (has_failed : Type 0) (p : Played) (why : BadPlayback) (used : List (ℕ × ℕ)) (time : ℕ) (left : List ℕ) (more : List (ℕ × ℕ)) → said_by p.until (first_of p.reel) ≡ used ++ (stamp time left ++ more) → IsNoOpening why (bytes_of used ++ left) → IsWhy has_failed (Some why) p
refused_why has_failed p (Recording bad) used time left more all h = inl h
refused_why has_failed p (Opening bad) used time left more all h =
    let is : bytes_of (used ++ stamp time left) ≡ bytes_of used ++ left = bytes_append used (stamp time left) ∙ ap (λ (xs : List ℕ). bytes_of used ++ xs) (unstamped time left) in
    ap (λ (xs : List (ℕ × ℕ)). after opening (bytes_of xs)) (all ∙ sym (append_assoc used (stamp time left) more)) ∙ stays_open (used ++ stamp time left) more (Err bad) (ap (after opening) is ∙ h)
refused_why has_failed p File used time left more all h = absurd h

-- The opening isn't one of ours, or memory was refused.
pub refuses : (has_come : ℕ → Type 0) (is_all : ℕ → List ℕ → Type 0) (has_failed : Type 0) (p : Played) (why : BadPlayback) (b : Block) (start : ℕ) → IsPlaying has_come is_all has_failed p → p.opening.is_open ≡ false → IsNoOpening why (p.opening.begun ++ drop start b.said)
    → whole_of (ahead p.reel.reader) ≡ Some (Ok b) → is_later p.until b ≡ false → start ≡ min p.used (length b.said) → IsPlaying has_come is_all has_failed (record p { why = Some why })
refuses has_come is_all has_failed p why b start h closed refused whole early is =
    let begins = used_begins p h.gone h.used h.from in
    let first = begun_at_first has_come p h.used h.played p.reel.is_behind closed h.plays in
    let left : drop p.used (said_in (up_to p.until (found (ahead p.reel.reader)))) ≡ stamp b.time (drop start b.said) =
    ap (drop p.used) (said_now p b whole early) ∙ (drop_stamp b.time p.used b.said ∙ ap (stamp b.time) (sym (ap (λ (n : ℕ). drop n b.said) is ∙ drop_min p.used b.said))) in
    let all : said_by p.until (first_of p.reel) ≡ h.used ++ (stamp b.time (drop start b.said) ++ begins.0) = ap (said_by p.until) (first_is p.reel.is_behind p.reel.before p.reel.so_far first.0) ∙ begins.1 ∙ ap (λ (xs : List (ℕ × ℕ)). h.used ++ (xs ++ begins.0)) left in
    record {
      gone = h.gone;
      used = h.used;
      played = h.played;
      from = record { blocks = h.from.blocks; early = h.from.early; is = h.from.is };
      plays = h.plays;
      taken = h.taken;
      had_come = h.had_come;
      shown = h.shown;
      over = λ over. let k = h.over over in record { all = k.all; why = k.why };
      why = same_why has_failed (Some why) p (record p { why = Some why }) refl refl (refused_why has_failed p why h.used b.time (drop start b.said) begins.0 all (subst (λ (xs : List ℕ). IsNoOpening why (xs ++ drop start b.said)) first.1 refused));
    }

pub refuses_same : (has_come : ℕ → Type 0) (is_all : ℕ → List ℕ → Type 0) (has_failed : Type 0) (p : Played) (o : Begun) (why : BadPlayback) → o ≡ p.opening → IsPlaying has_come is_all has_failed (record p { why = Some why }) → IsPlaying has_come is_all has_failed (record p { opening = o; why = Some why })
refuses_same has_come is_all has_failed p o why same h = subst (λ (x : Begun). IsPlaying has_come is_all has_failed (record p { opening = x; why = Some why })) (sym same) h

-- ---- the key moment

before_is : (b : Bool) (before so_far first : List ℕ) → b ≡ true → first_in b before so_far ≡ first → before ≡ first
before_is true before so_far first e is = is
before_is false before so_far first e is = absurd cc

-- What was played is all of the handshake.
ends_at : (has_come : ℕ → Type 0) (p : Played) (used played left : List (ℕ × ℕ)) (b : Bool) (place : ℕ) → b ≡ false → p.key ≡ Some place → is_some (whole_of (hello_ahead p.hello)) ≡ true → PlaysAt has_come p used played b → said_by p.until (stream_in b p.reel.so_far) ≡ used ++ left
    → handshake_in (heard_in (said_by p.until (first_in b p.reel.before p.reel.so_far))) ≡ played
ends_at has_come p used played left true place front key whole plays all = absurd cc
ends_at has_come p used played left false place front key whole plays all =
    let rest = first_by has_come p.opening p.sent used played (said_by p.until p.reel.so_far) left p.opening.is_open plays.0 all in
    let has : HasHandshake p.hello played = subst (λ (k : Option ℕ). HasFront k p.hello played) key plays.1 in
    ap handshake_in rest.1 ∙ handshake_ends p.hello played rest.0 has whole

pub goes : (has_come : ℕ → Type 0) (is_all : ℕ → List ℕ → Type 0) (has_failed : Type 0) (p : Played) (r : Reel) (place : ℕ) → IsPlaying has_come is_all has_failed p → IsGoing p → IsAtKey p place → r.is_behind ≡ true → r.start ≡ place → first_of r ≡ first_of p.reel → HasBlocks r []
    → IsPlaying has_come is_all has_failed (record p { reel = r; used = 0 })
goes has_come is_all has_failed p r place h going at behind start first blocks =
    let new : Played = record p { reel = r; used = 0 } in
    let begins = used_begins p h.gone h.used h.from in
    let left : List (ℕ × ℕ) = drop p.used (said_in (up_to p.until (found (ahead p.reel.reader)))) ++ begins.0 in
    let ends : handshake_in (heard_in (said_by p.until (first_of p.reel))) ≡ h.played = ends_at has_come p h.used h.played left p.reel.is_behind place at.front at.key at.whole h.plays begins.1 in
    let before : r.before ≡ first_of p.reel = before_is r.is_behind r.before r.so_far (first_of p.reel) behind first in
    let all : h.played ≡ handshake_in (heard_in (said_by p.until r.before)) ++ [] = sym ends ∙ (ap (λ (xs : List ℕ). handshake_in (heard_in (said_by p.until xs))) (sym before) ∙ sym (append-nil (handshake_in (heard_in (said_by p.until r.before))))) in
    record {
      gone = [];
      used = [];
      played = h.played;
      from = record { blocks = blocks; early = refl; is = refl };
      plays = subst (PlaysAt has_come new [] h.played) (sym behind) (at.key ∙ ap Some (sym start), at.opened, at.greeted, all);
      taken = h.taken;
      had_come = h.had_come;
      shown = h.shown;
      over = never_over is_all new going.on;
      why = subst (λ (w : Option BadPlayback). IsWhy has_failed w new) (sym going.fine) tt;
    }

-- The file failed.
pub fails : (has_come : ℕ → Type 0) (is_all : ℕ → List ℕ → Type 0) (has_failed : Type 0) (p : Played) (why : BadPlayback) → IsPlaying has_come is_all has_failed p → IsNoMore has_failed why → IsPlaying has_come is_all has_failed (record p { why = Some why })
fails has_come is_all has_failed p why h is =
    record {
      gone = h.gone;
      used = h.used;
      played = h.played;
      from = record { blocks = h.from.blocks; early = h.from.early; is = h.from.is };
      plays = h.plays;
      taken = h.taken;
      had_come = h.had_come;
      shown = h.shown;
      over = λ over. let k = h.over over in record { all = k.all; why = k.why };
      why = no_more has_failed why (record p { why = Some why }) is;
    }

pub fails_same : (has_come : ℕ → Type 0) (is_all : ℕ → List ℕ → Type 0) (has_failed : Type 0) (p : Played) (r : Reel) (why : BadPlayback) → r ≡ p.reel → IsPlaying has_come is_all has_failed (record p { why = Some why }) → IsPlaying has_come is_all has_failed (record p { reel = r; why = Some why })
fails_same has_come is_all has_failed p r why same h = subst (λ (x : Reel). IsPlaying has_come is_all has_failed (record p { reel = x; why = Some why })) (sym same) h

-- ---- the block that is due is the one at hand

abbrev read_whole : Block → Found
read_whole b = Ok b

same_block : (a b : Block) → Some (read_whole a) ≡ Some (read_whole b) → a ≡ b
same_block a b e = cc

pub due_is : (has_come : ℕ → Type 0) (p : Played) (b : Block) → Some (read_whole b) ≡ whole_of (ahead p.reel.reader) → IsDue has_come p → (is_later p.until b ≡ false) × HasCome has_come b.time
due_is has_come p b e due =
    let same : due.block ≡ b = same_block due.block b (sym due.whole ∙ sym e) in
    (subst (λ (x : Block). is_later p.until x ≡ false) same due.early, subst (λ (x : Block). HasCome has_come x.time) same due.had_come)

pub not_true : (b : Bool) → not b ≡ true → b ≡ false
not_true true e = absurd cc
not_true false e = refl
