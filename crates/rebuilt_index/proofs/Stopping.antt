-- Why no more is followed of a recording: what stands behind a fault changes nothing of it.
use Rattle.std.proofs.Common.{◌≡◌, ℕ, ◌+◌, ◌<◌, ◌^◌, ◌⊎◌, inl, inr, List, [], ◌∷◌, ◌++◌, length, take, drop, Option, Some, None, Result, Ok, Err, refl, sym, ap, subst, ◌∙◌, arith, append_assoc, length-append}
use Rattle.std.specs.Prelude.{option_map}
use Rattle.std.proofs.lemmas.List.{take-append-drop}
use Rattle.std.proofs.lemmas.Grind.{flat_map-append}
use Rattle.byte_reading.specs.Reading.{Reading, Done, Faulty, after, rest, rest_from, whole_of}
use Rattle.byte_reading.specs.Reading.{Feeds as FeedsForm}
use Rattle.byte_reading.proofs.ReadingLaws.{after-append, after-faulty, done_from, rest-append, rest-further}
use Rattle.fault.specs.declared.kinds.Fault.{Fault}
use Rattle.fault.specs.declared.kinds.Fault.TheVariants.{BadScreen, Memory, NumbersOut}
use Rattle.raster.specs.Screen.{Canvas}
use Rattle.raster.specs.Size.{IsScreenSize}
use Rattle.raster.specs.Update.{screen}
use Rattle.rfb_wire.specs.Handshake.{Joined, host_hello}
use Rattle.rfb_wire.specs.ServerMessage.{ServerMessage}
use Rattle.painter.specs.Painter.{Painting}
use Rattle.host_decoder.specs.Decoder.{Decodes, Decoding, Feeds, host_message}
use Rattle.host_decoder.specs.Updates.{updates}
use Rattle.recording.specs.Recording.{Block, block_bytes, blocks_bytes, line, padding_len, recording_bytes}
use Rattle.recording.specs.BlockReading.{Found, blocks_from, blocks_in, found, going_on, rest_of}
use Rattle.recording.specs.Progress.{HasRead, shown}
use Rattle.recording.specs.declared.block.Block as declared
use Rattle.recording.specs.declared.bad.BadRecording.{BadRecording}
use Rattle.recording.specs.declared.bad.BadRecording.TheVariants as recording
use Rattle.recording.proofs.ReadBack.{in_pieces}
use Rattle.recording_index.specs.declared.moment.KeyMoment.{KeyMoment}
use Rattle.link.proofs.Sizes.{joined_screen}
use Rattle.playback.proofs.Hearing.{rest_stays}
use Rattle.rebuilt_index.specs.Anew.{said_bytes}
use Rattle.rebuilt_index.specs.Failing.{AreTooLong, HasBadHello, HasBadMessage, HasNoIndex, StopsSeeking, StopsSession}
use Rattle.rebuilt_index.specs.Following.{Follows}
use Rattle.rebuilt_index.specs.Seeking.{IsTried, IsTriedIfAny, SeeksBy}
use Rattle.rebuilt_index.specs.declared.bad.BadRebuild.{BadRebuild}
use Rattle.rebuilt_index.specs.declared.bad.BadRebuild.TheVariants.{Recording, Session, File}
use Rattle.rebuilt_index.specs.declared.follower.Follower.{Follower}
use Rattle.rebuilt_index.specs.declared.seeker.Candidate.{Candidate}
use Rattle.rebuilt_index.proofs.Rebuilt.{place_behind}
use Rattle.rebuilt_index.proofs.Sought.{said_append, said_next}

-- ---- a piece of what a host says

rest_faulty : {A : Type 0} (form : Reading A) (fault : Fault) (bs : List ℕ) → rest_from form (Faulty fault) bs ≡ Faulty fault
rest_faulty form fault [] = refl
rest_faulty form fault (b ∷ bs) = rest_faulty form fault bs

-- These bytes, which follow the first ones of a piece, are the rest of it.
pub rejoined : (stream piece left : List ℕ) (begin used : ℕ) → left ≡ drop begin piece → used ≡ begin → (stream ++ take used piece) ++ left ≡ stream ++ piece
rejoined stream piece left begin used is same =
    append_assoc stream (take used piece) left
    ∙ ap (λ (xs : List ℕ). stream ++ xs) (ap (λ (n : ℕ). take n piece ++ left) same ∙ (ap (λ (xs : List ℕ). take begin piece ++ xs) is ∙ take-append-drop begin piece))

bad_piece : (w h : ℕ) (front left all : List ℕ) (fault : Fault) → front ++ left ≡ all → after (rest (host_message w h) front) left ≡ Faulty fault → rest (host_message w h) all ≡ Faulty fault
bad_piece w h front left all fault is bad =
    let form : Reading ServerMessage = host_message w h in
    ap (rest form) (sym is) ∙ (rest-further form form front left (ap whole_of bad) ∙ bad)

by_piece : (w h : ℕ) (front left all : List ℕ) (fault : Fault) (decoder : Decoding) (painter : Painting) (canvas : Canvas) → front ++ left ≡ all → Feeds decoder painter canvas (rest (host_message w h) front) left (Err fault)
    → (fault ≡ Memory) ⊎ (rest (host_message w h) all ≡ Faulty fault)
by_piece w h front left all fault decoder painter canvas is (inl refused) = inl refused.0
by_piece w h front left all fault decoder painter canvas is (inr bad) = inr (bad_piece w h front left all fault is bad.0)

-- Memory was refused within the piece, or it is at fault.
pub stops_piece : (w h : ℕ) (f : Follower) (decoder : Decoding) (painter : Painting) (stream piece left : List ℕ) (begin used : ℕ) (fault : Fault) → left ≡ drop begin piece → used ≡ begin → Follows w h f (stream ++ take used piece)
    → ((canvas : Canvas) (r : Reading ServerMessage) → Decodes f.decoder f.painter canvas r → Feeds decoder painter canvas r left (Err fault)) → (fault ≡ Memory) ⊎ (rest (host_message w h) (stream ++ piece) ≡ Faulty fault)
stops_piece w h f decoder painter stream piece left begin used fault is same follows feeds =
    let front : List ℕ = stream ++ take used piece in
    by_piece w h front left (stream ++ piece) fault decoder painter (screen (updates w h front)) (rejoined stream piece left begin used is same)
    (feeds (screen (updates w h front)) (rest (host_message w h) front) follows.reads)

-- ---- more blocks

hello_more : (fault : Fault) (blocks more : List Block) → HasBadHello fault blocks → HasBadHello fault (blocks ++ more)
hello_more fault blocks more h =
    let hello : Reading Joined = host_hello None in
    ap (after hello) (said_append blocks more) ∙ (after-append hello (said_bytes blocks) (said_bytes more) ∙ (ap (λ (r : Reading Joined). after r (said_bytes more)) h ∙ after-faulty fault (said_bytes more)))

message_more : (fault : Fault) (blocks more : List Block) → HasBadMessage fault blocks → HasBadMessage fault (blocks ++ more)
message_more fault blocks more h =
    let form : Reading ServerMessage = host_message h.joined.w h.joined.h in
    record {
      hello = h.hello;
      joined = h.joined;
      stream = h.stream ++ said_bytes more;
      opened = record {
        spelled = h.opened.spelled;
        said = said_append blocks more ∙ (ap (λ (xs : List ℕ). xs ++ said_bytes more) h.opened.said ∙ append_assoc h.hello h.stream (said_bytes more));
      };
      bad = rest-append form form h.stream (said_bytes more) ∙ (ap (λ (r : Reading ServerMessage). rest_from form r (said_bytes more)) h.bad ∙ rest_faulty form fault (said_bytes more));
    }

long_more : (fault : Fault) (blocks more : List Block) → AreTooLong fault blocks → AreTooLong fault (blocks ++ more)
unfolding recording_bytes
long_more fault blocks more h =
    let both : blocks_bytes (blocks ++ more) ≡ blocks_bytes blocks ++ blocks_bytes more = flat_map-append block_bytes blocks more in
    let count = ap length both in
    let long = h.1 in
    (h.0, omega (arith, long, count, length-append (blocks_bytes blocks) (blocks_bytes more), length-append line (blocks_bytes blocks), length-append line (blocks_bytes (blocks ++ more))))

session_more : (fault : Fault) (blocks more : List Block) → StopsSession fault blocks → StopsSession fault (blocks ++ more)
session_more fault blocks more (inl memory) = inl memory
session_more fault blocks more (inr (inl hello)) = inr (inl (hello_more fault blocks more hello))
session_more fault blocks more (inr (inr (inl message))) = inr (inr (inl (message_more fault blocks more message)))
session_more fault blocks more (inr (inr (inr long))) = inr (inr (inr (long_more fault blocks more long)))

-- ---- a block is followed

main_by : (main : Follower) (candidate : Option Candidate) (moments : List KeyMoment) (last : KeyMoment) (blocks : List Block) (said : List ℕ) (fault : Fault) → (s : SeeksBy said main candidate moments last blocks)
    → ((fault ≡ Memory) ⊎ (rest (host_message s.joined.w s.joined.h) (s.stream ++ said) ≡ Faulty fault)) → StopsSession fault blocks
main_by main candidate moments last blocks said fault s (inl memory) = inl memory
main_by main candidate moments last blocks said fault s (inr bad) = inr (inr (inl (record { hello = s.hello; joined = s.joined; stream = s.stream ++ said; opened = s.opened; bad = bad })))

pub main_stops : (main : Follower) (candidate : Option Candidate) (moments : List KeyMoment) (last : KeyMoment) (blocks : List Block) (said : List ℕ) (fault : Fault) → SeeksBy said main candidate moments last blocks
    → ((w h : ℕ) (stream : List ℕ) → Follows w h main stream → (fault ≡ Memory) ⊎ (rest (host_message w h) (stream ++ said) ≡ Faulty fault)) → StopsSession fault blocks
main_stops main candidate moments last blocks said fault s why = main_by main candidate moments last blocks said fault s (why s.joined.w s.joined.h s.stream s.main)

-- Who has followed from a block on that begins between two messages finds the fault that one finds who has followed
-- all.
tried_bad : (w h : ℕ) (hello stream : List ℕ) (blocks : List Block) (said : List ℕ) (t : Candidate) (fault : Fault) → (k : IsTried w h hello stream blocks said t)
    → ((fault ≡ Memory) ⊎ (rest (host_message w h) (k.fed ++ said) ≡ Faulty fault)) → (fault ≡ Memory) ⊎ (rest (host_message w h) (stream ++ said) ≡ Faulty fault)
tried_bad w h hello stream blocks said t fault k (inl memory) = inl memory
tried_bad w h hello stream blocks said t fault k (inr bad) =
    let form : Reading ServerMessage = host_message w h in
    inr (ap (λ (xs : List ℕ). rest form (xs ++ said)) k.behind ∙ (ap (rest form) (append_assoc k.before k.fed said)
    ∙ (rest-append form form k.before (k.fed ++ said) ∙ (ap (λ (r : Reading ServerMessage). rest_from form r (k.fed ++ said)) k.between ∙ bad))))

pub candidate_stops : (main : Follower) (candidate : Option Candidate) (t : Candidate) (moments : List KeyMoment) (last : KeyMoment) (blocks : List Block) (said : List ℕ) (fault : Fault) → candidate ≡ Some t → SeeksBy said main candidate moments last blocks
    → ((w h : ℕ) (stream : List ℕ) → Follows w h t.follower stream → (fault ≡ Memory) ⊎ (rest (host_message w h) (stream ++ said) ≡ Faulty fault)) → StopsSession fault blocks
candidate_stops main candidate t moments last blocks said fault some s why =
    let k : IsTried s.joined.w s.joined.h s.hello s.stream blocks said t = subst (IsTriedIfAny s.joined.w s.joined.h s.hello s.stream blocks said) some s.candidate in
    main_by main candidate moments last blocks said fault s (tried_bad s.joined.w s.joined.h s.hello s.stream blocks said t fault k (why s.joined.w s.joined.h k.fed k.follows))

-- ---- the size of a screen

-- Each size that a session may tell is that of a screen.
pub seeks_size : (main : Follower) (candidate : Option Candidate) (moments : List KeyMoment) (last : KeyMoment) (blocks : List Block) (w h : ℕ) → w ≡ main.decoder.width → h ≡ main.decoder.height → SeeksBy [] main candidate moments last blocks → IsScreenSize w h
seeks_size main candidate moments last blocks w h wide high s =
    let size : IsScreenSize s.joined.w s.joined.h = joined_screen None s.hello s.joined s.opened.spelled.says in
    subst (λ (a : ℕ). IsScreenSize a h) (sym (wide ∙ s.main.wide)) (subst (λ (b : ℕ). IsScreenSize s.joined.w b) (sym (high ∙ s.main.high)) size)

pub only_memory : (w h : ℕ) (fault : Fault) → IsScreenSize w h → ((fault ≡ Memory) ⊎ ((fault ≡ BadScreen) × ¬ IsScreenSize w h)) → fault ≡ Memory
only_memory w h fault size (inl memory) = memory
only_memory w h fault size (inr other) = absurd (other.1 size)

-- ---- the handshake

-- The handshake is at fault in what the next block says.
pub hello_stops : (old new : Reading Joined) (blocks : List Block) (block : Block) (said : List ℕ) (fault : Fault) → block.said ≡ said → old ≡ after (host_hello None) (said_bytes blocks) → FeedsForm old new said (Err fault) → HasBadHello fault (blocks ++ block ∷ [])
hello_stops old new blocks block said fault e heard f =
    let hello : Reading Joined = host_hello None in
    ap (after hello) (said_next blocks block said e) ∙ (after-append hello (said_bytes blocks) said ∙ (ap (λ (r : Reading Joined). after r said) (sym heard) ∙ (sym f.0 ∙ f.1)))

-- ---- the file

pub none_in : (bad : BadRebuild) (blocks more : List Block) (read : List ℕ) → blocks_in read ≡ blocks ++ more → StopsSeeking bad blocks → HasNoIndex ⊥ bad read
none_in (Recording bad) blocks more read e h = inl h
none_in (Session fault) blocks more read e h = subst (StopsSession fault) (sym e) (session_more fault blocks more h)
none_in File blocks more read e h = absurd h

pub none_if : (has_failed : Type 0) (bad : BadRebuild) (read : List ℕ) → HasNoIndex ⊥ bad read → HasNoIndex has_failed bad read
none_if has_failed (Recording bad) read h = h
none_if has_failed (Session fault) read h = h
none_if has_failed File read h = absurd h

-- The blocks that are whole in a piece of the file begin with those that were seen, and the one that waits.
pub block_in : (fed piece : List ℕ) (n : ℕ) (blocks : List Block) (now : Reading Found) (block : Block) → HasRead (fed ++ take n piece) blocks now → now ≡ Done (Ok block) → (others : List Block) × (blocks_in (fed ++ piece) ≡ (blocks ++ block ∷ []) ++ others)
block_in fed piece n blocks now block h e =
    let front : List ℕ = fed ++ take n piece in
    let others : List Block = blocks_from (rest_of front) (drop n piece) in
    (others, ap blocks_in (sym (rejoined fed piece (drop n piece) n n refl refl)) ∙ ((in_pieces front (drop n piece)).0 ∙ ap (λ (bs : List Block). bs ++ others) (h.blocks ∙ ap (λ (r : Reading Found). blocks ++ found r) e)))

-- The recording can't be read on, however much of the piece follows.
pub bad_recording : (fed piece : List ℕ) (n : ℕ) (blocks : List Block) (now : Reading Found) (o : Option (Result declared.Block BadRecording)) (bad : BadRecording) → HasRead (fed ++ take n piece) blocks now → option_map shown o ≡ whole_of now → o ≡ Some (Err bad)
    → rest_of (fed ++ piece) ≡ Done (Err bad)
bad_recording fed piece n blocks now o bad h e is =
    let front : List ℕ = fed ++ take n piece in
    let stops : now ≡ Done (Err bad) = done_from now (Err bad) (sym (ap (option_map shown) is) ∙ e) in
    ap rest_of (sym (rejoined fed piece (drop n piece) n n refl refl)) ∙ ((in_pieces front (drop n piece)).1 ∙ rest_stays (rest_of front) bad (drop n piece) (h.rest ∙ ap going_on stops))

-- The next block's place is beyond what a count has room for.
pub too_long : (place : ℕ) (blocks : List Block) (b : Block) (fault : Fault) → place ≡ length (recording_bytes blocks) → (fault ≡ NumbersOut) × (2 ^ 62 < place + (length b.said + padding_len (length b.said) + 8)) → AreTooLong fault (blocks ++ b ∷ [])
too_long place blocks b fault e h =
    let long = h.1 in
    (h.0, omega (arith, long, e, place_behind blocks b))
