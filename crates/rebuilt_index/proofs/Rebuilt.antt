-- What is known of a recording that is read block after block.
use Rattle.std.proofs.Common.{◌≡◌, ℕ, zero, suc, ◌+◌, ◌≤◌, true, if◌then◌else◌, List, [], ◌∷◌, ◌++◌, length, take, drop, Option, Some, None, Result, Ok, Err, refl, sym, ap, subst, ◌∙◌, arith, append_assoc, length-append}
use Rattle.std.specs.Prelude.{bytes_eq, nat_lt, replicate, option_map}
use Rattle.std.specs.Int.{w32, to_be_bytes}
use Rattle.std.proofs.lemmas.List.{append-nil, length-replicate, take_all, take-append-drop}
use Rattle.std.proofs.lemmas.Grind.{flat_map-append}
use Rattle.byte_reading.specs.Reading.{Reading, Done, Faulty, Want, ◌>>=◌, Feeds, after, taken, bytes, padding, u32, wants_more, whole_of}
use Rattle.byte_reading.proofs.ReadingLaws.{after-append, after-taken, done_from, taken-append, taken-nil, taken-open, taken-taken, taken-le, wants_from}
use Rattle.recording.proofs.ReadBack.{begins_read, feeds_read, goes_on_read, next_wants}
use Rattle.playback.proofs.Openings.{IsFine, fine_after, fine_bind, fine_bytes, fine_cond, fine_wants}
use Rattle.rfb_wire.specs.Handshake.{Joined, host_hello}
use Rattle.rfb_wire.specs.Joining.{ahead as hello_ahead}
use Rattle.recording.specs.Recording.{Block, block_bytes, blocks_bytes, padding_len, recording_bytes, line}
use Rattle.recording.specs.BlockReading.{Found, blocks_in, body, bounded_body, first_block, found, going_on, next_block, timed}
use Rattle.recording.specs.Progress.{HasRead, Progress, Uses, ahead, block_of, form_of, shown}
use Rattle.recording.specs.declared.block.Block as declared
use Rattle.recording.specs.declared.bad.BadRecording.{BadRecording}
use Rattle.recording.specs.declared.bad.BadRecording.TheVariants.{NotARecording, BlockTooLong}
use Rattle.recording.specs.declared.form.TheConstants.{LONGEST_READ}
use Rattle.rebuilt_index.specs.Anew.{said_bytes}
use Rattle.rebuilt_index.specs.Seeking.{HasFed, HasRebuilt, HasSeen, HasSeenBy, IsOpened, IsOpening, Seeks}
use Rattle.rebuilt_index.specs.declared.rebuild.Rebuilder.{Rebuilder}
use Rattle.rebuilt_index.specs.declared.rebuild.Session.{Session}
use Rattle.rebuilt_index.specs.declared.seeker.Seeker.{Seeker}
use Rattle.rebuilt_index.proofs.Sought.{said_next}

-- ---- places

length_block : (b : Block) → length (block_bytes b) ≡ length b.said + padding_len (length b.said) + 8
unfolding block_bytes
length_block b =
    let n : ℕ = length b.said in
    let pads : List ℕ = replicate (padding_len n) 0 in
    let behind = length-append (to_be_bytes w32 n) (b.said ++ (pads ++ to_be_bytes w32 b.time)) in
    let inside = length-append b.said (pads ++ to_be_bytes w32 b.time) in
    let last = length-append pads (to_be_bytes w32 b.time) in
    let count = length-replicate {A = ℕ} (padding_len n) 0 in
    omega (arith, behind, inside, last, count)

pub place_behind : (blocks : List Block) (b : Block) → length (recording_bytes (blocks ++ b ∷ [])) ≡ length (recording_bytes blocks) + (length b.said + padding_len (length b.said) + 8)
unfolding recording_bytes
place_behind blocks b =
    let all : blocks_bytes (blocks ++ b ∷ []) ≡ blocks_bytes blocks ++ block_bytes b = flat_map-append block_bytes blocks (b ∷ []) ∙ ap (λ (xs : List ℕ). blocks_bytes blocks ++ xs) (append-nil (block_bytes b)) in
    let whole = length-append line (blocks_bytes (blocks ++ b ∷ [])) in
    let front = length-append line (blocks_bytes blocks) in
    let both = length-append (blocks_bytes blocks) (block_bytes b) in
    let one = length_block b in
    let same = ap length all in
    omega (arith, whole, front, both, one, same)

pub first_place : length (recording_bytes []) ≡ 12
unfolding recording_bytes
first_place = refl

-- ---- a recording is never at fault as bytes are

padding_fine : {A : Type 0} (n : ℕ) (r : Reading A) → IsFine r → IsFine (padding n r)
padding_fine zero r a = a
padding_fine (suc n) r a = λ b. padding_fine n r a

u32_fine : IsFine u32
u32_fine = λ a b c d. tt

body_fine : (last len : ℕ) → IsFine (body last len)
body_fine last len =
    fine_bind (bytes len) (λ said. padding (padding_len len) (u32 >>= λ time. Done (timed last said time))) (fine_bytes len) (λ said.
    padding_fine (padding_len len) (u32 >>= λ time. Done (timed last said time)) (fine_bind u32 (λ time. Done (timed last said time)) u32_fine (λ time. tt)))

next_fine : (last : ℕ) → IsFine (next_block last)
unfolding next_block
next_fine last = fine_bind u32 (bounded_body last) u32_fine (λ len. fine_cond (nat_lt LONGEST_READ len) (Done (Err BlockTooLong)) (body last len) tt (body_fine last len))

first_fine : IsFine first_block
unfolding first_block
first_fine = fine_bind (bytes 12) (λ field. if bytes_eq field line then next_block 0 else Done (Err NotARecording)) (fine_bytes 12) (λ field. fine_cond (bytes_eq field line) (next_block 0) (Done (Err NotARecording)) (next_fine 0) tt)

form_fine : (o : Option ℕ) → IsFine (form_of o)
form_fine None = first_fine
form_fine (Some last) = next_fine last

pub wants_open : (p : Progress) → whole_of (ahead p) ≡ None → wants_more (ahead p) ≡ true
wants_open p e = fine_wants (ahead p) (fine_after (form_of p.last) p.begun (form_fine p.last)) e

pub wants_first : wants_more first_block ≡ true
unfolding first_block
wants_first = refl

-- ---- the handshake

more_said : (hello_old piece : List ℕ) (n : ℕ) → n ≡ taken (after (host_hello None) hello_old) piece → taken (host_hello None) hello_old ≡ length hello_old → taken (host_hello None) (hello_old ++ take n piece) ≡ length (hello_old ++ take n piece)
more_said heard piece n e all =
    let r : Reading Joined = after (host_hello None) heard in
    let front : taken r (take n piece) ≡ n = ap (λ (k : ℕ). taken r (take k piece)) e ∙ (taken-taken r piece ∙ sym e) in
    let most = taken-le r piece in
    taken-append (host_hello None) heard (take n piece) all ∙ omega (arith, front, length-append heard (take n piece), length_take n piece (omega (arith, e, most)))
  where
    length_take : (k : ℕ) (xs : List ℕ) → k ≤ length xs → length (take k xs) ≡ k
    length_take zero xs le = refl
    length_take (suc k) [] le = absurd (omega arith)
    length_take (suc k) (x ∷ xs) le = ap suc (length_take k xs (omega arith))

-- ---- the handshake goes on

abbrev hh : Reading Joined
hh = host_hello None

heard_more : (blocks : List Block) (said : List ℕ) (old new : Reading Joined) (n : ℕ) → old ≡ after hh (said_bytes blocks) → Feeds old new said (Ok n) → new ≡ after hh (said_bytes blocks ++ take n said)
heard_more blocks said old new n heard f =
    f.0 ∙ (sym (after-taken old said) ∙ (ap (λ (k : ℕ). after old (take k said)) (sym f.1) ∙ (ap (λ (r : Reading Joined). after r (take n said)) heard ∙ sym (after-append hh (said_bytes blocks) (take n said)))))

all_more : (blocks : List Block) (said : List ℕ) (old new : Reading Joined) (n : ℕ) → old ≡ after hh (said_bytes blocks) → taken hh (said_bytes blocks) ≡ length (said_bytes blocks) → Feeds old new said (Ok n)
    → taken hh (said_bytes blocks ++ take n said) ≡ length (said_bytes blocks ++ take n said)
all_more blocks said old new n heard all f = more_said (said_bytes blocks) said n (f.1 ∙ ap (λ (r : Reading Joined). taken r said) heard) all

-- It isn't whole yet.
pub opening_on : (old new : Session) (blocks : List Block) (block : Block) (said : List ℕ) (n : ℕ) → block.said ≡ said → IsOpening old blocks → Feeds (hello_ahead old.hello) (hello_ahead new.hello) said (Ok n) → whole_of (hello_ahead new.hello) ≡ None → IsOpening new (blocks ++ block ∷ [])
opening_on old new blocks block said n e k f none =
    let wants : wants_more (hello_ahead new.hello) ≡ true = wants_from (hello_ahead new.hello) none f.2 in
    let open_ : taken (hello_ahead old.hello) said ≡ length said = taken-open (hello_ahead old.hello) said (ap wants_more (sym f.0) ∙ wants) in
    let whole : take n said ≡ said = take_all n said (omega (arith, f.1, open_)) in
    let bytes : said_bytes (blocks ++ block ∷ []) ≡ said_bytes blocks ++ take n said = said_next blocks block said e ∙ ap (λ (xs : List ℕ). said_bytes blocks ++ xs) (sym whole) in
    record {
      heard = heard_more blocks said (hello_ahead old.hello) (hello_ahead new.hello) n k.heard f ∙ ap (after hh) (sym bytes);
      all = subst (λ (xs : List ℕ). taken hh xs ≡ length xs) (sym bytes) (all_more blocks said (hello_ahead old.hello) (hello_ahead new.hello) n k.heard k.all f);
      wants = wants;
    }

-- It is.
pub opened_now : (old new : Session) (blocks : List Block) (block : Block) (said rest : List ℕ) (n : ℕ) (joined : Joined) → block.said ≡ said → rest ≡ drop n said → IsOpening old blocks → Feeds (hello_ahead old.hello) (hello_ahead new.hello) said (Ok n)
    → Some joined ≡ whole_of (hello_ahead new.hello) → IsOpened (blocks ++ block ∷ []) (said_bytes blocks ++ take n said) joined rest
opened_now old new blocks block said rest n joined e behind k f whole =
    record {
      spelled = record {
        whole = all_more blocks said (hello_ahead old.hello) (hello_ahead new.hello) n k.heard k.all f;
        says = sym (heard_more blocks said (hello_ahead old.hello) (hello_ahead new.hello) n k.heard f) ∙ done_from (hello_ahead new.hello) joined whole;
      };
      said = said_next blocks block said e ∙ (ap (λ (xs : List ℕ). said_bytes blocks ++ xs) (sym (take-append-drop n said)) ∙ (sym (append_assoc (said_bytes blocks) (take n said) (drop n said)) ∙ ap (λ (xs : List ℕ). (said_bytes blocks ++ take n said) ++ xs) (sym behind)));
    }

pub seen_opening : (s : Session) (blocks : List Block) → s.seeker ≡ None → IsOpening s blocks → HasSeen s blocks
seen_opening s blocks e k = subst (λ (o : Option Seeker). HasSeenBy o s blocks) (sym e) k

pub opening_seen : (s : Session) (blocks : List Block) → s.seeker ≡ None → HasSeen s blocks → IsOpening s blocks
opening_seen s blocks e k = subst (λ (o : Option Seeker). HasSeenBy o s blocks) e k

pub seen_seeking : (s : Session) (seeker : Seeker) (blocks : List Block) → s.seeker ≡ Some seeker → Seeks [] seeker blocks → HasSeen s blocks
seen_seeking s seeker blocks e k = subst (λ (o : Option Seeker). HasSeenBy o s blocks) (sym e) k

pub seeking_seen : (s : Session) (seeker : Seeker) (blocks : List Block) → s.seeker ≡ Some seeker → HasSeen s blocks → Seeks [] seeker blocks
seeking_seen s seeker blocks e k = subst (λ (o : Option Seeker). HasSeenBy o s blocks) e k

-- ---- the blocks

pub found_as : (r : Reading Found) (o : Option (Result declared.Block BadRecording)) → option_map shown o ≡ whole_of r → (b : declared.Block) → o ≡ Some (Ok b) → r ≡ Done (Ok (block_of b))
found_as r o e b is = done_from r (Ok (block_of b)) (sym (ap (option_map shown) is) ∙ e)

pub none_as : (r : Reading Found) (o : Option (Result declared.Block BadRecording)) → option_map shown o ≡ whole_of r → o ≡ None → whole_of r ≡ None
none_as r o e is = sym e ∙ ap (option_map shown) is

pub block_seen : (old new : Rebuilder) (fed : List ℕ) (b : declared.Block) (o : Option (Result declared.Block BadRecording)) → (h : HasFed old fed) → option_map shown o ≡ whole_of (ahead old.reader) → o ≡ Some (Ok b)
    → ahead new.reader ≡ going_on (ahead old.reader) → new.place ≡ old.place + (length b.said.now + padding_len (length b.said.now) + 8) → HasSeen new.session (h.blocks ++ block_of b ∷ []) → HasRebuilt new fed
block_seen old new fed b o h e is goes place seen =
    let now : ahead old.reader ≡ Done (Ok (block_of b)) = found_as (ahead old.reader) o e b is in
    let next : ahead new.reader ≡ next_block b.time = goes ∙ ap going_on now in
    let read : HasRead fed (h.blocks ++ found (ahead old.reader)) (going_on (ahead old.reader)) = goes_on_read fed h.blocks (ahead old.reader) h.read in
    record {
      fed_ = record {
        blocks = h.blocks ++ block_of b ∷ [];
        read = subst (λ (r : Reading Found). HasRead fed (h.blocks ++ block_of b ∷ []) r) (sym goes) (subst (λ (bs : List Block). HasRead fed (h.blocks ++ bs) (going_on (ahead old.reader))) (ap found now) read);
        place = place ∙ (ap (λ (n : ℕ). n + (length b.said.now + padding_len (length b.said.now) + 8)) h.place ∙ sym (place_behind h.blocks (block_of b)));
        seen = seen;
      };
      wants = ap wants_more next ∙ next_wants b.time;
    }

pub none_seen : (r : Rebuilder) (fed : List ℕ) (o : Option (Result declared.Block BadRecording)) → HasFed r fed → option_map shown o ≡ whole_of (ahead r.reader) → o ≡ None → HasRebuilt r fed
none_seen r fed o h e is = record { fed_ = h; wants = wants_open r.reader (none_as (ahead r.reader) o e is) }

pub fed_more : (old new : Rebuilder) (fed piece : List ℕ) (n : ℕ) → HasRebuilt old fed → Uses (ahead old.reader) (ahead new.reader) piece n → new.session ≡ old.session → new.place ≡ old.place → HasFed new (fed ++ take n piece)
fed_more old new fed piece n h u session place =
    record {
      blocks = h.fed_.blocks;
      read = feeds_read fed h.fed_.blocks (ahead old.reader) (ahead new.reader) piece n h.fed_.read u;
      place = place ∙ h.fed_.place;
      seen = subst (λ (s : Session). HasSeen s h.fed_.blocks) (sym session) h.fed_.seen;
    }

wanting_none : (r : Reading Found) → wants_more r ≡ true → found r ≡ []
wanting_none (Done x) e = absurd cc
wanting_none (Faulty fault) e = refl
wanting_none (Want more) e = refl

-- At the end of the file these are all of its blocks.
pub all_seen : (r : Rebuilder) (fed : List ℕ) → (h : HasRebuilt r fed) → h.fed_.blocks ≡ blocks_in fed
all_seen r fed h = sym (h.fed_.read.blocks ∙ (ap (λ (bs : List Block). h.fed_.blocks ++ bs) (wanting_none (ahead r.reader) h.wants) ∙ append-nil h.fed_.blocks))

pub begun : (r : Rebuilder) → ahead r.reader ≡ first_block → r.place ≡ 12 → HasSeen r.session [] → HasRebuilt r []
begun r first place seen =
    record {
      fed_ = record { blocks = []; read = subst (HasRead [] []) (sym first) begins_read; place = place ∙ sym first_place; seen = seen };
      wants = ap wants_more first ∙ wants_first;
    }

pub session_begun : (s : Session) → hello_ahead s.hello ≡ host_hello None → s.seeker ≡ None → HasSeen s []
session_begun s e none = seen_opening s [] none (record { heard = e; all = taken-nil (host_hello None); wants = ap wants_more e })
