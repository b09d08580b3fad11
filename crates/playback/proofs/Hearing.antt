-- What is heard goes on as what was said does. So what was handed out stays a beginning of what is heard.
use Rattle.std.proofs.Common.{◌≡◌, ℕ, suc, ◌<◌, ◌≤◌, Bool, true, false, cond, List, [], ◌∷◌, ◌++◌, length, take, drop, Option, Ok, Err, refl, sym, ap, ◌∙◌, arith, append_assoc, append-nil}
use Rattle.std.specs.Prelude.{◌||◌, All}
use Rattle.std.specs.List.{list_any}
use Rattle.std.proofs.lemmas.List.{map-append, length-map, take-append-le, drop-append-le, take_all, drop_all}
use Rattle.std.proofs.lemmas.List.Elements.{All-nil, All-cons}
use Rattle.byte_reading.specs.Reading.{Reading, Done, Faulty, Want, step, after, taken, wants_more}
use Rattle.byte_reading.proofs.ReadingLaws.{after-append, after-done, taken-le}
use Rattle.recording.specs.Recording.{Block, said_in}
use Rattle.recording.specs.Waiting.{stamp}
use Rattle.recording.specs.BlockReading.{Found, found, going_on, blocks_in, blocks_from, rest_of, rest_from}
use Rattle.recording.specs.Progress.{ahead}
use Rattle.recording.specs.declared.bad.BadRecording.{BadRecording}
use Rattle.recording.proofs.ReadBack.{in_pieces}
use Rattle.playback.specs.Opening.{Opened, opening}
use Rattle.playback.specs.Heard.{bytes_of, end_time, greeting, heard_by, heard_in, is_later, up_to}
use Rattle.playback.specs.Reels.{Reel, HasBlocks, stream_of}

-- ---- bytes with their times

pub unstamped : (time : ℕ) (bytes : List ℕ) → bytes_of (stamp time bytes) ≡ bytes
unstamped time [] = refl
unstamped time (b ∷ bytes) = ap (λ (xs : List ℕ). b ∷ xs) (unstamped time bytes)

pub bytes_append : (xs ys : List (ℕ × ℕ)) → bytes_of (xs ++ ys) ≡ bytes_of xs ++ bytes_of ys
bytes_append xs ys = map-append (λ (p : ℕ × ℕ). p.0) xs ys

pub bytes_len : (xs : List (ℕ × ℕ)) → length (bytes_of xs) ≡ length xs
bytes_len xs = length-map xs (λ (p : ℕ × ℕ). p.0)

pub stamp_append : (time : ℕ) (xs ys : List ℕ) → stamp time (xs ++ ys) ≡ stamp time xs ++ stamp time ys
stamp_append time xs ys = map-append (λ (b : ℕ). (b, time)) xs ys

pub end_of : (last time b : ℕ) (xs : List (ℕ × ℕ)) (bs : List ℕ) → end_time last (xs ++ stamp time (b ∷ bs)) ≡ time
end_of last time b (x ∷ xs) bs = end_of x.1 time b xs bs
end_of last time b [] [] = refl
end_of last time b [] (d ∷ bs) = end_of time time d [] bs

pub said_one : (b : Block) → said_in (b ∷ []) ≡ stamp b.time b.said
said_one b = append-nil (stamp b.time b.said)

pub all_stamped : (P : ℕ → Type 0) (time : ℕ) (bytes : List ℕ) → P time → All (λ (b : ℕ × ℕ). P b.1) (stamp time bytes)
all_stamped P time [] h = All-nil (λ (b : ℕ × ℕ). P b.1)
all_stamped P time (b ∷ bytes) h = All-cons (λ (b : ℕ × ℕ). P b.1) (b, time) (stamp time bytes) h (all_stamped P time bytes h)

-- ---- what is heard

pub heard_as : (r : Reading Opened) (said : List (ℕ × ℕ)) → after opening (bytes_of said) ≡ r → heard_in said ≡ heard_by r (taken opening (bytes_of said)) said
unfolding heard_in
heard_as r said e = ap (λ (x : Reading Opened). heard_by x (taken opening (bytes_of said)) said) e

none_by : (r : Reading Opened) (count : ℕ) (said : List (ℕ × ℕ)) → wants_more r ≡ true → heard_by r count said ≡ []
none_by (Done x) count said w = absurd cc
none_by (Faulty f) count said w = refl
none_by (Want more) count said w = refl

pub heard_none : (said : List (ℕ × ℕ)) → wants_more (after opening (bytes_of said)) ≡ true → heard_in said ≡ []
heard_none said w = heard_as (after opening (bytes_of said)) said refl ∙ none_by (after opening (bytes_of said)) (taken opening (bytes_of said)) said w

pub same_taken : {A : Type 0} (form : Reading A) (xs ys : List ℕ) (x : A) → after form xs ≡ Done x → taken form (xs ++ ys) ≡ taken form xs
same_taken (Done y) xs ys x e = refl
same_taken (Faulty f) xs ys x e = refl
same_taken (Want more) [] ys x e = absurd cc
same_taken (Want more) (b ∷ xs) ys x e = ap suc (same_taken (more b) xs ys x e)

-- The opening stays whole.
pub stays_open : (said more : List (ℕ × ℕ)) (o : Opened) → after opening (bytes_of said) ≡ Done o → after opening (bytes_of (said ++ more)) ≡ Done o
stays_open said more o e =
    ap (after opening) (bytes_append said more) ∙ (after-append opening (bytes_of said) (bytes_of more) ∙ (ap (λ (r : Reading Opened). after r (bytes_of more)) e ∙ after-done o (bytes_of more)))

-- Then all that follows is heard as it was said.
pub heard_more : (said more : List (ℕ × ℕ)) → after opening (bytes_of said) ≡ Done (Ok tt) → heard_in (said ++ more) ≡ heard_in said ++ more
heard_more said more e =
    let n : ℕ = taken opening (bytes_of said) in
    let within : n ≤ length said = omega (arith, taken-le opening (bytes_of said), bytes_len said) in
    let count : taken opening (bytes_of (said ++ more)) ≡ n = ap (taken opening) (bytes_append said more) ∙ same_taken opening (bytes_of said) (bytes_of more) (Ok tt) e in
    let all = heard_as (Done (Ok tt)) (said ++ more) (stays_open said more (Ok tt) e) in
    let same : heard_by (Done (Ok tt)) (taken opening (bytes_of (said ++ more))) (said ++ more) ≡ heard_by (Done (Ok tt)) n (said ++ more) = ap (λ (k : ℕ). heard_by (Done (Ok tt)) k (said ++ more)) count in
    let front = ap (λ (xs : List (ℕ × ℕ)). stamp (end_time 0 xs) greeting ++ drop n (said ++ more)) (take-append-le n said more within) in
    let back = ap (λ (xs : List (ℕ × ℕ)). stamp (end_time 0 (take n said)) greeting ++ xs) (drop-append-le n said more within) in
    let parts = sym (append_assoc (stamp (end_time 0 (take n said)) greeting) (drop n said) more) in
    let first = ap (λ (xs : List (ℕ × ℕ)). xs ++ more) (sym (heard_as (Done (Ok tt)) said e)) in
    all ∙ (same ∙ (front ∙ (back ∙ (parts ∙ first))))

grows_by : (r : Reading Opened) (said more : List (ℕ × ℕ)) → after opening (bytes_of said) ≡ r → (later : List (ℕ × ℕ)) × (heard_in (said ++ more) ≡ heard_in said ++ later)
grows_by (Done (Ok fine)) said more e = (more, heard_more said more e)
grows_by (Done (Err bad)) said more e = (heard_in (said ++ more), ap (λ (xs : List (ℕ × ℕ)). xs ++ heard_in (said ++ more)) (sym (heard_as (Done (Err bad)) said e)))
grows_by (Faulty fault) said more e = (heard_in (said ++ more), ap (λ (xs : List (ℕ × ℕ)). xs ++ heard_in (said ++ more)) (sym (heard_as (Faulty fault) said e)))
grows_by (Want next) said more e = (heard_in (said ++ more), ap (λ (xs : List (ℕ × ℕ)). xs ++ heard_in (said ++ more)) (sym (heard_as (Want next) said e)))

-- Whatever was said, what is heard grows.
pub heard_grows : (said more : List (ℕ × ℕ)) → (later : List (ℕ × ℕ)) × (heard_in (said ++ more) ≡ heard_in said ++ later)
heard_grows said more = grows_by (after opening (bytes_of said)) said more refl

-- Where the opening ends with these bytes of one time, the greeting is heard at that time.
pub heard_opens : (said : List (ℕ × ℕ)) (time : ℕ) (bs : List ℕ) → 0 < length bs → after opening (bytes_of (said ++ stamp time bs)) ≡ Done (Ok tt) → taken opening (bytes_of (said ++ stamp time bs)) ≡ length (bytes_of (said ++ stamp time bs))
    → heard_in (said ++ stamp time bs) ≡ stamp time greeting
heard_opens said time [] some e whole = absurd (omega arith)
heard_opens said time (b ∷ bs) some e whole =
    let all : List (ℕ × ℕ) = said ++ stamp time (b ∷ bs) in
    let n : ℕ = taken opening (bytes_of all) in
    let long : length all ≤ n = omega (arith, whole, bytes_len all) in
    let front = ap (λ (xs : List (ℕ × ℕ)). stamp (end_time 0 xs) greeting ++ drop n all) (take_all n all long) in
    let back = ap (λ (xs : List (ℕ × ℕ)). stamp (end_time 0 all) greeting ++ xs) (drop_all n all long) in
    heard_as (Done (Ok tt)) all e ∙ (front ∙ (back ∙ (append-nil (stamp (end_time 0 all) greeting) ∙ ap (λ (t : ℕ). stamp t greeting) (end_of 0 time b said bs))))

-- ---- which blocks are played

up_to_step : (until : Option ℕ) (b : Block) (gone : List Block) (l : Bool) → is_later until b ≡ l → up_to until (b ∷ gone) ≡ b ∷ gone → (l ≡ false) × (up_to until gone ≡ gone)
up_to_step until b gone true e h = let bad : [] ≡ b ∷ gone = sym (rw e refl) ∙ h in absurd cc
up_to_step until b gone false e h = let same : b ∷ up_to until gone ≡ b ∷ gone = sym (rw e refl) ∙ h in (refl, cc)

up_to_front : (until : Option ℕ) (b : Block) (bs : List Block) → is_later until b ≡ false → up_to until (b ∷ bs) ≡ b ∷ up_to until bs
up_to_front until b bs e = rw e refl

pub up_to_none : (until : Option ℕ) (b : Block) (bs : List Block) → is_later until b ≡ true → up_to until (b ∷ bs) ≡ []
up_to_none until b bs e = rw e refl

pub up_to_append : (until : Option ℕ) (gone more : List Block) → up_to until gone ≡ gone → up_to until (gone ++ more) ≡ gone ++ up_to until more
up_to_append until [] more h = refl
up_to_append until (b ∷ gone) more h =
    let s = up_to_step until b gone (is_later until b) refl h in
    up_to_front until b (gone ++ more) s.0 ∙ ap (λ (bs : List Block). b ∷ bs) (up_to_append until gone more s.1)

pub up_to_one : (until : Option ℕ) (b : Block) → is_later until b ≡ false → up_to until (b ∷ []) ≡ b ∷ []
up_to_one until b e = up_to_front until b [] e

begins_if : (l : Bool) (b : Block) (xs ys : List Block) → ((rest : List Block) × (xs ≡ ys ++ rest)) → (rest : List Block) × ((cond l [] (b ∷ xs)) ≡ (cond l [] (b ∷ ys)) ++ rest)
begins_if true b xs ys h = ([], refl)
begins_if false b xs ys h = (h.0, ap (λ (bs : List Block). b ∷ bs) h.1)

pub up_to_begins : (until : Option ℕ) (some more : List Block) → (rest : List Block) × (up_to until (some ++ more) ≡ up_to until some ++ rest)
up_to_begins until [] more = (up_to until more, refl)
up_to_begins until (b ∷ some) more = begins_if (is_later until b) b (up_to until (some ++ more)) (up_to until some) (up_to_begins until some more)

-- Where one of some blocks is later, none behind them is played.
any_step : (until : Option ℕ) (b : Block) (some more : List Block) (l : Bool) → is_later until b ≡ l → (l || list_any (is_later until) some) ≡ true → (list_any (is_later until) some ≡ true → up_to until (some ++ more) ≡ up_to until some)
    → up_to until (b ∷ (some ++ more)) ≡ up_to until (b ∷ some)
any_step until b some more true e any rest = up_to_none until b (some ++ more) e ∙ sym (up_to_none until b some e)
any_step until b some more false e any rest =
    up_to_front until b (some ++ more) e ∙ (ap (λ (bs : List Block). b ∷ bs) (rest any) ∙ sym (up_to_front until b some e))

pub up_to_any : (until : Option ℕ) (some more : List Block) → list_any (is_later until) some ≡ true → up_to until (some ++ more) ≡ up_to until some
up_to_any until [] more e = absurd (let never : false ≡ true = e in cc)
up_to_any until (b ∷ some) more e = any_step until b some more (is_later until b) refl e (up_to_any until some more)

or_right : (a b : Bool) → b ≡ true → (a || b) ≡ true
or_right true b e = refl
or_right false b e = e

or_left : (a b : Bool) → a ≡ true → (a || b) ≡ true
or_left true b e = refl
or_left false b e = absurd cc

pub any_later : (until : Option ℕ) (gone : List Block) (b : Block) (more : List Block) → is_later until b ≡ true → list_any (is_later until) (gone ++ b ∷ more) ≡ true
any_later until [] b more e = or_left (is_later until b) (list_any (is_later until) more) e
any_later until (d ∷ gone) b more e = or_right (is_later until d) (list_any (is_later until) (gone ++ b ∷ more)) (any_later until gone b more e)

-- ---- the blocks of what was read

-- Those that are gone, the one at hand, and those that the reader hasn't seen.
pub blocks_all : (r : Reel) (gone : List Block) → HasBlocks r gone → (more : List Block) × (blocks_in (stream_of r) ≡ gone ++ (found (ahead r.reader) ++ more))
blocks_all r gone h =
    let more : List Block = blocks_from (rest_of h.fed) r.unread in
    (more, ap blocks_in h.parts ∙ ((in_pieces h.fed r.unread).0 ∙ (ap (λ (bs : List Block). bs ++ more) h.read.blocks ∙ append_assoc gone (found (ahead r.reader)) more)))

-- Where the reader has seen all, and no block is whole, there are no more.
pub blocks_end : (r : Reel) (gone : List Block) → HasBlocks r gone → r.unread ≡ [] → found (ahead r.reader) ≡ [] → blocks_in (stream_of r) ≡ gone
blocks_end r gone h none open_now =
    ap blocks_in (h.parts ∙ (ap (λ (xs : List ℕ). h.fed ++ xs) none ∙ append-nil h.fed)) ∙ (h.read.blocks ∙ (ap (λ (bs : List Block). gone ++ bs) open_now ∙ append-nil gone))

-- What follows a reason not to read on changes nothing.
pub rest_stays : (now : Reading Found) (bad : BadRecording) (xs : List ℕ) → now ≡ Done (Err bad) → rest_from now xs ≡ Done (Err bad)
rest_stays now bad [] e = e
rest_stays now bad (b ∷ xs) e = rest_stays (going_on (step now b)) bad xs (ap (λ (r : Reading Found). going_on (step r b)) e)

pub rest_bad : (r : Reel) (gone : List Block) (bad : BadRecording) → HasBlocks r gone → ahead r.reader ≡ Done (Err bad) → rest_of (stream_of r) ≡ Done (Err bad)
rest_bad r gone bad h e =
    ap rest_of h.parts ∙ ((in_pieces h.fed r.unread).1 ∙ rest_stays (rest_of h.fed) bad r.unread (h.read.rest ∙ ap going_on e))
