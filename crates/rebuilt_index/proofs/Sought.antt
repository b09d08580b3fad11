-- What is known of key moments as blocks are seen, one after another.
use Rattle.std.proofs.Common.{◌≡◌, ℕ, ◌<◌, ◌≤◌, ◌^◌, true, List, [], ◌∷◌, ◌++◌, Option, Some, None, refl, sym, ap, subst, ◌∙◌, arith, append_assoc}
use Rattle.std.specs.Prelude.{All}
use Rattle.std.proofs.lemmas.List.{append-nil}
use Rattle.std.proofs.lemmas.List.Elements.{All-append, All-head, All-tail, All-cons, All-nil}
use Rattle.std.proofs.lemmas.Grind.{flat_map-append}
use Rattle.byte_reading.specs.Reading.{rest}
use Rattle.raster.specs.Screen.{LooksLike}
use Rattle.raster.specs.Update.{screen}
use Rattle.rfb_wire.specs.Handshake.{Joined}
use Rattle.host_decoder.specs.Decoder.{host_message}
use Rattle.host_decoder.specs.Updates.{updates}
use Rattle.recording.specs.Recording.{Block}
use Rattle.recording_index.specs.IndexBytes.{AreMomentsAfter, start}
use Rattle.recording_index.specs.KeyMoments.{moment_before}
use Rattle.recording_index.specs.declared.moment.KeyMoment.{KeyMoment}
use Rattle.rebuilt_index.specs.Anew.{AreKeyMoments, IsKey, IsShownAnew, said_bytes}
use Rattle.rebuilt_index.specs.Following.{Follows, Shows}
use Rattle.rebuilt_index.specs.Seeking.{IsOpened, IsTried, IsTriedIfAny, SeeksBy, last_of}
use Rattle.rebuilt_index.specs.declared.follower.Follower.{Follower}
use Rattle.rebuilt_index.specs.declared.seeker.Candidate.{Candidate}
use Rattle.rebuilt_index.proofs.Steps.{shows}

pub said_append : (some more : List Block) → said_bytes (some ++ more) ≡ said_bytes some ++ said_bytes more
said_append some more = flat_map-append (λ (b : Block). b.said) some more

said_one : (block : Block) → said_bytes (block ∷ []) ≡ block.said
said_one block = append-nil block.said

pub said_next : (blocks : List Block) (block : Block) (said : List ℕ) → block.said ≡ said → said_bytes (blocks ++ block ∷ []) ≡ said_bytes blocks ++ said
said_next blocks block said e = said_append blocks (block ∷ []) ∙ ap (λ (xs : List ℕ). said_bytes blocks ++ xs) (said_one block ∙ e)

-- ---- they stay as blocks are added

key_stays : (blocks more : List Block) (m : KeyMoment) → IsKey blocks m → IsKey (blocks ++ more) m
key_stays blocks more m k =
    record {
      earlier = k.earlier;
      block = k.block;
      later = k.later;
      others = k.others ++ more;
      all = ap (λ (bs : List Block). bs ++ more) k.all ∙ (append_assoc k.earlier (k.block ∷ (k.later ++ k.others)) more ∙ ap (λ (bs : List Block). k.earlier ++ k.block ∷ bs) (append_assoc k.later k.others more));
      is = k.is;
      hello = k.hello;
      joined = k.joined;
      opened = k.opened;
      before = k.before;
      said = k.said;
      anew = k.anew;
    }

keys_stay : (moments : List KeyMoment) (blocks more : List Block) → All (IsKey blocks) moments → All (IsKey (blocks ++ more)) moments
keys_stay [] blocks more h = All-nil (IsKey (blocks ++ more))
keys_stay (m ∷ moments) blocks more h =
    All-cons (IsKey (blocks ++ more)) m moments (key_stays blocks more m (All-head (IsKey blocks) m moments h)) (keys_stay moments blocks more (All-tail (IsKey blocks) m moments h))

pub found_stays : (moments : List KeyMoment) (blocks more : List Block) → AreKeyMoments moments blocks → AreKeyMoments moments (blocks ++ more)
found_stays moments blocks more f = record { in_order = f.in_order; each = keys_stay moments blocks more f.each }

pub found_none : (blocks : List Block) → AreKeyMoments [] blocks
found_none blocks = record { in_order = tt; each = All-nil (IsKey blocks) }

-- ---- one is added

in_order_more : (before : KeyMoment) (moments : List KeyMoment) (m : KeyMoment) → AreMomentsAfter before moments → (last_of before moments).time ≤ m.time → (last_of before moments).place ≤ m.place → m.time < 2 ^ 32 → m.place < 2 ^ 64 → AreMomentsAfter before (moments ++ m ∷ [])
in_order_more before [] m h time place short near = (time, place, short, near, tt)
in_order_more before (x ∷ moments) m h time place short near = (h.0, h.1, h.2, h.3, in_order_more x moments m h.4 time place short near)

pub last_more : (before : KeyMoment) (moments : List KeyMoment) (m : KeyMoment) → last_of before (moments ++ m ∷ []) ≡ m
last_more before [] m = refl
last_more before (x ∷ moments) m = last_more x moments m

pub notes : (main : Follower) (candidate : Option Candidate) (moments : List KeyMoment) (last m : KeyMoment) (blocks : List Block) → SeeksBy [] main candidate moments last blocks → IsKey blocks m → last.time ≤ m.time → last.place ≤ m.place → m.time < 2 ^ 32 → m.place < 2 ^ 64
    → SeeksBy [] main candidate (moments ++ m ∷ []) m blocks
notes main candidate moments last m blocks s key time place short near =
    record {
      hello = s.hello;
      joined = s.joined;
      stream = s.stream;
      opened = s.opened;
      main = s.main;
      candidate = s.candidate;
      found = record {
        in_order = in_order_more start moments m s.found.in_order (subst (λ (l : KeyMoment). l.time ≤ m.time) s.last time) (subst (λ (l : KeyMoment). l.place ≤ m.place) s.last place) short near;
        each = All-append (IsKey blocks) moments (m ∷ []) s.found.each (All-cons (IsKey blocks) m [] key (All-nil (IsKey blocks)));
      };
      last = sym (last_more start moments m);
    }

-- ---- a block comes

tried_on : (w h : ℕ) (hello stream : List ℕ) (blocks : List Block) (block : Block) (said : List ℕ) (t : Candidate) → block.said ≡ said → IsTried w h hello stream blocks [] t → IsTried w h hello stream (blocks ++ block ∷ []) said t
tried_on w h hello stream blocks block said t e k =
    record {
      earlier = k.earlier;
      block = k.block;
      later = k.later ++ block ∷ [];
      all = ap (λ (bs : List Block). bs ++ block ∷ []) k.all ∙ append_assoc k.earlier (k.block ∷ k.later) (block ∷ []);
      is = k.is;
      before = k.before;
      said = k.said;
      between = k.between;
      fed = k.fed;
      left = said_next (k.block ∷ k.later) block said e ∙ ap (λ (xs : List ℕ). xs ++ said) (k.left ∙ append-nil k.fed);
      behind = k.behind;
      follows = k.follows;
    }

tried_on_if : (w h : ℕ) (hello stream : List ℕ) (blocks : List Block) (block : Block) (said : List ℕ) (o : Option Candidate) → block.said ≡ said → IsTriedIfAny w h hello stream blocks [] o → IsTriedIfAny w h hello stream (blocks ++ block ∷ []) said o
tried_on_if w h hello stream blocks block said None e k = tt
tried_on_if w h hello stream blocks block said (Some t) e k = tried_on w h hello stream blocks block said t e k

opened_on : (blocks : List Block) (block : Block) (hello stream said : List ℕ) (joined : Joined) → block.said ≡ said → IsOpened blocks hello joined (stream ++ []) → IsOpened (blocks ++ block ∷ []) hello joined (stream ++ said)
opened_on blocks block hello stream said joined e k =
    record {
      spelled = k.spelled;
      said = said_next blocks block said e ∙ (ap (λ (xs : List ℕ). xs ++ said) (k.said ∙ ap (λ (xs : List ℕ). hello ++ xs) (append-nil stream)) ∙ append_assoc hello stream said);
    }

pub goes_on : (main : Follower) (candidate : Option Candidate) (moments : List KeyMoment) (last : KeyMoment) (blocks : List Block) (block : Block) (said : List ℕ) → block.said ≡ said → SeeksBy [] main candidate moments last blocks
    → SeeksBy said main candidate moments last (blocks ++ block ∷ [])
goes_on main candidate moments last blocks block said e s =
    record {
      hello = s.hello;
      joined = s.joined;
      stream = s.stream;
      opened = opened_on blocks block s.hello s.stream said s.joined e s.opened;
      main = s.main;
      candidate = tried_on_if s.joined.w s.joined.h s.hello s.stream blocks block said candidate e s.candidate;
      found = found_stays moments blocks (block ∷ []) s.found;
      last = s.last;
    }

pub tries : (main other : Follower) (candidate : Option Candidate) (moments : List KeyMoment) (last m : KeyMoment) (blocks : List Block) (block : Block) (said : List ℕ) (w h : ℕ) → block.said ≡ said → m ≡ moment_before blocks block
    → w ≡ main.decoder.width → h ≡ main.decoder.height → main.is_between ≡ true → Follows w h other [] → SeeksBy [] main candidate moments last blocks → SeeksBy said main (Some (record { moment = m; follower = other })) moments last (blocks ++ block ∷ [])
tries main other candidate moments last m blocks block said w h e is wide high between follows s =
    record {
      hello = s.hello;
      joined = s.joined;
      stream = s.stream;
      opened = opened_on blocks block s.hello s.stream said s.joined e s.opened;
      main = s.main;
      candidate = record {
        earlier = blocks;
        block = block;
        later = [];
        all = refl;
        is = is;
        before = s.stream;
        said = s.opened.said ∙ ap (λ (xs : List ℕ). s.hello ++ xs) (append-nil s.stream);
        between = s.main.between between;
        fed = [];
        left = said_one block ∙ e;
        behind = sym (append-nil s.stream);
        follows = subst (λ (a : ℕ). Follows a s.joined.h other []) (wide ∙ s.main.wide) (subst (λ (b : ℕ). Follows w b other []) (high ∙ s.main.high) follows);
      };
      found = found_stays moments blocks (block ∷ []) s.found;
      last = s.last;
    }

-- ---- it is followed

opened_all : (blocks : List Block) (hello stream said : List ℕ) (joined : Joined) → IsOpened blocks hello joined (stream ++ said) → IsOpened blocks hello joined ((stream ++ said) ++ [])
opened_all blocks hello stream said joined k = record { spelled = k.spelled; said = k.said ∙ ap (λ (xs : List ℕ). hello ++ xs) (sym (append-nil (stream ++ said))) }

pub follows_none : (main next : Follower) (moments : List KeyMoment) (last : KeyMoment) (blocks : List Block) (said : List ℕ) → ((w h : ℕ) (stream : List ℕ) → Follows w h main stream → Follows w h next (stream ++ said))
    → (candidate : Option Candidate) → candidate ≡ None → SeeksBy said main candidate moments last blocks → SeeksBy [] next None moments last blocks
follows_none main next moments last blocks said more candidate none s =
    record {
      hello = s.hello;
      joined = s.joined;
      stream = s.stream ++ said;
      opened = opened_all blocks s.hello s.stream said s.joined s.opened;
      main = more s.joined.w s.joined.h s.stream s.main;
      candidate = tt;
      found = s.found;
      last = s.last;
    }

pub follows_both : (main next : Follower) (moments : List KeyMoment) (last : KeyMoment) (blocks : List Block) (said : List ℕ) → ((w h : ℕ) (stream : List ℕ) → Follows w h main stream → Follows w h next (stream ++ said))
    → (candidate : Option Candidate) (t : Candidate) (other : Follower) → candidate ≡ Some t → ((w h : ℕ) (stream : List ℕ) → Follows w h t.follower stream → Follows w h other (stream ++ said))
    → SeeksBy said main candidate moments last blocks → SeeksBy [] next (Some (record t { follower = other })) moments last blocks
follows_both main next moments last blocks said more candidate t other some also s =
    let k : IsTried s.joined.w s.joined.h s.hello s.stream blocks said t = subst (IsTriedIfAny s.joined.w s.joined.h s.hello s.stream blocks said) some s.candidate in
    record {
      hello = s.hello;
      joined = s.joined;
      stream = s.stream ++ said;
      opened = opened_all blocks s.hello s.stream said s.joined s.opened;
      main = more s.joined.w s.joined.h s.stream s.main;
      candidate = record {
        earlier = k.earlier;
        block = k.block;
        later = k.later;
        all = k.all;
        is = k.is;
        before = k.before;
        said = k.said;
        between = k.between;
        fed = k.fed ++ said;
        left = k.left ∙ sym (append-nil (k.fed ++ said));
        behind = ap (λ (xs : List ℕ). xs ++ said) k.behind ∙ append_assoc k.before k.fed said;
        follows = also s.joined.w s.joined.h k.fed k.follows;
      };
      found = s.found;
      last = s.last;
    }

-- ---- it is judged

pub without : (main : Follower) (candidate : Option Candidate) (moments : List KeyMoment) (last : KeyMoment) (blocks : List Block) → SeeksBy [] main candidate moments last blocks → SeeksBy [] main None moments last blocks
without main candidate moments last blocks s = record { hello = s.hello; joined = s.joined; stream = s.stream; opened = s.opened; main = s.main; candidate = tt; found = s.found; last = s.last }

looks : (w h : ℕ) (one other : Follower) (before fed stream : List ℕ) → Follows w h one fed → Follows w h other stream → one.is_between ≡ true → other.is_between ≡ true → Shows one.painter other.painter → one.painter.width ≡ w → one.painter.height ≡ h → stream ≡ before ++ fed
    → LooksLike w h (screen (updates w h fed)) (screen (updates w h (before ++ fed)))
looks w h one other before fed stream f g e d s wide high is x y lx ly =
    let mine = shows w h one.decoder one.painter one.is_between fed f e x y (omega (arith, lx, wide)) (omega (arith, ly, high)) in
    let all = shows w h other.decoder other.painter other.is_between stream g d x y (omega (arith, lx, wide, s.wide)) (omega (arith, ly, high, s.high)) in
    sym mine ∙ (s.same x y (omega (arith, lx, wide)) (omega (arith, ly, high)) ∙ (all ∙ ap (λ (xs : List ℕ). screen (updates w h xs) x y) is))

pub is_key : (main : Follower) (candidate : Option Candidate) (t : Candidate) (moments : List KeyMoment) (last : KeyMoment) (blocks : List Block) → candidate ≡ Some t → SeeksBy [] main candidate moments last blocks → main.is_between ≡ true → t.follower.is_between ≡ true
    → Shows t.follower.painter main.painter → t.follower.painter.width ≡ t.follower.decoder.width → t.follower.painter.height ≡ t.follower.decoder.height → IsKey blocks t.moment
is_key main candidate t moments last blocks some s all one same wide high =
    let k : IsTried s.joined.w s.joined.h s.hello s.stream blocks [] t = subst (IsTriedIfAny s.joined.w s.joined.h s.hello s.stream blocks []) some s.candidate in
    let said : said_bytes (k.block ∷ k.later) ≡ k.fed = k.left ∙ append-nil k.fed in
    let anew : IsShownAnew s.joined.w s.joined.h k.before k.fed = record {
      all_between = ap (rest (host_message s.joined.w s.joined.h)) (sym k.behind) ∙ s.main.between all;
      between = k.follows.between one;
      same = looks s.joined.w s.joined.h t.follower main k.before k.fed s.stream k.follows s.main one all same (wide ∙ k.follows.wide) (high ∙ k.follows.high) k.behind;
    } in
    record {
      earlier = k.earlier;
      block = k.block;
      later = k.later;
      others = [];
      all = k.all ∙ ap (λ (bs : List Block). k.earlier ++ k.block ∷ bs) (sym (append-nil k.later));
      is = k.is;
      hello = s.hello;
      joined = s.joined;
      opened = s.opened.spelled;
      before = k.before;
      said = k.said;
      anew = subst (IsShownAnew s.joined.w s.joined.h k.before) (sym said) anew;
    }
