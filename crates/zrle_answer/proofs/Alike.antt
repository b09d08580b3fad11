-- A message without ZRLE is followed as it is by a follower that doesn't take ZRLE.
use Rattle.std.proofs.Common.{◌≡◌, ℕ, zero, suc, Bool, true, false, cond, List, [], ◌∷◌, ◌++◌, ◌∙◌, length, Option, Some, None, refl, sym, ap, subst, inl, inr}
use Rattle.std.specs.Prelude.{not, ◌==◌, ◌*◌, if◌then◌else◌, nat_le}
use Rattle.std.proofs.lemmas.Bool.{eqb-true}
use Rattle.std.proofs.lemmas.List.{append-nil}
use Rattle.pixel_format.specs.PixelFormat.{PixelFormat}
use Rattle.byte_reading.specs.Reading.{Reading, Done, Faulty, Want, ◌>>=◌, after, taken, whole_of, bytes, padding, times, u16, u32, unless, Spells}
use Rattle.fault.specs.declared.kinds.Fault.TheVariants.{UnknownMessage}
use Rattle.raster.specs.Update.{Paint}
use Rattle.raster.specs.Screen.{Map}
use Rattle.rfb_wire.specs.ClientMessage.{longest_text, text}
use Rattle.rfb_wire.specs.ServerMessage.{ServerMessage, FramebufferUpdate, SetColorMapEntries, Bell, ServerCutText, LostText, fields_of, framebuffer_update, rectangle, server_message, set_color_map_entries}
use Rattle.update_encoder.specs.Follower.{Answer, after_message, only_message}
use Rattle.zrle_answer.specs.Rectangle.{ZlibStream}
use Rattle.zrle_answer.specs.Reading.{ReadsRectangles, ReadsUpdate, update_head}
use Rattle.zrle_answer.specs.Reading.ReadsRectangle.{in_another}
use Rattle.zrle_answer.specs.Reading.ReadsRectangles.{none, one_more}
use Rattle.zrle_answer.specs.Follower.{ZrleFollower, Follows, IsUnread}
use Rattle.zrle_answer.specs.Followed.{OtherMessagesAreFollowedAlike}
use Rattle.zrle_answer.proofs.Spelled.{both, then_byte, no_fault, passed, done_with, behind_padding}

-- ---- bytes that are exactly one message spell it

whole_is : {A : Type 0} (form : Reading A) (x : A) → whole_of form ≡ Some x → form ≡ Done x
whole_is (Done y) x e = cc
whole_is (Faulty fault) x e = absurd cc
whole_is (Want more) x e = absurd cc

spelled_if : {A : Type 0} (form : Reading A) (bs : List ℕ) (x : A) (b : Bool) → (taken form bs == length bs) ≡ b → cond b (whole_of (after form bs)) None ≡ Some x → Spells form bs x
spelled_if form bs x true e k = record { whole = eqb-true (taken form bs) (length bs) e; says = whole_is (after form bs) x k }
spelled_if form bs x false e k = absurd cc

only_spells : (format : PixelFormat) (w h : ℕ) (bs : List ℕ) (message : ServerMessage) → only_message format w h bs ≡ Some message → Spells (server_message format w h) bs message
only_spells format w h bs message e = spelled_if (server_message format w h) bs message (taken (server_message format w h) bs == length bs) refl e

-- ---- other messages than an update change nothing

abbrev ChangesNothing : ServerMessage → Type 0
ChangesNothing message = (held : Map (Option ℕ)) → after_message held (Some message) ≡ held

is_one : (known message : ServerMessage) (bs : List ℕ) → ChangesNothing known → Spells (Done known) bs message → ChangesNothing message
is_one known message bs k s = subst ChangesNothing (done_with known message bs s).1 k

colours_change : (bs : List ℕ) (message : ServerMessage) → Spells set_color_map_entries bs message → ChangesNothing message
colours_change bs message k =
    let counted : ℕ → Reading ServerMessage = λ count. padding (count * 6) (Done SetColorMapEntries) in
    let s = behind_padding 3 (u16 >>= counted) bs message k in
    let t = both u16 counted s.0 message s.1 in
    let u = behind_padding (t.x * 6) (Done SetColorMapEntries) t.others message t.then_spells in
    is_one SetColorMapEntries message u.0 (λ held. refl) u.1

abbrev text_behind : ℕ → Bool → Reading ServerMessage
text_behind len short = if short then (bytes len >>= λ t. Done (ServerCutText t)) else padding len (Done (LostText len))

text_changes_if : (len : ℕ) (short : Bool) (bs : List ℕ) (message : ServerMessage) → Spells (text_behind len short) bs message → ChangesNothing message
text_changes_if len true bs message k =
    let s = both (bytes len) (λ t. Done (ServerCutText t)) bs message k in
    is_one (ServerCutText s.x) message s.others (λ held. refl) s.then_spells
text_changes_if len false bs message k =
    let s = behind_padding len (Done (LostText len)) bs message k in
    is_one (LostText len) message s.0 (λ held. refl) s.1

text_changes : (bs : List ℕ) (message : ServerMessage) → Spells (text ServerCutText LostText) bs message → ChangesNothing message
text_changes bs message k =
    let s = behind_padding 3 (u32 >>= λ len. text_behind len (nat_le len longest_text)) bs message k in
    let t = both u32 (λ len. text_behind len (nat_le len longest_text)) s.0 message s.1 in
    text_changes_if t.x (nat_le t.x longest_text) t.others message t.then_spells

change_if : (kind : ℕ) (is_colours is_bell is_text : Bool) (bs : List ℕ) (message : ServerMessage)
    → Spells (cond is_colours set_color_map_entries (cond is_bell (Done Bell) (cond is_text (text ServerCutText LostText) (Faulty (UnknownMessage kind))))) bs message → ChangesNothing message
change_if kind true is_bell is_text bs message k = colours_change bs message k
change_if kind false true is_text bs message k = is_one Bell message bs (λ held. refl) k
change_if kind false false true bs message k = text_changes bs message k
change_if kind false false false bs message k = absurd (no_fault (UnknownMessage kind) bs message k)

-- They are no update, with or without ZRLE.
not_false : (b : Bool) → not b ≡ false → b ≡ true
not_false true e = refl
not_false false e = absurd cc

begins_with_0 : (head : List ℕ) (count : ℕ) → Spells update_head head count → (others : List ℕ) × (head ≡ 0 ∷ others)
begins_with_0 head count k =
    let fields : ℕ → Reading ℕ = λ kind. unless (not (kind == 0)) (UnknownMessage kind) (padding 1 u16) in
    let s = then_byte fields head count k in
    let t = passed (not (s.first == 0)) (UnknownMessage s.first) (padding 1 u16) s.others count s.spells in
    (s.others, s.are ∙ ap (λ b. b ∷ s.others) (eqb-true s.first 0 (not_false (s.first == 0) t.0)))

is_unread : (w h : ℕ) (follower : ZrleFollower) (kind : ℕ) (bs : List ℕ) → (kind == 0) ≡ false → IsUnread w h follower (kind ∷ bs)
is_unread w h follower kind bs e paints stream k =
    let s = begins_with_0 k.head k.count k.counts in
    let same : kind ∷ bs ≡ 0 ∷ (s.0 ++ k.others) = k.begins ∙ ap (λ t. t ++ k.others) s.1 in
    let first : kind ≡ 0 = cc in
    let wrong : false ≡ true = sym e ∙ ap (λ n. n == 0) first in
    cc

-- ---- an update

times_read : (format : PixelFormat) (w h n : ℕ) (stream : ZlibStream) (bs : List ℕ) (paints : List Paint) → Spells (times n (rectangle format w h)) bs paints → ReadsRectangles format w h n stream bs paints stream
times_read format w h zero stream bs paints k =
    let s = done_with [] paints bs k in
    subst (λ ps. ReadsRectangles format w h 0 stream bs ps stream) s.1 (subst (λ t. ReadsRectangles format w h 0 stream t [] stream) (sym s.0) (none format w h stream))
times_read format w h (suc n) stream bs paints k =
    let s = both (rectangle format w h) (λ first. times n (rectangle format w h) >>= λ others. Done (first ∷ others)) bs paints k in
    let t = both (times n (rectangle format w h)) (λ others. Done (s.x ∷ others)) s.others paints s.then_spells in
    let u = done_with (s.x ∷ t.x) paints t.others t.then_spells in
    let are : bs ≡ s.first ++ t.first = s.are ∙ ap (λ o. s.first ++ o) (t.are ∙ (ap (λ o. t.first ++ o) u.0 ∙ append-nil t.first)) in
    let more = times_read format w h n stream t.first t.x t.spells in
    subst (λ ps. ReadsRectangles format w h (suc n) stream bs ps stream) u.1
    (subst (λ o. ReadsRectangles format w h (suc n) stream o (s.x ∷ t.x) stream) (sym are)
    (one_more format w h n stream stream stream s.first t.first s.x t.x (in_another format w h stream s.first s.x s.spells) more))

record IsUpdate (format : PixelFormat) (w h : ℕ) (stream : ZlibStream) (bs : List ℕ) (message : ServerMessage) : Type 0 where
  paints : List Paint
  is : message ≡ FramebufferUpdate paints
  reads : ReadsUpdate format w h stream bs paints stream

is_update : (format : PixelFormat) (w h : ℕ) (stream : ZlibStream) (bs : List ℕ) (message : ServerMessage) → Spells (framebuffer_update format w h) bs message → IsUpdate format w h stream (0 ∷ bs) message
is_update format w h stream bs message k =
    let end : List Paint → Reading ServerMessage = λ paints. Done (FramebufferUpdate paints) in
    let counted : ℕ → Reading ServerMessage = λ count. times count (rectangle format w h) >>= end in
    let s = then_byte (λ b. u16 >>= counted) bs message k in
    let t = both u16 counted s.others message s.spells in
    let u = both (times t.x (rectangle format w h)) end t.others message t.then_spells in
    let v = done_with (FramebufferUpdate u.x) message u.others u.then_spells in
    let ended : u.first ++ u.others ≡ u.first = ap (λ o. u.first ++ o) v.0 ∙ append-nil u.first in
    let others : t.others ≡ u.first = ◌∙◌ {b = u.first ++ u.others} u.are ended in
    let counted_are : s.others ≡ t.first ++ u.first = t.are ∙ ap (λ o. t.first ++ o) others in
    let fields : bs ≡ s.first ∷ (t.first ++ u.first) = s.are ∙ ap (λ o. s.first ∷ o) counted_are in
    record {
      paints = u.x;
      is = sym v.1;
      reads = record {
        count = t.x;
        head = 0 ∷ s.first ∷ t.first;
        others = u.first;
        begins = ap (λ o. 0 ∷ o) fields;
        counts = record { whole = ap suc (ap suc t.spells.whole); says = t.spells.says };
        rectangles = times_read format w h t.x stream u.first u.x u.spells;
      };
    }

-- ---- any message

abbrev with_message : ZrleFollower → Option ServerMessage → ZrleFollower
with_message follower message = record { known = record { format = follower.known.format; held = after_message follower.known.held message }; stream = follower.stream }

follows_if : (w h : ℕ) (follower : ZrleFollower) (kind : ℕ) (bs : List ℕ) (message : ServerMessage) (b : Bool) → (kind == 0) ≡ b
    → Spells (cond b (framebuffer_update follower.known.format w h) (cond (kind == 1) set_color_map_entries (cond (kind == 2) (Done Bell) (cond (kind == 3) (text ServerCutText LostText) (Faulty (UnknownMessage kind)))))) bs message
    → Follows w h follower (Answer (kind ∷ bs)) (with_message follower (Some message))
follows_if w h follower kind bs message true e k =
    let format : PixelFormat = follower.known.format in
    let s = is_update format w h follower.stream bs message k in
    let reads : ReadsUpdate format w h follower.stream (kind ∷ bs) s.paints follower.stream =
    subst (λ n. ReadsUpdate format w h follower.stream (n ∷ bs) s.paints follower.stream) (sym (eqb-true kind 0 e)) s.reads in
    inl (record { paints = s.paints; stream = follower.stream; reads = reads; leaves = ap (λ m. with_message follower (Some m)) s.is })
follows_if w h follower kind bs message false e k =
    let stays : with_message follower (Some message) ≡ follower =
    ap (λ (held : Map (Option ℕ)). let f : ZrleFollower = record { known = record { format = follower.known.format; held = held }; stream = follower.stream } in f) (change_if kind (kind == 1) (kind == 2) (kind == 3) bs message k follower.known.held) in
    inr (is_unread w h follower kind bs e, stays)

pub other_messages_are_followed_alike : OtherMessagesAreFollowedAlike
other_messages_are_followed_alike w h follower bs message e =
    let format : PixelFormat = follower.known.format in
    let s = then_byte (fields_of format w h) bs message (only_spells format w h bs message e) in
    let same : with_message follower (only_message format w h bs) ≡ with_message follower (Some message) = ap (λ m. with_message follower m) e in
    subst (λ (f : ZrleFollower). Follows w h follower (Answer bs) f) (sym same)
    (subst (λ t. Follows w h follower (Answer t) (with_message follower (Some message))) (sym s.are) (follows_if w h follower s.first s.others message (s.first == 0) refl s.spells))
