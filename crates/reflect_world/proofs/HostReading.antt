-- Bytes of a host, message by message. A world reads on where an earlier Put stopped.
use Rattle.std.proofs.Common.{◌≡◌, ℕ, suc, ◌<◌, true, List, [], ◌∷◌, ◌++◌, length, take, drop, Some, None, refl, ap, sym, ◌∙◌, arith, append_assoc}
use Rattle.std.specs.Prelude.{slice_get}
use Rattle.std.specs.List.{filter_map}
use Rattle.std.proofs.lemmas.List.{append-nil, drop_all, length-drop}
use Rattle.byte_reading.specs.Reading.{Reading, Done, Faulty, Want, after, taken, whole_of, wants_more, messages, messages_from, rest}
use Rattle.byte_reading.proofs.ReadingLaws.{after-faulty, after-taken, messages-open, messages-whole, rest-append, rest-whole, rest_open, taken-some}
use Rattle.raster.specs.Update.{Update}
use Rattle.rfb_wire.specs.ServerMessage.{ServerMessage}
use Rattle.host_decoder.specs.Updates.{update_of, updates_by}
use Rattle.host_decoder.proofs.ShortUpdates.{updates-append}
use Rattle.reflect_world.specs.Host.{with_past}

-- ---- the rest is never a whole message

faulty_no_whole : {A : Type 0} (now : Reading A) (bs : List ℕ) (x : A) → whole_of now ≡ None → after now bs ≡ Done x → wants_more now ≡ true
faulty_no_whole (Done y) bs x k e = absurd cc
faulty_no_whole {A} (Faulty f) bs x k e = let at = sym (ap whole_of (after-faulty {A = A} f bs)) ∙ ap whole_of e in absurd cc
faulty_no_whole (Want more) bs x k e = refl

-- ---- what was taken of a piece

taken-taken : {A : Type 0} (now : Reading A) (bs : List ℕ) → taken now (take (taken now bs) bs) ≡ length (take (taken now bs) bs)
taken-taken (Done x) bs = refl
taken-taken (Faulty f) bs = refl
taken-taken (Want more) [] = refl
taken-taken (Want more) (b ∷ bs) = ap suc (taken-taken (more b) bs)

-- ---- one message more

-- The updates in more bytes go on after those in the first.
pub past-append : (past : List Update) (form : Reading ServerMessage) (xs ys : List ℕ) → with_past past form (xs ++ ys) ≡ with_past past form xs ++ filter_map update_of (messages_from form (rest form xs) ys)
past-append past form xs ys = ap (λ us. past ++ us) (updates-append form xs ys) ∙ sym (append_assoc past (updates_by form xs) (filter_map update_of (messages_from form (rest form xs) ys)))

-- A message was whole in what was unread, and its bytes are read.
pub message_read : (past : List Update) (form : Reading ServerMessage) (read unread : List ℕ) (m : ServerMessage) → whole_of form ≡ None → after (rest form read) unread ≡ Done m
    → (with_past past form (read ++ take (taken (rest form read) unread) unread) ≡ with_past past form read ++ filter_map update_of (m ∷ []))
    × (rest form (read ++ take (taken (rest form read) unread) unread) ≡ form)
message_read past form read unread m e whole =
    let now = rest form read in
    let piece : List ℕ = take (taken now unread) unread in
    let wants : wants_more now ≡ true = faulty_no_whole now unread m (rest_open form read e) whole in
    let said : after now piece ≡ Done m = after-taken now unread ∙ whole in
    let over : drop (taken now piece) piece ≡ [] = drop_all (taken now piece) piece (let all = taken-taken now unread in omega arith) in (
      past-append past form read piece ∙ ap (λ ms. with_past past form read ++ filter_map update_of ms) (messages-whole form now piece m wants said ∙ ap (λ left. m ∷ messages form left) over),
      rest-append form form read piece ∙ (rest-whole form now piece m wants said ∙ ap (rest form) over),
    )

-- Then there is less to read.
pub message_shortens : (form : Reading ServerMessage) (read unread : List ℕ) (m : ServerMessage) → whole_of form ≡ None → after (rest form read) unread ≡ Done m
    → length (drop (taken (rest form read) unread) unread) < length unread
message_shortens form read [] m e whole = absurd (let now = ap whole_of whole in let none = rest_open form read e in cc)
message_shortens form read (b ∷ bs) m e whole =
    let now = rest form read in
    let wants : wants_more now ≡ true = faulty_no_whole now (b ∷ bs) m (rest_open form read e) whole in
    omega (arith, length-drop (taken now (b ∷ bs)) (b ∷ bs), taken-some now (b ∷ bs) wants (omega arith))

-- No message was whole: there is no update more.
pub none_read : (past : List Update) (form : Reading ServerMessage) (read unread : List ℕ) → whole_of (after (rest form read) unread) ≡ None
    → (with_past past form (read ++ unread) ≡ with_past past form read) × (rest form (read ++ unread) ≡ after (rest form read) unread)
none_read past form read unread none =
    let open_ = messages-open form (rest form read) unread none in (
      past-append past form read unread ∙ (ap (λ ms. with_past past form read ++ filter_map update_of ms) open_.0 ∙ append-nil (with_past past form read)),
      rest-append form form read unread ∙ open_.1,
    )

-- What it took of them are all but those left.
pub open_read : (past : List Update) (form : Reading ServerMessage) (read unread : List ℕ) → whole_of (after (rest form read) unread) ≡ None
    → (with_past past form (read ++ take (taken (rest form read) unread) unread) ≡ with_past past form read) × (rest form (read ++ take (taken (rest form read) unread) unread) ≡ after (rest form read) unread)
open_read past form read unread none =
    let now = rest form read in
    let same : after now (take (taken now unread) unread) ≡ after now unread = after-taken now unread in
    let here = none_read past form read (take (taken now unread) unread) (ap whole_of same ∙ none) in
    (here.0, here.1 ∙ same)

-- ---- the next update

slice_get-behind : (us more : List Update) → slice_get (us ++ more) (length us) ≡ slice_get more 0
slice_get-behind [] more = refl
slice_get-behind (u ∷ us) more = slice_get-behind us more

-- The update after others, of bytes that go on.
pub next_update : (past : List Update) (form : Reading ServerMessage) (read unread : List ℕ) (us : List Update) (u : Update) → with_past past form read ≡ us ++ u ∷ []
    → slice_get (with_past past form (read ++ unread)) (length us) ≡ Some u
next_update past form read unread us u e =
    let more : List Update = filter_map update_of (messages_from form (rest form read) unread) in
    ap (λ all. slice_get all (length us)) (past-append past form read unread ∙ (ap (λ t. t ++ more) e ∙ append_assoc us (u ∷ []) more)) ∙ slice_get-behind us (u ∷ more)

pub no_next : (us : List Update) → slice_get us (length us) ≡ None
no_next us = ap (λ t. slice_get t (length us)) (sym (append-nil us)) ∙ slice_get-behind us []
