-- What of a viewer's input waits or was handed out, act by act. The law `input_is_allowed` is made of it.
use Rattle.std.proofs.Common.{◌≡◌, ℕ, Bool, true, false, cond, List, [], ◌∷◌, ◌++◌, length, take, Option, Some, None, refl, sym, ap, subst, ◌∙◌, append-nil, append_assoc}
use Rattle.byte_reading.specs.Reading.{Reading, Done, Faulty, Want, step}
use Rattle.raster.specs.declared.rect.Rect.{Rect}
use Rattle.raster.specs.declared.size.Size.{Size}
use Rattle.raster.specs.Update.{Update}
use Rattle.rfb_wire.specs.ClientMessage.{ClientMessage, client_message}
use Rattle.roles.specs.declared.role.Role.{Role}
use Rattle.roles.specs.declared.role.Role.TheVariants.{Full, View}
use Rattle.roles.specs.Allowed.{Input, allowed, passes, keys_after}
use Rattle.roles.specs.Held.{Kept, HeldStands, input_for, left_in, passes_if, passed_if, kept_with, kept_after, nothing_kept}
use Rattle.roles.proofs.HeldLaws.{all_released, full_stands, full_allowed}
use Rattle.reflect_core.specs.Sequential.{Begins}
use Rattle.viewer_session.specs.Record.{Entry, Took, Saw, MadeCut, before_last, messages_in}
use Rattle.viewer_session.specs.Turn.{size_at, told_at, update_at, with_chosen}
use Rattle.viewer_session.specs.Acts.{Act, Cutting, Bytes, Turn, Written, Passed, HasPassed, HandsOutAllowed, ReleasesAllowed, after_turn, handed_out, viewer_after, waiting_list}
use Rattle.viewer_session.specs.Viewer.{Setup, Viewer, new_viewer, with_input, with_message, marked, after_bytes, after_reading}
use Rattle.viewer_session.specs.Session.{with_marks, without_input}
use Rattle.viewer_session.proofs.Bytes.{keeps_bytes, same_role}
use Rattle.viewer_session.proofs.Relaying.{keys_with, messages_on, nothing_held}

-- ---- what changes no message

begins_by : (xs ys zs : List Input) → xs ≡ ys → Begins ys zs → Begins xs zs
begins_by xs ys zs e b = (b.0, b.1 ∙ ap (λ t. t ++ b.0) (sym e))

pub passed_as : (p q : Viewer) (sent : List Input) → HasPassed p sent → q.role ≡ p.role → q.keys ≡ p.keys → q.waiting ≡ p.waiting → messages_in q.entries ≡ messages_in p.entries
    → messages_in (before_last q.entries) ≡ messages_in (before_last p.entries) → HasPassed q sent
passed_as p q sent k role keys waiting ms last =
    record {
      kept = k.kept;
      held = subst (λ r. HeldStands r k.kept (messages_in q.entries)) (sym role) (subst (λ t. HeldStands p.role k.kept t) (sym ms) k.held);
      keys = keys ∙ k.keys;
      all = ap (λ r. allowed r (messages_in q.entries) false) role ∙ (ap (λ t. allowed p.role t false) ms ∙ (k.all ∙ ap (λ o. sent ++ waiting_list o) (sym waiting)));
      all_but_last = begins_by (allowed q.role (messages_in (before_last q.entries)) false) (allowed p.role (messages_in (before_last p.entries)) false) sent
          (ap (λ r. allowed r (messages_in (before_last q.entries)) false) role ∙ ap (λ t. allowed p.role t false) last) k.all_but_last;
    }

none_allowed : (role : Role) → allowed role [] false ≡ []
none_allowed View = refl
none_allowed Full = refl

pub passed_begins : (role : Role) (greet : Bool) → HasPassed (new_viewer role greet) []
passed_begins role greet = record { kept = nothing_kept; held = nothing_held role; keys = refl; all = none_allowed role; all_but_last = ([], sym (append-nil (allowed role [] false) ∙ none_allowed role)) }

pub began_messages : (n : ℕ) (size : Option Size) (o : Option (Rect × List ℕ)) (es : List Entry) → messages_in (told_at n size o (MadeCut n ∷ es)) ≡ messages_in es
began_messages n (Some size) o es = refl
began_messages n None None es = refl
began_messages n None (Some found) es = refl

pub began_last : (n : ℕ) (size : Option Size) (o : Option (Rect × List ℕ)) (es : List Entry) → messages_in (before_last (told_at n size o (MadeCut n ∷ es))) ≡ messages_in (before_last es)
began_last n (Some size) o es = refl
began_last n None None es = refl
began_last n None (Some found) es = refl

-- ---- a message

allowed_on : (role : Role) (kept : Kept) (ms : List ClientMessage) (m : ClientMessage) → HeldStands role kept ms
    → allowed role (ms ++ m ∷ []) false ≡ allowed role ms false ++ passed_if (passes_if kept.keys (input_for role m)) (input_for role m)
allowed_on View kept ms m k = refl
allowed_on Full kept ms m k = full_allowed kept (passes_if kept.keys (input_for Full m)) ms m refl k

held_on : (role : Role) (kept : Kept) (ms : List ClientMessage) (m : ClientMessage) → HeldStands role kept ms → HeldStands role (kept_after kept (input_for role m)) (ms ++ m ∷ [])
held_on View kept ms m k = record { keys = k.keys; pointer = k.pointer }
held_on Full kept ms m k = full_stands kept (kept_after kept (input_for Full m)) ms m refl k

passed_if_so : (p : Viewer) (kept : Kept) (input : Input) (sent : List Input) (b : Bool) → p.keys ≡ kept.keys → p.waiting ≡ None → allowed p.role (messages_in p.entries) false ≡ sent ++ cond b (input ∷ []) []
    → HeldStands p.role (cond b (kept_with kept input) kept) (messages_in p.entries) → Begins (allowed p.role (messages_in (before_last p.entries)) false) sent
    → HasPassed (cond b (record p { keys = keys_after p.keys input; waiting = Some input }) p) sent
passed_if_so p kept input sent true keys none all held last =
    record { kept = kept_with kept input; held = held; keys = ap (λ ks. keys_after ks input) keys ∙ keys_with kept input; all = all; all_but_last = last }
passed_if_so p kept input sent false keys none all held last =
    record { kept = kept; held = held; keys = keys; all = all ∙ ap (λ o. sent ++ waiting_list o) (sym none); all_but_last = last }

passed_input : (p : Viewer) (kept : Kept) (o : Option Input) (sent : List Input) → p.keys ≡ kept.keys → p.waiting ≡ None → allowed p.role (messages_in p.entries) false ≡ sent ++ passed_if (passes_if kept.keys o) o
    → HeldStands p.role (kept_after kept o) (messages_in p.entries) → Begins (allowed p.role (messages_in (before_last p.entries)) false) sent → HasPassed (with_input p o) sent
passed_input p kept None sent keys none all held last = record { kept = kept; held = held; keys = keys; all = all ∙ ap (λ o. sent ++ waiting_list o) (sym none); all_but_last = last }
passed_input p kept (Some input) sent keys none all held last =
    subst (λ b. HasPassed (cond b (record p { keys = keys_after p.keys input; waiting = Some input }) p) sent) (sym (ap (λ ks. passes ks input) keys))
    (passed_if_so p kept input sent (passes kept.keys input) keys none all held last)

passed_message : (p : Viewer) (taken : ClientMessage × List Bool) (sent : List Input) → p.waiting ≡ None → HasPassed p sent → HasPassed (with_message p taken) sent
passed_message p taken sent none k =
    let m : ClientMessage = taken.0 in
    let q : Viewer = record p { entries = Took m ∷ p.entries; lost = taken.1; reading = client_message } in
    let ms : messages_in q.entries ≡ messages_in p.entries ++ m ∷ [] = messages_on m p.entries in
    let before : allowed p.role (messages_in p.entries) false ≡ sent = k.all ∙ (ap (λ o. sent ++ waiting_list o) none ∙ append-nil sent) in
    let o : Option Input = input_for p.role m in
    passed_input q k.kept o sent k.keys none (ap (λ t. allowed p.role t false) ms ∙ (allowed_on p.role k.kept (messages_in p.entries) m k.held ∙ ap (λ t. t ++ passed_if (passes_if k.kept.keys o) o) before))
    (subst (λ t. HeldStands p.role (kept_after k.kept o) t) (sym ms) (held_on p.role k.kept (messages_in p.entries) m k.held)) ([], sym before ∙ sym (append-nil (allowed p.role (messages_in p.entries) false)))

passed_reading : (p : Viewer) (r : Reading ClientMessage) (sent : List Input) → p.waiting ≡ None → HasPassed p sent → HasPassed (after_reading p r) sent
passed_reading p (Done m) sent none k = passed_message p (marked p.lost m) sent none k
passed_reading p (Faulty f) sent none k = passed_as p _ sent k refl refl refl refl refl
passed_reading p (Want more) sent none k = passed_as p _ sent k refl refl refl refl refl

pub passed_bytes : (p : Viewer) (bs : List ℕ) (sent : List Input) → HasPassed p sent → HasPassed (after_bytes p bs) sent
passed_bytes p bs sent k =
    keeps_bytes (λ q. HasPassed q sent) (λ q unread l. passed_as q _ sent l refl refl refl refl refl) (λ q hello wants l. passed_as q _ sent l refl refl refl refl refl)
    (λ q b none l. passed_reading q (step q.reading b) sent none l) p bs k

-- ---- what waits is handed out

pub passed_on : (p : Viewer) (sent : List Input) → HasPassed p sent → HasPassed (without_input p) (sent ++ waiting_list p.waiting)
passed_on p sent k =
    record {
      kept = k.kept;
      held = k.held;
      keys = k.keys;
      all = k.all ∙ sym (append-nil (sent ++ waiting_list p.waiting));
      all_but_last = (k.all_but_last.0 ++ waiting_list p.waiting, ap (λ t. t ++ waiting_list p.waiting) k.all_but_last.1 ∙ append_assoc (allowed p.role (messages_in (before_last p.entries)) false) k.all_but_last.0 (waiting_list p.waiting));
    }

-- ---- all acts

passed_turn : (s : Setup) (us : List Update) (p : Viewer) (looked : ℕ) (cut : Option Cutting) (sent : List Input) → HasPassed p sent → HasPassed (after_turn s us looked cut p) sent
passed_turn s us p looked None sent k = passed_as p _ sent k refl refl refl refl refl
passed_turn s us p looked (Some cut) sent k =
    let first : List Update = take cut.number us in
    let size : Option Size = size_at s.w s.h s.host (Saw looked ∷ p.entries) first in
    let o : Option (Rect × List ℕ) = with_chosen cut.chosen (update_at s.form s.w s.h (Saw looked ∷ p.entries) first) in
    passed_as p _ sent k refl refl refl (began_messages (length first) size o (Saw looked ∷ p.entries)) (began_last (length first) size o (Saw looked ∷ p.entries))

pub passed_all : (s : Setup) (us : List Update) (p : Viewer) (acts : List Act) → HasPassed p [] → HasPassed (viewer_after s us p acts) (handed_out s us p acts)
passed_all s us p [] k = k
passed_all s us p (Bytes marks bytes ∷ acts) k =
    passed_bytes (with_marks marks (viewer_after s us p acts)) bytes (handed_out s us p acts) (passed_as (viewer_after s us p acts) _ (handed_out s us p acts) (passed_all s us p acts k) refl refl refl refl refl)
passed_all s us p (Turn looked cut ∷ acts) k = passed_turn s us (viewer_after s us p acts) looked cut (handed_out s us p acts) (passed_all s us p acts k)
passed_all s us p (Written count ∷ acts) k = passed_as (viewer_after s us p acts) _ (handed_out s us p acts) (passed_all s us p acts k) refl refl refl refl refl
passed_all s us p (Passed ∷ acts) k = passed_on (viewer_after s us p acts) (handed_out s us p acts) (passed_all s us p acts k)

role_turn : (s : Setup) (us : List Update) (p : Viewer) (looked : ℕ) (cut : Option Cutting) → (after_turn s us looked cut p).role ≡ p.role
role_turn s us p looked None = refl
role_turn s us p looked (Some cut) = refl

pub role_after : (s : Setup) (us : List Update) (p : Viewer) (acts : List Act) → (viewer_after s us p acts).role ≡ p.role
role_after s us p [] = refl
role_after s us p (Bytes marks bytes ∷ acts) = same_role (with_marks marks (viewer_after s us p acts)) bytes ∙ role_after s us p acts
role_after s us p (Turn looked cut ∷ acts) = role_turn s us (viewer_after s us p acts) looked cut ∙ role_after s us p acts
role_after s us p (Written count ∷ acts) = role_after s us p acts
role_after s us p (Passed ∷ acts) = role_after s us p acts

pub hands_out_allowed : HandsOutAllowed
hands_out_allowed s us role greet acts =
    let p : Viewer = viewer_after s us (new_viewer role greet) acts in
    sym (passed_all s us (new_viewer role greet) acts (passed_begins role greet)).all ∙ ap (λ r. allowed r (messages_in p.entries) false) (role_after s us (new_viewer role greet) acts)

pub releases_allowed : ReleasesAllowed
releases_allowed s us role greet acts st k =
    let p : Viewer = viewer_after s us (new_viewer role greet) acts in
    let handed : List Input = handed_out s us (new_viewer role greet) acts in
    let is : st.role ≡ role = sym k.serves.role ∙ role_after s us (new_viewer role greet) acts in
    let stands : HeldStands role st.held (messages_in p.entries) = subst (λ r. HeldStands r st.held (messages_in p.entries)) is k.relays.held in
    ap (λ o. (handed ++ waiting_list o) ++ left_in st.held) (sym k.relays.waiting)
    ∙ (ap (λ t. t ++ left_in st.held) (hands_out_allowed s us role greet acts)
    ∙ sym (all_released role st.held (messages_in p.entries) stands))
