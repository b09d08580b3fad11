-- What a host keeps, as its bytes come and are read. `Host::next_patch` gives the next update of all bytes so far.
use Rattle.std.proofs.Common.{◌≡◌, ℕ, ◌+◌, ◌<◌, true, List, [], ◌∷◌, ◌++◌, length, take, drop, Option, Some, None, Ok, Err, inl, inr, refl, ap, sym, ◌∙◌, subst, arith, append_assoc, length-append}
use Rattle.std.specs.Prelude.{IfSome, Result, slice_get}
use Rattle.std.specs.List.{filter_map}
use Rattle.std.proofs.lemmas.List.{append-nil, take-append-drop}
use Rattle.fault.specs.declared.kinds.Fault.{Fault}
use Rattle.fault.specs.declared.kinds.Fault.TheVariants.{Memory}
use Rattle.byte_reading.specs.Reading.{Reading, Done, Faulty, Want, after, messages_from, taken, fault_of, renewed, rest, whole_of}
use Rattle.raster.specs.Screen.{Canvas, LooksLike, opening}
use Rattle.raster.specs.Switch.{switch}
use Rattle.raster.specs.Update.{Update, after_paints, after_updates, paints_of, screen}
use Rattle.rfb_wire.specs.ServerMessage.{ServerMessage, FramebufferUpdate, SetColorMapEntries, Bell, ServerCutText, LostText}
use Rattle.painter.specs.Patch.{SizedUpdate}
use Rattle.painter.specs.Same.{AreSameFrom, AreSameUpdates}
use Rattle.painter.proofs.SameLaws.{after_each, same_append, same_shows}
use Rattle.host_decoder.specs.Decoder.{Decoding, Decodes, Feeds, Holds, host_message, is_refused}
use Rattle.painter.specs.Painter.{IsPaintedOver, Painting}
use Rattle.reflect_core.specs.Sequential.{Begins}
use Rattle.host_decoder.specs.Events.{Brings, BringsWhole, IsSized, brought_by, changes, screen_behind}
use Rattle.host_decoder.specs.Updates.{update_of}
use Rattle.host_decoder.specs.declared.event.HostEvent.{HostEvent}
use Rattle.host_decoder.specs.declared.event.HostEvent.TheVariants as event
use Rattle.reflect_world.specs.Host.{BeginsNext, CanRead, HasReadTo, HostSide, HostStands, IsReadOut, IsSameHost, ReadsMessage, ReadsOn, form_of, patch_in, waiting_list, with_past}
use Rattle.reflect_world.proofs.HostReading.{message_read, message_shortens, next_update, none_read, open_read, past-append}

-- ---- what comes to the same

-- Over a screen of another size that is the same.
same_size : (w h w2 h2 : ℕ) (us vs : List Update) → w ≡ w2 → h ≡ h2 → AreSameFrom w h opening opening us vs → AreSameFrom w2 h2 opening opening us vs
same_size w h w2 h2 us vs wide high same = subst (λ (n : ℕ). AreSameFrom w2 n opening opening us vs) high (subst (λ (n : ℕ). AreSameFrom n h opening opening us vs) wide same)

-- With none that waits.
none_waits : (host : HostSide) (all us : List Update) → host.waiting ≡ None → AreSameFrom host.decoder.width host.decoder.height opening opening all (us ++ waiting_list host.waiting)
    → AreSameFrom host.decoder.width host.decoder.height opening opening all us
none_waits host all us none same =
    subst (λ (l : List Update). AreSameFrom host.decoder.width host.decoder.height opening opening all l) (ap (λ o. us ++ waiting_list o) none ∙ append-nil us) same

some_waits : (w h : ℕ) (all us : List Update) (waiting : Option SizedUpdate) → None ≡ waiting → AreSameFrom w h opening opening all us → AreSameFrom w h opening opening all (us ++ waiting_list waiting)
some_waits w h all us waiting none same = subst (λ (l : List Update). AreSameFrom w h opening opening all l) (sym (append-nil us) ∙ ap (λ o. us ++ waiting_list o) none) same

-- Of two beginnings of one list the one that is longer by one has the next update.
next_in : (us more all others : List Update) → us ++ more ≡ all ++ others → length all ≡ length us + 1 → (u : Update) × (all ≡ us ++ u ∷ [])
next_in [] more [] others e count = absurd (omega (arith, count))
next_in [] more (v ∷ []) others e count = (v, refl)
next_in [] more (v ∷ x ∷ all) others e count = absurd (omega (arith, count))
next_in (u ∷ us) more [] others e count = absurd (omega (arith, count))
next_in (u ∷ us) more (v ∷ all) others e count =
    let first : u ≡ v = cc in
    let next = next_in us more all others (let f = e in cc) (omega (arith, count)) in
    (next.0, ap (λ x. x ∷ all) (sym first) ∙ ap (λ l. u ∷ l) next.1)

-- The next update of the bytes, and what it comes to.
pub record IsNext (w h : ℕ) (past : List Update) (form : Reading ServerMessage) (bytes : List ℕ) (us put : List Update) : Type 0 where
  pub update : Update
  pub there : slice_get (with_past past form bytes) (length us) ≡ Some update
  pub same : AreSameFrom w h opening opening (us ++ update ∷ []) put

-- The update put next, where it was read and none waits.
pub next_of : (past : List Update) (bytes : List ℕ) (us vs : List Update) (host : HostSide) (v : Update) → host.waiting ≡ None → Begins us (with_past past (form_of host) bytes) → length us ≡ length vs → HasReadTo past bytes (vs ++ v ∷ []) host
    → IsNext host.decoder.width host.decoder.height past (form_of host) bytes us (vs ++ v ∷ [])
next_of past bytes us vs host v none begins count r =
    let form = form_of host in
    let all : List Update = with_past past form r.read in
    let others : List Update = filter_map update_of (messages_from form (rest form r.read) host.unread) in
    let so_far : AreSameFrom host.decoder.width host.decoder.height opening opening all (vs ++ v ∷ []) = none_waits host all (vs ++ v ∷ []) none r.updates in
    let next = next_in us begins.0 all others (sym begins.1 ∙ (ap (with_past past form) r.split ∙ past-append past form r.read host.unread)) (omega (arith, so_far.count, length-append vs (v ∷ []), count)) in
    record {
      update = next.0;
      there = ap (λ bs. slice_get (with_past past form bs) (length us)) r.split ∙ next_update past form r.read host.unread us next.0 next.1;
      same = subst (λ (l : List Update). AreSameFrom host.decoder.width host.decoder.height opening opening l (vs ++ v ∷ [])) next.1 so_far;
    }

-- ---- before it is read

-- More bytes come.
pub host_grows : (host : HostSide) (past : List Update) (more unread all : List ℕ) (us : List Update) → unread ≡ host.unread ++ more → HostStands past all us host → HostStands past (all ++ more) us (record host { unread = unread })
host_grows host past more unread all us is (inl refused) = inl refused
host_grows host past more unread all us is (inr r) =
    inr (record {
      read = r.read;
      split = ap (λ bs. bs ++ more) r.split ∙ (append_assoc r.read host.unread more ∙ ap (λ bs. r.read ++ bs) (sym is));
      updates = r.updates;
      decodes = r.decodes;
    })

-- An update that was read waits.
pub host_keeps : (host : HostSide) (patch : SizedUpdate) (past : List Update) (bytes : List ℕ) (us : List Update) → host.waiting ≡ None → HasReadTo past bytes (us ++ patch.update ∷ []) host
    → HasReadTo past bytes us (record host { waiting = Some patch })
host_keeps host patch past bytes us none r =
    record {
      read = r.read;
      split = r.split;
      updates = none_waits host (with_past past (form_of host) r.read) (us ++ patch.update ∷ []) none r.updates;
      decodes = r.decodes;
    }

-- It is taken.
pub host_hands_on : (host : HostSide) (patch : SizedUpdate) (waiting : Option SizedUpdate) → host.waiting ≡ Some patch → waiting ≡ None → ReadsOn host (record host { waiting = waiting }) (Ok (Some patch))
host_hands_on host patch waiting is none past bytes us (inl refused) = absurd (let e = sym is ∙ refused.1 in cc)
host_hands_on host patch waiting is none past bytes us (inr r) =
    let all : List Update = with_past past (form_of host) r.read in
    record {
      read = r.read;
      split = r.split;
      updates = some_waits host.decoder.width host.decoder.height all (us ++ patch.update ∷ []) waiting (sym none)
          (subst (λ (o : Option SizedUpdate). AreSameFrom host.decoder.width host.decoder.height opening opening all (us ++ waiting_list o)) is r.updates);
      decodes = r.decodes;
    }

-- ---- one message

-- What the decoder does with the bytes that weren't read, and then with a message that is whole.
abbrev pub WasFed : HostSide → Decoding → Painting → Result ℕ Fault → Type 0
WasFed host decoder painter answer = (start : Canvas) (r : Reading ServerMessage) → Decodes host.decoder host.painter start r → Feeds decoder painter start r host.unread answer

abbrev pub IsOfSize : ℕ → ℕ → SizedUpdate → Type 0
IsOfSize w h patch = (patch.width ≡ w) × (patch.height ≡ h)

abbrev pub IsSameSize : Decoding → Decoding → Type 0
IsSameSize old new = (new.width ≡ old.width) × (new.height ≡ old.height)

abbrev pub Gave : Decoding → Decoding → Painting → Option HostEvent → Type 0
Gave old new painter answer =
    (start : Canvas) (r : Reading ServerMessage) → Decodes old painter start r
    → BringsWhole old.width old.height start answer (whole_of r) × Decodes new painter (screen_behind old.width old.height start (whole_of r)) (renewed (host_message old.width old.height) r)

changes_are : (w h : ℕ) (m : ServerMessage) → changes w h m ≡ filter_map update_of (m ∷ [])
changes_are w h (FramebufferUpdate ps) = refl
changes_are w h SetColorMapEntries = refl
changes_are w h Bell = refl
changes_are w h (ServerCutText text) = refl
changes_are w h (LostText len) = refl

brought_is : (event : HostEvent) → brought_by event ≡ waiting_list (patch_in event)
brought_is (event.Paint patch) = refl
brought_is (event.Bell patch) = refl
brought_is (event.Cut patch) = refl
brought_is event.Map = refl
brought_is event.LongCut = refl

event_size : (w h : ℕ) (event : HostEvent) → IsSized w h event → IfSome (patch_in event) (IsOfSize w h)
event_size w h (event.Paint patch) k = k
event_size w h (event.Bell patch) k = k
event_size w h (event.Cut patch) k = k
event_size w h event.Map k = tt
event_size w h event.LongCut k = tt

-- The message after an event.
record HasCome (w h : ℕ) (start : Canvas) (r : Reading ServerMessage) (event : HostEvent) : Type 0 where
  message : ServerMessage
  whole : r ≡ Done message
  brings : Brings w h start event message

come_from : (w h : ℕ) (start : Canvas) (r : Reading ServerMessage) (event : HostEvent) → BringsWhole w h start (Some event) (whole_of r) → HasCome w h start r event
come_from w h start (Done m) event e = record { message = m; whole = refl; brings = e }
come_from w h start (Faulty f) event e = absurd e
come_from w h start (Want more) event e = absurd e

none_from : (w h : ℕ) (start : Canvas) (r : Reading ServerMessage) → BringsWhole w h start None (whole_of r) → whole_of r ≡ None
none_from w h start (Done m) e = absurd e
none_from w h start (Faulty f) e = refl
none_from w h start (Want more) e = refl

-- What it brings over the screen that the updates put made.
brings_at : (host : HostSide) (fed : Decoding) (start : Canvas) (event : HostEvent) (m : ServerMessage) → IsSameSize host.decoder fed → Brings fed.width fed.height start event m
    → (other : Canvas) → LooksLike host.decoder.width host.decoder.height start other
    → AreSameFrom host.decoder.width host.decoder.height start other (filter_map update_of (m ∷ [])) (waiting_list (patch_in event))
brings_at host fed start event m to_fed brings other =
    subst (λ (l : List Update). LooksLike host.decoder.width host.decoder.height start other → AreSameFrom host.decoder.width host.decoder.height start other (filter_map update_of (m ∷ [])) l) (brought_is event)
    (subst (λ (l : List Update). LooksLike host.decoder.width host.decoder.height start other → AreSameFrom host.decoder.width host.decoder.height start other l (brought_by event)) (changes_are fed.width fed.height m)
    (subst (λ (n : ℕ). LooksLike host.decoder.width n start other → AreSameFrom host.decoder.width n start other (changes fed.width fed.height m) (brought_by event)) to_fed.1
    (subst (λ (n : ℕ). LooksLike n fed.height start other → AreSameFrom n fed.height start other (changes fed.width fed.height m) (brought_by event)) to_fed.0 (brings.same other))))

renewed_same : (form r : Reading ServerMessage) → whole_of r ≡ None → renewed form r ≡ r
renewed_same form (Done m) e = absurd cc
renewed_same form (Faulty f) e = refl
renewed_same form (Want more) e = refl

-- The host after a message.
abbrev pub read_host : HostSide → Decoding → Painting → ℕ → HostSide
read_host host decoder painter used = record { decoder = decoder; painter = painter; unread = drop used host.unread; waiting = None }

message_same : (old new : Decoding) → IsSameSize old new → host_message new.width new.height ≡ host_message old.width old.height
message_same old new e = ap (λ w. host_message w new.height) e.0 ∙ ap (host_message old.width) e.1

split_read : (bytes read unread : List ℕ) (used : ℕ) → bytes ≡ read ++ unread → bytes ≡ (read ++ take used unread) ++ drop used unread
split_read bytes read unread used e = e ∙ (ap (λ bs. read ++ bs) (sym (take-append-drop used unread)) ∙ sym (append_assoc read (take used unread) (drop used unread)))

one_message_read : (host : HostSide) (fed new : Decoding) (painter : Painting) (used : ℕ) (event : HostEvent) (past : List Update) (bytes : List ℕ) (us : List Update) → host.waiting ≡ None
    → IsSameSize host.decoder fed → IsSameSize fed new → WasFed host fed painter (Ok used) → Gave fed new painter (Some event) → HasReadTo past bytes us host
    → HasReadTo past bytes (us ++ waiting_list (patch_in event)) (read_host host new painter used)
one_message_read host fed new painter used event past bytes us none to_fed to_new was gave r =
    let form = form_of host in
    let w : ℕ = host.decoder.width in
    let h : ℕ = host.decoder.height in
    let now = rest form r.read in
    let all : List Update = with_past past form r.read in
    let f = was (screen all) now r.decodes in
    let g = gave (screen all) (after now host.unread) f.0 in
    let come = come_from fed.width fed.height (screen all) (after now host.unread) event g.0 in
    let one : List Update = filter_map update_of (come.message ∷ []) in
    let read = message_read past form r.read host.unread come.message refl come.whole in
    let new_host : HostSide = read_host host new painter used in
    let read_now : List ℕ = r.read ++ take used host.unread in
    let count : read_now ≡ r.read ++ take (taken now host.unread) host.unread = ap (λ n. r.read ++ take n host.unread) f.1 in
    let same_form : form_of new_host ≡ form = message_same fed new to_new ∙ message_same host.decoder fed to_fed in
    let before : AreSameFrom w h opening opening all us = none_waits host all us none r.updates in
    let brings : AreSameFrom w h (screen all) (screen us) one (waiting_list (patch_in event)) =
    brings_at host fed (screen all) event come.message to_fed come.brings (screen us) (same_shows w h opening opening all us before) in
    let now_same : AreSameFrom w h opening opening (all ++ one) (us ++ waiting_list (patch_in event)) = same_append w h opening opening all us one (waiting_list (patch_in event)) before brings in
    let all_now : all ++ one ≡ with_past past (form_of new_host) read_now = sym (ap (λ x. with_past past x read_now) same_form ∙ (ap (with_past past form) count ∙ read.0)) in
    let reading_is : renewed (host_message fed.width fed.height) (after now host.unread) ≡ rest (form_of new_host) read_now =
    ap (renewed (host_message fed.width fed.height)) come.whole
    ∙ (message_same host.decoder fed to_fed
    ∙ (sym read.1 ∙ (ap (rest form) (sym count) ∙ ap (λ x. rest x read_now) (sym same_form)))) in
    let start_is : screen_behind fed.width fed.height (screen all) (whole_of (after now host.unread)) ≡ screen (with_past past (form_of new_host) read_now) =
    ap (λ x. screen_behind fed.width fed.height (screen all) (whole_of x)) come.whole
    ∙ (ap (after_updates (screen all)) (changes_are fed.width fed.height come.message) ∙ (sym (after_each opening all one) ∙ ap screen all_now)) in
    record {
      read = read_now;
      split = split_read bytes r.read host.unread used r.split;
      updates = some_waits new.width new.height (with_past past (form_of new_host) read_now) (us ++ waiting_list (patch_in event)) None refl
          (subst (λ (l : List Update). AreSameFrom new.width new.height opening opening l (us ++ waiting_list (patch_in event))) all_now
          (same_size w h new.width new.height (all ++ one) (us ++ waiting_list (patch_in event)) (sym (to_new.0 ∙ to_fed.0)) (sym (to_new.1 ∙ to_fed.1)) now_same));
      decodes = subst (Decodes new painter (screen (with_past past (form_of new_host) read_now))) reading_is
          (subst (λ (start : Canvas). Decodes new painter start (renewed (host_message fed.width fed.height) (after now host.unread))) start_is g.1);
    }

-- A message was whole: its update was read, if it brings one.
pub message_comes : (host : HostSide) (fed new : Decoding) (painter : Painting) (used : ℕ) (event : HostEvent) → host.waiting ≡ None → (is_refused host.decoder.state ≡ true → ⊥)
    → IsSameSize host.decoder fed → IsSameSize fed new → WasFed host fed painter (Ok used) → Gave fed new painter (Some event) → ReadsMessage host (read_host host new painter used) (patch_in event)
message_comes host fed new painter used event none fine to_fed to_new was gave past bytes us (inl refused) = absurd (fine refused.0)
message_comes host fed new painter used event none fine to_fed to_new was gave past bytes us (inr r) = one_message_read host fed new painter used event past bytes us none to_fed to_new was gave r

pub message_is_of_size : (host : HostSide) (fed new : Decoding) (painter : Painting) (used : ℕ) (event : HostEvent) → CanRead host → (is_refused host.decoder.state ≡ true → ⊥)
    → IsSameSize host.decoder fed → WasFed host fed painter (Ok used) → Gave fed new painter (Some event)
    → IfSome (patch_in event) (IsOfSize host.decoder.width host.decoder.height) × (length (drop used host.unread) < length host.unread)
message_is_of_size host fed new painter used event can fine to_fed was gave = elim can.3 [
  | inl refused ↦ absurd (fine refused.0)
  | inr r ↦ (
      let form = form_of host in
      let all : Canvas = screen (with_past can.0 form r.read) in
      let now = rest form r.read in
      let f = was all now r.decodes in
      let g = gave all (after now host.unread) f.0 in
      let come = come_from fed.width fed.height all (after now host.unread) event g.0 in (
        subst (λ n. IfSome (patch_in event) (IsOfSize n host.decoder.height)) to_fed.0 (subst (λ n. IfSome (patch_in event) (IsOfSize fed.width n)) to_fed.1 (event_size fed.width fed.height event come.brings.sized)),
        subst (λ n. length (drop n host.unread) < length host.unread) (sym f.1) (message_shortens form r.read host.unread come.message refl come.whole),
      ))
]

-- None was whole: all that came is read.
pub message_is_missing : (host : HostSide) (fed new : Decoding) (painter : Painting) (used : ℕ) → host.waiting ≡ None → (is_refused host.decoder.state ≡ true → ⊥)
    → IsSameSize host.decoder fed → IsSameSize fed new → WasFed host fed painter (Ok used) → Gave fed new painter None → ReadsOn host (read_host host new painter used) (Ok None)
message_is_missing host fed new painter used none fine to_fed to_new was gave past bytes us (inl refused) = absurd (fine refused.0)
message_is_missing host fed new painter used none fine to_fed to_new was gave past bytes us (inr r) =
    let form = form_of host in
    let w : ℕ = host.decoder.width in
    let h : ℕ = host.decoder.height in
    let all : List Update = with_past past form r.read in
    let now = rest form r.read in
    let f = was (screen all) now r.decodes in
    let g = gave (screen all) (after now host.unread) f.0 in
    let open_ : whole_of (after now host.unread) ≡ None = none_from fed.width fed.height (screen all) (after now host.unread) g.0 in
    let read = open_read past form r.read host.unread open_ in
    let all_read = none_read past form r.read host.unread open_ in
    let new_host : HostSide = read_host host new painter used in
    let read_now : List ℕ = r.read ++ take used host.unread in
    let count : read_now ≡ r.read ++ take (taken now host.unread) host.unread = ap (λ n. r.read ++ take n host.unread) f.1 in
    let same_form : form_of new_host ≡ form = message_same fed new to_new ∙ message_same host.decoder fed to_fed in
    let before : AreSameFrom w h opening opening all us = none_waits host all us none r.updates in
    let all_now : all ≡ with_past past (form_of new_host) read_now = sym (ap (λ x. with_past past x read_now) same_form ∙ (ap (with_past past form) count ∙ read.0)) in
    let reading_is : renewed (host_message fed.width fed.height) (after now host.unread) ≡ rest (form_of new_host) read_now =
    renewed_same (host_message fed.width fed.height) (after now host.unread) open_
    ∙ (sym read.1 ∙ (ap (rest form) (sym count) ∙ ap (λ x. rest x read_now) (sym same_form))) in
    let start_is : screen_behind fed.width fed.height (screen all) (whole_of (after now host.unread)) ≡ screen (with_past past (form_of new_host) read_now) =
    ap (screen_behind fed.width fed.height (screen all)) open_ ∙ ap screen all_now in (
      record {
        read = read_now;
        split = split_read bytes r.read host.unread used r.split;
        updates = some_waits new.width new.height (with_past past (form_of new_host) read_now) us None refl
            (subst (λ (l : List Update). AreSameFrom new.width new.height opening opening l us) all_now (same_size w h new.width new.height all us (sym (to_new.0 ∙ to_fed.0)) (sym (to_new.1 ∙ to_fed.1)) before));
        decodes = subst (Decodes new painter (screen (with_past past (form_of new_host) read_now))) reading_is
            (subst (λ (start : Canvas). Decodes new painter start (renewed (host_message fed.width fed.height) (after now host.unread))) start_is g.1);
      },
      record {
        none_left = ap (λ x. length (with_past past x bytes)) same_form ∙ (ap (λ bs. length (with_past past form bs)) r.split ∙ (ap length all_read.0 ∙ before.count));
        stands_at = ap (λ x. fault_of (rest x bytes)) same_form ∙ (ap (λ bs. fault_of (rest form bs)) r.split ∙ (ap fault_of all_read.1 ∙ f.2));
      },
    )

-- The host after a fault, or where memory was refused.
abbrev pub failed_host : HostSide → Decoding → Painting → HostSide
failed_host host decoder painter = record { decoder = decoder; painter = painter; unread = []; waiting = None }

fault_read : (host : HostSide) (fed : Decoding) (painter : Painting) (fault : Fault) (past : List Update) (bytes : List ℕ) (us : List Update) → host.waiting ≡ None → IsSameSize host.decoder fed
    → (r : HasReadTo past bytes us host) → after (rest (form_of host) r.read) host.unread ≡ Faulty fault
    → Decodes fed painter (screen (with_past past (form_of host) r.read)) (after (rest (form_of host) r.read) host.unread)
    → HasReadTo past bytes us (failed_host host fed painter) × IsReadOut past bytes us (form_of (failed_host host fed painter)) (Some fault)
fault_read host fed painter fault past bytes us none to_fed r at decodes =
    let form = form_of host in
    let now = rest form r.read in
    let all : List Update = with_past past form r.read in
    let all_read = none_read past form r.read host.unread (ap whole_of at) in
    let new_host : HostSide = failed_host host fed painter in
    let read_now : List ℕ = r.read ++ host.unread in
    let same_form : form_of new_host ≡ form = message_same host.decoder fed to_fed in
    let before : AreSameFrom host.decoder.width host.decoder.height opening opening all us = none_waits host all us none r.updates in
    let all_now : all ≡ with_past past (form_of new_host) read_now = sym (ap (λ x. with_past past x read_now) same_form ∙ all_read.0) in
    let reading_is : after now host.unread ≡ rest (form_of new_host) read_now = sym all_read.1 ∙ ap (λ x. rest x read_now) (sym same_form) in (
      record {
        read = read_now;
        split = r.split ∙ sym (append-nil read_now);
        updates = some_waits fed.width fed.height (with_past past (form_of new_host) read_now) us None refl
            (subst (λ (l : List Update). AreSameFrom fed.width fed.height opening opening l us) all_now
            (same_size host.decoder.width host.decoder.height fed.width fed.height all us (sym to_fed.0) (sym to_fed.1) before));
        decodes = subst (Decodes fed painter (screen (with_past past (form_of new_host) read_now))) reading_is
            (subst (λ (start : Canvas). Decodes fed painter start (after now host.unread)) (ap screen all_now) decodes);
      },
      record {
        none_left = ap (λ x. length (with_past past x bytes)) same_form ∙ (ap (λ bs. length (with_past past form bs)) r.split ∙ (ap length all_read.0 ∙ before.count));
        stands_at = ap (λ x. fault_of (rest x bytes)) same_form ∙ (ap (λ bs. fault_of (rest form bs)) r.split ∙ (ap fault_of all_read.1 ∙ ap fault_of at));
      },
    )

-- What it failed at.
pub message_fails : (host : HostSide) (fed : Decoding) (painter : Painting) (fault : Fault) → host.waiting ≡ None
    → (is_refused host.decoder.state ≡ true → (fault ≡ Memory) × (is_refused fed.state ≡ true))
    → IsSameSize host.decoder fed → WasFed host fed painter (Err fault) → ReadsOn host (failed_host host fed painter) (Err fault)
message_fails host fed painter fault none stays to_fed was past bytes us (inl refused) = let so = stays refused.0 in (inl (so.1, refl), inl so.0)
message_fails host fed painter fault none stays to_fed was past bytes us (inr r) = elim (was (screen (with_past past (form_of host) r.read)) (rest (form_of host) r.read) r.decodes) [
  | inl memory ↦ (inl (memory.1, refl), inl memory.0)
  | inr at ↦ (let it = fault_read host fed painter fault past bytes us none to_fed r at.0 at.1 in (inr it.0, inr it.1))
]

-- ---- the same, as the fields say it

stands_so : (host : HostSide) (decoder : Decoding) (painter : Painting) (used : ℕ) (unread : List ℕ) (waiting : Option SizedUpdate) → unread ≡ drop used host.unread → waiting ≡ None
    → read_host host decoder painter used ≡ record { decoder = decoder; painter = painter; unread = unread; waiting = waiting }
stands_so host decoder painter used unread waiting e n =
    let with_unread : List ℕ → HostSide = λ bs. record { decoder = decoder; painter = painter; unread = bs; waiting = None } in
    let with_waiting : Option SizedUpdate → HostSide = λ o. record { decoder = decoder; painter = painter; unread = unread; waiting = o } in
    ap with_unread (sym e) ∙ ap with_waiting (sym n)

-- A message was read, or there is none whole.
pub record HasReadOne (old new : HostSide) (answer : Option HostEvent) : Type 0 where
  pub size : IfSome answer (λ event. IfSome (patch_in event) (IsOfSize old.decoder.width old.decoder.height))
  pub message : IfSome answer (λ event. ReadsMessage old new (patch_in event))
  pub shorter : IfSome answer (λ event. length new.unread < length old.unread)
  pub at_end : answer ≡ None → ReadsOn old new (Ok None)

has_read_one : (host : HostSide) (fed new : Decoding) (painter : Painting) (used : ℕ) (answer : Option HostEvent) → CanRead host → host.waiting ≡ None → (is_refused host.decoder.state ≡ true → ⊥)
    → IsSameSize host.decoder fed → IsSameSize fed new → WasFed host fed painter (Ok used) → Gave fed new painter answer → HasReadOne host (read_host host new painter used) answer
has_read_one host fed new painter used None can none fine to_fed to_new was gave =
    record { size = tt; message = tt; shorter = tt; at_end = λ e. message_is_missing host fed new painter used none fine to_fed to_new was gave }
has_read_one host fed new painter used (Some event) can none fine to_fed to_new was gave =
    let it = message_is_of_size host fed new painter used event can fine to_fed was gave in
    record {
      size = it.0;
      message = message_comes host fed new painter used event none fine to_fed to_new was gave;
      shorter = it.1;
      at_end = λ e. absurd cc;
    }

-- As the reader's fields stand before and after it.
pub one_is_read : (host old : HostSide) (fed new : Decoding) (painter : Painting) (piece unread : List ℕ) (waiting : Option SizedUpdate) (used : ℕ) (answer : Option HostEvent) → host ≡ old → CanRead old → old.waiting ≡ None
    → piece ≡ host.unread → (is_refused host.decoder.state ≡ true → ⊥)
    → IsSameSize host.decoder fed → IsSameSize fed new
    → ((start : Canvas) (r : Reading ServerMessage) → Decodes host.decoder host.painter start r → Feeds fed painter start r piece (Ok used)) → Gave fed new painter answer
    → unread ≡ drop used host.unread → waiting ≡ host.waiting → HasReadOne old (record { decoder = new; painter = painter; unread = unread; waiting = waiting }) answer
one_is_read host old fed new painter piece unread waiting used answer same can none all fine to_fed to_new was gave left kept =
    let none_here : host.waiting ≡ None = ap (λ (h : HostSide). h.waiting) same ∙ none in
    let fed_all : WasFed host fed painter (Ok used) = λ start r d. subst (λ bs. Feeds fed painter start r bs (Ok used)) all (was start r d) in
    let here = has_read_one host fed new painter used answer (subst CanRead (sym same) can) none_here fine to_fed to_new fed_all gave in
    subst (λ (h : HostSide). HasReadOne h (record { decoder = new; painter = painter; unread = unread; waiting = waiting }) answer) same
    (subst (λ (h : HostSide). HasReadOne host h answer) (stands_so host new painter used unread waiting left (kept ∙ none_here)) here)

pub one_fails : (host old : HostSide) (fed : Decoding) (painter : Painting) (piece unread : List ℕ) (waiting : Option SizedUpdate) (fault : Fault) → host ≡ old → old.waiting ≡ None → piece ≡ host.unread
    → (is_refused host.decoder.state ≡ true → (fault ≡ Memory) × (fed ≡ host.decoder))
    → IsSameSize host.decoder fed → ((start : Canvas) (r : Reading ServerMessage) → Decodes host.decoder host.painter start r → Feeds fed painter start r piece (Err fault)) → unread ≡ [] → waiting ≡ host.waiting
    → ReadsOn old (record { decoder = fed; painter = painter; unread = unread; waiting = waiting }) (Err fault)
one_fails host old fed painter piece unread waiting fault same none all stays to_fed was left kept =
    let none_here : host.waiting ≡ None = ap (λ (h : HostSide). h.waiting) same ∙ none in
    let fed_all : WasFed host fed painter (Err fault) = λ start r d. subst (λ bs. Feeds fed painter start r bs (Err fault)) all (was start r d) in
    let here = message_fails host fed painter fault none_here
    (λ e. let so = stays e in (so.0, ap (λ (d : Decoding). is_refused d.state) so.1 ∙ e)) to_fed fed_all in
    let with_unread : List ℕ → HostSide = λ bs. record { decoder = fed; painter = painter; unread = bs; waiting = None } in
    let with_waiting : Option SizedUpdate → HostSide = λ o. record { decoder = fed; painter = painter; unread = unread; waiting = o } in
    subst (λ (h : HostSide). ReadsOn h (record { decoder = fed; painter = painter; unread = unread; waiting = waiting }) (Err fault)) same
    (subst (λ (h : HostSide). ReadsOn host h (Err fault)) (ap with_unread (sym left) ∙ ap with_waiting (sym (kept ∙ none_here))) here)

-- ---- the next host

-- What isn't longer with a rest has no rest.
no_rest : (us more : List Update) → length (us ++ more) ≡ length us → more ≡ []
no_rest us [] e = refl
no_rest us (u ∷ more) e = absurd (omega (arith, length-append us (u ∷ more), e))

-- All that the host sent was read.
all_read_out : (past : List Update) (bytes : List ℕ) (us : List Update) (host : HostSide) → host.waiting ≡ None → (r : HasReadTo past bytes us host) → IsReadOut past bytes us (form_of host) None
    → with_past past (form_of host) r.read ≡ with_past past (form_of host) bytes
all_read_out past bytes us host none r out =
    let form = form_of host in
    let all : List Update = with_past past form r.read in
    let more : List Update = filter_map update_of (messages_from form (rest form r.read) host.unread) in
    let so_far = none_waits host all us none r.updates in
    let longer : with_past past form bytes ≡ all ++ more = ap (with_past past form) r.split ∙ past-append past form r.read host.unread in
    let over : more ≡ [] = no_rest all more (ap length (sym longer) ∙ (out.none_left ∙ sym so_far.count)) in
    sym (append-nil all) ∙ (ap (λ us. all ++ us) (sym over) ∙ sym longer)

-- A switch comes to the same as the patch that waits.
pub host_begins : (host : HostSide) (new : Decoding) (painter : Painting) (patch : SizedUpdate) → host.waiting ≡ None → IsSameSize host.decoder new
    → ((start : Canvas) → AreSameUpdates host.decoder.width host.decoder.height start (switch host.decoder.width host.decoder.height ∷ []) (patch.update ∷ []))
    → ((start : Canvas) → IsPaintedOver (after_paints start (paints_of (switch host.decoder.width host.decoder.height))) [] painter)
    → ((start : Canvas) → Holds start painter [] → Decodes new painter start (host_message host.decoder.width host.decoder.height))
    → BeginsNext host (record { decoder = new; painter = painter; unread = []; waiting = Some patch })
host_begins host new painter patch none to_new same black begins past bytes us r out =
    let w : ℕ = host.decoder.width in
    let h : ℕ = host.decoder.height in
    let form = form_of host in
    let all : List Update = with_past past form r.read in
    let one : List Update = switch w h ∷ [] in
    let before : AreSameFrom w h opening opening all us = none_waits host all us none r.updates in
    let read : all ≡ with_past past form bytes = all_read_out past bytes us host none r out in
    let both : AreSameFrom w h opening opening (all ++ one) (us ++ patch.update ∷ []) =
    same_append w h opening opening all us one (patch.update ∷ []) before (same (screen all) (screen us) (same_shows w h opening opening all us before)) in
    let next : List Update = with_past past form bytes ++ one in
    let new_form = host_message new.width new.height in
    let none_yet : all ++ one ≡ with_past next new_form [] = ap (λ us. us ++ one) read ∙ sym (append-nil next) in
    let shown : after_paints (screen all) (paints_of (switch w h)) ≡ screen (with_past next new_form []) = sym (after_each opening all one) ∙ ap screen none_yet in
    record {
      read = [];
      split = refl;
      updates = subst (λ (l : List Update). AreSameFrom new.width new.height opening opening l (us ++ patch.update ∷ [])) none_yet
          (same_size w h new.width new.height (all ++ one) (us ++ patch.update ∷ []) (sym to_new.0) (sym to_new.1) both);
      decodes = subst (Decodes new painter (screen (with_past next new_form []))) (message_same new host.decoder (sym to_new.0, sym to_new.1))
          (begins (screen (with_past next new_form [])) (subst (λ (c : Canvas). IsPaintedOver c [] painter) shown (black (screen all))));
    }

-- ---- message after message

-- What was read on from a host that stands for what another stood for.
pub reads_on_from : (old mid new : HostSide) (answer : Result (Option SizedUpdate) Fault) → ((past : List Update) (bytes : List ℕ) (us : List Update) → HostStands past bytes us old → HostStands past bytes us mid) → ReadsOn mid new answer
    → ReadsOn old new answer
reads_on_from old mid new (Ok (Some patch)) stands reads = λ past bytes us k. reads past bytes us (stands past bytes us k)
reads_on_from old mid new (Ok None) stands reads = λ past bytes us k. reads past bytes us (stands past bytes us k)
reads_on_from old mid new (Err fault) stands reads = λ past bytes us k. reads past bytes us (stands past bytes us k)

-- A message that brings an update.
pub patch_comes : (old mid new : HostSide) (answer : Option HostEvent) (event : HostEvent) (patch : SizedUpdate) → answer ≡ Some event → patch_in event ≡ Some patch
    → ((past : List Update) (bytes : List ℕ) (us : List Update) → HostStands past bytes us old → HostStands past bytes us mid) → IfSome answer (λ e. ReadsMessage mid new (patch_in e)) → ReadsOn old new (Ok (Some patch))
patch_comes old mid new answer event patch is brings stands reads past bytes us k =
    let here : ReadsMessage mid new (patch_in event) = subst (λ o. IfSome o (λ e. ReadsMessage mid new (patch_in e))) is reads in
    subst (λ o. HasReadTo past bytes (us ++ waiting_list o) new) brings (here past bytes us (stands past bytes us k))

-- One that brings none.
pub nothing_comes : (old mid new : HostSide) (answer : Option HostEvent) (event : HostEvent) → answer ≡ Some event → patch_in event ≡ None
    → ((past : List Update) (bytes : List ℕ) (us : List Update) → HostStands past bytes us old → HostStands past bytes us mid) → IfSome answer (λ e. ReadsMessage mid new (patch_in e))
    → (past : List Update) (bytes : List ℕ) (us : List Update) → HostStands past bytes us old → HostStands past bytes us new
nothing_comes old mid new answer event is none stands reads past bytes us k =
    let here : ReadsMessage mid new (patch_in event) = subst (λ o. IfSome o (λ e. ReadsMessage mid new (patch_in e))) is reads in
    let same : us ++ waiting_list (patch_in event) ≡ us = ap (λ o. us ++ waiting_list o) none ∙ append-nil us in
    inr (subst (λ updates. HasReadTo past bytes updates new) same (here past bytes us (stands past bytes us k)))

pub same_host_on : (old mid new : HostSide) → IsSameHost old mid → IsSameHost mid new → IsSameHost old new
same_host_on old mid new to_mid to_new = record { width = to_new.width ∙ to_mid.width; height = to_new.height ∙ to_mid.height }
