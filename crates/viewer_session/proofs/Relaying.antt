-- A viewer's input in its session: what passes waits, and what is held down is released. A session keeps one input, and
-- what is held.
use Rattle.std.proofs.Common.{◌≡◌, ℕ, Bool, true, false, List, [], ◌∷◌, ◌++◌, map, Option, Some, None, refl, sym, ap, subst, ◌∙◌}
use Rattle.std.specs.Prelude.{if◌then◌else◌}
use Rattle.std.specs.List.{filter_map}
use Rattle.std.proofs.lemmas.Grind.{reverse_onto}
use Rattle.rfb_wire.specs.ClientMessage.{ClientMessage}
use Rattle.roles.specs.declared.role.Role.{Role}
use Rattle.roles.specs.declared.role.Role.TheVariants.{Full, View}
use Rattle.roles.specs.Allowed.{Input, Key, Pointer, Cut, input_of, passes, keys_after, keys_down, allowed, releases}
use Rattle.roles.specs.Held.{Kept, HeldStands, input_for, passes_if, kept_with, kept_after, left_in, pointer_left, nothing_kept}
use Rattle.viewer_session.specs.Record.{Entry, Took, message_in, messages_in}
use Rattle.viewer_session.specs.Session.{State, Serves, Stands, after_noting, after_taking}
use Rattle.viewer_session.specs.Viewer.{Setup, Viewer, with_input}

-- ---- what is kept is part of no other thing

pub serves_held : (s : Setup) (st : State) (p : Viewer) (held : Kept) (waiting : Option Input) → Serves s st p → Serves s (record st { held = held; waiting = waiting }) p
serves_held s st p held waiting k =
    record {
      width = k.width;
      height = k.height;
      form = k.form;
      host = k.host;
      role = k.role;
      rests = k.rests;
      greets = k.greets;
      reading = k.reading;
      taken = k.taken;
      short = k.short;
      keeps = record { asked = k.keeps.asked; have = k.keeps.have; format = k.keeps.format; choice = k.keeps.choice; told = k.keeps.told };
      written = k.written;
      unsent = k.unsent;
      begun = k.begun;
    }

pub serves_input : (s : Setup) (st : State) (p : Viewer) (keys : List ℕ) (waiting : Option Input) → Serves s st p → Serves s st (record p { keys = keys; waiting = waiting })
serves_input s st p keys waiting k =
    record {
      width = k.width;
      height = k.height;
      form = k.form;
      host = k.host;
      role = k.role;
      rests = ap (λ (q : Viewer). record q { keys = keys; waiting = waiting }) k.rests;
      greets = k.greets;
      reading = k.reading;
      taken = k.taken;
      short = k.short;
      keeps = k.keeps;
      written = k.written;
      unsent = k.unsent;
      begun = k.begun;
    }

-- ---- a message is taken

-- It is the last of the messages.
pub messages_on : (m : ClientMessage) (es : List Entry) → messages_in (Took m ∷ es) ≡ messages_in es ++ m ∷ []
messages_on m es = reverse_onto (filter_map message_in es) m []

-- An input that passes.
abbrev pub waits_by : Bool → Option Input → Option Input
waits_by pass o = if pass then o else None

-- What passes of an input: the viewer's keys and its waiting input.
record Goes (p : Viewer) (now : List ℕ) (next : Option Input) : Type 0 where
  keys : p.keys ≡ now
  waiting : p.waiting ≡ next

pub keys_with : (kept : Kept) (input : Input) → keys_after kept.keys input ≡ (kept_with kept input).keys
keys_with kept (Key down key) = refl
keys_with kept (Pointer mask x y) = refl
keys_with kept (Cut text) = refl

goes_if : (p : Viewer) (kept : Kept) (input : Input) (b : Bool) → p.keys ≡ kept.keys → p.waiting ≡ None
    → Goes (if b then record p { keys = keys_after p.keys input; waiting = Some input } else p) (if b then kept_with kept input else kept).keys (waits_by b (Some input))
goes_if p kept input true same none = record { keys = ap (λ ks. keys_after ks input) same ∙ keys_with kept input; waiting = refl }
goes_if p kept input false same none = record { keys = same; waiting = none }

goes : (p : Viewer) (kept : Kept) (o : Option Input) → p.keys ≡ kept.keys → p.waiting ≡ None → Goes (with_input p o) (kept_after kept o).keys (waits_by (passes_if kept.keys o) o)
goes p kept None same none = record { keys = same; waiting = none }
goes p kept (Some input) same none =
    subst (λ (b : Bool). Goes (if b then record p { keys = keys_after p.keys input; waiting = Some input } else p) (if passes kept.keys input then kept_with kept input else kept).keys (waits_by (passes kept.keys input) (Some input)))
    (ap (λ ks. passes ks input) (sym same)) (goes_if p kept input (passes kept.keys input) same none)

serves_if : (s : Setup) (st : State) (p : Viewer) (input : Input) (b : Bool) → Serves s st p → Serves s st (if b then record p { keys = keys_after p.keys input; waiting = Some input } else p)
serves_if s st p input true k = serves_input s st p (keys_after p.keys input) (Some input) k
serves_if s st p input false k = k

serves_with : (s : Setup) (st : State) (p : Viewer) (o : Option Input) → Serves s st p → Serves s st (with_input p o)
serves_with s st p None k = k
serves_with s st p (Some input) k = serves_if s st p input (passes p.keys input) k

entries_if : (p : Viewer) (input : Input) (b : Bool) → (if b then record p { keys = keys_after p.keys input; waiting = Some input } else p).entries ≡ p.entries
entries_if p input true = refl
entries_if p input false = refl

entries_with : (p : Viewer) (o : Option Input) → (with_input p o).entries ≡ p.entries
entries_with p None = refl
entries_with p (Some input) = entries_if p input (passes p.keys input)

-- A message in the record, what is held after it, and its input waiting where it passes.
pub stands_taken : (s : Setup) (st new : State) (p : Viewer) (m : ClientMessage) → Stands s st p → st.waiting ≡ None → Serves s new (after_noting m p) → new.role ≡ st.role
    → new.held ≡ kept_after st.held (input_for st.role m) → HeldStands st.role new.held (messages_in p.entries ++ m ∷ [])
    → new.waiting ≡ waits_by (passes_if st.held.keys (input_for st.role m)) (input_for st.role m)
    → Stands s new (after_taking m p)
stands_taken s st new p m k none serves role held stands waiting =
    let o : Option Input = input_for st.role m in
    let of : input_for p.role m ≡ o = ap (λ r. input_for r m) k.serves.role in
    let same : after_taking m p ≡ with_input (after_noting m p) o = ap (with_input (after_noting m p)) of in
    let went : Goes (with_input (after_noting m p) o) (kept_after st.held o).keys (waits_by (passes_if st.held.keys o) o) = goes (after_noting m p) st.held o k.relays.keys (k.relays.waiting ∙ none) in
    let all : messages_in (with_input (after_noting m p) o).entries ≡ messages_in p.entries ++ m ∷ [] = ap messages_in (entries_with (after_noting m p) o) ∙ messages_on m p.entries in
    subst (λ (q : Viewer). Stands s new q) (sym same)
    (record {
      serves = serves_with s new (after_noting m p) o serves;
      relays = record {
        waiting = went.waiting ∙ sym waiting;
        keys = went.keys ∙ ap (λ (kept : Kept). kept.keys) (sym held);
        held = subst (λ ms. HeldStands new.role new.held ms) (sym all) (subst (λ r. HeldStands r new.held (messages_in p.entries ++ m ∷ [])) (sym role) stands);
      };
    })

-- A message that has no input.
pub none_for : (role : Role) (m : ClientMessage) → input_of m ≡ None → input_for role m ≡ None
none_for View m e = refl
none_for Full m e = e

-- Whether an input waits, by what the session was told of it.
pub waits_for : (role : Role) (m : ClientMessage) (input : Input) (keys : List ℕ) (pass : Bool) → input_of m ≡ Some input → pass ≡ passes_if keys (input_for role m)
    → (if pass then Some input else None) ≡ waits_by (passes_if keys (input_for role m)) (input_for role m)
waits_for View m input keys pass e told = ap (λ (b : Bool). if b then Some input else None) told
waits_for Full m input keys pass e told =
    ap (λ (b : Bool). if b then Some input else None) told ∙ ap (λ (o : Option Input). waits_by (passes_if keys (input_of m)) o) (sym e)

pub waits_none : (role : Role) (m : ClientMessage) (keys : List ℕ) → input_of m ≡ None → None ≡ waits_by (passes_if keys (input_for role m)) (input_for role m)
waits_none role m keys e = sym (ap (λ (o : Option Input). waits_by (passes_if keys o) o) (none_for role m e))

-- ---- the beginning and the end

pub nothing_held : (role : Role) → HeldStands role nothing_kept []
nothing_held View = record { keys = refl; pointer = refl }
nothing_held Full = record { keys = refl; pointer = refl }

-- What is left is to be released.
pub left_is : (role : Role) (kept : Kept) (messages : List ClientMessage) → HeldStands role kept messages → left_in kept ≡ releases (allowed role messages false)
left_is role kept messages k =
    ap (λ (ks : List ℕ). map (λ key. Key false key) ks ++ pointer_left (kept.mask, kept.x, kept.y)) k.keys
    ∙ ap (λ (q : ℕ × ℕ × ℕ). map (λ key. Key false key) (keys_down [] (allowed role messages false)) ++ pointer_left q) k.pointer
