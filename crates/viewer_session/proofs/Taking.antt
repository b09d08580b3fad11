-- A message is taken by a session: what it asks for, and its input. `Session::feed` does both for each message.
use Rattle.std.proofs.Common.{◌≡◌, Bool, List, [], ◌∷◌, ◌++◌, Option, Some, None, refl, sym, ap, subst, ◌∙◌}
use Rattle.std.specs.Prelude.{if◌then◌else◌}
use Rattle.rfb_wire.specs.ClientMessage.{ClientMessage, SetPixelFormat, SetEncodings, Ask, Key, Pointer, CutText, LostText}
use Rattle.roles.specs.Allowed.{Input, input_of}
use Rattle.roles.specs.Held.{Kept, HeldStands, input_for, passes_if, kept_after}
use Rattle.viewer_session.specs.Record.{messages_in}
use Rattle.viewer_session.specs.Session.{State, Serves, Stands, after_noting, after_taking}
use Rattle.viewer_session.specs.Viewer.{Setup, Viewer}
use Rattle.viewer_session.proofs.Relaying.{serves_held, stands_taken, waits_for, waits_none}
use Rattle.viewer_session.proofs.SessionLaws.{serves_key, serves_pointer, serves_text}

-- One without an input.
pub stands_quiet : (s : Setup) (st now new : State) (p : Viewer) (held : Kept) (told m : ClientMessage) → st ≡ now → told ≡ m → input_of m ≡ None → Stands s now p → now.waiting ≡ None
    → held ≡ kept_after st.held (input_for st.role told) → ((ms : List ClientMessage) → HeldStands st.role st.held ms → HeldStands st.role held (ms ++ told ∷ []))
    → (Serves s (record st { held = held }) p → Serves s new (after_noting m p)) → new.role ≡ st.role → new.held ≡ held → new.waiting ≡ st.waiting
    → Stands s new (after_taking told p)
stands_quiet s st now new p held told m is e none_of stood none kept stands serves role same_held same_waiting =
    let k : Stands s st p = subst (λ (t : State). Stands s t p) (sym is) stood in
    let nothing : st.waiting ≡ None = ap (λ (t : State). t.waiting) is ∙ none in
    let all : HeldStands st.role new.held (messages_in p.entries ++ m ∷ []) =
    subst (λ (t : ClientMessage). HeldStands st.role new.held (messages_in p.entries ++ t ∷ [])) e
    (subst (λ (h : Kept). HeldStands st.role h (messages_in p.entries ++ told ∷ [])) (sym same_held) (stands (messages_in p.entries) k.relays.held)) in
    subst (λ (t : ClientMessage). Stands s new (after_taking t p)) (sym e)
    (stands_taken s st new p m k nothing (serves (serves_held s st p held st.waiting k.serves)) role
    (same_held ∙ (kept ∙ ap (λ (t : ClientMessage). kept_after st.held (input_for st.role t)) e)) all
    (same_waiting ∙ (nothing ∙ waits_none st.role m st.held.keys none_of)))

-- A message with an input is only noted.
serves_noted : (s : Setup) (st : State) (p : Viewer) (m : ClientMessage) (input : Input) → input_of m ≡ Some input → Serves s st p → Serves s st (after_noting m p)
serves_noted s st p (SetPixelFormat format) input e k = absurd cc
serves_noted s st p (SetEncodings choice) input e k = absurd cc
serves_noted s st p (Ask incremental area) input e k = absurd cc
serves_noted s st p (Key down key) input e k = serves_key s st p down key k
serves_noted s st p (Pointer mask x y) input e k = serves_pointer s st p mask x y k
serves_noted s st p (CutText text) input e k = serves_text s st p text k
serves_noted s st p (LostText len) input e k = absurd cc

-- One with an input, which waits where it passes.
pub stands_waits : (s : Setup) (st now new : State) (p : Viewer) (held : Kept) (told m : ClientMessage) (input : Input) (pass : Bool) → st ≡ now → told ≡ m → input_of m ≡ Some input → Stands s now p → now.waiting ≡ None
    → pass ≡ passes_if st.held.keys (input_for st.role told)
    → held ≡ kept_after st.held (input_for st.role told) → ((ms : List ClientMessage) → HeldStands st.role st.held ms → HeldStands st.role held (ms ++ told ∷ []))
    → new ≡ record st { held = held; waiting = if pass then Some input else st.waiting }
    → Stands s new (after_taking told p)
stands_waits s st now new p held told m input pass is e some_of stood none passes kept stands same =
    let k : Stands s st p = subst (λ (t : State). Stands s t p) (sym is) stood in
    let nothing : st.waiting ≡ None = ap (λ (t : State). t.waiting) is ∙ none in
    let waiting : Option Input = if pass then Some input else st.waiting in
    let next : State = record st { held = held; waiting = waiting } in
    let of : input_for st.role told ≡ input_for st.role m = ap (input_for st.role) e in
    let all : HeldStands st.role held (messages_in p.entries ++ m ∷ []) = subst (λ (t : ClientMessage). HeldStands st.role held (messages_in p.entries ++ t ∷ [])) e (stands (messages_in p.entries) k.relays.held) in
    subst (λ (t : State). Stands s t (after_taking told p)) (sym same)
    (subst (λ (t : ClientMessage). Stands s next (after_taking t p)) (sym e)
    (stands_taken s st next p m k nothing (serves_noted s next p m input some_of (serves_held s st p held waiting k.serves)) refl
    (kept ∙ ap (kept_after st.held) of) all
    (ap (λ (o : Option Input). if pass then Some input else o) nothing ∙ waits_for st.role m input st.held.keys pass some_of (passes ∙ ap (passes_if st.held.keys) of))))
