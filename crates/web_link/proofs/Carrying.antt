-- The link below and this link, step by step.
use Rattle.std.proofs.Common.{◌≡◌, ℕ, ◌<◌, ◌≤◌, true, List, [], ◌∷◌, ◌++◌, length, take, drop, sym, ap, subst, ◌∙◌, arith, append_assoc, append-nil}
use Rattle.std.proofs.lemmas.List.{take-append-drop}
use Rattle.websocket.specs.declared.protocol.frame.coding.Control.TheVariants as control
use Rattle.websocket.specs.FrameHeader.{encode_header}
use Rattle.websocket.specs.Frame.{encode_frame}
use Rattle.link.specs.Links.{LinkState}
use Rattle.web_frames.specs.Frames.{Standing, fresh, after_bytes, data_in, binary_header, control_header}
use Rattle.web_frames.proofs.Reading.{after-append, data-append}
use Rattle.web_link.specs.declared.saying.Saying.{Saying}
use Rattle.web_link.specs.declared.saying.Saying.TheVariants.{Between, Inside, Closed}
use Rattle.web_link.specs.Web.{Web, Says, Carries}
use Rattle.web_link.proofs.Said.{says_head, says_payload, after_payload, says_pong, says_ping, says_close}

-- The link below neither took nor gave.
pub carries_still : (w : Web) (wire : LinkState) → Carries w → wire.taken ≡ w.wire.taken → wire.given ≡ w.wire.given → Carries (record w { wire = wire })
carries_still w wire k t g =
    record {
      reads = k.reads ∙ ap (after_bytes (fresh true)) (sym t);
      taken = k.taken ∙ ap (data_in (fresh true)) (sym t);
      says = subst (λ (bytes : List ℕ). Says (bytes ++ w.unsent) w.carried.given w.saying) (sym g) k.says;
    }

-- It was given the first of what is unsent.
pub carries_sent : (w : Web) (wire : LinkState) (unsent : List ℕ) (n : ℕ) → Carries w → wire ≡ record w.wire { given = w.wire.given ++ take n w.unsent } → unsent ≡ drop n w.unsent
    → Carries (record w { wire = wire; unsent = unsent })
carries_sent w wire unsent n k e u =
    let t : wire.taken ≡ w.wire.taken = ap (λ (l : LinkState). l.taken) e in
    let g : wire.given ≡ w.wire.given ++ take n w.unsent = ap (λ (l : LinkState). l.given) e in
    let all : w.wire.given ++ w.unsent ≡ wire.given ++ unsent =
    ap (λ x. w.wire.given ++ x) (sym (take-append-drop n w.unsent)) ∙ (sym (append_assoc w.wire.given (take n w.unsent) (drop n w.unsent)) ∙ (ap (λ x. x ++ drop n w.unsent) (sym g) ∙ ap (λ x. wire.given ++ x) (sym u))) in
    record {
      reads = k.reads ∙ ap (after_bytes (fresh true)) (sym t);
      taken = k.taken ∙ ap (data_in (fresh true)) (sym t);
      says = subst (λ (bytes : List ℕ). Says bytes w.carried.given w.saying) all k.says;
    }

-- What was given and then what is unsent stays the same where some of it is sent.
pub same_said : (old new : LinkState) (before unsent said : List ℕ) (n : ℕ) → new ≡ record old { given = old.given ++ take n before } → unsent ≡ drop n before
    → old.given ++ before ≡ said → new.given ++ unsent ≡ said
same_said old new before unsent said n e u s =
    let g : new.given ≡ old.given ++ take n before = ap (λ (l : LinkState). l.given) e in
    ap (λ x. new.given ++ x) u ∙ (ap (λ x. x ++ drop n before) g ∙ (append_assoc old.given (take n before) (drop n before) ∙ (ap (λ x. old.given ++ x) (take-append-drop n before) ∙ s)))

pub all_sent : (w : Web) → Carries w → w.unsent ≡ [] → Says w.wire.given w.carried.given w.saying
all_sent w k none = subst (λ (bytes : List ℕ). Says bytes w.carried.given w.saying) (ap (λ x. w.wire.given ++ x) none ∙ append-nil w.wire.given) k.says

as_between : (w : Web) (saying : Saying) → Says w.wire.given w.carried.given w.saying → w.saying ≡ saying → Says w.wire.given w.carried.given saying
as_between w saying says e = subst (λ (s : Saying). Says w.wire.given w.carried.given s) e says

-- A message is begun.
pub carries_head : (w : Web) (unsent : List ℕ) (n : ℕ) → Carries w → w.unsent ≡ [] → w.saying ≡ Between → 1 ≤ n → n < 65536 → unsent ≡ encode_header binary_header n
    → Carries (record w { unsent = unsent; saying = Inside n })
carries_head w unsent n k none between some lt head =
    record {
      reads = k.reads;
      taken = k.taken;
      says = subst (λ (x : List ℕ). Says (w.wire.given ++ x) w.carried.given (Inside n)) (sym head) (says_head w.wire.given w.carried.given n (as_between w Between (all_sent w k none) between) some lt);
    }

pub carries_pong : (w : Web) (unsent payload : List ℕ) → Carries w → w.unsent ≡ [] → w.saying ≡ Between → length payload ≤ 125 → unsent ≡ encode_frame (control_header control.Pong) payload
    → Carries (record w { unsent = unsent })
carries_pong w unsent payload k none between le frame =
    record {
      reads = k.reads;
      taken = k.taken;
      says = subst (λ (x : List ℕ). Says (w.wire.given ++ x) w.carried.given w.saying) (sym frame)
          (subst (λ (s : Saying). Says (w.wire.given ++ encode_frame (control_header control.Pong) payload) w.carried.given s) (sym between) (says_pong w.wire.given w.carried.given payload (as_between w Between (all_sent w k none) between) le));
    }

pub carries_ping : (w : Web) (unsent : List ℕ) → Carries w → w.unsent ≡ [] → w.saying ≡ Between → unsent ≡ encode_frame (control_header control.Ping) []
    → Carries (record w { unsent = unsent })
carries_ping w unsent k none between frame =
    record {
      reads = k.reads;
      taken = k.taken;
      says = subst (λ (x : List ℕ). Says (w.wire.given ++ x) w.carried.given w.saying) (sym frame)
          (subst (λ (s : Saying). Says (w.wire.given ++ encode_frame (control_header control.Ping) []) w.carried.given s) (sym between) (says_ping w.wire.given w.carried.given (as_between w Between (all_sent w k none) between)));
    }

pub carries_close : (w : Web) (unsent payload : List ℕ) → Carries w → w.unsent ≡ [] → w.saying ≡ Between → length payload ≤ 125 → unsent ≡ encode_frame (control_header control.Close) payload
    → Carries (record w { unsent = unsent; saying = Closed })
carries_close w unsent payload k none between le frame =
    record {
      reads = k.reads;
      taken = k.taken;
      says = subst (λ (x : List ℕ). Says (w.wire.given ++ x) w.carried.given Closed) (sym frame) (says_close w.wire.given w.carried.given payload (as_between w Between (all_sent w k none) between) le);
    }

-- Bytes of a payload were given.
pub carries_payload : (w : Web) (wire carried : LinkState) (left x : ℕ) (xs : List ℕ) → Carries w → w.unsent ≡ [] → w.saying ≡ Inside left → length (x ∷ xs) ≤ left
    → wire ≡ record w.wire { given = w.wire.given ++ x ∷ xs } → carried.taken ≡ w.carried.taken → carried.given ≡ w.carried.given ++ x ∷ xs
    → Carries (record w { wire = wire; carried = carried; saying = after_payload left (length (x ∷ xs)) })
carries_payload w wire carried left x xs k none inside fits e ct cg =
    let t : wire.taken ≡ w.wire.taken = ap (λ (l : LinkState). l.taken) e in
    let g : wire.given ≡ w.wire.given ++ x ∷ xs = ap (λ (l : LinkState). l.given) e in
    let says : Says (w.wire.given ++ x ∷ xs) (w.carried.given ++ x ∷ xs) (after_payload left (length (x ∷ xs))) = says_payload w.wire.given w.carried.given left x xs (as_between w (Inside left) (all_sent w k none) inside) fits in
    let bytes : w.wire.given ++ x ∷ xs ≡ wire.given ++ w.unsent = sym g ∙ (sym (append-nil wire.given) ∙ ap (λ u. wire.given ++ u) (sym none)) in
    record {
      reads = k.reads ∙ ap (after_bytes (fresh true)) (sym t);
      taken = ct ∙ (k.taken ∙ ap (data_in (fresh true)) (sym t));
      says = subst (λ (b : List ℕ). Says b carried.given (after_payload left (length (x ∷ xs)))) bytes (subst (λ (d : List ℕ). Says (w.wire.given ++ x ∷ xs) d (after_payload left (length (x ∷ xs)))) (sym cg) says);
    }

pub carries_given : (w : Web) (wire carried : LinkState) (saying : Saying) (left : ℕ) (xs : List ℕ) → Carries w → w.unsent ≡ [] → w.saying ≡ Inside left → 1 ≤ length xs → length xs ≤ left
    → wire ≡ record w.wire { given = w.wire.given ++ xs } → carried.taken ≡ w.carried.taken → carried.given ≡ w.carried.given ++ xs → saying ≡ after_payload left (length xs)
    → Carries (record w { wire = wire; carried = carried; saying = saying })
carries_given w wire carried saying left [] k none inside some fits e ct cg at = absurd (omega arith)
carries_given w wire carried saying left (x ∷ xs) k none inside some fits e ct cg at =
    subst (λ (s : Saying). Carries (record w { wire = wire; carried = carried; saying = s })) (sym at) (carries_payload w wire carried left x xs k none inside fits e ct cg)

-- Bytes were taken and read.
pub carries_taken : (w : Web) (wire carried : LinkState) (reader : Standing) (piece brought : List ℕ) → Carries w → wire ≡ record w.wire { taken = w.wire.taken ++ piece }
    → reader ≡ after_bytes w.reader piece → brought ≡ data_in w.reader piece → carried.taken ≡ w.carried.taken ++ brought → carried.given ≡ w.carried.given
    → Carries (record w { wire = wire; carried = carried; reader = reader })
carries_taken w wire carried reader piece brought k e goes brings ct cg =
    let t : wire.taken ≡ w.wire.taken ++ piece = ap (λ (l : LinkState). l.taken) e in
    let g : wire.given ≡ w.wire.given = ap (λ (l : LinkState). l.given) e in
    record {
      reads = goes ∙ (ap (λ (s : Standing). after_bytes s piece) k.reads ∙ (sym (after-append (fresh true) w.wire.taken piece) ∙ ap (after_bytes (fresh true)) (sym t)));
      taken = ct ∙ (ap (λ x. x ++ brought) k.taken ∙ (ap (λ x. data_in (fresh true) w.wire.taken ++ x) (brings ∙ ap (λ (s : Standing). data_in s piece) k.reads) ∙ (sym (data-append (fresh true) w.wire.taken piece) ∙ ap (data_in (fresh true)) (sym t))));
      says = subst (λ (b : List ℕ). Says (b ++ w.unsent) carried.given w.saying) (sym g) (subst (λ (d : List ℕ). Says (w.wire.given ++ w.unsent) d w.saying) (sym cg) k.says);
    }
