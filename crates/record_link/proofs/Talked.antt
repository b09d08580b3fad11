-- What the recorder says is a viewer's side of the handshake, and then its requests.
use Rattle.std.proofs.Common.{◌≡◌, ℕ, ◌+◌, ◌<◌, ◌≤◌, Bool, true, false, if◌then◌else◌, List, [], ◌∷◌, ◌++◌, length, take, drop, Option, None, Some, refl, sym, ap, subst, ◌∙◌, arith, append_assoc, append-nil, length-append, length-drop, length-take}
use Rattle.std.proofs.lemmas.List.{take-append-drop, take-append-le, drop_at}
use Rattle.std.proofs.lemmas.Grind.{flat_map-append}
use Rattle.byte_reading.specs.Reading.{Reading, Done, after, taken, whole_of, fault_of}
use Rattle.byte_reading.proofs.ReadingLaws.{done_from, taken-append, taken-taken, taken-le, taken-nil}
use Rattle.rfb_wire.specs.Handshake.{Joined, host_hello, said_to_host}
use Rattle.rfb_wire.specs.Joining.{ahead, to_send, HasHeard, IsSameTalk}
use Rattle.rfb_wire.specs.Writing.{request_bytes}
use Rattle.rfb_wire.specs.declared.host_talk.HostTalk.{HostTalk}
use Rattle.rfb_wire.proofs.Handshakes.{said_begins}
use Rattle.link.proofs.Handshaking.{sends_without_fault, take_further}
use Rattle.record_link.proofs.Grown.{no_bytes}
use Rattle.record_link.specs.Talking.{Talk, Stands, IsSaying, IsFree, choices, told_to, requests_bytes, whole_screen}

-- ---- nothing was said

pub begins_saying : (t : Talk) → HasHeard t.hello [] → t.hello.password ≡ None → t.hello.sent ≡ 0 → t.is_asked ≡ false → t.taken ≡ [] → t.pending ≡ [] → IsSaying t [] []
begins_saying t heard none sent off taken pending =
    record {
      talk = heard;
      one = taken-nil (host_hello None);
      none = none;
      most = omega (arith, sent);
      stands = subst (λ (b : Bool). Stands b t [] []) (sym off) (taken ∙ ap (λ (n : ℕ). take n (said_to_host None [])) (sym sent), pending, refl);
    }

-- ---- more of the session is heard

pub heard_whole : (t : Talk) (heard : List ℕ) (kinds : List Bool) → IsSaying t heard kinds → after (host_hello None) heard ≡ ahead t.hello
heard_whole t heard kinds h = ap (λ (p : Option (List ℕ)). after (host_hello p) heard) (sym h.none) ∙ h.talk.whole

taken_by : (r : Reading Joined) (joined : Joined) (bytes : List ℕ) → r ≡ Done joined → take (taken r bytes) bytes ≡ []
taken_by r joined bytes is = ap (λ (x : Reading Joined). take (taken x bytes) bytes) is

hears_stands : (b : Bool) (old new : Talk) (heard more : List ℕ) (kinds : List Bool) → new.hello.sent ≡ old.hello.sent → new.taken ≡ old.taken → new.pending ≡ old.pending → old.hello.sent ≤ length (said_to_host None heard)
    → ((joined : Joined) → whole_of (ahead old.hello) ≡ Some joined → (more ≡ []) × (whole_of (ahead new.hello) ≡ Some joined)) → Stands b old heard kinds → Stands b new (heard ++ more) kinds
hears_stands false old new heard more kinds sent taken pending most whole s =
    let before : List ℕ = said_to_host None heard in
    let behind = said_begins None heard more in
    let kept : take old.hello.sent before ≡ take old.hello.sent (said_to_host None (heard ++ more)) = sym (take-append-le old.hello.sent before behind.0 most) ∙ ap (take old.hello.sent) (sym behind.1) in
    (taken ∙ (s.0 ∙ (kept ∙ ap (λ (n : ℕ). take n (said_to_host None (heard ++ more))) (sym sent))), pending ∙ s.1, s.2)
hears_stands true old new heard more kinds sent taken pending most whole s =
    let still = whole s.0 s.3 in
    let same : heard ++ more ≡ heard = ap (λ (xs : List ℕ). heard ++ xs) still.0 ∙ append-nil heard in
    let said : said_to_host None (heard ++ more) ≡ said_to_host None heard = ap (said_to_host None) same in (
      s.0,
      s.1,
      s.2,
      still.1,
      ap (λ (n : ℕ). drop n (said_to_host None (heard ++ more))) sent ∙ (ap (drop old.hello.sent) said ∙ s.4),
      ap (λ (xs : List ℕ). xs ++ new.pending) taken ∙ (ap (λ (xs : List ℕ). old.taken ++ xs) pending ∙ (s.5 ∙ ap (λ (xs : List ℕ). xs ++ told_to s.0 kinds) (sym said))),
    )

pub hears_saying : (old new : Talk) (bytes heard : List ℕ) (kinds : List Bool) → ((stream : List ℕ) → HasHeard old.hello stream → HasHeard new.hello (stream ++ take (taken (ahead old.hello) bytes) bytes)) → IsSameTalk old.hello new.hello
    → new.is_asked ≡ old.is_asked → new.taken ≡ old.taken → new.pending ≡ old.pending → IsSaying old heard kinds → IsSaying new (heard ++ take (taken (ahead old.hello) bytes) bytes) kinds
hears_saying old new bytes heard kinds hears same asked taken_same pending h =
    let n : ℕ = taken (ahead old.hello) bytes in
    let more : List ℕ = take n bytes in
    let talk : HasHeard new.hello (heard ++ more) = hears heard h.talk in
    let none : new.hello.password ≡ None = same.password ∙ h.none in
    let now : after (host_hello None) (heard ++ more) ≡ ahead new.hello = ap (λ (p : Option (List ℕ)). after (host_hello p) (heard ++ more)) (sym none) ∙ talk.whole in
    let behind = said_begins None heard more in
    let len : length more ≡ n = omega (arith, length-take n bytes, taken-le (ahead old.hello) bytes) in
    let rest : taken (after (host_hello None) heard) more ≡ n = ap (λ (r : Reading Joined). taken r more) (heard_whole old heard kinds h) ∙ taken-taken (ahead old.hello) bytes in
    record {
      talk = talk;
      one = taken-append (host_hello None) heard more h.one ∙ (ap (λ (k : ℕ). length heard + k) (rest ∙ sym len) ∙ sym (length-append heard more));
      none = none;
      most = omega (arith, same.sent, h.most, ap length behind.1, length-append (said_to_host None heard) behind.0);
      stands = subst (λ (b : Bool). Stands b new (heard ++ more) kinds) (sym asked)
          (hears_stands old.is_asked old new heard more kinds same.sent taken_same pending h.most
          (λ joined whole.
          let all : more ≡ [] = taken_by (ahead old.hello) joined bytes (done_from (ahead old.hello) joined (sym whole)) in
          (all, ap whole_of (sym now ∙ (ap (λ (xs : List ℕ). after (host_hello None) (heard ++ xs)) all ∙ (ap (after (host_hello None)) (append-nil heard) ∙ heard_whole old heard kinds h))) ∙ whole))
          h.stands);
    }

-- ---- the session takes what is said

hello_stands : (b : Bool) (old new : Talk) (out heard : List ℕ) (kinds : List Bool) (count : ℕ) → out ≡ drop old.hello.sent (said_to_host None heard) → 0 < length out → new.hello.sent ≡ old.hello.sent + count
    → new.taken ≡ old.taken ++ take count out → new.pending ≡ old.pending → Stands b old heard kinds → Stands b new heard kinds
hello_stands false old new out heard kinds count next some sent taken pending s =
    let all : List ℕ = said_to_host None heard in
    (taken ∙ (ap (λ (xs : List ℕ). xs ++ take count out) s.0 ∙ (ap (λ (xs : List ℕ). take old.hello.sent all ++ take count xs) next ∙ (take_further old.hello.sent count all ∙ ap (λ (n : ℕ). take n all) (sym sent)))), pending ∙ s.1, s.2)
hello_stands true old new out heard kinds count next some sent taken pending s = absurd (omega (arith, some, ap length (next ∙ s.4)))

pub says_hello : (old new : Talk) (out heard : List ℕ) (kinds : List Bool) (count : ℕ) → ((stream : List ℕ) → HasHeard old.hello stream → fault_of (ahead old.hello) ≡ None → out ≡ drop old.hello.sent (said_to_host old.hello.password stream))
    → out ≡ to_send old.hello → 0 < length (to_send old.hello) → count ≤ length out → new.hello ≡ record old.hello { sent = old.hello.sent + count } → new.is_asked ≡ old.is_asked → new.taken ≡ old.taken ++ take count out → new.pending ≡ old.pending
    → IsSaying old heard kinds → IsSaying new heard kinds
says_hello old new out heard kinds count next is some fits hello asked taken pending h =
    let all : List ℕ = said_to_host None heard in
    let fine : fault_of (ahead old.hello) ≡ None = sends_without_fault old.hello some in
    let out_is : out ≡ drop old.hello.sent all = next heard h.talk fine ∙ ap (λ (p : Option (List ℕ)). drop old.hello.sent (said_to_host p heard)) h.none in
    let sent : new.hello.sent ≡ old.hello.sent + count = ap (λ (t : HostTalk). t.sent) hello in
    let said : HasHeard (record old.hello { sent = old.hello.sent + count }) heard
    = record { kind = h.talk.kind; asked = h.talk.asked; version = h.talk.version; types = h.talk.types; challenge = h.talk.challenge; result = h.talk.result; whole = h.talk.whole; said = h.talk.said } in
    record {
      talk = subst (λ (t : HostTalk). HasHeard t heard) (sym hello) said;
      one = h.one;
      none = ap (λ (t : HostTalk). t.password) hello ∙ h.none;
      most = omega (arith, sent, fits, ap length out_is, length-drop old.hello.sent all, h.most);
      stands = subst (λ (b : Bool). Stands b new heard kinds) (sym asked) (hello_stands old.is_asked old new out heard kinds count out_is (omega (arith, some, ap length is)) sent taken pending h.stands);
    }

none_of : (count : ℕ) (xs : List ℕ) → xs ≡ [] → (take count xs ≡ []) × (drop count xs ≡ [])
none_of count xs is =
    let parts : take count xs ++ drop count xs ≡ [] = take-append-drop count xs ∙ is in
    (no_bytes (take count xs) (omega (arith, ap length is, length-take count xs)), no_bytes (drop count xs) (omega (arith, ap length is, length-drop count xs)))

messages_stand : (b : Bool) (old new : Talk) (heard : List ℕ) (kinds : List Bool) (count : ℕ) → new.hello ≡ old.hello → new.taken ≡ old.taken ++ take count old.pending → new.pending ≡ drop count old.pending → Stands b old heard kinds → Stands b new heard kinds
messages_stand false old new heard kinds count hello taken pending s =
    let none = none_of count old.pending s.1 in
    (taken ∙ (ap (λ (xs : List ℕ). old.taken ++ xs) none.0 ∙ (append-nil old.taken ∙ (s.0 ∙ ap (λ (t : HostTalk). take t.sent (said_to_host None heard)) (sym hello)))), pending ∙ none.1, s.2)
messages_stand true old new heard kinds count hello taken pending s = (
  s.0,
  s.1,
  s.2,
  ap (λ (t : HostTalk). whole_of (ahead t)) hello ∙ s.3,
  ap (λ (t : HostTalk). drop t.sent (said_to_host None heard)) hello ∙ s.4,
  ap (λ (xs : List ℕ). xs ++ new.pending) taken
      ∙ (ap (λ (xs : List ℕ). (old.taken ++ take count old.pending) ++ xs) pending
      ∙ (append_assoc old.taken (take count old.pending) (drop count old.pending) ∙ (ap (λ (xs : List ℕ). old.taken ++ xs) (take-append-drop count old.pending) ∙ s.5))),
)

pub says_messages : (old new : Talk) (heard : List ℕ) (kinds : List Bool) (count : ℕ) → new.hello ≡ old.hello → new.is_asked ≡ old.is_asked → new.taken ≡ old.taken ++ take count old.pending → new.pending ≡ drop count old.pending
    → IsSaying old heard kinds → IsSaying new heard kinds
says_messages old new heard kinds count hello asked taken pending h =
    record {
      talk = subst (λ (t : HostTalk). HasHeard t heard) (sym hello) h.talk;
      one = h.one;
      none = ap (λ (t : HostTalk). t.password) hello ∙ h.none;
      most = omega (arith, ap (λ (t : HostTalk). t.sent) hello, h.most);
      stands = subst (λ (b : Bool). Stands b new heard kinds) (sym asked) (messages_stand old.is_asked old new heard kinds count hello taken pending h.stands);
    }

-- ---- a request is made

-- What is said for it: the choices, too, where it is the first.
abbrev asked_bytes : Bool → List ℕ → List ℕ
asked_bytes true request = request
asked_bytes false request = choices ++ request

pub asked_are : (b : Bool) (request pending messages : List ℕ) (start : ℕ) → start ≡ (if b then 36 else 0) → messages ≡ choices ++ request → pending ≡ drop start messages → pending ≡ asked_bytes b request
asked_are true request pending messages start from is rest = rest ∙ (ap (λ (n : ℕ). drop n messages) from ∙ (ap (drop 36) is ∙ drop_at choices request 36 refl))
asked_are false request pending messages start from is rest = rest ∙ (ap (λ (n : ℕ). drop n messages) from ∙ is)

some_is : (a b : Joined) (o : Option Joined) → o ≡ Some a → o ≡ Some b → a ≡ b
some_is a b o p q = let both : Some a ≡ Some b = sym p ∙ q in cc

told_more : (joined : Joined) (others : List Bool) (incremental : Bool) → told_to joined (false ∷ others) ++ request_bytes incremental (whole_screen joined) ≡ told_to joined ((false ∷ others) ++ incremental ∷ [])
told_more joined others incremental =
    let request : List ℕ = request_bytes incremental (whole_screen joined) in
    append_assoc choices (requests_bytes joined (false ∷ others)) request
    ∙ ap (λ (xs : List ℕ). choices ++ xs) (ap (λ (xs : List ℕ). requests_bytes joined (false ∷ others) ++ xs) (sym (append-nil request)) ∙ sym (flat_map-append (λ kind. request_bytes kind (whole_screen joined)) (false ∷ others) (incremental ∷ [])))

asks_stands : (b : Bool) (old new : Talk) (joined : Joined) (incremental : Bool) (heard : List ℕ) (kinds : List Bool) → IsFree old joined → drop old.hello.sent (said_to_host None heard) ≡ [] → new.hello ≡ old.hello → new.taken ≡ old.taken
    → new.pending ≡ asked_bytes b (request_bytes incremental (whole_screen joined)) → (b ≡ false → incremental ≡ false) → Stands b old heard kinds → Stands true new heard (kinds ++ incremental ∷ [])
asks_stands false old new joined incremental heard kinds free sent hello taken pending first s =
    let all : List ℕ = said_to_host None heard in
    let request : List ℕ = request_bytes incremental (whole_screen joined) in
    let one : kinds ++ incremental ∷ [] ≡ incremental ∷ [] = ap (λ (ks : List Bool). ks ++ incremental ∷ []) s.2 in
    let taken_all : old.taken ≡ all = s.0 ∙ (sym (append-nil (take old.hello.sent all)) ∙ (ap (λ (xs : List ℕ). take old.hello.sent all ++ xs) (sym sent) ∙ take-append-drop old.hello.sent all)) in (
      joined,
      [],
      one ∙ ap (λ (k : Bool). k ∷ []) (first refl),
      ap (λ (t : HostTalk). whole_of (ahead t)) hello ∙ free.whole,
      ap (λ (t : HostTalk). drop t.sent all) hello ∙ sent,
      ap (λ (xs : List ℕ). xs ++ new.pending) (taken ∙ taken_all)
          ∙ (ap (λ (xs : List ℕ). all ++ xs) pending
          ∙ (ap (λ (xs : List ℕ). all ++ (choices ++ xs)) (sym (append-nil request)) ∙ ap (λ (ks : List Bool). all ++ told_to joined ks) (sym one))),
    )
asks_stands true old new joined incremental heard kinds free sent hello taken pending first s =
    let all : List ℕ = said_to_host None heard in
    let request : List ℕ = request_bytes incremental (whole_screen joined) in
    let same : s.0 ≡ joined = some_is s.0 joined (whole_of (ahead old.hello)) s.3 free.whole in
    let more : kinds ++ incremental ∷ [] ≡ (false ∷ s.1) ++ incremental ∷ [] = ap (λ (ks : List Bool). ks ++ incremental ∷ []) s.2 in
    let told : old.taken ≡ all ++ told_to joined (false ∷ s.1) = sym (append-nil old.taken) ∙ (ap (λ (xs : List ℕ). old.taken ++ xs) (sym free.none) ∙ (s.5 ∙ (ap (λ (j : Joined). all ++ told_to j kinds) same ∙ ap (λ (ks : List Bool). all ++ told_to joined ks) s.2))) in (
      joined,
      s.1 ++ incremental ∷ [],
      more,
      ap (λ (t : HostTalk). whole_of (ahead t)) hello ∙ free.whole,
      ap (λ (t : HostTalk). drop t.sent all) hello ∙ sent,
      ap (λ (xs : List ℕ). xs ++ new.pending) (taken ∙ told)
          ∙ (ap (λ (xs : List ℕ). (all ++ told_to joined (false ∷ s.1)) ++ xs) pending
          ∙ (append_assoc all (told_to joined (false ∷ s.1)) request ∙ (ap (λ (xs : List ℕ). all ++ xs) (told_more joined s.1 incremental) ∙ ap (λ (ks : List Bool). all ++ told_to joined ks) (sym more)))),
    )

pub asks_saying : (old new : Talk) (joined : Joined) (incremental : Bool) (heard : List ℕ) (kinds : List Bool) → IsFree old joined → new.hello ≡ old.hello → new.is_asked ≡ true → new.taken ≡ old.taken
    → new.pending ≡ asked_bytes old.is_asked (request_bytes incremental (whole_screen joined)) → (old.is_asked ≡ false → incremental ≡ false) → IsSaying old heard kinds → IsSaying new heard (kinds ++ incremental ∷ [])
asks_saying old new joined incremental heard kinds free hello asked taken pending first h =
    let fine : fault_of (ahead old.hello) ≡ None = ap fault_of (done_from (ahead old.hello) joined (sym free.whole)) in
    let sent : drop old.hello.sent (said_to_host None heard) ≡ [] = ap (λ (p : Option (List ℕ)). drop old.hello.sent (said_to_host p heard)) (sym h.none) ∙ free.said heard h.talk fine in
    record {
      talk = subst (λ (t : HostTalk). HasHeard t heard) (sym hello) h.talk;
      one = h.one;
      none = ap (λ (t : HostTalk). t.password) hello ∙ h.none;
      most = omega (arith, ap (λ (t : HostTalk). t.sent) hello, h.most);
      stands = subst (λ (b : Bool). Stands b new heard (kinds ++ incremental ∷ [])) (sym asked) (asks_stands old.is_asked old new joined incremental heard kinds free sent hello taken pending first h.stands);
    }
