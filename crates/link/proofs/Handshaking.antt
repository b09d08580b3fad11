-- Hearing a host's handshake byte by byte, and telling it the first messages. A join takes no byte after the handshake.
use Rattle.std.proofs.Common.{◌≡◌, ℕ, ◌+◌, ◌<◌, ◌≤◌, Bool, true, false, List, [], ◌∷◌, ◌++◌, length, take, drop, Option, None, Some, inr, refl, sym, ap, subst, ◌∙◌, arith, append_assoc, length-append, length-drop}
use Rattle.std.specs.Prelude.{is_none, if◌then◌else◌}
use Rattle.std.proofs.lemmas.List.{append-nil, length-take, take-take, take_all, drop-take, take-append-drop, take-append-le}
use Rattle.std.proofs.Math.Seq.{take-append-add}
use Rattle.byte_reading.specs.Reading.{Reading, Done, Faulty, after, taken, whole_of, fault_of, wants_more}
use Rattle.byte_reading.proofs.ReadingLaws.{done_from, taken-append, taken-one}
use Rattle.rfb_wire.specs.Handshake.{Joined, host_hello, said_to_host}
use Rattle.rfb_wire.specs.Joining.{ahead, to_send, HasHeard, IsSameTalk}
use Rattle.rfb_wire.specs.declared.host_talk.HostTalk.{HostTalk}
use Rattle.fault.specs.declared.kinds.Fault.{Fault}
use Rattle.rfb_wire.proofs.Handshakes.{said_begins}
use Rattle.link.specs.Links.{LinkState}
use Rattle.link.specs.Joins.{FailsAs, Joins, LinkFails, Rises, first_messages}
use Rattle.link.specs.Moment.{AllIsSaid, HearsSoFar, IsHeard, IsHearing, IsJoining, IsTelling, IsUnheard, JoinsSoFar, TellsSoFar, told_to, told_after}
use Rattle.link.proofs.Sizes.{joined_size, size_most}

-- What a link is once these bytes were given, and once these were taken.
abbrev pub with_given : LinkState → List ℕ → LinkState
with_given link bytes = record link { given = link.given ++ bytes }

abbrev pub with_taken : LinkState → List ℕ → LinkState
with_taken link bytes = record link { taken = link.taken ++ bytes }

-- Some bytes, and then some more.
pub take_further : (n m : ℕ) (xs : List ℕ) → take n xs ++ take m (drop n xs) ≡ take (n + m) xs
take_further n m xs =
    ap (λ t. t ++ take m (drop n xs)) (sym (take-take n (n + m) xs (omega arith)))
    ∙ (ap (λ t. take n (take (n + m) xs) ++ t) (sym (drop-take n m xs)) ∙ take-append-drop n (take (n + m) xs))

-- ---- hearing

pub hearing_begins : (now : LinkState) (hello : HostTalk) → IsUnheard hello → HearsSoFar now now hello
hearing_begins now hello k =
    record {
      heard = [];
      took = sym (append-nil now.taken);
      talk = k.heard;
      count = refl;
      gave = sym (append-nil now.given) ∙ ap (λ n. now.given ++ take n (said_to_host hello.password [])) (sym k.sent);
      most = omega (arith, k.sent);
    }

pub is_hearing_begins : (now : LinkState) (hello : HostTalk) → IsUnheard hello → IsHearing now now hello
is_hearing_begins now hello k = record { so_far = hearing_begins now hello k; fine = ap fault_of k.whole; failed = refl; ended = refl }

-- Nothing was taken or given.
pub hears_on : (start now next : LinkState) (hello : HostTalk) → next.taken ≡ now.taken → next.given ≡ now.given → HearsSoFar start now hello → HearsSoFar start next hello
hears_on start now next hello t g h = record { heard = h.heard; took = t ∙ h.took; talk = h.talk; count = h.count; gave = g ∙ h.gave; most = h.most }

-- What there is to send, there is only where there is no fault.
sends_by : (o : Option Fault) (xs : List ℕ) → 0 < length (if is_none o then xs else []) → o ≡ None
sends_by None xs some = refl
sends_by (Some fault) xs some = absurd (omega (arith, some))

pub sends_without_fault : (hello : HostTalk) → 0 < length (to_send hello) → fault_of (ahead hello) ≡ None
sends_without_fault hello some = sends_by (fault_of (ahead hello)) (drop hello.sent hello.said.items) some

-- These bytes are what of the handshake is to be said next.
abbrev IsNext : HostTalk → List ℕ → Type 0
IsNext hello out = (stream : List ℕ) → HasHeard hello stream → fault_of (ahead hello) ≡ None → out ≡ drop hello.sent (said_to_host hello.password stream)

-- So much was given of what was to be sent.
says_some : (start now : LinkState) (hello : HostTalk) (out : List ℕ) (count : ℕ) → IsNext hello out → fault_of (ahead hello) ≡ None → count ≤ length out → HearsSoFar start now hello
    → HearsSoFar start (with_given now (take count out)) (record hello { sent = hello.sent + count })
says_some start now hello out count o fine c h =
    let all : List ℕ = said_to_host hello.password h.heard in
    let next : out ≡ drop hello.sent all = o h.heard h.talk fine in
    record {
      heard = h.heard;
      took = h.took;
      talk = record { kind = h.talk.kind; asked = h.talk.asked; version = h.talk.version; types = h.talk.types; challenge = h.talk.challenge; result = h.talk.result; whole = h.talk.whole; said = h.talk.said };
      count = h.count;
      gave = ap (λ t. t ++ take count out) h.gave
          ∙ (append_assoc start.given (take hello.sent all) (take count out)
          ∙ ap (λ t. start.given ++ t) (ap (λ t. take hello.sent all ++ take count t) next ∙ take_further hello.sent count all));
      most = omega (arith, ap length next, length-drop hello.sent all, h.most, c);
    }

pub says_so_far : (start now next : LinkState) (hello said : HostTalk) (out : List ℕ) (count : ℕ) → IsNext hello out → 0 < length (to_send hello) → count ≤ length out → next ≡ with_given now (take count out)
    → said ≡ record hello { sent = hello.sent + count } → HearsSoFar start now hello → HearsSoFar start next said
says_so_far start now next hello said out count o some c g n h =
    subst (λ (t : HostTalk). HearsSoFar start next t) (sym n)
    (subst (λ (l : LinkState). HearsSoFar start l (record hello { sent = hello.sent + count })) (sym g) (says_some start now hello out count o (sends_without_fault hello some) c h))

pub says_on : (start now next : LinkState) (hello said : HostTalk) (out : List ℕ) (count : ℕ) → IsNext hello out → 0 < length (to_send hello) → count ≤ length out → next ≡ with_given now (take count out)
    → said ≡ record hello { sent = hello.sent + count } → IsHearing start now hello → IsHearing start next said
says_on start now next hello said out count o some c g n k =
    record {
      so_far = says_so_far start now next hello said out count o some c g n k.so_far;
      fine = ap (λ (t : HostTalk). fault_of (ahead t)) n ∙ k.fine;
      failed = ap (λ (l : LinkState). l.failed) g ∙ k.failed;
      ended = ap (λ (l : LinkState). l.ended) g ∙ k.ended;
    }

-- A byte more is taken where one is wanted.
taken_more : (r : Reading Joined) (bs : List ℕ) (b : ℕ) → taken r bs ≡ length bs → wants_more (after r bs) ≡ true → taken r (bs ++ b ∷ []) ≡ length (bs ++ b ∷ [])
taken_more r bs b e w = taken-append r bs (b ∷ []) e ∙ (ap (λ n. length bs + n) (taken-one (after r bs) b w) ∙ sym (length-append bs (b ∷ [])))

-- One byte more was taken and heard.
pub hears_so_far : (start now next : LinkState) (hello heard_by : HostTalk) (b : ℕ) → wants_more (ahead hello) ≡ true → next ≡ with_taken now (b ∷ [])
    → ((stream : List ℕ) → HasHeard hello stream → HasHeard heard_by (stream ++ take (taken (ahead hello) (b ∷ [])) (b ∷ []))) → IsSameTalk hello heard_by
    → HearsSoFar start now hello → HearsSoFar start next heard_by
hears_so_far start now next hello heard_by b wants t heard s h =
    let one : take (taken (ahead hello) (b ∷ [])) (b ∷ []) ≡ b ∷ [] = ap (λ n. take n (b ∷ [])) (taken-one (ahead hello) b wants) in
    let before : List ℕ = said_to_host hello.password h.heard in
    let behind = said_begins hello.password h.heard (b ∷ []) in
    let kept : take hello.sent before ≡ take hello.sent (said_to_host hello.password (h.heard ++ b ∷ [])) = sym (take-append-le hello.sent before behind.0 h.most) ∙ ap (take hello.sent) (sym behind.1) in
    record {
      heard = h.heard ++ b ∷ [];
      took = ap (λ (l : LinkState). l.taken) t ∙ (ap (λ l. l ++ b ∷ []) h.took ∙ append_assoc start.taken h.heard (b ∷ []));
      talk = subst (λ (bs : List ℕ). HasHeard heard_by (h.heard ++ bs)) one (heard h.heard h.talk);
      count = ap (λ p. taken (host_hello p) (h.heard ++ b ∷ [])) s.password ∙ taken_more (host_hello hello.password) h.heard b h.count (ap wants_more h.talk.whole ∙ wants);
      gave = ap (λ (l : LinkState). l.given) t
          ∙ (h.gave
          ∙ ap (λ x. start.given ++ x)
          (kept ∙ (ap (λ n. take n (said_to_host hello.password (h.heard ++ b ∷ []))) (sym s.sent) ∙ ap (λ p. take heard_by.sent (said_to_host p (h.heard ++ b ∷ []))) (sym s.password))));
      most = subst (λ p. heard_by.sent ≤ length (said_to_host p (h.heard ++ b ∷ []))) (sym s.password) (omega (arith, s.sent, h.most, ap length behind.1, length-append before behind.0));
    }

pub hears_fine : (start now next : LinkState) (hello heard_by : HostTalk) (b : ℕ) → wants_more (ahead hello) ≡ true → next ≡ with_taken now (b ∷ [])
    → ((stream : List ℕ) → HasHeard hello stream → HasHeard heard_by (stream ++ take (taken (ahead hello) (b ∷ [])) (b ∷ []))) → IsSameTalk hello heard_by → fault_of (ahead heard_by) ≡ None
    → IsHearing start now hello → IsHearing start next heard_by
hears_fine start now next hello heard_by b wants t heard s fine k =
    record {
      so_far = hears_so_far start now next hello heard_by b wants t heard s k.so_far;
      fine = fine;
      failed = ap (λ (l : LinkState). l.failed) t ∙ k.failed;
      ended = ap (λ (l : LinkState). l.ended) t ∙ k.ended;
    }

-- The byte that was taken shows a fault.
pub hears_fault : (start next : LinkState) (old hello : HostTalk) (fault : Fault) → IsSameTalk old hello → ahead hello ≡ Faulty fault → HearsSoFar start next hello → FailsAs old.password fault start next
hears_fault start next old hello fault s f h = subst (λ p. FailsAs p fault start next) s.password (inr (h.heard, h.took, h.talk.whole ∙ f))

-- The link stands as before.
pub hearing_stays : (start now next : LinkState) (hello : HostTalk) → next ≡ with_taken now [] → IsHearing start now hello → IsHearing start next hello
hearing_stays start now next hello t k =
    record {
      so_far = hears_on start now next hello (ap (λ (l : LinkState). l.taken) t ∙ append-nil now.taken) (ap (λ (l : LinkState). l.given) t) k.so_far;
      fine = k.fine;
      failed = ap (λ (l : LinkState). l.failed) t ∙ k.failed;
      ended = ap (λ (l : LinkState). l.ended) t ∙ k.ended;
    }

-- A link that had neither failed nor ended before now does.
pub fails_since : (fault : Fault) (start now next : LinkState) → now.failed ≡ start.failed → now.ended ≡ start.ended → LinkFails fault now next → LinkFails fault start next
fails_since fault start now next f e k = subst (λ n. Rises fault n next.failed start.ended next.ended) f (subst (λ n. Rises fault now.failed next.failed n next.ended) e k)

-- ---- the handshake is whole

heard_says : (hello : HostTalk) (joined : Joined) (stream : List ℕ) → HasHeard hello stream → whole_of (ahead hello) ≡ Some joined → after (host_hello hello.password) stream ≡ Done joined
heard_says hello joined stream h e = h.whole ∙ done_from (ahead hello) joined (sym e)

pub heard_size : (start now : LinkState) (hello : HostTalk) (joined : Joined) → IsHearing start now hello → whole_of (ahead hello) ≡ Some joined → (joined.w ≤ 4096) × (joined.h ≤ 4096)
heard_size start now hello joined k e =
    let size = joined_size hello.password k.so_far.heard joined (heard_says hello joined k.so_far.heard k.so_far.talk e) in
    (size_most joined.w size.across, size_most joined.h size.down)

-- ---- telling

pub messages_begin : (start now : LinkState) (hello : HostTalk) (joined : Joined) (messages : List ℕ) → whole_of (ahead hello) ≡ Some joined → AllIsSaid hello → messages ≡ first_messages joined
    → HearsSoFar start now hello → TellsSoFar hello.password start now joined messages 0
messages_begin start now hello joined messages e said m h =
    let says = heard_says hello joined h.heard h.talk e in
    let told : List ℕ = said_to_host hello.password h.heard in
    let none : drop hello.sent told ≡ [] = said h.heard h.talk (ap fault_of (done_from (ahead hello) joined (sym e))) in
    let all : take hello.sent told ≡ told = sym (append-nil (take hello.sent told)) ∙ (ap (λ t. take hello.sent told ++ t) (sym none) ∙ take-append-drop hello.sent told) in
    record {
      heard = h.heard;
      took = h.took;
      spells = record { whole = h.count; says = says };
      spelled = m;
      gave = h.gave ∙ ap (λ t. start.given ++ t) (all ∙ sym (append-nil told));
    }

telling_begins : (start now : LinkState) (hello : HostTalk) (joined : Joined) (messages : List ℕ) (given : ℕ) → IsHeard start now hello joined → messages ≡ first_messages joined → given ≡ 0 → IsTelling hello.password start now joined messages given
telling_begins start now hello joined messages given k m g =
    record {
      so_far = subst (λ n. TellsSoFar hello.password start now joined messages n) (sym g) (messages_begin start now hello joined messages k.whole k.said m k.hearing.so_far);
      failed = k.hearing.failed;
      ended = k.hearing.ended;
    }

pub telling_since : (start now next : LinkState) (hello : HostTalk) (joined : Joined) (messages : List ℕ) (given : ℕ) → IsHeard start now hello joined → messages ≡ first_messages joined → given ≡ 0 → next ≡ now → IsTelling hello.password start next joined messages given
telling_since start now next hello joined messages given k m g e = subst (λ (l : LinkState). IsTelling hello.password start l joined messages given) (sym e) (telling_begins start now hello joined messages given k m g)

-- Nothing was taken or given.
pub tells_on : (password : Option (List ℕ)) (start now next : LinkState) (joined : Joined) (messages : List ℕ) (given : ℕ) → next.taken ≡ now.taken → next.given ≡ now.given → TellsSoFar password start now joined messages given → TellsSoFar password start next joined messages given
tells_on password start now next joined messages given t g k = record { heard = k.heard; took = t ∙ k.took; spells = k.spells; spelled = k.spelled; gave = g ∙ k.gave }

-- So much more was given.
pub tells_so_far : (password : Option (List ℕ)) (start now next : LinkState) (joined : Joined) (messages left : List ℕ) (given count : ℕ) → left ≡ drop given messages → next ≡ with_given now (take count left)
    → TellsSoFar password start now joined messages given → TellsSoFar password start next joined messages (given + count)
tells_so_far password start now next joined messages left given count d g k =
    let told : List ℕ = said_to_host password k.heard in
    let more : (told ++ take given messages) ++ take count left ≡ told ++ take (given + count) messages = append_assoc told (take given messages) (take count left)
    ∙ ap (λ t. told ++ t) (ap (λ t. take given messages ++ take count t) d ∙ take_further given count messages) in
    record {
      heard = k.heard;
      took = ap (λ (l : LinkState). l.taken) g ∙ k.took;
      spells = k.spells;
      spelled = k.spelled;
      gave = ap (λ (l : LinkState). l.given) g ∙ (ap (λ t. t ++ take count left) k.gave ∙ (append_assoc start.given (told ++ take given messages) (take count left) ∙ ap (λ t. start.given ++ t) more));
    }

pub tells_fine : (password : Option (List ℕ)) (start now next : LinkState) (joined : Joined) (messages left : List ℕ) (given count : ℕ) → left ≡ drop given messages → next ≡ with_given now (take count left)
    → IsTelling password start now joined messages given → IsTelling password start next joined messages (given + count)
tells_fine password start now next joined messages left given count d g k =
    record {
      so_far = tells_so_far password start now next joined messages left given count d g k.so_far;
      failed = ap (λ (l : LinkState). l.failed) g ∙ k.failed;
      ended = ap (λ (l : LinkState). l.ended) g ∙ k.ended;
    }

-- All was given.
pub told_joins : (password : Option (List ℕ)) (start now : LinkState) (joined : Joined) (messages : List ℕ) (given : ℕ) → length messages ≤ given → IsTelling password start now joined messages given → Joins password start now joined
told_joins password start now joined messages given whole k =
    let t = k.so_far in
    let told : List ℕ = said_to_host password t.heard in
    let all : take given messages ≡ first_messages joined = take_all given messages whole ∙ t.spelled in
    record {
      heard = t.heard;
      taken = t.took;
      spells = t.spells;
      given = t.gave ∙ (ap (λ m. start.given ++ (told ++ m)) all ∙ sym (append_assoc start.given told (first_messages joined)));
      failed = k.failed;
      ended = k.ended;
    }

-- It is the same password.
pub fails_with : (p q : Option (List ℕ)) (fault : Fault) (start now : LinkState) → p ≡ q → FailsAs p fault start now → FailsAs q fault start now
fails_with p q fault start now e k = subst (λ r. FailsAs r fault start now) e k

pub joins_with : (p q : Option (List ℕ)) (start now : LinkState) (joined : Joined) → p ≡ q → Joins p start now joined → Joins q start now joined
joins_with p q start now joined e k = subst (λ r. Joins r start now joined) e k

-- ---- what is promised

heard_promised : (start now : LinkState) (hello : HostTalk) → HearsSoFar start now hello → JoinsSoFar hello.password start now
heard_promised start now hello h =
    let rest : List ℕ = told_to (whole_of (after (host_hello hello.password) h.heard)) in
    record {
      heard = h.heard;
      took = h.took;
      one = h.count;
      count = hello.sent;
      gave = h.gave ∙ ap (λ t. start.given ++ t) (sym (take-append-le hello.sent (said_to_host hello.password h.heard) rest h.most));
    }

told_promised : (password : Option (List ℕ)) (start now : LinkState) (joined : Joined) (messages : List ℕ) (given : ℕ) → TellsSoFar password start now joined messages given → JoinsSoFar password start now
told_promised password start now joined messages given k =
    let told : List ℕ = said_to_host password k.heard in
    let front : told ++ take given messages ≡ take (length told + given) (told ++ first_messages joined) = ap (λ m. told ++ take given m) k.spelled ∙ sym (take-append-add told (first_messages joined) given) in
    record {
      heard = k.heard;
      took = k.took;
      one = k.spells.whole;
      count = length told + given;
      gave = k.gave ∙ ap (λ t. start.given ++ t) (front ∙ ap (λ r. take (length told + given) (told ++ told_to (whole_of r))) (sym k.spells.says));
    }

pub joining_promised : (is_heard : Bool) (start now : LinkState) (hello : HostTalk) (messages : List ℕ) (given : ℕ) → IsJoining is_heard start now hello messages given → JoinsSoFar hello.password start now
joining_promised false start now hello messages given k = heard_promised start now hello k
joining_promised true start now hello messages given k = told_promised hello.password start now k.0 messages given k.1

-- ---- which of both it is

pub was_heard : (is_heard : Bool) (start now : LinkState) (hello : HostTalk) (messages : List ℕ) (given : ℕ) → is_heard ≡ false → IsJoining is_heard start now hello messages given → HearsSoFar start now hello
was_heard is_heard start now hello messages given e k = subst (λ b. IsJoining b start now hello messages given) e k

pub still_hears : (is_heard : Bool) (start now : LinkState) (hello : HostTalk) (messages : List ℕ) (given : ℕ) → is_heard ≡ false → HearsSoFar start now hello → IsJoining is_heard start now hello messages given
still_hears is_heard start now hello messages given e k = subst (λ b. IsJoining b start now hello messages given) (sym e) k

pub was_told : (is_heard : Bool) (start now : LinkState) (hello : HostTalk) (messages : List ℕ) (given : ℕ) → is_heard ≡ true → IsJoining is_heard start now hello messages given → (joined : Joined) × TellsSoFar hello.password start now joined messages given
was_told is_heard start now hello messages given e k = subst (λ b. IsJoining b start now hello messages given) e k

pub still_tells : (is_heard : Bool) (start now : LinkState) (hello : HostTalk) (messages : List ℕ) (given : ℕ) → is_heard ≡ true → (joined : Joined) × TellsSoFar hello.password start now joined messages given → IsJoining is_heard start now hello messages given
still_tells is_heard start now hello messages given e k = subst (λ b. IsJoining b start now hello messages given) (sym e) k
