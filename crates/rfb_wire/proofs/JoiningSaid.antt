-- What is to be said to a host by now. `HostHello::out` shows what of it isn't sent.
use Rattle.std.proofs.Common.{◌≡◌, ℕ, ◌-◌, ◌<◌, true, List, [], ◌∷◌, ◌++◌, length, take, drop, Option, Some, None, refl, sym, ap, ◌∙◌, arith, length-drop}
use Rattle.std.specs.Prelude.{is_some, is_none, option_to_list, unwrap_or, if◌then◌else◌}
use Rattle.std.proofs.lemmas.List.{append-nil, take_all}
use Rattle.fault.specs.declared.kinds.Fault.{Fault}
use Rattle.byte_reading.specs.Reading.{Reading, ◌>>=◌, after, bytes, u32, whole_of, fault_of}
use Rattle.rfb_wire.specs.Handshake.{version, refused, host_version, security_types, challenge, security, security_result, said_to_host, answer_to}
use Rattle.rfb_wire.specs.Joining.{version_ahead, types_ahead, result_ahead, version_of, types_of, security_of, result_of, ahead, said, to_send, is_field, FitsStage, IsSound, HasHeard}
use Rattle.rfb_wire.specs.declared.host_talk.Stage.{Stage}
use Rattle.rfb_wire.specs.declared.host_talk.Stage.TheVariants as at
use Rattle.rfb_wire.specs.declared.host_talk.HostTalk.{HostTalk}
use Rattle.rfb_wire.proofs.OpenFields.{IsOpen, field_open, bind_open}
use Rattle.rfb_wire.proofs.Joinings.{version_judged, types_judged, reason_judged, reason_length_judged, outcome_judged, security_ahead, challenge_open}

tested : (o : Option Fault) (xs : List ℕ) → o ≡ None → xs ≡ (if is_none o then xs else [])
tested o xs e = rw e refl

pub all_to_send : (talk : HostTalk) → fault_of (ahead talk) ≡ None → drop talk.sent talk.said.items ≡ to_send talk
all_to_send talk none = tested (fault_of (ahead talk)) (drop talk.sent talk.said.items) none

-- The rest of a list.
pub rest_of : (xs : List ℕ) (n : ℕ) → take (length xs - n) (drop n xs) ≡ drop n xs
rest_of xs n = take_all (length xs - n) (drop n xs) (omega (arith, length-drop n xs))

-- What is said once these parts of the handshake are whole.
abbrev said_by : Option (List ℕ) → Option (Unit {0}) → Option ℕ → Option (List ℕ) → Option (Unit {0}) → List ℕ
said_by p a b c d = (if is_some a then version else []) ++ option_to_list b ++ answer_to (unwrap_or c []) p ++ (if is_some d then 1 ∷ [] else [])

by_parts : (p : Option (List ℕ)) (a a' : Option (Unit {0})) (b b' : Option ℕ) (c c' : Option (List ℕ)) (d d' : Option (Unit {0})) → a ≡ a' → b ≡ b' → c ≡ c' → d ≡ d' → said_by p a b c d ≡ said_by p a' b' c' d'
by_parts p a a' b b' c c' d d' q r s t = rw (q, r, s, t) refl

-- In the version, in the security types, in a challenge, or in the result.
in_version : (p : Option (List ℕ)) (v : Reading (Unit {0})) → IsOpen v
    → said_by p (whole_of v) (whole_of (v >>= λ _. security_types p)) (whole_of (v >>= λ _. security p)) (whole_of (v >>= λ _. security p >>= λ _. security_result)) ≡ []
in_version p v o =
    by_parts p (whole_of v) None (whole_of (v >>= λ _. security_types p)) None (whole_of (v >>= λ _. security p)) None (whole_of (v >>= λ _. security p >>= λ _. security_result)) None
    o.unfinished (bind_open v (λ _. security_types p) o.wants).unfinished (bind_open v (λ _. security p) o.wants).unfinished (bind_open v (λ _. security p >>= λ _. security_result) o.wants).unfinished

in_types : (p : Option (List ℕ)) (t : Reading ℕ) → IsOpen t → said_by p (Some tt) (whole_of t) (whole_of (t >>= challenge)) (whole_of (t >>= challenge >>= λ _. security_result)) ≡ version
in_types p t o =
    let c = bind_open t challenge o.wants in
    by_parts p (Some tt) (Some tt) (whole_of t) None (whole_of (t >>= challenge)) None (whole_of (t >>= challenge >>= λ _. security_result)) None refl o.unfinished c.unfinished (bind_open (t >>= challenge) (λ _. security_result) c.wants).unfinished

in_challenge : (p : Option (List ℕ)) (c : Reading (List ℕ)) → IsOpen c → said_by p (Some tt) (Some 2) (whole_of c) (whole_of (c >>= λ _. security_result)) ≡ version ++ 2 ∷ []
in_challenge p c o = by_parts p (Some tt) (Some tt) (Some 2) (Some 2) (whole_of c) None (whole_of (c >>= λ _. security_result)) None refl refl o.unfinished (bind_open c (λ _. security_result) o.wants).unfinished

before_result : (p : Option (List ℕ)) (kind : ℕ) (asked : List ℕ) (d : Option (Unit {0})) → d ≡ None → said_by p (Some tt) (Some kind) (Some asked) d ≡ version ++ kind ∷ answer_to asked p
before_result p kind asked d e = rw e (ap (λ a. version ++ kind ∷ a) (append-nil (answer_to asked p)))

said_at : (p : Option (List ℕ)) (kind : ℕ) (asked : List ℕ) (s : Stage) (rest wanted : ℕ) (xs : List ℕ) → FitsStage s wanted rest (length xs) → (is_field s ≡ true → length xs < wanted)
    → said_by p (whole_of (version_ahead s xs)) (whole_of (version_ahead s xs >>= λ _. types_ahead p kind s wanted xs)) (whole_of (version_ahead s xs >>= λ _. security_ahead p kind asked s wanted xs))
    (whole_of (version_ahead s xs >>= λ _. security_ahead p kind asked s wanted xs >>= λ _. result_ahead s xs)) ≡ said p kind asked s
said_at p kind asked at.Version rest wanted xs f r = in_version p (after host_version xs) (field_open 12 version_judged xs (let lt = r refl in omega (arith, f.0)))
said_at p kind asked at.BadVersion rest wanted xs f r = refl
said_at p kind asked at.TypeCount rest wanted [] f r = refl
said_at p kind asked at.TypeCount rest wanted (x ∷ xs) f r = absurd (let lt = r refl in omega (arith, f.0))
said_at p kind asked at.ReasonLength rest wanted xs f r = in_types p (after (u32 >>= refused) xs) (field_open 4 reason_length_judged xs (let lt = r refl in omega (arith, f.0)))
said_at p kind asked at.Reason rest wanted xs f r = in_types p (after (bytes wanted >>= reason_judged) xs) (field_open wanted reason_judged xs (r refl))
said_at p kind asked at.Refused rest wanted xs f r = refl
said_at p kind asked at.Types rest wanted xs f r = in_types p (after (bytes wanted >>= types_judged p) xs) (field_open wanted (types_judged p) xs (r refl))
said_at p kind asked at.NoNone rest wanted xs f r = refl
said_at p kind asked at.Challenge rest wanted xs f r = in_challenge p (after (challenge 2) xs) (challenge_open xs (let lt = r refl in omega (arith, f.0)))
said_at p kind asked at.SecurityResult rest wanted xs f r =
    before_result p kind asked (whole_of (after security_result xs)) (field_open 4 outcome_judged xs (let lt = r refl in omega (arith, f.0))).unfinished
said_at p kind asked at.Failed rest wanted xs f r = before_result p kind asked None refl
said_at p kind asked at.Size rest wanted xs f r = refl
said_at p kind asked at.Format rest wanted xs f r = refl
said_at p kind asked at.NameLength rest wanted xs f r = refl
said_at p kind asked at.Name rest wanted xs f r = refl
said_at p kind asked at.Rest rest wanted xs f r = refl
said_at p kind asked at.Joined rest wanted xs f r = refl
said_at p kind asked at.BadScreen rest wanted xs f r = refl

-- What was said is what must have been said after what was heard.
pub said_is : (talk : HostTalk) (stream : List ℕ) → IsSound talk → HasHeard talk stream → talk.said.items ≡ said_to_host talk.password stream
said_is talk stream s h =
    let p : Option (List ℕ) = talk.password in
    h.said
    ∙ (sym (said_at p h.kind h.asked talk.stage talk.rest talk.wanted talk.field.items s.fits s.room)
    ∙ sym (by_parts p (whole_of (after host_version stream)) (whole_of (version_of talk)) (whole_of (after (host_version >>= λ _. security_types p) stream)) (whole_of (version_of talk >>= λ _. types_of talk h.kind))
    (whole_of (after (host_version >>= λ _. security p) stream)) (whole_of (version_of talk >>= λ _. security_of talk h.kind h.asked))
    (whole_of (after (host_version >>= λ _. security p >>= λ _. security_result) stream)) (whole_of (version_of talk >>= λ _. security_of talk h.kind h.asked >>= λ _. result_of talk))
    (ap whole_of h.version) (ap whole_of h.types) (ap whole_of h.challenge) (ap whole_of h.result)))
