-- What a password is used for. The law `password_is_used_for_a_challenge_only` is made of it.
use Rattle.std.proofs.Common.{◌≡◌, ℕ, Bool, true, false, List, [], ◌∷◌, ◌++◌, Option, Some, None, refl, sym, ap, ◌∙◌}
use Rattle.std.specs.Prelude.{◌==◌, is_some, option_to_list, unwrap_or, if◌then◌else◌}
use Rattle.std.specs.List.{list_any}
use Rattle.byte_reading.specs.Reading.{Reading, Done, Faulty, Want, ◌>>=◌, after, byte, bytes, u32, whole_of}
use Rattle.byte_reading.proofs.ReadingLaws.{after-faulty, bind_assoc, bind_done}
use Rattle.rfb_wire.specs.Handshake.{version, host_version, refused, chosen, chosen_type, security_types, challenge, security, security_result, host_hello, is_past, chosen_in, asked_in, answer_to, said_to_host}
use Rattle.rfb_wire.proofs.Handshakes.{asked_without}

-- ---- two passwords

-- What is said, with this answer.
abbrev said_with : Option (List ℕ) → List ℕ → List ℕ → List ℕ
said_with p stream answer =
    (if is_past host_version stream then version else []) ++ option_to_list (chosen_in p stream) ++ answer ++ (if is_past (host_version >>= λ _. security p >>= λ _. security_result) stream then 1 ∷ [] else [])

pub same_answer : (one other stream : List ℕ) → answer_to (asked_in (Some one) stream) (Some one) ≡ answer_to (asked_in (Some one) stream) (Some other) → said_to_host (Some one) stream ≡ said_to_host (Some other) stream
same_answer one other stream e = ap (said_with (Some one) stream) e

pub same_unasked : (one other stream : List ℕ) → asked_in (Some one) stream ≡ [] → said_to_host (Some one) stream ≡ said_to_host (Some other) stream
same_unasked one other stream e = same_answer one other stream (ap (λ asked. answer_to asked (Some one)) e ∙ sym (ap (λ asked. answer_to asked (Some other)) e))

pub same_hello : (one other : List ℕ) → host_hello (Some one) ≡ host_hello (Some other)
same_hello one other = refl

-- ---- a host that offers None

-- What is read by the one is read by the other, bytes for bytes. Where the one is at fault the other may go on.
abbrev Agree : Reading ℕ → Reading ℕ → Type 0
Agree (Done k) r = r ≡ Done k
Agree (Faulty fault) r = Unit {0}
Agree (Want more) (Done k) = ⊥
Agree (Want more) (Faulty fault) = ⊥
Agree (Want more) (Want more') = (b : ℕ) → Agree (more b) (more' b)

agree_same : (r : Reading ℕ) → Agree r r
agree_same (Done k) = refl
agree_same (Faulty fault) = tt
agree_same (Want more) = λ b. agree_same (more b)

agree_bind : {A : Type 0} (r : Reading A) (f g : A → Reading ℕ) → ((x : A) → Agree (f x) (g x)) → Agree (r >>= f) (r >>= g)
agree_bind (Done x) f g k = k x
agree_bind (Faulty fault) f g k = tt
agree_bind (Want more) f g k = λ b. agree_bind (more b) f g k

agree_if : (b : Bool) (q r r' : Reading ℕ) → Agree r r' → Agree (if b then q else r) (if b then q else r')
agree_if true q r r' k = agree_same q
agree_if false q r r' k = k

agree_chosen : (none vnc : Bool) → Agree (chosen_type (if none then Some 1 else None)) (chosen_type (if none then Some 1 else (if vnc then Some 2 else None)))
agree_chosen true vnc = refl
agree_chosen false vnc = tt

types_agree : (password : List ℕ) → Agree (security_types None) (security_types (Some password))
types_agree password =
    let judged : Option (List ℕ) → List ℕ → Reading ℕ = λ p types. chosen_type (chosen p types) in
    agree_bind byte (λ count. if count == 0 then (u32 >>= refused) else (bytes count >>= judged None)) (λ count. if count == 0 then (u32 >>= refused) else (bytes count >>= judged (Some password)))
    (λ count. agree_if (count == 0) (u32 >>= refused) (bytes count >>= judged None) (bytes count >>= judged (Some password))
    (agree_bind (bytes count) (judged None) (judged (Some password)) (λ types. agree_chosen (list_any (λ t. t == 1) types) (list_any (λ t. t == 2) types))))

none_is_not : (k : ℕ) → None ≡ Some k → ⊥
none_is_not k e = cc

-- Where the one was read, so was the other, and so is what follows both.
agree_on : {A : Type 0} (r r' : Reading ℕ) (next : ℕ → Reading A) (stream : List ℕ) (k : ℕ) → Agree r r' → whole_of (after r stream) ≡ Some k → after (r' >>= next) stream ≡ after (r >>= next) stream
agree_on (Done x) r' next stream k a e = ap (λ r. after (r >>= next) stream) a
agree_on (Faulty fault) r' next stream k a e = absurd (none_is_not k (sym (ap whole_of (after-faulty fault stream)) ∙ e))
agree_on (Want more) (Done x) next stream k a e = absurd a
agree_on (Want more) (Faulty fault) next stream k a e = absurd a
agree_on (Want more) (Want more') next [] k a e = absurd (none_is_not k e)
agree_on (Want more) (Want more') next (b ∷ stream) k a e = agree_on (more b) (more' b) next stream k (a b) e

abbrev to_types : Option (List ℕ) → Reading ℕ
to_types p = host_version >>= λ _. security_types p

-- The beginnings of the hello, as what follows the types.
security_is : (p : Option (List ℕ)) → (to_types p >>= challenge) ≡ (host_version >>= λ _. security p)
security_is p = bind_assoc host_version (λ _. security_types p) challenge

result_is : (p : Option (List ℕ)) → (to_types p >>= λ kind. challenge kind >>= λ _. security_result) ≡ (host_version >>= λ _. security p >>= λ _. security_result)
result_is p =
    bind_assoc host_version (λ _. security_types p) (λ kind. challenge kind >>= λ _. security_result)
    ∙ ap (λ r. host_version >>= λ _. r) (sym (bind_assoc (security_types p) challenge (λ _. security_result)))

types_are : (p : Option (List ℕ)) → (to_types p >>= Done) ≡ to_types p
types_are p = bind_done (to_types p)

pub said_to_one_that_offers_none : (password stream : List ℕ) → chosen_in None stream ≡ Some 1 → said_to_host (Some password) stream ≡ said_to_host None stream
said_to_one_that_offers_none password stream e =
    let some : Option (List ℕ) = Some password in
    let agree : Agree (to_types None) (to_types some) = agree_bind host_version (λ _. security_types None) (λ _. security_types some) (λ _. types_agree password) in
    let kind : chosen_in some stream ≡ chosen_in None stream = ap whole_of (ap (λ r. after r stream) (sym (types_are some)) ∙ (agree_on (to_types None) (to_types some) Done stream 1 agree e ∙ ap (λ r. after r stream) (types_are None))) in
    let asked : asked_in some stream ≡ asked_in None stream = ap (λ r. unwrap_or (whole_of r) []) (ap (λ r. after r stream) (sym (security_is some)) ∙ (agree_on (to_types None) (to_types some) challenge stream 1 agree e ∙ ap (λ r. after r stream) (security_is None))) in
    let past : is_past (host_version >>= λ _. security some >>= λ _. security_result) stream ≡ is_past (host_version >>= λ _. security None >>= λ _. security_result) stream =
    ap (λ r. is_some (whole_of r)) (ap (λ r. after r stream) (sym (result_is some)) ∙ (agree_on (to_types None) (to_types some) (λ kind. challenge kind >>= λ _. security_result) stream 1 agree e ∙ ap (λ r. after r stream) (result_is None))) in
    let none : asked_in some stream ≡ [] = asked ∙ asked_without stream in
    let said : Option ℕ → List ℕ → Bool → List ℕ = λ b answer d. (if is_past host_version stream then version else []) ++ option_to_list b ++ answer ++ (if d then 1 ∷ [] else []) in
    let answer : answer_to (asked_in some stream) some ≡ answer_to (asked_in None stream) None = ap (λ asked. answer_to asked some) none ∙ sym (ap (λ asked. answer_to asked None) (asked_without stream)) in
    ap (λ b. said b (answer_to (asked_in some stream) some) (is_past (host_version >>= λ _. security some >>= λ _. security_result) stream)) kind
    ∙ (ap (λ a. said (chosen_in None stream) a (is_past (host_version >>= λ _. security some >>= λ _. security_result) stream)) answer ∙ ap (λ d. said (chosen_in None stream) (answer_to (asked_in None stream) None) d) past)
