-- What each side says in a handshake is what the other side waits for. The law `handshake_is_read` is made of it.
use Rattle.std.proofs.Common.{◌≡◌, ℕ, ◌-◌, ◌≤◌, Bool, true, false, not, List, [], ◌∷◌, ◌++◌, length, min, Option, Some, None, subst, refl, sym, ap, ◌∙◌, arith, append_assoc}
use Rattle.std.specs.Prelude.{◌==◌, ◌&&◌, is_some, option_to_list, unwrap_or, if◌then◌else◌}
use Rattle.std.specs.List.{list_any}
use Rattle.std.proofs.lemmas.List.{append-nil}
use Rattle.std.specs.Int.{w16, w32, to_be_bytes}
use Rattle.std.proofs.lemmas.Bool.{le-leb, and_from}
use Rattle.pixel_format.specs.PixelFormat.{host_format}
use Rattle.byte_reading.specs.Reading.{Reading, Done, Faulty, Want, ◌>>=◌, step, after, byte, bytes, padding, u16, u32, unless, whole_of, Spells, Gives}
use Rattle.fault.specs.declared.kinds.Fault.TheVariants.{BadScreen, HostRefused}
use Rattle.byte_reading.proofs.ReadingLaws.{after-append, after-done, after-faulty, bind_assoc, faulty_is_not, done, whole_from, gives_bind, gives_then, gives_if, gives_step}
use Rattle.raster.proofs.Spellings.{spells_bind, spells_then, spells_bytes}
use Rattle.raster.proofs.Pixels.{spells_u16, spells_u32}
use Rattle.rfb_wire.specs.Handshake.{Joined, version, is_size, kept_name, host_init, host_version, refused, chosen, chosen_type, security_types, challenge, security, security_result, host_hello, viewer_hello, server_init, said_to_viewer, said_to_host, chosen_in, asked_in, answer_to, is_past}
use Rattle.pixel_format.specs.PixelFormat.{format_bytes}
use Rattle.rfb_wire.proofs.Messages.{spells_padding}

kept_name_is_read : (w h : ℕ) (name : List ℕ) → length name ≤ 255 → Spells (kept_name w h (length name)) name (record { w = w; h = h; name = name })
kept_name_is_read w h name short =
    let joined : List ℕ → Joined = λ t. record { w = w; h = h; name = t } in
    let all : min 255 (length name) ≡ length name = omega arith in
    let none : length name - 255 ≡ 0 = omega arith in
    rw (all, none) (spells_then (bytes (length name)) (λ t. Done (joined t)) name name (joined name) (spells_bytes name) refl)

is_size_of : (n : ℕ) → 1 ≤ n → n ≤ 4096 → is_size n ≡ true
is_size_of n least most = and_from _ _ (le-leb 1 n least) (le-leb n 4096 most)

pub init_is_read : (w h : ℕ) (name : List ℕ) → 1 ≤ w → w ≤ 4096 → 1 ≤ h → h ≤ 4096 → length name ≤ 255 → Spells host_init (server_init w h name) (record { w = w; h = h; name = name })
init_is_read w h name w1 w2 h1 h2 short =
    let joined : Joined = record { w = w; h = h; name = name } in
    let behind : ℕ → ℕ → Reading Joined = λ a b. padding 16 (u32 >>= kept_name a b) in
    let judged : ℕ → ℕ → Reading Joined = λ a b. unless (not (is_size a && is_size b)) BadScreen (behind a b) in
    let tail : List ℕ = to_be_bytes w32 (length name) ++ name in
    let named : Spells (u32 >>= kept_name w h) tail joined = spells_bind u32 (kept_name w h) (to_be_bytes w32 (length name)) name (length name) joined (spells_u32 (length name) (omega arith)) (kept_name_is_read w h name short) in
    let padded : Spells (behind w h) (format_bytes host_format ++ tail) joined = spells_padding (format_bytes host_format) tail (u32 >>= kept_name w h) joined named in
    let fits : (is_size w && is_size h) ≡ true = and_from _ _ (is_size_of w w1 w2) (is_size_of h h1 h2) in
    let passes : judged w h ≡ behind w h = ap (λ b. unless (not b) BadScreen (behind w h)) fits in
    spells_bind u16 (λ a. u16 >>= judged a) (to_be_bytes w16 w) (to_be_bytes w16 h ++ format_bytes host_format ++ tail) w joined (spells_u16 w (omega arith))
    (spells_bind u16 (judged w) (to_be_bytes w16 h) (format_bytes host_format ++ tail) h joined (spells_u16 h (omega arith))
    (subst (λ (r : Reading Joined). Spells r (format_bytes host_format ++ tail) joined) (sym passes) padded))

pub viewer_is_told : (password : Option (List ℕ)) (w h : ℕ) (name : List ℕ) → 1 ≤ w → w ≤ 4096 → 1 ≤ h → h ≤ 4096 → length name ≤ 255 → Spells (host_hello password) (said_to_viewer w h name 14) (record { w = w; h = h; name = name })
viewer_is_told password w h name w1 w2 h1 h2 short =
    let joined : Joined = record { w = w; h = h; name = name } in
    spells_bind host_version (λ _. security password >>= λ _. security_result >>= λ _. host_init) version (1 ∷ 1 ∷ 0 ∷ 0 ∷ 0 ∷ 0 ∷ server_init w h name) tt joined (record { whole = refl; says = refl })
    (spells_bind (security password) (λ _. security_result >>= λ _. host_init) (1 ∷ 1 ∷ []) (0 ∷ 0 ∷ 0 ∷ 0 ∷ server_init w h name) [] joined (record { whole = refl; says = refl })
    (spells_bind security_result (λ _. host_init) (0 ∷ 0 ∷ 0 ∷ 0 ∷ []) (server_init w h name) tt joined (record { whole = refl; says = refl })
    (init_is_read w h name w1 w2 h1 h2 short)))

-- ---- parts that were read, and parts that follow them

abbrev wanting : {A : Type 0} → (ℕ → Reading A) → Reading A
wanting more = Want more

wanting_is_not : {A : Type 0} (more : ℕ → Reading A) (x : A) → wanting more ≡ done x → ⊥
wanting_is_not more x e = cc

-- Where the whole is read, its first part was.
part_is_past : {A B : Type 0} (part : Reading A) (next : A → Reading B) (stream : List ℕ) (y : B) → after (part >>= next) stream ≡ Done y → is_past part stream ≡ true
part_is_past (Done x) next stream y e = ap (λ r. is_past r []) (after-done x stream)
part_is_past {B = B} (Faulty fault) next stream y e = absurd (faulty_is_not fault y (sym (after-faulty {A = B} fault stream) ∙ e))
part_is_past (Want more) next [] y e = absurd (wanting_is_not (λ b. more b >>= next) y e)
part_is_past (Want more) next (b ∷ stream) y e = part_is_past (more b) next stream y e

-- Where its first part wasn't read, the whole isn't.
not_past : {A B : Type 0} (part : Reading A) (next : A → Reading B) (stream : List ℕ) → is_past part stream ≡ false → whole_of (after (part >>= next) stream) ≡ None
not_past (Done x) next stream e = absurd (let all = ap (λ r. is_past r []) (after-done x stream) in let off = sym all ∙ e in cc)
not_past {B = B} (Faulty fault) next stream e = ap whole_of (after-faulty {A = B} fault stream)
not_past (Want more) next [] e = refl
not_past (Want more) next (b ∷ stream) e = not_past (more b) next stream e

-- What was read stays read.
stays_read : {A : Type 0} (part : Reading A) (xs ys : List ℕ) → is_past part xs ≡ true → whole_of (after part (xs ++ ys)) ≡ whole_of (after part xs)
stays_read part xs ys e =
    let was = whole_from (after part xs) e in
    ap whole_of (after-append part xs ys ∙ (ap (λ r. after r ys) was.1 ∙ (after-done was.0 ys ∙ sym was.1)))

-- The beginnings of the hello follow one another.
abbrev to_types : Option (List ℕ) → Reading ℕ
to_types p = host_version >>= λ _. security_types p

abbrev to_security : Option (List ℕ) → Reading (List ℕ)
to_security p = host_version >>= λ _. security p

abbrev to_result : Option (List ℕ) → Reading (Unit {0})
to_result p = host_version >>= λ _. security p >>= λ _. security_result

security_follows : (p : Option (List ℕ)) → (to_types p >>= challenge) ≡ to_security p
security_follows p = bind_assoc host_version (λ _. security_types p) challenge

result_follows : (p : Option (List ℕ)) → (to_security p >>= λ _. security_result) ≡ to_result p
result_follows p = bind_assoc host_version (λ _. security p) (λ _. security_result)

init_follows : (p : Option (List ℕ)) → (to_result p >>= λ _. host_init) ≡ host_hello p
init_follows p =
    let inner : ((security p >>= λ _. security_result) >>= λ _. host_init) ≡ (security p >>= λ _. security_result >>= λ _. host_init) = bind_assoc (security p) (λ _. security_result) (λ _. host_init) in
    bind_assoc host_version (λ _. security p >>= λ _. security_result) (λ _. host_init) ∙ ap (λ r. host_version >>= λ _. r) inner

-- ---- what is said is said

-- The one begins the other.
abbrev pub Begins : List ℕ → List ℕ → Type 0
Begins xs ys = (more : List ℕ) × (ys ≡ xs ++ more)

-- What is said of a part once it is read.
abbrev told : {A : Type 0} → (A → List ℕ) → Option A → List ℕ
told f None = []
told f (Some x) = f x

told_more : {A : Type 0} (f : A → List ℕ) (o o' : Option A) (rest rest' : List ℕ) → (is_some o ≡ true → o' ≡ o) → (is_some o ≡ false → rest ≡ []) → Begins rest rest' → Begins (told f o ++ rest) (told f o' ++ rest')
told_more f None o' rest rest' same none b = (told f o' ++ rest', sym (ap (λ r. r ++ (told f o' ++ rest')) (none refl)))
told_more f (Some x) o' rest rest' same none b =
    (b.0, ap (λ o. told f o ++ rest') (same refl) ∙ (ap (λ r. f x ++ r) b.1 ∙ sym (append_assoc (f x) rest b.0)))

said_of_version : (o : Option (Unit {0})) (rest : List ℕ) → (told (λ _. version) o ++ rest) ≡ (if is_some o then version else []) ++ rest
said_of_version None rest = refl
said_of_version (Some tt) rest = refl

said_of_type : (o : Option ℕ) → told (λ kind. kind ∷ []) o ≡ option_to_list o
said_of_type None = refl
said_of_type (Some kind) = refl

said_of_challenge : (p : Option (List ℕ)) (o : Option (List ℕ)) → told (λ asked. answer_to asked p) o ≡ answer_to (unwrap_or o []) p
said_of_challenge p None = refl
said_of_challenge p (Some asked) = refl

said_of_result : (o : Option (Unit {0})) → told (λ _. 1 ∷ []) o ≡ (if is_some o then 1 ∷ [] else [])
said_of_result None = refl
said_of_result (Some tt) = refl

said_as_told : (p : Option (List ℕ)) (a : Option (Unit {0})) (b : Option ℕ) (c : Option (List ℕ)) (d : Option (Unit {0}))
    → ((if is_some a then version else []) ++ option_to_list b ++ answer_to (unwrap_or c []) p ++ (if is_some d then 1 ∷ [] else []))
    ≡ (told (λ _. version) a ++ (told (λ kind. kind ∷ []) b ++ (told (λ asked. answer_to asked p) c ++ told (λ _. 1 ∷ []) d)))
said_as_told p a b c d =
    let x : List ℕ = if is_some a then version else [] in
    let y : List ℕ = option_to_list b in
    let z : List ℕ = answer_to (unwrap_or c []) p in
    let u : List ℕ = if is_some d then 1 ∷ [] else [] in
    append_assoc (x ++ y) z u
    ∙ (append_assoc x y (z ++ u)
    ∙ (sym (said_of_version a (y ++ (z ++ u)))
    ∙ ap (λ t. told (λ _. version) a ++ t)
    (ap (λ t. t ++ (z ++ u)) (sym (said_of_type b)) ∙ ap (λ t. told (λ kind. kind ∷ []) b ++ t) (ap (λ t. t ++ u) (sym (said_of_challenge p c)) ∙ ap (λ t. told (λ asked. answer_to asked p) c ++ t) (sym (said_of_result d))))))

told_last : {A : Type 0} (f : A → List ℕ) (o o' : Option A) → (is_some o ≡ true → o' ≡ o) → Begins (told f o) (told f o')
told_last f None o' same = (told f o', refl)
told_last f (Some x) o' same = ([], ap (told f) (same refl) ∙ sym (append-nil (f x)))

-- What was read of a part, if it was read whole.
abbrev found : {A : Type 0} → Reading A → List ℕ → Option A
found part stream = whole_of (after part stream)

-- What must have been said after some bytes begins what must have been said after more.
pub said_begins : (p : Option (List ℕ)) (xs ys : List ℕ) → Begins (said_to_host p xs) (said_to_host p (xs ++ ys))
said_begins p xs ys =
    let b_none : is_past host_version xs ≡ false → found (to_types p) xs ≡ None = λ e. not_past host_version (λ _. security_types p) xs e in
    let c_none : is_past (to_types p) xs ≡ false → found (to_security p) xs ≡ None = λ e. ap (λ r. found r xs) (sym (security_follows p)) ∙ not_past (to_types p) challenge xs e in
    let d_none : is_past (to_security p) xs ≡ false → found (to_result p) xs ≡ None = λ e. ap (λ r. found r xs) (sym (result_follows p)) ∙ not_past (to_security p) (λ _. security_result) xs e in
    let f : Unit {0} → List ℕ = λ _. version in
    let g : ℕ → List ℕ = λ kind. kind ∷ [] in
    let h : List ℕ → List ℕ = λ asked. answer_to asked p in
    let k : Unit {0} → List ℕ = λ _. 1 ∷ [] in
    let d_nil : is_past (to_security p) xs ≡ false → told k (found (to_result p) xs) ≡ [] = λ e. ap (told k) (d_none e) in
    let c_nil : is_past (to_types p) xs ≡ false → (told h (found (to_security p) xs) ++ told k (found (to_result p) xs)) ≡ [] = λ e.
    ap (λ o. told h o ++ told k (found (to_result p) xs)) (c_none e) ∙ d_nil (ap is_some (c_none e)) in
    let b_nil : is_past host_version xs ≡ false → (told g (found (to_types p) xs) ++ (told h (found (to_security p) xs) ++ told k (found (to_result p) xs))) ≡ [] = λ e.
    ap (λ o. told g o ++ (told h (found (to_security p) xs) ++ told k (found (to_result p) xs))) (b_none e) ∙ c_nil (ap is_some (b_none e)) in
    let all : Begins (told f (found host_version xs) ++ (told g (found (to_types p) xs) ++ (told h (found (to_security p) xs) ++ told k (found (to_result p) xs))))
    (told f (found host_version (xs ++ ys)) ++ (told g (found (to_types p) (xs ++ ys)) ++ (told h (found (to_security p) (xs ++ ys)) ++ told k (found (to_result p) (xs ++ ys))))) =
    told_more f (found host_version xs) (found host_version (xs ++ ys)) _ _ (stays_read host_version xs ys) b_nil
    (told_more g (found (to_types p) xs) (found (to_types p) (xs ++ ys)) _ _ (stays_read (to_types p) xs ys) c_nil
    (told_more h (found (to_security p) xs) (found (to_security p) (xs ++ ys)) _ _ (stays_read (to_security p) xs ys) d_nil
    (told_last k (found (to_result p) xs) (found (to_result p) (xs ++ ys)) (stays_read (to_result p) xs ys)))) in
    let before = said_as_told p (found host_version xs) (found (to_types p) xs) (found (to_security p) xs) (found (to_result p) xs) in
    let behind = said_as_told p (found host_version (xs ++ ys)) (found (to_types p) (xs ++ ys)) (found (to_security p) (xs ++ ys)) (found (to_result p) (xs ++ ys)) in
    (all.0, behind ∙ (all.1 ∙ ap (λ t. t ++ all.0) (sym before)))

-- ---- a host of which no password is known

pub gives_after : {A : Type 0} (P : A → Type 0) (r : Reading A) (bs : List ℕ) (x : A) → Gives P r → after r bs ≡ Done x → P x
gives_after P r [] x k e = subst (Gives P) e k
gives_after P r (b ∷ bs) x k e = gives_after P (step r b) bs x (gives_step P r b k) e

gives_on : {A : Type 0} (P : A → Type 0) (r : Reading A) (bs : List ℕ) → Gives P r → Gives P (after r bs)
gives_on P r [] k = k
gives_on P r (b ∷ bs) k = gives_on P (step r b) bs (gives_step P r b k)

-- None is chosen, and no challenge is asked.
none_only : (has : Bool) → Gives (λ kind. kind ≡ 1) (chosen_type (if has then Some 1 else None))
none_only true = refl
none_only false = tt

types_without : Gives (λ kind. kind ≡ 1) (security_types None)
types_without =
    let P : ℕ → Type 0 = λ kind. kind ≡ 1 in
    let judged : List ℕ → Reading ℕ = λ types. chosen_type (chosen None types) in
    gives_bind P byte (λ count. if count == 0 then (u32 >>= refused) else (bytes count >>= judged))
    (λ count. gives_if P (count == 0) (u32 >>= refused) (bytes count >>= judged)
    (gives_bind P u32 refused (λ len. gives_bind P (bytes (min 255 len)) (λ reason. Faulty (HostRefused reason)) (λ _. tt)))
    (gives_bind P (bytes count) judged (λ types. none_only (list_any (λ t. t == 1) types))))

challenge_without : Gives (λ asked. asked ≡ []) (security None)
challenge_without =
    let P : List ℕ → Type 0 = λ asked. asked ≡ [] in gives_then (λ kind. kind ≡ 1) P (security_types None) challenge types_without (λ kind is. subst (λ k. Gives P (challenge k)) (sym is) refl)

read_none : (r : Reading (List ℕ)) → Gives (λ asked. asked ≡ []) r → unwrap_or (whole_of r) [] ≡ []
read_none (Done x) k = k
read_none (Faulty fault) k = refl
read_none (Want more) k = refl

pub asked_without : (stream : List ℕ) → asked_in None stream ≡ []
asked_without stream =
    let P : List ℕ → Type 0 = λ asked. asked ≡ [] in
    read_none (after (to_security None) stream) (gives_on P (to_security None) stream (gives_bind P host_version (λ _. security None) (λ _. challenge_without)))

-- Where the handshake of such a host is whole, all has been said.
pub all_is_said : (stream : List ℕ) (joined : Joined) → after (host_hello None) stream ≡ Done joined → said_to_host None stream ≡ version ++ 1 ∷ 1 ∷ []
all_is_said stream joined e =
    let past_result = part_is_past (to_result None) (λ _. host_init) stream joined (ap (λ r. after r stream) (init_follows None) ∙ e) in
    let result = whole_from (after (to_result None) stream) past_result in
    let asked = whole_from (after (to_security None) stream) (part_is_past (to_security None) (λ _. security_result) stream result.0 (ap (λ r. after r stream) (result_follows None) ∙ result.1)) in
    let kind = whole_from (after (to_types None) stream) (part_is_past (to_types None) challenge stream asked.0 (ap (λ r. after r stream) (security_follows None) ∙ asked.1)) in
    let past_version = part_is_past host_version (λ _. security_types None) stream kind.0 kind.1 in
    let one = gives_after (λ k. k ≡ 1) (to_types None) stream kind.0 (gives_bind (λ k. k ≡ 1) host_version (λ _. security_types None) (λ _. types_without)) kind.1 in
    let chose : chosen_in None stream ≡ Some 1 = ap whole_of kind.1 ∙ ap Some one in
    let said : Bool → Option ℕ → List ℕ → Bool → List ℕ = λ a b c d. (if a then version else []) ++ option_to_list b ++ answer_to c None ++ (if d then 1 ∷ [] else []) in
    ap (λ a. said a (chosen_in None stream) (asked_in None stream) (is_past (to_result None) stream)) past_version
    ∙ (ap (λ b. said true b (asked_in None stream) (is_past (to_result None) stream)) chose
    ∙ (ap (λ c. said true (Some 1) c (is_past (to_result None) stream)) (asked_without stream) ∙ ap (λ d. said true (Some 1) [] d) past_result))

pub host_is_told : (stream : List ℕ) (joined : Joined) → after (host_hello None) stream ≡ Done joined → Spells viewer_hello (said_to_host None stream) tt
host_is_told stream joined e = subst (λ (bs : List ℕ). Spells viewer_hello bs tt) (sym (all_is_said stream joined e)) (record { whole = refl; says = refl })
