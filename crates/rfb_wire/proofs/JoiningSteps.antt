-- A host's handshake, one byte later. `HostHello::feed` is such steps.
use Rattle.std.proofs.Common.{◌≡◌, ℕ, zero, suc, ◌-◌, ◌<◌, ◌≢◌, Bool, true, false, List, [], ◌∷◌, ◌++◌, length, Option, refl, sym, ap, subst, ◌∙◌, arith}
use Rattle.std.specs.Prelude.{◌==◌, if◌then◌else◌}
use Rattle.std.proofs.lemmas.Bool.{ne_eqb}
use Rattle.byte_reading.specs.Reading.{Reading, Done, ◌>>=◌, step, after, bytes, padding, u32, wants_more}
use Rattle.byte_reading.proofs.ReadingLaws.{after-append, done}
use Rattle.rfb_wire.specs.Handshake.{Joined, host_version, security_types, refused, challenge, security, security_result, kept_name, host_init, host_hello}
use Rattle.rfb_wire.specs.Joining.{version_ahead, types_ahead, challenge_ahead, result_ahead, init_ahead, version_of, types_of, result_of, init_of, ahead, said, is_field, FitsStage, IsSound, GoesOnAlike, Steps}
use Rattle.rfb_wire.specs.declared.host_talk.Stage.{Stage}
use Rattle.rfb_wire.specs.declared.host_talk.Stage.TheVariants as at
use Rattle.rfb_wire.specs.declared.host_talk.HostTalk.{HostTalk}
use Rattle.rfb_wire.proofs.OpenFields.{field_open, bind_open, bind_step}
use Rattle.rfb_wire.proofs.Joinings.{ahead_at, challenge_open, version_judged, types_judged, reason_judged, reason_length_judged, outcome_judged, name_judged}

-- Each beginning of the handshake has gone on by a byte.
record Forward (v : Reading (Unit {0})) (t : Reading ℕ) (c : ℕ → Reading (List ℕ)) (r : Reading (Unit {0})) (i : Reading Joined)
    (v' : Reading (Unit {0})) (t' : Reading ℕ) (c' : ℕ → Reading (List ℕ)) (r' : Reading (Unit {0})) (i' : Reading Joined) (b : ℕ) : Type 0 where
  one : v' ≡ step v b
  two : (v' >>= λ _. t') ≡ step (v >>= λ _. t) b
  three : (v' >>= λ _. t' >>= c') ≡ step (v >>= λ _. t >>= c) b
  four : (v' >>= λ _. t' >>= c' >>= λ _. r') ≡ step (v >>= λ _. t >>= c >>= λ _. r) b
  five : (v' >>= λ _. t' >>= c' >>= λ _. r' >>= λ _. i') ≡ step (v >>= λ _. t >>= c >>= λ _. r >>= λ _. i) b

abbrev past : Reading (Unit {0})
past = Done tt

-- In the version, in the security types, in a challenge, in the result, or in ServerInit.
in_version : (v : Reading (Unit {0})) (t : Reading ℕ) (c : ℕ → Reading (List ℕ)) (r : Reading (Unit {0})) (i : Reading Joined) (b : ℕ) → wants_more v ≡ true → Forward v t c r i (step v b) t c r i b
in_version v t c r i b w =
    record {
      one = refl;
      two = sym (bind_step v (λ _. t) b w);
      three = sym (bind_step v (λ _. t >>= c) b w);
      four = sym (bind_step v (λ _. t >>= c >>= λ _. r) b w);
      five = sym (bind_step v (λ _. t >>= c >>= λ _. r >>= λ _. i) b w);
    }

in_security : (t t' : Reading ℕ) (c c' : ℕ → Reading (List ℕ)) (r : Reading (Unit {0})) (i : Reading Joined) (b : ℕ) → t' ≡ step t b → (t' >>= c') ≡ step (t >>= c) b → wants_more (t >>= c) ≡ true → Forward past t c r i past t' c' r i b
in_security t t' c c' r i b one all w =
    record {
      one = refl;
      two = one;
      three = all;
      four = ap (λ (x : Reading (List ℕ)). x >>= λ _. r) all ∙ sym (bind_step (t >>= c) (λ _. r) b w);
      five = ap (λ (x : Reading (List ℕ)). x >>= λ _. r >>= λ _. i) all ∙ sym (bind_step (t >>= c) (λ _. r >>= λ _. i) b w);
    }

in_types : (t : Reading ℕ) (c : ℕ → Reading (List ℕ)) (r : Reading (Unit {0})) (i : Reading Joined) (b : ℕ) → wants_more t ≡ true → Forward past t c r i past (step t b) c r i b
in_types t c r i b w = in_security t (step t b) c c r i b refl (sym (bind_step t c b w)) (bind_open t c w).wants

in_challenge : (c : Reading (List ℕ)) (r : Reading (Unit {0})) (i : Reading Joined) (b : ℕ) → wants_more c ≡ true → Forward past (done 2) (λ _. c) r i past (done 2) (λ _. step c b) r i b
in_challenge c r i b w = in_security (done 2) (done 2) (λ _. c) (λ _. step c b) r i b refl refl w

in_result : (k : ℕ) (c : List ℕ) (r : Reading (Unit {0})) (i : Reading Joined) (b : ℕ) → wants_more r ≡ true → Forward past (done k) (λ _. done c) r i past (done k) (λ _. done c) (step r b) i b
in_result k c r i b w = record { one = refl; two = refl; three = refl; four = refl; five = sym (bind_step r (λ _. i) b w) }

in_init : (k : ℕ) (c : List ℕ) (i : Reading Joined) (b : ℕ) → Forward past (done k) (λ _. done c) past i past (done k) (λ _. done c) past (step i b) b
in_init k c i b = record { one = refl; two = refl; three = refl; four = refl; five = refl }

abbrev ForwardAt : Option (List ℕ) → (kind : ℕ) → (asked : List ℕ) → Stage → (w h rest wanted : ℕ) → List ℕ → Stage → (w' h' rest' wanted' : ℕ) → List ℕ → ℕ → Type 0
ForwardAt p kind asked s w h rest wanted xs s' w' h' rest' wanted' xs' b =
    Forward (version_ahead s xs) (types_ahead p kind s wanted xs) (challenge_ahead asked s xs) (result_ahead s xs) (init_ahead s w h rest wanted xs)
    (version_ahead s' xs') (types_ahead p kind s' wanted' xs') (challenge_ahead asked s' xs') (result_ahead s' xs') (init_ahead s' w' h' rest' wanted' xs') b

-- A byte of a field takes the part that the field lies in forward.
field_forward : (p : Option (List ℕ)) (kind : ℕ) (asked : List ℕ) (s : Stage) (w h rest wanted : ℕ) (xs : List ℕ) (b : ℕ) → FitsStage s wanted rest (length xs) → length xs < wanted → is_field s ≡ true
    → ForwardAt p kind asked s w h rest wanted xs s w h rest wanted (xs ++ b ∷ []) b
field_forward p kind asked at.Version w h rest wanted xs b f lt o =
    rw (after-append host_version xs (b ∷ [])) (in_version (after host_version xs) (security_types p) challenge security_result host_init b (field_open 12 version_judged xs (omega (arith, f.0))).wants)
field_forward p kind asked at.TypeCount w h rest wanted [] b f lt o = in_types (security_types p) challenge security_result host_init b refl
field_forward p kind asked at.TypeCount w h rest wanted (x ∷ xs) b f lt o = absurd (omega (arith, f.0))
field_forward p kind asked at.ReasonLength w h rest wanted xs b f lt o =
    rw (after-append (u32 >>= refused) xs (b ∷ [])) (in_types (after (u32 >>= refused) xs) challenge security_result host_init b (field_open 4 reason_length_judged xs (omega (arith, f.0))).wants)
field_forward p kind asked at.Reason w h rest wanted xs b f lt o =
    rw (after-append (bytes wanted >>= reason_judged) xs (b ∷ [])) (in_types (after (bytes wanted >>= reason_judged) xs) challenge security_result host_init b (field_open wanted reason_judged xs lt).wants)
field_forward p kind asked at.Types w h rest wanted xs b f lt o =
    rw (after-append (bytes wanted >>= types_judged p) xs (b ∷ [])) (in_types (after (bytes wanted >>= types_judged p) xs) challenge security_result host_init b (field_open wanted (types_judged p) xs lt).wants)
field_forward p kind asked at.Challenge w h rest wanted xs b f lt o =
    in_security (done 2) (done 2) (challenge_ahead asked at.Challenge xs) (challenge_ahead asked at.Challenge (xs ++ b ∷ [])) security_result host_init b refl (after-append (challenge 2) xs (b ∷ []))
    (challenge_open xs (omega (arith, f.0))).wants
field_forward p kind asked at.SecurityResult w h rest wanted xs b f lt o =
    rw (after-append security_result xs (b ∷ [])) (in_result kind asked (after security_result xs) host_init b (field_open 4 outcome_judged xs (omega (arith, f.0))).wants)
field_forward p kind asked at.Size w h rest wanted xs b f lt o = rw (after-append host_init xs (b ∷ [])) (in_init kind asked (after host_init xs) b)
field_forward p kind asked at.Format w h rest wanted xs b f lt o =
    rw (after-append (padding 16 (u32 >>= kept_name w h)) xs (b ∷ [])) (in_init kind asked (after (padding 16 (u32 >>= kept_name w h)) xs) b)
field_forward p kind asked at.NameLength w h rest wanted xs b f lt o = rw (after-append (u32 >>= kept_name w h) xs (b ∷ [])) (in_init kind asked (after (u32 >>= kept_name w h) xs) b)
field_forward p kind asked at.Name w h rest wanted xs b f lt o =
    rw (after-append (bytes wanted >>= name_judged w h rest) xs (b ∷ [])) (in_init kind asked (after (bytes wanted >>= name_judged w h rest) xs) b)
field_forward p kind asked at.Rest w h rest wanted xs b f lt o = absurd cc
field_forward p kind asked at.Joined w h rest wanted xs b f lt o = absurd cc
field_forward p kind asked at.BadVersion w h rest wanted xs b f lt o = absurd cc
field_forward p kind asked at.Refused w h rest wanted xs b f lt o = absurd cc
field_forward p kind asked at.NoNone w h rest wanted xs b f lt o = absurd cc
field_forward p kind asked at.Failed w h rest wanted xs b f lt o = absurd cc
field_forward p kind asked at.BadScreen w h rest wanted xs b f lt o = absurd cc

-- What was chosen and asked stays, and both go forward.
abbrev GoesForward : (old new : HostTalk) → ℕ → (kind : ℕ) → (asked : List ℕ) → Type 0
GoesForward old new b kind asked =
    Forward (version_of old) (types_of old kind) (challenge_ahead asked old.stage old.field.items) (result_of old) (init_of old)
    (version_of new) (types_of new kind) (challenge_ahead asked new.stage new.field.items) (result_of new) (init_of new) b

-- What has gone forward has taken the byte.
steps_by : (old new : HostTalk) (b : ℕ) → ((kind : ℕ) (asked : List ℕ) → GoesForward old new b kind asked) → new.password ≡ old.password → new.said ≡ old.said
    → ((kind : ℕ) (asked : List ℕ) → said old.password kind asked new.stage ≡ said old.password kind asked old.stage) → Steps old new b
steps_by old new b f same kept says =
    record {
      goes_on = (f 0 []).five;
      heard = λ stream h. record {
        kind = h.kind;
        asked = h.asked;
        version = after-append host_version stream (b ∷ []) ∙ (ap (λ r. step r b) h.version ∙ sym (f h.kind h.asked).one);
        types = ap (λ p. after (host_version >>= λ _. security_types p) (stream ++ b ∷ [])) same
            ∙ (after-append (host_version >>= λ _. security_types old.password) stream (b ∷ []) ∙ (ap (λ r. step r b) h.types ∙ sym (f h.kind h.asked).two));
        challenge = ap (λ p. after (host_version >>= λ _. security p) (stream ++ b ∷ [])) same
            ∙ (after-append (host_version >>= λ _. security old.password) stream (b ∷ []) ∙ (ap (λ r. step r b) h.challenge ∙ sym (f h.kind h.asked).three));
        result = ap (λ p. after (host_version >>= λ _. security p >>= λ _. security_result) (stream ++ b ∷ [])) same
            ∙ (after-append (host_version >>= λ _. security old.password >>= λ _. security_result) stream (b ∷ []) ∙ (ap (λ r. step r b) h.result ∙ sym (f h.kind h.asked).four));
        whole = ap (λ p. after (host_hello p) (stream ++ b ∷ [])) same ∙ (after-append (host_hello old.password) stream (b ∷ []) ∙ (ap (λ r. step r b) h.whole ∙ sym (f 0 []).five));
        said = ap (λ x. x.items) kept ∙ (h.said ∙ (sym (says h.kind h.asked) ∙ ap (λ p. said p h.kind h.asked new.stage) (sym same)));
      };
    }

-- A byte more of the field, and then the judgement.
pub field_steps : (old new : HostTalk) (b : ℕ) → IsSound old → is_field old.stage ≡ true → GoesOnAlike (record old { field = record { items = old.field.items ++ b ∷ [] } }) new → Steps old new b
field_steps old new b s o alike =
    let longer : HostTalk = record old { field = record { items = old.field.items ++ b ∷ [] } } in
    let taken : Steps old longer b = steps_by old longer b
    (λ kind asked. field_forward old.password kind asked old.stage old.w old.h old.rest old.wanted old.field.items b s.fits (s.room o) o) refl refl (λ _ _. refl) in
    record { goes_on = alike.goes_on ∙ taken.goes_on; heard = λ stream h. alike.heard (stream ++ b ∷ []) (taken.heard stream h) }

-- A byte is wanted of a field, unless the rest of a name is passed over.
field_at : (p : Option (List ℕ)) (s : Stage) (w h rest wanted : ℕ) (xs : List ℕ) → wants_more (ahead_at p s w h rest wanted xs) ≡ true → s ≢ at.Rest → is_field s ≡ true
field_at p at.Rest w h rest wanted xs o n = absurd (n refl)
field_at p at.Joined w h rest wanted xs o n = absurd cc
field_at p at.BadVersion w h rest wanted xs o n = absurd cc
field_at p at.Refused w h rest wanted xs o n = absurd cc
field_at p at.NoNone w h rest wanted xs o n = absurd cc
field_at p at.Failed w h rest wanted xs o n = absurd cc
field_at p at.BadScreen w h rest wanted xs o n = absurd cc
field_at p _ w h rest wanted xs o n = refl

pub is_at_field : (talk : HostTalk) → wants_more (ahead talk) ≡ true → talk.stage ≢ at.Rest → is_field talk.stage ≡ true
is_at_field talk o n = field_at talk.password talk.stage talk.w talk.h talk.rest talk.wanted talk.field.items o n

-- The rest of a name, one byte shorter.
rest_forward : (p : Option (List ℕ)) (kind : ℕ) (asked : List ℕ) (w h rest wanted : ℕ) (xs : List ℕ) (b : ℕ) (stage : Stage) → stage ≡ (if rest == 1 then at.Joined else at.Rest) → 0 < rest
    → ForwardAt p kind asked at.Rest w h rest wanted xs stage w h (rest - 1) wanted xs b
rest_forward p kind asked w h zero wanted xs b stage e lt = absurd (omega arith)
rest_forward p kind asked w h (suc zero) wanted xs b stage e lt = rw e (in_init kind asked (init_ahead at.Rest w h 1 wanted xs) b)
rest_forward p kind asked w h (suc (suc n)) wanted xs b stage e lt =
    let more : (suc (suc n) == 1) ≡ false = ne_eqb (suc (suc n)) 1 (λ one. absurd (omega (arith, one))) in
    let less : suc (suc n) - 1 ≡ suc n = omega arith in
    let stays : stage ≡ at.Rest = e ∙ ap (λ t. if t then at.Joined else at.Rest) more in
    rw (stays, less) (in_init kind asked (init_ahead at.Rest w h (suc (suc n)) wanted xs) b)

-- No more is said.
rest_says : (p : Option (List ℕ)) (kind : ℕ) (asked : List ℕ) (last : Bool) → said p kind asked (if last then at.Joined else at.Rest) ≡ said p kind asked at.Rest
rest_says p kind asked true = refl
rest_says p kind asked false = refl

pub rest_steps : (old new : HostTalk) (b : ℕ) → IsSound old → old.stage ≡ at.Rest → new ≡ record old { rest = old.rest - 1; stage = (if old.rest == 1 then at.Joined else at.Rest) } → Steps old new b
rest_steps old new b s e n =
    let next : HostTalk = record old { rest = old.rest - 1; stage = (if old.rest == 1 then at.Joined else at.Rest) } in
    let some = (subst (λ (k : Stage). FitsStage k old.wanted old.rest (length old.field.items)) e s.fits).0 in
    let at_rest : Steps (record old { stage = at.Rest }) next b = steps_by (record old { stage = at.Rest }) next b
    (λ kind asked. rest_forward old.password kind asked old.w old.h old.rest old.wanted old.field.items b next.stage refl some) refl refl (λ kind asked. rest_says old.password kind asked (old.rest == 1)) in
    subst (λ (t : HostTalk). Steps old t b) (sym n) (subst (λ (k : Stage). Steps (record old { stage = k }) next b) (sym e) at_rest)
