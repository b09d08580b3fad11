-- How a host's handshake goes on, stage by stage. `HostHello` keeps the stage and one field.
use Rattle.std.proofs.Common.{◌≡◌, ℕ, zero, suc, ◌<◌, ◌≢◌, Bool, true, false, not, List, [], ◌∷◌, length, Option, None, refl, sym, ap, subst, ◌∙◌, arith}
use Rattle.std.specs.Prelude.{◌==◌, ◌&&◌, slice_index}
use Rattle.std.specs.Int.{w16, w32, from_be_bytes}
use Rattle.byte_reading.specs.Reading.{Reading, Done, Faulty, ◌>>=◌, after, bytes, padding, u32, unless, whole_of, fault_of, wants_more}
use Rattle.byte_reading.proofs.Heads.{head_full}
use Rattle.byte_reading.proofs.ReadingLaws.{bind_done, done}
use Rattle.fault.specs.declared.kinds.Fault.TheVariants as fault
use Rattle.rfb_wire.specs.Handshake.{Joined, is_host_version, is_size, kept_name, refused, chosen, chosen_type, challenge, security, security_result, host_init}
use Rattle.rfb_wire.specs.Joining.{version_ahead, types_ahead, challenge_ahead, result_ahead, init_ahead, ahead, is_field, is_open, FitsStage, IsSound}
use Rattle.rfb_wire.specs.declared.host_talk.Stage.{Stage}
use Rattle.rfb_wire.specs.declared.host_talk.Stage.TheVariants as at
use Rattle.rfb_wire.specs.declared.host_talk.HostTalk.{HostTalk}
use Rattle.rfb_wire.proofs.OpenFields.{IsOpen, field_open, bind_open}

-- What follows each field, where it is whole.
abbrev pub version_judged : List ℕ → Reading (Unit {0})
version_judged field = unless (not (is_host_version field)) fault.BadVersion (Done tt)

abbrev pub types_judged : Option (List ℕ) → List ℕ → Reading ℕ
types_judged password types = chosen_type (chosen password types)

abbrev pub reason_judged : List ℕ → Reading ℕ
reason_judged reason = Faulty (fault.HostRefused reason)

abbrev pub reason_length_judged : List ℕ → Reading ℕ
reason_length_judged field = refused (from_be_bytes w32 field)

abbrev pub outcome_judged : List ℕ → Reading (Unit {0})
outcome_judged field = unless (not (from_be_bytes w32 field == 0)) fault.SecurityFailed (Done tt)

abbrev pub wide : List ℕ → ℕ
wide field = from_be_bytes w16 (slice_index field 0 ∷ slice_index field 1 ∷ [])

abbrev pub high : List ℕ → ℕ
high field = from_be_bytes w16 (slice_index field 2 ∷ slice_index field 3 ∷ [])

abbrev pub size_judged : List ℕ → Reading Joined
size_judged field = unless (not (is_size (wide field) && is_size (high field))) fault.BadScreen (padding 16 (u32 >>= kept_name (wide field) (high field)))

abbrev pub name_length_judged : ℕ → ℕ → List ℕ → Reading Joined
name_length_judged w h field = kept_name w h (from_be_bytes w32 field)

abbrev pub name_judged : ℕ → ℕ → ℕ → List ℕ → Reading Joined
name_judged w h rest name = padding rest (Done (record { w = w; h = h; name = name }))

abbrev pub security_ahead : Option (List ℕ) → (kind : ℕ) → (asked : List ℕ) → Stage → ℕ → List ℕ → Reading (List ℕ)
security_ahead password kind asked s wanted xs = types_ahead password kind s wanted xs >>= challenge_ahead asked s xs

abbrev pub ahead_at : Option (List ℕ) → Stage → (w h rest wanted : ℕ) → List ℕ → Reading Joined
ahead_at password s w h rest wanted xs = version_ahead s xs >>= λ _. security_ahead password 0 [] s wanted xs >>= λ _. result_ahead s xs >>= λ _. init_ahead s w h rest wanted xs

-- A challenge that isn't whole wants a byte, and one that is whole is what was asked.
pub challenge_open : (xs : List ℕ) → length xs < 16 → IsOpen (after (challenge 2) xs)
challenge_open xs lt = subst (λ (r : Reading (List ℕ)). IsOpen (after r xs)) (bind_done (bytes 16)) (field_open 16 Done xs lt)

pub challenge_full : (xs : List ℕ) → length xs ≡ 16 → after (challenge 2) xs ≡ done xs
challenge_full xs full = ap (λ r. after r xs) (sym (bind_done (bytes 16))) ∙ head_full 16 Done xs full

types_open : (p : Option (List ℕ)) (s : Stage) (wanted : ℕ) (xs : List ℕ) → wants_more (types_ahead p 0 s wanted xs) ≡ true → IsOpen (security_ahead p 0 [] s wanted xs >>= λ _. security_result >>= λ _. host_init)
types_open p s wanted xs o = bind_open (security_ahead p 0 [] s wanted xs) (λ _. security_result >>= λ _. host_init) (bind_open (types_ahead p 0 s wanted xs) (challenge_ahead [] s xs) o).wants

-- The part of the handshake in which a stage lies wants a byte at each open stage.
pub opens : (p : Option (List ℕ)) (s : Stage) (w h rest wanted : ℕ) (xs : List ℕ) → FitsStage s wanted rest (length xs) → (is_field s ≡ true → length xs < wanted) → is_open s ≡ true → IsOpen (ahead_at p s w h rest wanted xs)
opens p at.Version w h rest wanted xs f r o =
    bind_open (version_ahead at.Version xs) (λ _. security p >>= λ _. security_result >>= λ _. host_init) (field_open 12 version_judged xs (let lt = r refl in omega (arith, f.0))).wants
opens p at.TypeCount w h rest wanted [] f r o = record { wants = refl; fine = refl; unfinished = refl }
opens p at.TypeCount w h rest wanted (x ∷ xs) f r o = absurd (let lt = r refl in omega (arith, f.0))
opens p at.ReasonLength w h rest wanted xs f r o = types_open p at.ReasonLength wanted xs (field_open 4 reason_length_judged xs (let lt = r refl in omega (arith, f.0))).wants
opens p at.Reason w h rest wanted xs f r o = types_open p at.Reason wanted xs (field_open wanted reason_judged xs (r refl)).wants
opens p at.Types w h rest wanted xs f r o = types_open p at.Types wanted xs (field_open wanted (types_judged p) xs (r refl)).wants
opens p at.Challenge w h rest wanted xs f r o =
    bind_open (after (challenge 2) xs) (λ _. security_result >>= λ _. host_init) (challenge_open xs (let lt = r refl in omega (arith, f.0))).wants
opens p at.SecurityResult w h rest wanted xs f r o =
    bind_open (result_ahead at.SecurityResult xs) (λ _. host_init) (field_open 4 outcome_judged xs (let lt = r refl in omega (arith, f.0))).wants
opens p at.Size w h rest wanted xs f r o = field_open 4 size_judged xs (let lt = r refl in omega (arith, f.0))
opens p at.Format w h rest wanted xs f r o = field_open 16 (λ _. u32 >>= kept_name w h) xs (let lt = r refl in omega (arith, f.0))
opens p at.NameLength w h rest wanted xs f r o = field_open 4 (name_length_judged w h) xs (let lt = r refl in omega (arith, f.0))
opens p at.Name w h rest wanted xs f r o = field_open wanted (name_judged w h rest) xs (r refl)
opens p at.Rest w h zero wanted xs f r o = absurd (omega (arith, f.0))
opens p at.Rest w h (suc rest) wanted xs f r o = record { wants = refl; fine = refl; unfinished = refl }
opens p at.Joined w h rest wanted xs f r o = absurd cc
opens p at.BadVersion w h rest wanted xs f r o = absurd cc
opens p at.Refused w h rest wanted xs f r o = absurd cc
opens p at.NoNone w h rest wanted xs f r o = absurd cc
opens p at.Failed w h rest wanted xs f r o = absurd cc
opens p at.BadScreen w h rest wanted xs f r o = absurd cc

open_talk : (talk : HostTalk) → IsSound talk → is_open talk.stage ≡ true → IsOpen (ahead talk)
open_talk talk s o = opens talk.password talk.stage talk.w talk.h talk.rest talk.wanted talk.field.items s.fits s.room o

closes : (p : Option (List ℕ)) (s : Stage) (w h rest wanted : ℕ) (xs : List ℕ) → is_open s ≡ false → wants_more (ahead_at p s w h rest wanted xs) ≡ false
closes p at.Joined w h rest wanted xs o = refl
closes p at.BadVersion w h rest wanted xs o = refl
closes p at.Refused w h rest wanted xs o = refl
closes p at.NoNone w h rest wanted xs o = refl
closes p at.Failed w h rest wanted xs o = refl
closes p at.BadScreen w h rest wanted xs o = refl
closes p _ w h rest wanted xs o = absurd cc

pub wants_by : (talk : HostTalk) (b : Bool) → IsSound talk → is_open talk.stage ≡ b → b ≡ wants_more (ahead talk)
wants_by talk true s o = sym (open_talk talk s o).wants
wants_by talk false s o = sym (closes talk.password talk.stage talk.w talk.h talk.rest talk.wanted talk.field.items o)

fine_at : (p : Option (List ℕ)) (s : Stage) (w h rest wanted : ℕ) (xs : List ℕ) (b : Bool) → is_open s ≡ b → FitsStage s wanted rest (length xs) → (is_field s ≡ true → length xs < wanted)
    → s ≢ at.BadVersion → s ≢ at.Refused → s ≢ at.NoNone → s ≢ at.Failed → s ≢ at.BadScreen → fault_of (ahead_at p s w h rest wanted xs) ≡ None
fine_at p s w h rest wanted xs true o f r n1 n2 n3 n4 n5 = (opens p s w h rest wanted xs f r o).fine
fine_at p at.Joined w h rest wanted xs false o f r n1 n2 n3 n4 n5 = refl
fine_at p at.BadVersion w h rest wanted xs false o f r n1 n2 n3 n4 n5 = absurd (n1 refl)
fine_at p at.Refused w h rest wanted xs false o f r n1 n2 n3 n4 n5 = absurd (n2 refl)
fine_at p at.NoNone w h rest wanted xs false o f r n1 n2 n3 n4 n5 = absurd (n3 refl)
fine_at p at.Failed w h rest wanted xs false o f r n1 n2 n3 n4 n5 = absurd (n4 refl)
fine_at p at.BadScreen w h rest wanted xs false o f r n1 n2 n3 n4 n5 = absurd (n5 refl)
fine_at p _ w h rest wanted xs false o f r n1 n2 n3 n4 n5 = absurd cc

pub no_fault : (talk : HostTalk) → IsSound talk → talk.stage ≢ at.BadVersion → talk.stage ≢ at.Refused → talk.stage ≢ at.NoNone → talk.stage ≢ at.Failed → talk.stage ≢ at.BadScreen → fault_of (ahead talk) ≡ None
no_fault talk s n1 n2 n3 n4 n5 = fine_at talk.password talk.stage talk.w talk.h talk.rest talk.wanted talk.field.items (is_open talk.stage) refl s.fits s.room n1 n2 n3 n4 n5

whole_at : (p : Option (List ℕ)) (s : Stage) (w h rest wanted : ℕ) (xs : List ℕ) (b : Bool) → is_open s ≡ b → FitsStage s wanted rest (length xs) → (is_field s ≡ true → length xs < wanted) → s ≢ at.Joined → whole_of (ahead_at p s w h rest wanted xs) ≡ None
whole_at p s w h rest wanted xs true o f r n = (opens p s w h rest wanted xs f r o).unfinished
whole_at p at.Joined w h rest wanted xs false o f r n = absurd (n refl)
whole_at p at.BadVersion w h rest wanted xs false o f r n = refl
whole_at p at.Refused w h rest wanted xs false o f r n = refl
whole_at p at.NoNone w h rest wanted xs false o f r n = refl
whole_at p at.Failed w h rest wanted xs false o f r n = refl
whole_at p at.BadScreen w h rest wanted xs false o f r n = refl
whole_at p _ w h rest wanted xs false o f r n = absurd cc

pub not_whole : (talk : HostTalk) → IsSound talk → talk.stage ≢ at.Joined → whole_of (ahead talk) ≡ None
not_whole talk s n = whole_at talk.password talk.stage talk.w talk.h talk.rest talk.wanted talk.field.items (is_open talk.stage) refl s.fits s.room n
