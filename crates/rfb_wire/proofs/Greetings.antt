-- How a viewer's handshake goes on after this many bytes of it. `ViewerHello` counts bytes in place of keeping them.
use Rattle.std.proofs.lemmas.Option.{none-some}
use Rattle.std.proofs.Common.{◌≡◌, ℕ, ◌+◌, ◌<◌, ◌≤◌, ◌≢◌, Bool, true, false, not, List, [], ◌∷◌, ◌++◌, length, take, drop, get_or, Option, Some, None, inl, inr, eq-eqb, length-drop, append_assoc, refl, sym, ap, ◌∙◌, arith}
use Rattle.std.specs.Prelude.{◌==◌, nat_eq, is_some, is_none}
use Rattle.std.specs.List.{starts_with}
use Rattle.std.proofs.lemmas.Bool.{ne_eqb, cases_lt}
use Rattle.std.proofs.lemmas.List.{take_more}
use Rattle.std.proofs.Math.Seq.{drop-cons}
use Rattle.byte_reading.specs.Reading.{Reading, Done, Faulty, Want, ◌>>=◌, byte, unless, step, after, whole_of, fault_of, wants_more}
use Rattle.fault.specs.declared.kinds.Fault.{Fault}
use Rattle.fault.specs.declared.kinds.Fault.TheVariants.{BadVersion, BadChoice}
use Rattle.byte_reading.proofs.ReadingLaws.{after-append, after-done, after-faulty}
use Rattle.rfb_wire.specs.Greeting.{Greeting, ahead}
use Rattle.rfb_wire.specs.Handshake.{version, is_version, viewer_choice, viewer_hello}

-- A byte is wanted unless this many have come; and then it is whole.
pub record IsSoFar (r : Reading (Unit {0})) (count most : ℕ) : Type 0 where
  pub open_ : count < most → (wants_more r ≡ true) × (is_some (whole_of r) ≡ false)
  pub over : most ≤ count → (wants_more r ≡ false) × (is_some (whole_of r) ≡ true)

abbrev behind_choice : Reading (Unit {0})
behind_choice = byte >>= λ shared. Done tt

abbrev behind_version : Reading (Unit {0})
behind_version = viewer_choice >>= λ _. behind_choice

unless_then : {A : Type 0} (b : Bool) (f : Fault) (next : Unit {0} → Reading A) → (unless b f (Done tt) >>= next) ≡ unless b f (next tt)
unless_then true f next = refl
unless_then false f next = refl

choice_so_far : (b : Bool) (ys : List ℕ) → length ys ≤ 1 → fault_of (after (unless (not b) BadChoice behind_choice) ys) ≡ None → IsSoFar (after (unless (not b) BadChoice behind_choice) ys) (length ys) 1
choice_so_far false ys le e = absurd (none-some BadChoice (sym e ∙ ap fault_of (after-faulty {A = Unit {0}} BadChoice ys)))
choice_so_far true [] le e = record { open_ = λ lt. (refl, refl); over = λ all. absurd (omega arith) }
choice_so_far true (s ∷ []) le e = record { open_ = λ lt. absurd (omega arith); over = λ all. (refl, refl) }
choice_so_far true (s ∷ t ∷ ys) le e = absurd (omega arith)

-- The choice that has come is judged.
choice_is : (c : ℕ) (ys : List ℕ) → after behind_version (c ∷ ys) ≡ after (unless (not (c == 1)) BadChoice behind_choice) ys
choice_is c ys = ap (λ r. after r ys) (unless_then (not (c == 1)) BadChoice (λ _. behind_choice))

version_so_far : (b : Bool) (ys : List ℕ) → length ys ≤ 2 → fault_of (after (unless (not b) BadVersion behind_version) ys) ≡ None → IsSoFar (after (unless (not b) BadVersion behind_version) ys) (length ys) 2
version_so_far false ys le e = absurd (none-some BadVersion (sym e ∙ ap fault_of (after-faulty {A = Unit {0}} BadVersion ys)))
version_so_far true [] le e = record { open_ = λ lt. (refl, refl); over = λ all. absurd (omega arith) }
version_so_far true (c ∷ ys) le e =
    let s = choice_so_far (c == 1) ys (omega arith) (sym (ap fault_of (choice_is c ys)) ∙ e) in
    rw (choice_is c ys) (record { open_ = λ lt. s.open_ (omega arith); over = λ all. s.over (omega arith) })

-- The version that has come is judged.
pub version_is : (xs : List ℕ) → 12 ≤ length xs → after viewer_hello xs ≡ after (unless (not (is_version xs)) BadVersion behind_version) (drop 12 xs)
version_is [] le = absurd (omega arith)
version_is (a ∷ []) le = absurd (omega arith)
version_is (a ∷ b ∷ []) le = absurd (omega arith)
version_is (a ∷ b ∷ c ∷ []) le = absurd (omega arith)
version_is (a ∷ b ∷ c ∷ d ∷ []) le = absurd (omega arith)
version_is (a ∷ b ∷ c ∷ d ∷ e ∷ []) le = absurd (omega arith)
version_is (a ∷ b ∷ c ∷ d ∷ e ∷ f ∷ []) le = absurd (omega arith)
version_is (a ∷ b ∷ c ∷ d ∷ e ∷ f ∷ g ∷ []) le = absurd (omega arith)
version_is (a ∷ b ∷ c ∷ d ∷ e ∷ f ∷ g ∷ h ∷ []) le = absurd (omega arith)
version_is (a ∷ b ∷ c ∷ d ∷ e ∷ f ∷ g ∷ h ∷ i ∷ []) le = absurd (omega arith)
version_is (a ∷ b ∷ c ∷ d ∷ e ∷ f ∷ g ∷ h ∷ i ∷ j ∷ []) le = absurd (omega arith)
version_is (a ∷ b ∷ c ∷ d ∷ e ∷ f ∷ g ∷ h ∷ i ∷ j ∷ k ∷ []) le = absurd (omega arith)
version_is (a ∷ b ∷ c ∷ d ∷ e ∷ f ∷ g ∷ h ∷ i ∷ j ∷ k ∷ l ∷ ys) le =
    ap (λ r. after r ys) (unless_then (not (is_version (a ∷ b ∷ c ∷ d ∷ e ∷ f ∷ g ∷ h ∷ i ∷ j ∷ k ∷ l ∷ []))) BadVersion (λ _. behind_version))

-- Before it has come nothing is at fault.
pub version_open : (xs : List ℕ) → length xs < 12 → (wants_more (after viewer_hello xs) ≡ true) × (fault_of (after viewer_hello xs) ≡ None) × (whole_of (after viewer_hello xs) ≡ None)
version_open [] lt = (refl, refl, refl)
version_open (a ∷ []) lt = (refl, refl, refl)
version_open (a ∷ b ∷ []) lt = (refl, refl, refl)
version_open (a ∷ b ∷ c ∷ []) lt = (refl, refl, refl)
version_open (a ∷ b ∷ c ∷ d ∷ []) lt = (refl, refl, refl)
version_open (a ∷ b ∷ c ∷ d ∷ e ∷ []) lt = (refl, refl, refl)
version_open (a ∷ b ∷ c ∷ d ∷ e ∷ f ∷ []) lt = (refl, refl, refl)
version_open (a ∷ b ∷ c ∷ d ∷ e ∷ f ∷ g ∷ []) lt = (refl, refl, refl)
version_open (a ∷ b ∷ c ∷ d ∷ e ∷ f ∷ g ∷ h ∷ []) lt = (refl, refl, refl)
version_open (a ∷ b ∷ c ∷ d ∷ e ∷ f ∷ g ∷ h ∷ i ∷ []) lt = (refl, refl, refl)
version_open (a ∷ b ∷ c ∷ d ∷ e ∷ f ∷ g ∷ h ∷ i ∷ j ∷ []) lt = (refl, refl, refl)
version_open (a ∷ b ∷ c ∷ d ∷ e ∷ f ∷ g ∷ h ∷ i ∷ j ∷ k ∷ []) lt = (refl, refl, refl)
version_open (a ∷ b ∷ c ∷ d ∷ e ∷ f ∷ g ∷ h ∷ i ∷ j ∷ k ∷ l ∷ ys) lt = absurd (omega arith)

-- Where nothing is at fault, the handshake wants a byte until it has fourteen.
pub greeting_so_far : (xs : List ℕ) → length xs ≤ 14 → fault_of (after viewer_hello xs) ≡ None → IsSoFar (after viewer_hello xs) (length xs) 14
greeting_so_far xs le e =
    elim (cases_lt (length xs) 12) [
      | inl lt ↦ let o = version_open xs lt in record { open_ = λ _. (o.0, ap is_some o.2); over = λ all. absurd (omega arith) }
      | inr ge ↦ let rest : length (drop 12 xs) + 12 ≡ length xs = omega (arith, length-drop 12 xs) in
          let s = version_so_far (is_version xs) (drop 12 xs) (omega arith) (sym (ap fault_of (version_is xs ge)) ∙ e) in
          rw (version_is xs ge) (record { open_ = λ lt. s.open_ (omega arith); over = λ all. s.over (omega arith) })
    ]

fault_stops : (r : Reading (Unit {0})) (f : Fault) → fault_of r ≡ Some f → (wants_more r ≡ false) × (is_some (whole_of r) ≡ false)
fault_stops (Done x) f e = absurd cc
fault_stops (Faulty g) f e = (refl, refl)
fault_stops (Want more) f e = absurd cc

-- Where no byte is to come, no byte is wanted.
pub greeting_stops : (xs : List ℕ) (o : Option Fault) → fault_of (after viewer_hello xs) ≡ o → length xs ≤ 14 → 14 ≤ length xs → wants_more (after viewer_hello xs) ≡ false
greeting_stops xs None e le ge = ((greeting_so_far xs le e).over ge).0
greeting_stops xs (Some f) e le ge = (fault_stops (after viewer_hello xs) f e).0

-- Whether another is wanted, and whether it is whole, by the fault and by how many have come.
pub greeting_wants : (xs : List ℕ) (o : Option Fault) → fault_of (after viewer_hello xs) ≡ o → length xs < 14 → is_none o ≡ wants_more (after viewer_hello xs)
greeting_wants xs None e lt = sym ((greeting_so_far xs (omega arith) e).open_ lt).0
greeting_wants xs (Some f) e lt = sym (fault_stops (after viewer_hello xs) f e).0

pub greeting_whole : (xs : List ℕ) (o : Option Fault) → fault_of (after viewer_hello xs) ≡ o → length xs ≡ 14 → is_none o ≡ is_some (whole_of (after viewer_hello xs))
greeting_whole xs None e full = sym ((greeting_so_far xs (omega arith) e).over (omega arith)).1
greeting_whole xs (Some f) e full = sym (fault_stops (after viewer_hello xs) f e).1

pub greeting_not_whole : (xs : List ℕ) (o : Option Fault) → fault_of (after viewer_hello xs) ≡ o → length xs < 14 → false ≡ is_some (whole_of (after viewer_hello xs))
greeting_not_whole xs None e lt = sym ((greeting_so_far xs (omega arith) e).open_ lt).1
greeting_not_whole xs (Some f) e lt = sym (fault_stops (after viewer_hello xs) f e).1

-- ---- by the tests on what has come

pub bad_version : (begun : List ℕ) → 12 ≤ length begun → starts_with nat_eq begun version ≡ false → after viewer_hello begun ≡ Faulty BadVersion
bad_version begun ge e =
    version_is begun ge ∙ (ap (λ b. after (unless (not b) BadVersion behind_version) (drop 12 begun)) e ∙ after-faulty BadVersion (drop 12 begun))

good_version : (begun : List ℕ) → 12 ≤ length begun → starts_with nat_eq begun version ≡ true → after viewer_hello begun ≡ after behind_version (drop 12 begun)
good_version begun ge e = version_is begun ge ∙ ap (λ b. after (unless (not b) BadVersion behind_version) (drop 12 begun)) e

with_choice : (begun : List ℕ) → 13 ≤ length begun → starts_with nat_eq begun version ≡ true → after viewer_hello begun ≡ after (unless (not (get_or begun 12 0 == 1)) BadChoice behind_choice) (drop 13 begun)
with_choice begun ge e =
    let next : drop 12 begun ≡ get_or begun 12 0 ∷ drop 13 begun = drop-cons begun 12 0 (omega (arith, ge)) in
    good_version begun (omega (arith, ge)) e ∙ (ap (after behind_version) next ∙ choice_is (get_or begun 12 0) (drop 13 begun))

pub bad_choice : (begun : List ℕ) → 13 ≤ length begun → starts_with nat_eq begun version ≡ true → get_or begun 12 0 ≢ 1 → after viewer_hello begun ≡ Faulty BadChoice
bad_choice begun ge e n =
    with_choice begun ge e ∙ (ap (λ b. after (unless (not b) BadChoice behind_choice) (drop 13 begun)) (ne_eqb (get_or begun 12 0) 1 n) ∙ after-faulty BadChoice (drop 13 begun))

behind_choice_fine : (ys : List ℕ) → fault_of (after behind_choice ys) ≡ None
behind_choice_fine [] = refl
behind_choice_fine (s ∷ ys) = ap fault_of (after-done tt ys)

behind_version_fine : (ys : List ℕ) → length ys ≡ 0 → fault_of (after behind_version ys) ≡ None
behind_version_fine [] e = refl
behind_version_fine (c ∷ ys) e = absurd (omega arith)

pub no_fault : (begun : List ℕ) → (12 ≤ length begun → starts_with nat_eq begun version ≡ true) → (13 ≤ length begun → get_or begun 12 0 ≡ 1) → fault_of (after viewer_hello begun) ≡ None
no_fault begun version_good choice_good =
    elim (cases_lt (length begun) 12) [
      | inl lt ↦ (version_open begun lt).1
      | inr ge ↦ elim (cases_lt (length begun) 13) [
        | inl lt ↦ let none : length (drop 12 begun) ≡ 0 = omega (arith, length-drop 12 begun) in ap fault_of (good_version begun ge (version_good ge)) ∙ behind_version_fine (drop 12 begun) none
        | inr more ↦ ap fault_of (with_choice begun more (version_good ge)) ∙ (ap (λ b. fault_of (after (unless (not b) BadChoice behind_choice) (drop 13 begun))) (eq-eqb (get_or begun 12 0) 1 (choice_good more)) ∙ behind_choice_fine (drop 13 begun))
      ]
    ]

-- The same of bytes that are what has come.
pub fault_seen : (seen begun : List ℕ) {f : Fault} → seen ≡ begun → after viewer_hello seen ≡ Faulty f → Some f ≡ fault_of (after viewer_hello begun)
fault_seen seen begun same e = sym (ap fault_of e) ∙ ap (λ xs. fault_of (after viewer_hello xs)) same

pub none_seen : (seen begun : List ℕ) → seen ≡ begun → fault_of (after viewer_hello seen) ≡ None → None ≡ fault_of (after viewer_hello begun)
none_seen seen begun same e = sym e ∙ ap (λ xs. fault_of (after viewer_hello xs)) same

pub none_is : (o : Option Fault) (b : Bool) → is_some o ≡ not b → b ≡ is_none o
none_is None true e = refl
none_is None false e = absurd cc
none_is (Some f) true e = absurd cc
none_is (Some f) false e = refl

pub wants_until : (xs : List ℕ) → length xs ≤ 14 → wants_more (after viewer_hello xs) ≡ true → length xs < 14
wants_until xs le w =
    elim (cases_lt (length xs) 14) [
      | inl lt ↦ lt
      | inr ge ↦ let e : false ≡ true = sym (greeting_stops xs (fault_of (after viewer_hello xs)) refl le ge) ∙ w in absurd cc
    ]

-- ---- one byte more of a piece

pub greeting_steps : (g : Greeting) (b : ℕ) → after viewer_hello (g.begun ++ b ∷ []) ≡ step (ahead g) b
greeting_steps g b = after-append viewer_hello g.begun (b ∷ [])

-- The greeting that has taken this many bytes of a piece takes the next.
pub greeting_grows : (start now new : Greeting) (piece : List ℕ) (i : ℕ) → now ≡ record start { begun = start.begun ++ take i piece } → new ≡ record now { begun = now.begun ++ get_or piece i 0 ∷ [] } → i < length piece
    → new ≡ record start { begun = start.begun ++ take (i + 1) piece }
greeting_grows start now new piece i e f lt =
    let b : ℕ = get_or piece i 0 in
    let with_begun : List ℕ → Greeting = λ t. record start { begun = t } in
    let grown : (start.begun ++ take i piece) ++ b ∷ [] ≡ start.begun ++ take (i + 1) piece = append_assoc start.begun (take i piece) (b ∷ []) ∙ ap (λ t. start.begun ++ t) (sym (take_more piece i 0 lt)) in
    f ∙ (ap (λ (v : Greeting). record v { begun = v.begun ++ b ∷ [] }) e ∙ ap with_begun grown)

pub not_some : (o : Option Fault) → is_some o ≡ false → o ≡ None
not_some None e = refl
not_some (Some f) e = absurd cc
