-- A payload is read byte by byte.
use Rattle.std.proofs.Common.{◌≡◌, ℕ, zero, suc, ◌+◌, ◌-◌, ◌%◌, ◌≤◌, true, List, [], ◌∷◌, ◌++◌, length, get_or, bit_xor, refl, sym, ap, subst, ◌∙◌, arith, length-append}
use Rattle.std.specs.Prelude.{nat_lt}
use lib.Bits.{xor_assoc, xor_self, xor_zero_r}
use Rattle.websocket.specs.Mask.{mask_from}
use Rattle.websocket.proofs.DecodeLemmas.{eqb_false, ltb_true}
use Rattle.web_frames.specs.declared.position.Position.TheVariants.{Head, Payload, Ended}
use Rattle.web_frames.specs.declared.position.FrameKind.TheVariants.{Data, Ping, Pong, Close}
use Rattle.web_frames.specs.Frames.{Standing, at_end, after_byte, after_bytes, data_in}

-- In a payload of data.
abbrev pub in_data : Standing → (key : List ℕ) → (turn left : ℕ) → Standing
in_data s key turn left = record s { position = Payload Data; key = key; turn = turn; left = left }

pub goes_on : (s : Standing) (key : List ℕ) (turn left : ℕ) → 1 ≤ left → at_end (in_data s key turn left) ≡ in_data s key turn left
goes_on s key turn left some = rw (eqb_false left 0 some)

back : (b k : ℕ) → bit_xor (bit_xor b k) k ≡ b
back b k = rw (xor_assoc, xor_self, xor_zero_r)

-- What the peer masked is had again. Reading stands further on, or behind the frame.
pub data_reads : (s : Standing) (key : List ℕ) (i left : ℕ) (x : ℕ) (xs : List ℕ) → length (x ∷ xs) ≤ left
    → (data_in (in_data s key (i % 4) left) (mask_from key i (x ∷ xs)) ≡ x ∷ xs)
    × (after_bytes (in_data s key (i % 4) left) (mask_from key i (x ∷ xs)) ≡ at_end (in_data s key ((i + length (x ∷ xs)) % 4) (left - length (x ∷ xs))))
unfolding mask_from
data_reads s key i left x [] short = (ap (λ y. y ∷ []) (back x (get_or key (i % 4) 0)), ap (λ t. at_end (in_data s key t (left - 1))) (omega arith))
data_reads s key i left x (y ∷ ys) short =
    let turned : (i % 4 + 1) % 4 ≡ (i + 1) % 4 = omega arith in
    let next : at_end (in_data s key ((i % 4 + 1) % 4) (left - 1)) ≡ in_data s key ((i + 1) % 4) (left - 1) = goes_on s key ((i % 4 + 1) % 4) (left - 1) (omega arith) ∙ ap (λ t. in_data s key t (left - 1)) turned in
    let more = data_reads s key (i + 1) (left - 1) y ys (omega arith) in
    let place : (i + 1 + length (y ∷ ys)) % 4 ≡ (i + length (x ∷ y ∷ ys)) % 4 = ap (λ m. m % 4) (omega arith) in
    let count : left - 1 - length (y ∷ ys) ≡ left - length (x ∷ y ∷ ys) = omega arith in (
      ap (λ (z : ℕ). z ∷ data_in (at_end (in_data s key ((i % 4 + 1) % 4) (left - 1))) (mask_from key (i + 1) (y ∷ ys))) (back x (get_or key (i % 4) 0))
          ∙ (ap (λ (t : Standing). x ∷ data_in t (mask_from key (i + 1) (y ∷ ys))) next ∙ ap (λ zs. x ∷ zs) more.0),
      ap (λ (t : Standing). after_bytes t (mask_from key (i + 1) (y ∷ ys))) next
          ∙ (more.1 ∙ (ap (λ t. at_end (in_data s key t (left - 1 - length (y ∷ ys)))) place ∙ ap (λ m. at_end (in_data s key ((i + length (x ∷ y ∷ ys)) % 4) m)) count)),
    )

-- A server masks nothing: the key 0 changes no byte.
abbrev pub no_key : List ℕ
no_key = 0 ∷ 0 ∷ 0 ∷ 0 ∷ []

zero_at : (t : ℕ) → get_or no_key t 0 ≡ 0
zero_at zero = refl
zero_at (suc zero) = refl
zero_at (suc (suc zero)) = refl
zero_at (suc (suc (suc zero))) = refl
zero_at (suc (suc (suc (suc t)))) = refl

pub unmasked-no_key : (i : ℕ) (xs : List ℕ) → mask_from no_key i xs ≡ xs
unfolding mask_from
unmasked-no_key i [] = refl
unmasked-no_key i (x ∷ xs) = ap (λ y. y ∷ mask_from no_key (i + 1) xs) (ap (bit_xor x) (zero_at (i % 4)) ∙ xor_zero_r x) ∙ ap (λ ys. x ∷ ys) (unmasked-no_key (i + 1) xs)

zero_mask : (x turn : ℕ) → bit_xor x (get_or no_key turn 0) ≡ x
zero_mask x turn = ap (bit_xor x) (zero_at turn) ∙ xor_zero_r x

-- What a server says is read as it is.
pub zero_reads : (s : Standing) (turn left x : ℕ) (xs : List ℕ) → length (x ∷ xs) ≤ left
    → (t : ℕ) × (data_in (in_data s no_key turn left) (x ∷ xs) ≡ x ∷ xs) × (after_bytes (in_data s no_key turn left) (x ∷ xs) ≡ at_end (in_data s no_key t (left - length (x ∷ xs))))
zero_reads s turn left x [] short = ((turn + 1) % 4, ap (λ y. y ∷ []) (zero_mask x turn), refl)
zero_reads s turn left x (y ∷ ys) short =
    let next : at_end (in_data s no_key ((turn + 1) % 4) (left - 1)) ≡ in_data s no_key ((turn + 1) % 4) (left - 1) = goes_on s no_key ((turn + 1) % 4) (left - 1) (omega arith) in
    let more = zero_reads s ((turn + 1) % 4) (left - 1) y ys (omega arith) in
    let count : left - 1 - length (y ∷ ys) ≡ left - length (x ∷ y ∷ ys) = omega arith in (
      more.0,
      ap (λ (z : ℕ). z ∷ data_in (at_end (in_data s no_key ((turn + 1) % 4) (left - 1))) (y ∷ ys)) (zero_mask x turn)
          ∙ (ap (λ (t : Standing). x ∷ data_in t (y ∷ ys)) next ∙ ap (λ zs. x ∷ zs) more.1),
      ap (λ (t : Standing). after_bytes t (y ∷ ys)) next ∙ (more.2 ∙ ap (λ m. at_end (in_data s no_key more.0 m)) count),
    )

-- In the payload of a pong.
abbrev pub in_pong : Standing → (turn left : ℕ) → (control : List ℕ) → Standing
in_pong s turn left control = record s { position = Payload Pong; turn = turn; left = left; control = control }

abbrev pub in_ping : Standing → (turn left : ℕ) → (control : List ℕ) → Standing
in_ping s turn left control = record s { position = Payload Ping; turn = turn; left = left; control = control }

abbrev pub in_close : Standing → (turn left : ℕ) → (control : List ℕ) → Standing
in_close s turn left control = record s { position = Payload Close; turn = turn; left = left; control = control }

-- Behind it.
pub record IsBehind (s t : Standing) : Type 0 where
  pub masked : t.masked ≡ s.masked
  pub position : t.position ≡ Head
  pub head : t.head ≡ s.head
  pub begun : t.begun ≡ s.begun

pub pong_reads : (s : Standing) (turn : ℕ) (control : List ℕ) (x : ℕ) (xs : List ℕ) → length control + length (x ∷ xs) ≤ 125
    → IsBehind s (after_bytes (in_pong s turn (length (x ∷ xs)) control) (x ∷ xs)) × (data_in (in_pong s turn (length (x ∷ xs)) control) (x ∷ xs) ≡ [])
pong_reads s turn control x [] short =
    let room : nat_lt (length control) 125 ≡ true = ltb_true (length control) 125 (omega arith) in
    (rw room (record { masked = refl; position = refl; head = refl; begun = refl }), refl)
pong_reads s turn control x (y ∷ ys) short =
    let room : nat_lt (length control) 125 ≡ true = ltb_true (length control) 125 (omega arith) in
    let grown = control ++ bit_xor x (get_or s.key turn 0) ∷ [] in
    let one_less : length (x ∷ y ∷ ys) - 1 ≡ length (y ∷ ys) = omega arith in
    let next : after_byte (in_pong s turn (length (x ∷ y ∷ ys)) control) x ≡ in_pong s ((turn + 1) % 4) (length (y ∷ ys)) grown = rw (room, one_less, eqb_false (length (y ∷ ys)) 0 (omega arith)) in
    let more = pong_reads s ((turn + 1) % 4) grown y ys (omega (arith, short, length-append control (bit_xor x (get_or s.key turn 0) ∷ []))) in
    (subst (λ (t : Standing). IsBehind s (after_bytes t (y ∷ ys))) (sym next) more.0, ap (λ (t : Standing). data_in t (y ∷ ys)) next ∙ more.1)

pub ping_reads : (s : Standing) (turn : ℕ) (control : List ℕ) (x : ℕ) (xs : List ℕ) → length control + length (x ∷ xs) ≤ 125
    → IsBehind s (after_bytes (in_ping s turn (length (x ∷ xs)) control) (x ∷ xs)) × (data_in (in_ping s turn (length (x ∷ xs)) control) (x ∷ xs) ≡ [])
ping_reads s turn control x [] short =
    let room : nat_lt (length control) 125 ≡ true = ltb_true (length control) 125 (omega arith) in
    (rw room (record { masked = refl; position = refl; head = refl; begun = refl }), refl)
ping_reads s turn control x (y ∷ ys) short =
    let room : nat_lt (length control) 125 ≡ true = ltb_true (length control) 125 (omega arith) in
    let grown = control ++ bit_xor x (get_or s.key turn 0) ∷ [] in
    let one_less : length (x ∷ y ∷ ys) - 1 ≡ length (y ∷ ys) = omega arith in
    let next : after_byte (in_ping s turn (length (x ∷ y ∷ ys)) control) x ≡ in_ping s ((turn + 1) % 4) (length (y ∷ ys)) grown = rw (room, one_less, eqb_false (length (y ∷ ys)) 0 (omega arith)) in
    let more = ping_reads s ((turn + 1) % 4) grown y ys (omega (arith, short, length-append control (bit_xor x (get_or s.key turn 0) ∷ []))) in
    (subst (λ (t : Standing). IsBehind s (after_bytes t (y ∷ ys))) (sym next) more.0, ap (λ (t : Standing). data_in t (y ∷ ys)) next ∙ more.1)

pub close_reads : (s : Standing) (turn : ℕ) (control : List ℕ) (x : ℕ) (xs : List ℕ) → length control + length (x ∷ xs) ≤ 125
    → ((after_bytes (in_close s turn (length (x ∷ xs)) control) (x ∷ xs)).position ≡ Ended) × (data_in (in_close s turn (length (x ∷ xs)) control) (x ∷ xs) ≡ [])
close_reads s turn control x [] short =
    let room : nat_lt (length control) 125 ≡ true = ltb_true (length control) 125 (omega arith) in
    (rw room, refl)
close_reads s turn control x (y ∷ ys) short =
    let room : nat_lt (length control) 125 ≡ true = ltb_true (length control) 125 (omega arith) in
    let grown = control ++ bit_xor x (get_or s.key turn 0) ∷ [] in
    let one_less : length (x ∷ y ∷ ys) - 1 ≡ length (y ∷ ys) = omega arith in
    let next : after_byte (in_close s turn (length (x ∷ y ∷ ys)) control) x ≡ in_close s ((turn + 1) % 4) (length (y ∷ ys)) grown = rw (room, one_less, eqb_false (length (y ∷ ys)) 0 (omega arith)) in
    let more = close_reads s ((turn + 1) % 4) grown y ys (omega (arith, short, length-append control (bit_xor x (get_or s.key turn 0) ∷ []))) in
    (subst (λ (t : Standing). (after_bytes t (y ∷ ys)).position ≡ Ended) (sym next) more.0, ap (λ (t : Standing). data_in t (y ∷ ys)) next ∙ more.1)
