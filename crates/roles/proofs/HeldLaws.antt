-- What is kept of a viewer's input, key by key and message by message. `Held` keeps that in place of the messages.
use Rattle.std.proofs.Common.{◌≡◌, ℕ, ◌<◌, Bool, true, false, cond, List, [], ◌∷◌, ◌++◌, length, map, nat_lt, Option, Some, None, refl, ap, sym, ◌∙◌, arith}
use Rattle.std.specs.List.{prefix_len, insert, remove, filter_map, cons_option}
use Rattle.std.proofs.lemmas.Bool.Decides.{nat_tests}
use Rattle.std.proofs.lemmas.List.{append-nil}
use Rattle.rfb_wire.specs.ClientMessage.{ClientMessage}
use Rattle.roles.specs.declared.role.Role.{Role}
use Rattle.roles.specs.declared.role.Role.TheVariants.{Full, View}
use Rattle.roles.specs.Allowed.{Input, Key, Pointer, Cut, input_of, is_down, passes, keys_after, passing, keys_down, last_pointer, releases, allowed}
use Rattle.roles.specs.Held.{Kept, HeldStands, is_rising, passes_if, kept_with, kept_after, passed_if, left_in, pointer_left}
use Rattle.roles.proofs.Keys.{with_same, with_new, without_same, rising_with, rising_filter}

-- ---- a key that is pressed or released

pub press_same : (h : Kept) (key : ℕ) → is_rising h.keys ≡ true → is_down key h.keys ≡ true → h ≡ kept_after h (Some (Key true key))
press_same h key r down = rw (down, with_same key h.keys r down) refl

pub press_new : (h : Kept) (key n : ℕ) (new : List ℕ) → is_down key h.keys ≡ false → length h.keys < 64 → n ≡ prefix_len (λ k. nat_lt k key) h.keys → new ≡ insert h.keys n key
    → record { keys = new; mask = h.mask; x = h.x; y = h.y } ≡ kept_after h (Some (Key true key))
press_new h key n new down lt place e =
    let room : nat_lt (length h.keys) 64 ≡ true = grind (arith, nat_tests) in
    rw (down, room, e, place, sym (with_new key h.keys down)) refl

pub lift_same : (h : Kept) (key n : ℕ) (new : List ℕ) → is_rising h.keys ≡ true → is_down key h.keys ≡ true → n ≡ prefix_len (λ k. nat_lt k key) h.keys → new ≡ remove h.keys n
    → record { keys = new; mask = h.mask; x = h.x; y = h.y } ≡ kept_after h (Some (Key false key))
lift_same h key n new r down place e = rw (down, e, place, sym (without_same key h.keys r down)) refl

pub rising_new : (keys : List ℕ) (key n : ℕ) (new : List ℕ) → is_rising keys ≡ true → is_down key keys ≡ false → n ≡ prefix_len (λ k. nat_lt k key) keys → new ≡ insert keys n key → is_rising new ≡ true
rising_new keys key n new r down place e = rw (e, place, sym (with_new key keys down)) (rising_with key keys r)

pub rising_left : (keys : List ℕ) (key n : ℕ) (new : List ℕ) → is_rising keys ≡ true → is_down key keys ≡ true → n ≡ prefix_len (λ k. nat_lt k key) keys → new ≡ remove keys n → is_rising new ≡ true
rising_left keys key n new r down place e = rw (e, place, sym (without_same key keys r down)) (rising_filter _ keys r)

-- ---- message by message

-- a further input after some
pub passing_more : (keys : List ℕ) (is : List Input) (i : Input) → passing keys (is ++ i ∷ []) ≡ passing keys is ++ cond (passes (keys_down keys (passing keys is)) i) (i ∷ []) []
passing_more keys [] i = passing_one (passes keys i)
  where
    passing_one : (b : Bool) → cond b (i ∷ []) [] ≡ cond b (i ∷ []) []
    passing_one b = refl
passing_more keys (j ∷ js) i = passing_more_one keys j js i (passes keys j) (passing_more (keys_after keys j) js i) (passing_more keys js i)
  where
    passing_more_one : (keys : List ℕ) (j : Input) (js : List Input) (i : Input) (b : Bool)
        → passing (keys_after keys j) (js ++ i ∷ []) ≡ passing (keys_after keys j) js ++ cond (passes (keys_down (keys_after keys j) (passing (keys_after keys j) js)) i) (i ∷ []) []
        → passing keys (js ++ i ∷ []) ≡ passing keys js ++ cond (passes (keys_down keys (passing keys js)) i) (i ∷ []) []
        → cond b (j ∷ passing (keys_after keys j) (js ++ i ∷ [])) (passing keys (js ++ i ∷ []))
        ≡ cond b (j ∷ passing (keys_after keys j) js) (passing keys js) ++ cond (passes (keys_down keys (cond b (j ∷ passing (keys_after keys j) js) (passing keys js))) i) (i ∷ []) []
    passing_more_one keys j js i true e f = ap (λ (zs : List Input). j ∷ zs) e
    passing_more_one keys j js i false e f = f

pub keys_down_more : (keys : List ℕ) (is : List Input) (i : Input) → keys_down keys (is ++ i ∷ []) ≡ keys_after (keys_down keys is) i
keys_down_more keys [] i = refl
keys_down_more keys (j ∷ js) i = keys_down_more (keys_after keys j) js i

pub pointer_more : (last : ℕ × ℕ × ℕ) (is : List Input) (i : Input) → last_pointer last (is ++ i ∷ []) ≡ last_pointer (last_pointer last is) (i ∷ [])
pointer_more last [] i = refl
pointer_more last (Key down key ∷ js) i = pointer_more last js i
pointer_more last (Pointer mask x y ∷ js) i = pointer_more (mask, x, y) js i
pointer_more last (Cut text ∷ js) i = pointer_more last js i

inputs_more : (ms : List ClientMessage) (m : ClientMessage) (o : Option Input) → input_of m ≡ o → filter_map input_of (ms ++ m ∷ []) ≡ filter_map input_of ms ++ passed_if true o
inputs_more [] m None e = rw e refl
inputs_more [] m (Some i) e = rw e refl
inputs_more (n ∷ ns) m o e = inputs_one (input_of n) (filter_map input_of ns) (filter_map input_of (ns ++ m ∷ [])) (passed_if true o) (inputs_more ns m o e)
  where
    inputs_one : (p : Option Input) (xs ys zs : List Input) → ys ≡ xs ++ zs → cons_option p ys ≡ cons_option p xs ++ zs
    inputs_one None xs ys zs e = e
    inputs_one (Some i) xs ys zs e = ap (λ (qs : List Input). i ∷ qs) e

-- what passes after a message more
allowed_full : (ms : List ClientMessage) (m : ClientMessage) (o : Option Input) → input_of m ≡ o
    → allowed Full (ms ++ m ∷ []) false ≡ allowed Full ms false ++ passed_if (passes_if (keys_down [] (allowed Full ms false)) o) o
allowed_full ms m None e =
    let is : List Input = filter_map input_of ms in
    let same : filter_map input_of (ms ++ m ∷ []) ≡ is = inputs_more ms m None e ∙ append-nil is in
    rw same (let nil : (passing [] is ++ []) ++ [] ≡ passing [] is ++ [] = append-nil (passing [] is ++ []) in sym nil)
allowed_full ms m (Some i) e =
    let is : List Input = filter_map input_of ms in
    let more : filter_map input_of (ms ++ m ∷ []) ≡ is ++ i ∷ [] = inputs_more ms m (Some i) e in
    rw (more, append-nil (passing [] is), append-nil (passing [] (is ++ i ∷ []))) (passing_more [] is i)

-- of a viewer in full control what is kept stands for the messages with one more
stands_if : (h : Kept) (is : List Input) (o : Option Input) → h.keys ≡ keys_down [] is → (h.mask, h.x, h.y) ≡ last_pointer (0, 0, 0) is
    → ((kept_after h o).keys ≡ keys_down [] (is ++ passed_if (passes_if h.keys o) o))
    × (((kept_after h o).mask, (kept_after h o).x, (kept_after h o).y) ≡ last_pointer (0, 0, 0) (is ++ passed_if (passes_if h.keys o) o))
stands_if h is None k p = rw (append-nil is) (k, p)
stands_if h is (Some i) k p = stands_one (passes h.keys i)
  where
    stands_with : (i : Input) → ((kept_with h i).keys ≡ keys_down [] (is ++ i ∷ [])) × (((kept_with h i).mask, (kept_with h i).x, (kept_with h i).y) ≡ last_pointer (0, 0, 0) (is ++ i ∷ []))
    stands_with (Key down key) = (ap (λ ks. keys_after ks (Key down key)) k ∙ sym (keys_down_more [] is (Key down key)), p ∙ sym (pointer_more (0, 0, 0) is (Key down key)))
    stands_with (Pointer mask x y) = (k ∙ sym (keys_down_more [] is (Pointer mask x y)), sym (pointer_more (0, 0, 0) is (Pointer mask x y)))
    stands_with (Cut text) = (k ∙ sym (keys_down_more [] is (Cut text)), p ∙ sym (pointer_more (0, 0, 0) is (Cut text)))

    stands_one : (b : Bool) → ((cond b (kept_with h i) h).keys ≡ keys_down [] (is ++ cond b (i ∷ []) []))
        × (((cond b (kept_with h i) h).mask, (cond b (kept_with h i) h).x, (cond b (kept_with h i) h).y) ≡ last_pointer (0, 0, 0) (is ++ cond b (i ∷ []) []))
    stands_one true = stands_with i
    stands_one false = rw (append-nil is) (k, p)

pub full_stands : (h new : Kept) (ms : List ClientMessage) (m : ClientMessage) → new ≡ kept_after h (input_of m) → HeldStands Full h ms → HeldStands Full new (ms ++ m ∷ [])
full_stands h new ms m e stands =
    let both = stands_if h (allowed Full ms false) (input_of m) stands.keys stands.pointer in
    let grown = allowed_full ms m (input_of m) refl in
    let same : passes_if (keys_down [] (allowed Full ms false)) (input_of m) ≡ passes_if h.keys (input_of m) = ap (λ ks. passes_if ks (input_of m)) (sym stands.keys) in
    record { keys = rw (e, grown, same) both.0; pointer = rw (e, grown, same) both.1 }

pub full_allowed : (h : Kept) (pass : Bool) (ms : List ClientMessage) (m : ClientMessage) → pass ≡ passes_if h.keys (input_of m) → HeldStands Full h ms
    → allowed Full (ms ++ m ∷ []) false ≡ allowed Full ms false ++ passed_if pass (input_of m)
full_allowed h pass ms m e stands =
    let same : passes_if (keys_down [] (allowed Full ms false)) (input_of m) ≡ pass = ap (λ ks. passes_if ks (input_of m)) (sym stands.keys) ∙ sym e in
    allowed_full ms m (input_of m) refl ∙ ap (λ b. allowed Full ms false ++ passed_if b (input_of m)) same

-- ---- where the viewer leaves

none_left : (h : Kept) → h.keys ≡ [] → (h.mask, h.x, h.y) ≡ last_pointer (0, 0, 0) [] → left_in h ≡ []
none_left h k p = ap (λ (ks : List ℕ). map (λ key. Key false key) ks ++ pointer_left (h.mask, h.x, h.y)) k ∙ ap (λ (q : ℕ × ℕ × ℕ). pointer_left q) p

pub all_released : (role : Role) (h : Kept) (ms : List ClientMessage) → HeldStands role h ms → allowed role ms true ≡ allowed role ms false ++ left_in h
all_released View h ms stands = sym (none_left h stands.keys stands.pointer)
all_released Full h ms stands =
    let passed : List Input = passing [] (filter_map input_of ms) in
    let nil : passed ++ [] ≡ passed = append-nil passed in
    let keys : h.keys ≡ keys_down [] passed = stands.keys ∙ ap (keys_down []) nil in
    let pointer : (h.mask, h.x, h.y) ≡ last_pointer (0, 0, 0) passed = stands.pointer ∙ ap (last_pointer (0, 0, 0)) nil in
    let left : left_in h ≡ releases passed = ap (λ (ks : List ℕ). map (λ key. Key false key) ks ++ pointer_left (h.mask, h.x, h.y)) keys ∙ ap (λ (q : ℕ × ℕ × ℕ). map (λ key. Key false key) (keys_down [] passed) ++ pointer_left q) pointer in
    rw (nil, left) refl
