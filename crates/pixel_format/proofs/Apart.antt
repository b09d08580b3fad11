-- A format keeps colours apart exactly where each channel has 8 bits or more. `Format::keeps_apart` answers it.
use Rattle.std.proofs.Common.{◌≡◌, ℕ, ◌+◌, ◌*◌, ◌/◌, ◌^◌, ◌<◌, ◌≤◌, ◌∙◌, ap, sym, arith, inl, inr}
use Rattle.std.specs.Prelude.{◌⊎◌, ◌↔◌}
use Rattle.std.proofs.lemmas.Bool.{cases_lt}
use Rattle.std.proofs.lemmas.Nat.{pow-add, pow_pos}
use Rattle.std.proofs.Math.Nat.{mul-le-mul_right, zero-mul}
use Rattle.std.proofs.Math.Pow.{pow_mono}
use Rattle.pixel_format.specs.PixelFormat.{PixelFormat, Channel, KeepsApart, IsAccepted, tint, on_channel, red_of, green_of, blue_of, channel_size}
use Rattle.pixel_format.proofs.Tints.{LiesIn, parts_of, apart, size_is, shifted_within, scaled_within}

-- ---- what lies below a power of two and what lies above it

less_of : (p a b c d : ℕ) → a < p → b < d → a + b * p ≡ c + d * p → ⊥
less_of p a b c d la lt e =
    let up : (b + 1) * p ≤ d * p = mul-le-mul_right p (omega arith) in
    let more : (b + 1) * p ≡ b * p + p = omega arith in
    absurd (omega (arith, up, more))

above_same : (p a b c d : ℕ) → a < p → c < p → a + b * p ≡ c + d * p → b ≡ d
above_same p a b c d la lc e =
    elim (cases_lt b d) [
      | inl lt ↦ absurd (less_of p a b c d la lt e)
      | inr ge ↦ elim (cases_lt d b) [
        | inl lt ↦ absurd (less_of p c d a b lc lt (sym e))
        | inr le ↦ omega arith
      ]
    ]

two_same : (p a b c d : ℕ) → a < p → c < p → a + b * p ≡ c + d * p → (a ≡ c) × (b ≡ d)
two_same p a b c d la lc e =
    let above : b ≡ d = above_same p a b c d la lc e in
    let shifted : b * p ≡ d * p = ap (λ n. n * p) above in
    (omega (arith, shifted), above)

-- Three numbers, of which each ends below the power of two at which the next begins.
three_same : (p q t a b c d e f : ℕ) → 0 < p → a * p + p ≤ q → d * p + p ≤ q → b * q + q ≤ t → e * q + q ≤ t → a * p + b * q + c * t ≡ d * p + e * q + f * t → (a ≡ d) × (b ≡ e) × (c ≡ f)
three_same p q t a b c d e f lp la ld lb le same =
    let outer = two_same t (a * p + b * q) c (d * p + e * q) f (omega arith) (omega arith) same in
    let inner = two_same q (a * p) b (d * p) e (omega arith) (omega arith) outer.0 in
    let alone = two_same p 0 a 0 d lp lp (omega (arith, inner.0)) in
    (alone.1, inner.1, outer.1)

-- ---- the three channels of a format, which lie apart in any order

module _ (p q t u v w : ℕ) (lp : 0 < p) (lq : 0 < q) (lt : 0 < t) (pu : p < u) (qv : q < v) (tw : t < w) where
  channels_same : (a b c d e f : ℕ) → a * p + p ≤ u → d * p + p ≤ u → b * q + q ≤ v → e * q + q ≤ v → c * t + t ≤ w → f * t + t ≤ w
      → (u ≤ q) ⊎ (v ≤ p) → (u ≤ t) ⊎ (w ≤ p) → (v ≤ t) ⊎ (w ≤ q) → a * p + b * q + c * t ≡ d * p + e * q + f * t → (a ≡ d) × (b ≡ e) × (c ≡ f)
  channels_same a b c d e f la ld lb le lc lf (inl i) (inl j) (inl k) same = three_same p q t a b c d e f lp (omega arith) (omega arith) (omega arith) (omega arith) same
  channels_same a b c d e f la ld lb le lc lf (inl i) (inl j) (inr k) same =
      let r = three_same p t q a c b d f e lp (omega arith) (omega arith) (omega arith) (omega arith) (omega arith) in
      (r.0, r.2, r.1)
  channels_same a b c d e f la ld lb le lc lf (inl i) (inr j) (inl k) same = absurd (omega arith)
  channels_same a b c d e f la ld lb le lc lf (inl i) (inr j) (inr k) same =
      let r = three_same t p q c a b f d e lt (omega arith) (omega arith) (omega arith) (omega arith) (omega arith) in
      (r.1, r.2, r.0)
  channels_same a b c d e f la ld lb le lc lf (inr i) (inl j) (inl k) same =
      let r = three_same q p t b a c e d f lq (omega arith) (omega arith) (omega arith) (omega arith) (omega arith) in
      (r.1, r.0, r.2)
  channels_same a b c d e f la ld lb le lc lf (inr i) (inl j) (inr k) same = absurd (omega arith)
  channels_same a b c d e f la ld lb le lc lf (inr i) (inr j) (inl k) same =
      let r = three_same q t p b c a e f d lq (omega arith) (omega arith) (omega arith) (omega arith) (omega arith) in
      (r.2, r.0, r.1)
  channels_same a b c d e f la ld lb le lc lf (inr i) (inr j) (inr k) same =
      let r = three_same t q p c b a f e d lt (omega arith) (omega arith) (omega arith) (omega arith) (omega arith) in
      (r.2, r.1, r.0)

-- A component on a channel, before it is shifted.
abbrev scaled : Channel → ℕ → ℕ
scaled c component = (component * c.max + 127) / 255

-- A greater component is greater on a channel of 8 bits or more.
scaled_less : (c : Channel) (a b : ℕ) → 255 ≤ c.max → a < b → scaled c a < scaled c b
scaled_less c a b wide lt =
    let up : (a + 1) * c.max ≤ b * c.max = mul-le-mul_right c.max (omega arith) in
    let more : (a + 1) * c.max ≡ a * c.max + c.max = omega arith in
    omega (arith, up, more)

scaled_same : (c : Channel) (a b : ℕ) → 255 ≤ c.max → scaled c a ≡ scaled c b → a ≡ b
scaled_same c a b wide e =
    elim (cases_lt a b) [
      | inl lt ↦ absurd (omega (arith, scaled_less c a b wide lt, e))
      | inr ge ↦ elim (cases_lt b a) [
        | inl lt ↦ absurd (omega (arith, scaled_less c b a wide lt, e))
        | inr le ↦ omega arith
      ]
    ]

module _ (bits : ℕ) (c : Channel) (lies : LiesIn bits c) where
  in_bits_of : (component : ℕ) → component < 256 → scaled c component * 2 ^ c.shift + 2 ^ c.shift ≤ 2 ^ (c.shift + channel_size c)
  in_bits_of component lt = shifted_within (scaled c component) c.max c.shift (channel_size c) (scaled_within component c.max lt) (size_is c lies.some)

  more_than_shift : 2 ^ c.shift < 2 ^ (c.shift + channel_size c)
  more_than_shift =
      let twice : 2 ^ (c.shift + 1) ≤ 2 ^ (c.shift + channel_size c) = pow_mono (omega (arith, lies.some)) in
      let double : 2 ^ (c.shift + 1) ≡ 2 ^ c.shift * 2 = pow-add 2 c.shift 1 in
      omega (arith, twice, double, pow_pos c.shift)

components_same : (a b : ℕ) → a < 2 ^ 24 → b < 2 ^ 24 → red_of a ≡ red_of b → green_of a ≡ green_of b → blue_of a ≡ blue_of b → a ≡ b
components_same a b la lb red green blue = omega arith

pub bytes_keep_apart : (format : PixelFormat) → IsAccepted format → 255 ≤ format.red.max → 255 ≤ format.green.max → 255 ≤ format.blue.max → KeepsApart format
bytes_keep_apart format ok red green blue a b la lb same =
    let r : Channel = format.red in
    let g : Channel = format.green in
    let l : Channel = format.blue in
    let bits : ℕ = format.bits_per_pixel in
    let p = parts_of format ok in
    let parts = channels_same (2 ^ r.shift) (2 ^ g.shift) (2 ^ l.shift) (2 ^ (r.shift + channel_size r)) (2 ^ (g.shift + channel_size g)) (2 ^ (l.shift + channel_size l))
    (pow_pos r.shift) (pow_pos g.shift) (pow_pos l.shift) (more_than_shift bits r p.red) (more_than_shift bits g p.green) (more_than_shift bits l p.blue)
    (scaled r (red_of a)) (scaled g (green_of a)) (scaled l (blue_of a)) (scaled r (red_of b)) (scaled g (green_of b)) (scaled l (blue_of b))
    (in_bits_of bits r p.red (red_of a) (omega arith)) (in_bits_of bits r p.red (red_of b) (omega arith))
    (in_bits_of bits g p.green (green_of a) (omega arith)) (in_bits_of bits g p.green (green_of b) (omega arith))
    (in_bits_of bits l p.blue (blue_of a) (omega arith)) (in_bits_of bits l p.blue (blue_of b) (omega arith))
    (apart r g p.red_green) (apart r l p.red_blue) (apart g l p.green_blue) same in
    components_same a b la lb (scaled_same r (red_of a) (red_of b) red parts.0) (scaled_same g (green_of a) (green_of b) green parts.1) (scaled_same l (blue_of a) (blue_of b) blue parts.2)

-- ---- on fewer than 8 bits 0 and 1 are the same

-- A channel of fewer than 8 bits has 7 at most.
few_bits : (c : Channel) → 0 < channel_size c → c.max < 255 → c.max ≤ 127
few_bits c some lt =
    let n : ℕ = channel_size c in
    let size : c.max + 1 ≡ 2 ^ n = size_is c some in
    elim (cases_lt n 8) [
      | inl few ↦ let most : 2 ^ n ≤ 2 ^ 7 = pow_mono (n_most n few) in omega (arith, size, most)
      | inr many ↦ let least : 2 ^ 8 ≤ 2 ^ n = pow_mono many in absurd (omega (arith, size, least))
    ]
  where
    n_most : (n : ℕ) → n < 8 → n ≤ 7
    n_most n lt = omega arith

none_on : (c : Channel) (component : ℕ) → scaled c component ≡ 0 → on_channel c component ≡ 0
none_on c component e = ap (λ n. n * 2 ^ c.shift) e ∙ zero-mul (2 ^ c.shift)

black_on : (c : Channel) → on_channel c 0 ≡ 0
black_on c = none_on c 0 (omega arith)

one_on : (c : Channel) → 0 < channel_size c → c.max < 255 → on_channel c 1 ≡ 0
one_on c some lt = let most : c.max ≤ 127 = few_bits c some lt in none_on c 1 (omega arith)

-- Each of the other two channels has black's component, and so does this one.
has_byte : (c : Channel) → 0 < channel_size c → (on_channel c 1 ≡ 0 → ⊥) → 255 ≤ c.max
has_byte c some f = elim (cases_lt c.max 255) [ inl lt ↦ absurd (f (one_on c some lt)) | inr ge ↦ ge ]

pub black : (format : PixelFormat) → tint format 0 ≡ 0
black format = omega (arith, black_on format.red, black_on format.green, black_on format.blue)

module _ (format : PixelFormat) (ok : IsAccepted format) (keeps : KeepsApart format) where
  -- No other colour has the pixel value of black.
  is_black : (colour : ℕ) → colour < 2 ^ 24 → tint format colour ≡ 0 → colour ≡ 0
  is_black colour lt e = keeps colour 0 lt (omega arith) (e ∙ sym (black format))

  pub red_has_byte : 255 ≤ format.red.max
  red_has_byte = has_byte format.red (parts_of format ok).red.some (λ e. let b : 0x10000 ≡ 0 = is_black 0x10000 (omega arith) (omega (arith, e, black_on format.green, black_on format.blue)) in absurd (omega arith))

  pub green_has_byte : 255 ≤ format.green.max
  green_has_byte = has_byte format.green (parts_of format ok).green.some (λ e. let b : 0x100 ≡ 0 = is_black 0x100 (omega arith) (omega (arith, e, black_on format.red, black_on format.blue)) in absurd (omega arith))

  pub blue_has_byte : 255 ≤ format.blue.max
  blue_has_byte = has_byte format.blue (parts_of format ok).blue.some (λ e. let b : 1 ≡ 0 = is_black 1 (omega arith) (omega (arith, e, black_on format.red, black_on format.green)) in absurd (omega arith))

-- The least of the three maxima decides.
pub least_decides : (format : PixelFormat) (least : ℕ) → IsAccepted format → least ≤ format.red.max → least ≤ format.green.max → least ≤ format.blue.max
    → (255 ≤ format.red.max → 255 ≤ format.green.max → 255 ≤ format.blue.max → 255 ≤ least) → (255 ≤ least) ↔ KeepsApart format
least_decides format least ok r g b all =
    (λ le. bytes_keep_apart format ok (omega arith) (omega arith) (omega arith), λ keeps. all (red_has_byte format ok keeps) (green_has_byte format ok keeps) (blue_has_byte format ok keeps))
