-- What is written of a format is read as the same format. The law `format_is_read_back` is made of it.
use Rattle.std.proofs.Common.{◌≡◌, ℕ, ◌+◌, ◌*◌, ◌/◌, ◌%◌, ◌^◌, ◌<◌, ◌≤◌, Bool, true, false, cond, List, [], ◌∷◌, Some, refl, ap, ◌∙◌, arith}
use Rattle.std.specs.Prelude.{◌==◌, find, unwrap_or}
use Rattle.std.proofs.Math.Pow.{pow_mono}
use Rattle.pixel_format.specs.PixelFormat.{PixelFormat, Channel, sizes, channel_size, is_accepted, IsAccepted, accepts, format_at, format_bytes}
use Rattle.pixel_format.proofs.Tints.{LiesIn, parts_of, size_is}

abbrev AtMost16 : List ℕ → Type 0
AtMost16 [] = Unit {0}
AtMost16 (x ∷ xs) = (x ≤ 16) × AtMost16 xs

found_most_at : (p : ℕ → Bool) (x : ℕ) (b : Bool) (xs : List ℕ) → x ≤ 16 → unwrap_or (find p xs) 0 ≤ 16 → unwrap_or (cond b (Some x) (find p xs)) 0 ≤ 16
found_most_at p x true xs here there = here
found_most_at p x false xs here there = there

found_most : (p : ℕ → Bool) (xs : List ℕ) → AtMost16 xs → unwrap_or (find p xs) 0 ≤ 16
found_most p [] all = omega arith
found_most p (x ∷ xs) all = found_most_at p x (p x) xs all.0 (found_most p xs all.1)

sizes_most : AtMost16 sizes
sizes_most = search arith depth 40

-- A channel has at most 16 bits, so its greatest value is a number of two bytes.
pub size_most : (c : Channel) → channel_size c ≤ 16
size_most c = found_most (λ n. c.max + 1 == 2 ^ n) sizes sizes_most

pub max_fits : (bits : ℕ) (c : Channel) → LiesIn bits c → c.max < 65536
max_fits bits c f =
    let e : c.max + 1 ≡ 2 ^ channel_size c = size_is c f.some in
    let m : 2 ^ channel_size c ≤ 2 ^ 16 = pow_mono (size_most c) in
    omega (arith, e, m)

two_bytes : (n : ℕ) → n < 65536 → n / 256 % 256 * 256 + n % 256 ≡ n
two_bytes n h = omega arith

flag_back : (b : Bool) → cond (cond b 1 0 == 0) false true ≡ b
flag_back true = refl
flag_back false = refl

pub format_back : (format : PixelFormat) → IsAccepted format → format_at (format_bytes format) ≡ format
format_back format ok =
    let bits : ℕ = format.bits_per_pixel in
    let p = parts_of format ok in
    let r = two_bytes format.red.max (max_fits bits format.red p.red) in
    let g = two_bytes format.green.max (max_fits bits format.green p.green) in
    let b = two_bytes format.blue.max (max_fits bits format.blue p.blue) in
    let e = flag_back format.big_endian in
    rw (r, g, b, e) refl

pub written_is_accepted : (format : PixelFormat) → IsAccepted format → accepts (format_bytes format) ≡ true
written_is_accepted format ok = ap is_accepted (format_back format ok) ∙ ok
