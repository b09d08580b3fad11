-- A component is scaled by a multiplication in place of the division by 255. It is faster, and owes the definition's
-- number.
use Rattle.std.proofs.Common.{◌≡◌, ℕ, ◌+◌, ◌*◌, ◌/◌, ◌%◌, ◌<◌, ◌≤◌, ◌∙◌, ap, arith}
use Rattle.std.proofs.Math.Nat.{mul-le-mul}
use Rattle.pixel_format.specs.PixelFormat.{host_format, tint}

exact : (x : ℕ) → x ≤ 65025 → (x * 257 + 32896) / 65536 ≡ (x + 127) / 255
exact x h = omega arith

pub scaled_exactly : (component max : ℕ) → component < 256 → max ≤ 255 → (component * (257 * max) + 32896) / 65536 ≡ (component * max + 127) / 255
scaled_exactly component max c m =
    let small : component * max ≤ 255 * 255 = mul-le-mul {n₁ = component} {m₁ = max} {n₂ = 255} {m₂ = 255} (omega arith) m in
    let e : component * (257 * max) ≡ component * max * 257 = omega arith in
    ap (λ (n : ℕ). (n + 32896) / 65536) e ∙ exact (component * max) (omega (arith, small))

-- In the host's format a colour is its own pixel value, but for what lies above its 24 bits.
pub tint_of_host : (colour : ℕ) → tint host_format colour ≡ colour % 16777216
tint_of_host colour = omega arith

-- A component of 8 bits stays as it is.
pub scaled_to_byte : (component : ℕ) → component < 256 → (component * 255 + 127) / 255 ≡ component
scaled_to_byte component lt = omega arith
