use Rattle.std.proofs.Common.{◌≡◌, ℕ, ◌+◌, ◌-◌, ◌*◌, ◌/◌, ◌%◌, ◌^◌, ◌<◌, sym, ap, ◌∙◌, arith}
use Rattle.std.specs.Int.{bit_at}
use Rattle.std.proofs.lemmas.Nat.Bits.{bit_at_cat_low, bit_at_cat_high}
use Rattle.std.proofs.Math.Nat.{mod-add-div'}
use Rattle.hextile_codec.proofs.LowestBit.{bit_shift}
use Rattle.hextile_codec.proofs.breaks.moved_down.Goals as goal

pub returns-clause-first : goal.returns-clause-first
returns-clause-first c x lt = bit_at_cat_low (c.args.here % 281474976710656) 16 (c.args.above / 281474976710656) x lt ∙ bit_shift c.args.above 48 x

-- The lowest bits of a number are those of its rest.
low_bits : (n i : ℕ) → i < 48 → bit_at (n % 281474976710656) i ≡ bit_at n i
low_bits n i lt =
    let split : n / 281474976710656 * 2 ^ 48 + n % 281474976710656 ≡ n = let e = mod-add-div' n 281474976710656 in omega (arith, e) in
    sym (bit_at_cat_low (n / 281474976710656) 48 (n % 281474976710656) i lt) ∙ ap (λ m. bit_at m i) split

pub returns-clause-others : goal.returns-clause-others
returns-clause-others c p from upto =
    bit_at_cat_high (c.args.here % 281474976710656) 16 (c.args.above / 281474976710656) p (omega (arith, c.ranges.above.fits)) from ∙ low_bits c.args.here (p - 16) (omega (arith, from, upto))
