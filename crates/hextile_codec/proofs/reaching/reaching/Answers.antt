use Rattle.std.proofs.Common.{◌≡◌, ℕ, ◌+◌, ◌<◌, ◌^◌, sym, ap, ◌∙◌, w64, inl, inr, arith}
use Rattle.std.specs.Int.{bit_at, bit_not}
use Rattle.std.specs.Int.Bits.{bit_and}
use Rattle.std.proofs.lemmas.Bool.{cases_lt}
use Rattle.std.proofs.lemmas.Nat.Bits.{bit_at_and, bit_at_not, bit_at_above, bit_at-lt}
use Rattle.hextile_codec.specs.Reach.{Covers}
use Rattle.hextile_codec.proofs.Sight.{IsSeen, seen, is_seen}
use Rattle.hextile_codec.proofs.reaching.reaching.Goals as goal

-- Of one position it is seen at once.
one_covers : (clean ends : ℕ) → Covers clean ends 1 (record { clear = clean; reached = bit_and clean ends })
one_covers clean ends =
    record {
      clear = λ p. let here : p + 0 ≡ p = omega arith in let bit = bit_at-lt clean p in let same = ap (bit_at clean) here in omega (arith, bit, same);
      reached = λ p.
          let here : p + 0 ≡ p = omega arith in
          let bit = bit_at-lt clean p in
          let same = ap (bit_at clean) here in
          let end = ap (bit_at ends) here in
          bit_at_and clean ends p ∙ omega (arith, bit, same, end);
    }

-- Ends and broken positions are bits of words.
inside : (n p : ℕ) → n < 2 ^ 64 → bit_at n p ≡ 1 → p < 64
inside n p few e = elim (cases_lt p 64) [
  | inl lt ↦ lt
  | inr ge ↦ let none = bit_at_above n 64 p few ge in absurd (omega (arith, none, e))
]

pub returns-clause-reached : goal.returns-clause-reached
returns-clause-reached c p r =
    let broken : ℕ = c.args.broken in
    let ends : ℕ = c.args.ends in
    let clean : ℕ = bit_not w64 broken in
    let last : p + r.far < 64 = inside ends (p + r.far) c.ranges.ends.fits r.end in
    let covers = c.twice-4.ensures clean ends (c.twice-3.ensures clean ends (c.twice-2.ensures clean ends (c.twice.ensures clean ends (one_covers clean ends)))) in
    covers.reached p
    ∙ is_seen clean ends 16 p r.far r.near r.end (λ i le. let none = r.none i le in bit_at_not w64 broken (p + i) c.ranges.broken.fits (omega (arith, last, le)) ∙ omega (arith, none))

pub returns-clause-only : goal.returns-clause-only
returns-clause-only c p e =
    let broken : ℕ = c.args.broken in
    let ends : ℕ = c.args.ends in
    let clean : ℕ = bit_not w64 broken in
    let covers = c.twice-4.ensures clean ends (c.twice-3.ensures clean ends (c.twice-2.ensures clean ends (c.twice.ensures clean ends (one_covers clean ends)))) in
    let s : IsSeen clean ends 16 p = seen clean ends 16 p (sym (covers.reached p) ∙ e) in
    let last : p + s.far < 64 = inside ends (p + s.far) c.ranges.ends.fits s.end in
    record {
      far = s.far;
      near = s.near;
      end = s.end;
      none = λ i le. let set = s.set i le in let is = bit_at_not w64 broken (p + i) c.ranges.broken.fits (omega (arith, last, le)) in let bit = bit_at-lt broken (p + i) in omega (arith, set, is, bit);
    }
