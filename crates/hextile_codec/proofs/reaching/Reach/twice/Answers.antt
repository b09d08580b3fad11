use Rattle.std.proofs.Common.{◌≡◌, ℕ, ◌+◌, ◌/◌, ◌^◌, ap, ◌∙◌, arith}
use Rattle.std.specs.Int.{bit_at}
use Rattle.std.specs.Int.Bits.{bit_and}
use Rattle.std.proofs.lemmas.Nat.Bits.{bit_at_and, bit_at_or}
use Rattle.hextile_codec.proofs.LowestBit.{bit_shift}
use Rattle.hextile_codec.proofs.Sight.{clear_split, reach_split}
use Rattle.hextile_codec.proofs.reaching.Reach.twice.Goals as goal

pub returns : goal.returns
returns c clean ends covers =
    let clear : ℕ = c.args.self.now.clear in
    let reached : ℕ = c.args.self.now.reached in
    let n : ℕ = c.args.n in
    record {
      clear = λ p.
          let place : n + p ≡ p + n = omega arith in
          let here = covers.clear p in
          let there = bit_shift clear n p ∙ (ap (bit_at clear) place ∙ covers.clear (p + n)) in
          let split = clear_split clean ends n n p in
          bit_at_and clear (clear / 2 ^ n) p ∙ omega (arith, here, there, split);
      reached = λ p.
          let place : n + p ≡ p + n = omega arith in
          let here = covers.clear p in
          let so_far = covers.reached p in
          let there = bit_shift reached n p ∙ (ap (bit_at reached) place ∙ covers.reached (p + n)) in
          let both = bit_at_and clear (reached / 2 ^ n) p in
          let split = reach_split clean ends n n p in
          bit_at_or reached (bit_and clear (reached / 2 ^ n)) p ∙ omega (arith, here, so_far, there, both, split);
    }
