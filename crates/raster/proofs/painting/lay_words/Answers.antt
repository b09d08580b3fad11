use Rattle.std.proofs.Common.{◌≡◌, ℕ, ◌+◌, ◌<◌, ◌∙◌, List, [], length, map, get_or, sym, ap, inl, inr, arith}
use Rattle.std.specs.Prelude.{◌≢◌}
use Rattle.std.proofs.Math.ListN.{set}
use Rattle.std.specs.Int.{w32, from_le_bytes}
use Rattle.std.proofs.lemmas.Bool.{cases_lt}
use Rattle.std.proofs.lemmas.List.{get_or-map, get_or-set_same, get_or-set_other, length-set}
use Rattle.raster.proofs.painting.lay_words.Goals as goal

pub loop-i-preserved : goal.loop-i-preserved
loop-i-preserved c =
    let values : List ℕ = c.loop-i.values in
    let i : ℕ = c.loop-i.i in
    let from : ℕ = c.args.from in
    let v : ℕ = c.from_le_bytes.result in
    let inv = c.loop-i.invariant in
    let there : from + i < length values = omega (arith, inv.len, c.requires, c.loop-i-test.true) in
    record {
      len = length-set values (from + i) v ∙ inv.len;
      inside = λ k lt. elim (cases_lt k i) [
        | inl before ↦ let ne : from + k ≢ from + i = λ e. absurd (omega (arith, before, e)) in get_or-set_other values (from + i) (from + k) v 0 ne ∙ inv.inside k before
        | inr on ↦
            let here : k ≡ i = omega (arith, on, lt) in
            ap (λ j. get_or (set values (from + i) v) (from + j) 0) here ∙ (get_or-set_same values (from + i) v 0 there ∙ (c.from_le_bytes.ensures ∙ (sym (get_or-map (from_le_bytes w32) c.args.words.now i [] 0 (omega (arith, c.loop-i-test.true))) ∙ ap (λ j. get_or (map (from_le_bytes w32) c.args.words.now) j 0) (sym here))))
      ];
      outside = λ k lt. let ne : k ≢ from + i = λ e. absurd (omega (arith, lt, e)) in get_or-set_other values (from + i) k v 0 ne ∙ inv.outside k lt;
      past = λ k le. let ne : k ≢ from + i = λ e. absurd (omega (arith, le, e)) in get_or-set_other values (from + i) k v 0 ne ∙ inv.past k (omega (arith, le));
    }
