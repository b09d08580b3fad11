use Rattle.std.proofs.Common.{◌≡◌, ℕ, Bool, ◌+◌, ◌-◌, ◌<◌, ◌≤◌, ◌∙◌, true, false, refl, sym, ap, inl, inr, arith}
use Rattle.std.specs.Prelude.{◌==◌}
use Rattle.std.proofs.lemmas.Bool.{cases_lt, eqb-true, eq-eqb}
use Rattle.raster.specs.Encoding.{Subrect, run_from}
use Rattle.joined_runs.specs.Joined.{stands_in}
use Rattle.joined_runs.proofs.RowHas.{front_is}
use Rattle.hextile_codec.specs.Bits.{bit_of}
use Rattle.hextile_codec.specs.Breaks.{mark_at}
use Rattle.hextile_codec.specs.Places.{joins_at}
use Rattle.hextile_codec.proofs.Joins.{joined_stands, stands_joined}
use Rattle.hextile_codec.proofs.LeftBits.{bit_true}
use Rattle.hextile_codec.proofs.Unbroken.{its_row}
use Rattle.hextile_codec.proofs.listing.height.Goals as goal
use Rattle.hextile_codec.proofs.listing.height.Goals.{then-loop-end-test+else-has_bit, else-loop-end-test}

pub loop-end-init : goal.loop-end-init
loop-end-init c =
    record {
      below = omega arith;
      inside = omega (arith, c.requires.row);
      have = λ canvas background are begins k lo hi. let here : k ≡ c.args.y = omega (arith, lo, hi) in rw here (its_row canvas background c.args.y c.args.x begins);
    }

pub loop-end-preserved : goal.loop-end-preserved
loop-end-preserved c =
    let x : ℕ = c.args.x in
    let y : ℕ = c.args.y in
    let z : ℕ = c.loop-end.end in
    record {
      below = omega (arith, c.loop-end.invariant.below);
      inside = omega (arith, c.loop-end-test.true);
      have = λ canvas background are begins k lo hi. elim (cases_lt k z) [
        | inl lt ↦ c.loop-end.invariant.have canvas background are begins k lo lt
        | inr ge ↦
            let last : k ≡ z = omega (arith, hi, ge) in
            let above : stands_in canvas 16 (run_from canvas 16 y x) (z - 1) ≡ true = c.loop-end.invariant.have canvas background are begins (z - 1) (omega (arith, c.loop-end.invariant.below)) (omega (arith, c.loop-end.invariant.below)) in
            let set : mark_at c.args.joins.now z x ≡ 1 = eqb-true (mark_at c.args.joins.now z x) 1 (sym c.has_bit.ensures ∙ c.if-has_bit.true) in
            let joins : joins_at canvas background z x ≡ true = bit_true (joins_at canvas background z x) (sym (are.bits z x c.loop-end-test.true c.requires.column) ∙ set) in
            rw last (joined_stands canvas background y x z begins (omega (arith, c.loop-end.invariant.below)) above joins)
      ];
    }

pub returns-clause-value : goal.returns-clause-value
returns-clause-value c canvas background are begins =
    let x : ℕ = c.args.x in
    let y : ℕ = c.args.y in
    let z : ℕ = c.loop-end.end in
    let run : Subrect = run_from canvas 16 y x in
    let first : ℕ = y + 1 in
    let count : z - y ≡ 1 + (z - first) = omega (arith, c.loop-end.invariant.below) in
    let at : first + (z - first) ≡ z = omega (arith, c.loop-end.invariant.below) in
    let some : z - first ≤ 16 - first = omega (arith, c.loop-end.invariant.inside) in
    let each : (k : ℕ) → first ≤ k → k < first + (z - first) → stands_in canvas 16 run k ≡ true = λ k lo hi. c.loop-end.invariant.have canvas background are begins k (omega (arith, lo)) (omega (arith, at, hi)) in
    elim c.loop-end-test.branch [
      | then-loop-end-test+else-has_bit w ↦
          let above : stands_in canvas 16 run (z - 1) ≡ true = c.loop-end.invariant.have canvas background are begins (z - 1) (omega (arith, c.loop-end.invariant.below)) (omega (arith, c.loop-end.invariant.below)) in
          let unset : (mark_at c.args.joins.now z x == 1) ≡ false = sym w.has_bit.ensures ∙ w.if-has_bit.false in
          let none : stands_in canvas 16 run z ≡ false =
          unless (stands_in canvas 16 run z) (λ stands.
          let joins : joins_at canvas background z x ≡ true = stands_joined canvas background y x z begins (omega (arith, c.loop-end.invariant.below)) above stands in
          let set : (mark_at c.args.joins.now z x == 1) ≡ true = eq-eqb (mark_at c.args.joins.now z x) 1 (are.bits z x w.loop-end-test.true c.requires.column ∙ ap bit_of joins) in
          let both : false ≡ true = sym unset ∙ set in
          cc) in
          count ∙ ap (λ n. 1 + n) (sym (front_is (stands_in canvas 16 run) first (16 - first) (z - first) some each (inr (rw at none))))
      | else-loop-end-test w ↦ count ∙ ap (λ n. 1 + n) (sym (front_is (stands_in canvas 16 run) first (16 - first) (z - first) some each (inl (omega (arith, w.loop-end-test.false)))))
    ]
  where
    unless : (b : Bool) → (b ≡ true → ⊥) → b ≡ false
    unless true f = absurd (f refl)
    unless false f = refl
