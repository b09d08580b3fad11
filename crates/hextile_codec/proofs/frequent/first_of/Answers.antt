use Rattle.std.proofs.Common.{◌≡◌, ℕ, ◌<◌, List, get_or, inl, inr, arith}
use Rattle.std.proofs.lemmas.Bool.{cases_lt}
use Rattle.std.proofs.lemmas.Nat.{ones_le_self}
use Rattle.hextile_codec.proofs.MostMarked.{first_in}
use Rattle.hextile_codec.proofs.frequent.first_of.Goals as goal
use Rattle.hextile_codec.proofs.frequent.first_of.Goals.{then-loop-k-test+else-words-k-eq0, else-loop-k-test}

pub returns : goal.returns
returns c =
    let words : List ℕ = c.args.words.now in
    let k : ℕ = c.loop-k.k in
    let empty = c.loop-k.invariant.none in
    let some : 0 < get_or words k 0 = elim c.loop-k-test.branch [
      | then-loop-k-test+else-words-k-eq0 w ↦ let set = w.if-words-k-eq0.false in omega (arith, set)
      | else-loop-k-test w ↦
          let last : k ≡ 3 = omega (arith, c.loop-k.invariant.few, w.loop-k-test.false) in
          elim (cases_lt 0 (get_or words k 0)) [
            | inl more ↦ more
            | inr none ↦
                let a = empty 0 (omega (arith, last)) in
                let b = empty 1 (omega (arith, last)) in
                let d = empty 2 (omega (arith, last)) in
                let its : get_or words k 0 ≡ 0 = omega (arith, none) in
                let e : get_or words 3 0 ≡ 0 = rw last at its in
                absurd (omega (arith, c.requires.some, a, b, d, e, ones_le_self (get_or words 0 0), ones_le_self (get_or words 1 0), ones_le_self (get_or words 2 0), ones_le_self (get_or words 3 0)))
          ]
    ] in
    first_in words k (omega (arith, c.loop-k.invariant.few)) c.requires.fits empty some
