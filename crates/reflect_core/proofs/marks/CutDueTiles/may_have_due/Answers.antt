use Rattle.std.proofs.Common.{◌≡◌, ℕ, ◌+◌, ◌-◌, ◌*◌, ◌<◌, ◌≤◌, Bool, true, false, List, length, take, drop, get_or, refl, sym, ap, ◌∙◌, subst, arith}
use Rattle.std.specs.List.{AllWithin, IsAnyAnswer}
use Rattle.std.proofs.lemmas.List.{get_or-take, get_or-drop, length-take, length-drop}
use Rattle.std.proofs.lemmas.Option.{unwrap_or-slice_get}
use Rattle.std.proofs.Math.Nat.{mul-le-mul_right, mul_comm}
use Rattle.raster.specs.Screen.{tiles_across}
use Rattle.reflect_core.proofs.marks.CutDueTiles.may_have_due.Goals as goal

not_marked : (b : Bool) → mathlib.Core.Bool.beq b true ≡ false → b ≡ false
not_marked true e = absurd cc
not_marked false e = refl

none_in : (due : List Bool) (from n t : ℕ) → from ≤ t → t < from + n → from + n ≤ length due
    → AllWithin (λ y. mathlib.Core.Bool.beq y true ≡ false) (take (from + n - from) (drop from due)) 0 (length (take (from + n - from) (drop from due))) → get_or due t false ≡ false
none_in due from n t lo hi within none =
    let back : from + (t - from) ≡ t = omega arith in
    let there : t - from < from + n - from = omega arith in
    let len : t - from < length (take (from + n - from) (drop from due)) = omega (arith, length-take (from + n - from) (drop from due), length-drop from due) in
    let at : get_or (take (from + n - from) (drop from due)) (t - from) false ≡ get_or due t false =
    get_or-take (from + n - from) (drop from due) (t - from) false there ∙ (get_or-drop from due (t - from) false ∙ ap (λ k. get_or due k false) back) in
    sym at ∙ not_marked _ (none (t - from) false (omega arith) len)

by_answer : (due xs : List Bool) (from n t : ℕ) (b : Bool) → b ≡ false → xs ≡ due → from ≤ t → t < from + n → from + n ≤ length due
    → IsAnyAnswer (λ y b. mathlib.Core.Bool.beq y true ≡ b) (take (from + n - from) (drop from xs)) b → get_or due t false ≡ false
by_answer due xs from n t true e same lo hi within answer = absurd cc
by_answer due xs from n t false e same lo hi within answer =
    none_in due from n t lo hi within (subst (λ (ys : List Bool). AllWithin (λ y. mathlib.Core.Bool.beq y true ≡ false) (take (from + n - from) (drop from ys)) 0 (length (take (from + n - from) (drop from ys)))) same answer)

pub returns : goal.returns
returns c t e lo hi =
    let cut = c.args.self.now in
    let n : ℕ = c.div_ceil-across.result in
    let across : n ≡ tiles_across cut.width = omega (arith, c.div_ceil-across.ensures) in
    let start : c.args.row * n ≡ c.args.row * tiles_across cut.width = ap (λ k. c.args.row * k) across in
    let below : (c.args.row + 1) * tiles_across cut.width ≤ tiles_across cut.height * tiles_across cut.width = mul-le-mul_right (tiles_across cut.width) (omega (arith, c.requires)) in
    let within : c.args.row * n + n ≤ length cut.due.items = omega (arith, start, across, below, cut.tiles, mul_comm (tiles_across cut.width) (tiles_across cut.height)) in
    unwrap_or-slice_get cut.due.items t false
    ∙ by_answer cut.due.items c.deref.result.now (c.args.row * n) n t c.contains.result e c.deref.ensures.value (omega (arith, start, lo)) (omega (arith, start, across, hi)) within c.contains.ensures.cases
