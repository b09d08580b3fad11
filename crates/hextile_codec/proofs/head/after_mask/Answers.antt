use Rattle.std.proofs.Common.{◌≡◌, ◌∙◌, ℕ, Bool, true, false, Option, Some, None, is_some, refl, sym}
use Rattle.std.specs.Prelude.{not, ◌&&◌, is_none}
use Rattle.raster.specs.Encoding.{has_bit, lacks_background}
use Rattle.hextile_codec.specs.Carried.{carried_by}
use Rattle.hextile_codec.proofs.head.after_mask.Goals as goal

both_lack : (said : Bool) (carried : Option ℕ) → said ≡ false → is_some carried ≡ false → (not said && is_none carried) ≡ true
both_lack said None unsaid none = rw unsaid refl
both_lack said (Some value) unsaid none = absurd cc

pub returns-then-is_none-clause-leads : goal.returns-then-is_none-clause-leads
returns-then-is_none-clause-leads c format w h =
    let other : has_bit c.args.mask 0 ≡ false = sym c.has.ensures ∙ c.if-has.false in
    let lacks : lacks_background c.args.mask (carried_by c.args.carried) ≡ true = both_lack (has_bit c.args.mask 1) c.args.carried.background (sym c.has-2.ensures ∙ c.if-not-has.true) (c.if-is_none.ensures) in
    rw (other, lacks) refl
