use Rattle.std.proofs.Common.{◌≡◌, ℕ, ◌+◌, ◌-◌, ◌*◌, ap, ◌∙◌, arith}
use Rattle.std.specs.Int.{bit_at}
use Rattle.std.proofs.lemmas.Nat.Bits.{bit_at_cat_low, bit_at_cat_high}
use Rattle.hextile_codec.proofs.marking.join_bits.Goals as goal

pub returns-clause-first : goal.returns-clause-first
returns-clause-first c x lt = bit_at_cat_low ((c.args.fourth * 65536 + c.args.third) * 65536 + c.args.second) 16 c.args.first x lt

pub returns-clause-second : goal.returns-clause-second
returns-clause-second c x lt =
    let upper : ℕ = (c.args.fourth * 65536 + c.args.third) * 65536 + c.args.second in
    let down : 16 + x - 16 ≡ x = omega arith in
    bit_at_cat_high upper 16 c.args.first (16 + x) c.requires.few.0 (omega arith) ∙ (ap (bit_at upper) down ∙ bit_at_cat_low (c.args.fourth * 65536 + c.args.third) 16 c.args.second x lt)

pub returns-clause-third : goal.returns-clause-third
returns-clause-third c x lt =
    let top : ℕ = c.args.fourth * 65536 + c.args.third in
    let upper : ℕ = top * 65536 + c.args.second in
    let down : 32 + x - 16 ≡ 16 + x = omega arith in
    let again : 16 + x - 16 ≡ x = omega arith in
    bit_at_cat_high upper 16 c.args.first (32 + x) c.requires.few.0 (omega arith)
    ∙ (ap (bit_at upper) down ∙ (bit_at_cat_high top 16 c.args.second (16 + x) c.requires.few.1 (omega arith) ∙ (ap (bit_at top) again ∙ bit_at_cat_low c.args.fourth 16 c.args.third x lt)))

pub returns-clause-fourth : goal.returns-clause-fourth
returns-clause-fourth c x lt =
    let top : ℕ = c.args.fourth * 65536 + c.args.third in
    let upper : ℕ = top * 65536 + c.args.second in
    let down : 48 + x - 16 ≡ 32 + x = omega arith in
    let again : 32 + x - 16 ≡ 16 + x = omega arith in
    let last : 16 + x - 16 ≡ x = omega arith in
    bit_at_cat_high upper 16 c.args.first (48 + x) c.requires.few.0 (omega arith)
    ∙ (ap (bit_at upper) down
    ∙ (bit_at_cat_high top 16 c.args.second (32 + x) c.requires.few.1 (omega arith) ∙ (ap (bit_at top) again ∙ (bit_at_cat_high c.args.fourth 16 c.args.third (16 + x) c.requires.few.2 (omega arith) ∙ ap (bit_at c.args.fourth) last))))
