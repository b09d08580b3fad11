use Rattle.std.proofs.Common.{◌≡◌, ◌∙◌, Bool, true, false, ap, sym, refl}
use Rattle.std.specs.Prelude.{bytes_eq, ◌||◌}
use Rattle.playback.specs.Opening.{version}
use Rattle.playback.proofs.Openings.{in_3_8, in_3_7, in_none}
use Rattle.playback.proofs.opening.see_by_version.Goals as goal

either : (a b : Bool) → a ≡ true → (a || b) ≡ true
either true b e = refl
either false b e = absurd cc

other : (a b : Bool) → a ≡ false → (a || b) ≡ b
other true b e = absurd cc
other false b e = refl

pub returns-then-eq : goal.returns-then-eq
returns-then-eq c =
    let first : bytes_eq c.args.field.now (version 8) ≡ true = ap (bytes_eq c.args.field.now) (sym c.as_slice.ensures) ∙ (sym c.eq.ensures ∙ c.if-eq.true) in
    c.see_security.ensures ∙ sym (in_3_8 c.args.field.now c.args.rest.now first)

pub returns-then-eq-2 : goal.returns-then-eq-2
returns-then-eq-2 c =
    let first : bytes_eq c.args.field.now (version 8) ≡ false = ap (bytes_eq c.args.field.now) (sym c.as_slice.ensures) ∙ (sym c.eq.ensures ∙ c.if-eq.false) in
    let second : bytes_eq c.args.field.now (version 7) ≡ true = ap (bytes_eq c.args.field.now) (sym c.as_slice-2.ensures) ∙ (sym c.eq-2.ensures ∙ c.if-eq-2.true) in
    c.see_security-then-eq-2.ensures ∙ sym (in_3_7 c.args.field.now c.args.rest.now first second)

pub returns : goal.returns
returns c =
    let first : bytes_eq c.args.field.now (version 8) ≡ false = ap (bytes_eq c.args.field.now) (sym c.as_slice.ensures) ∙ (sym c.eq.ensures ∙ c.if-eq.false) in
    let second : bytes_eq c.args.field.now (version 7) ≡ false = ap (bytes_eq c.args.field.now) (sym c.as_slice-2.ensures) ∙ (sym c.eq-2.ensures ∙ c.if-eq-2.false) in
    let third : bytes_eq c.args.field.now (version 3) ≡ false = ap (bytes_eq c.args.field.now) (sym c.as_slice-3.ensures) ∙ (sym c.eq-3.ensures ∙ c.if-eq-3.false) in
    let fourth : bytes_eq c.args.field.now (version 5) ≡ false = ap (bytes_eq c.args.field.now) (sym c.as_slice-else-eq-3.ensures) ∙ (sym c.eq-else-eq-3.ensures ∙ c.if-eq-4.false) in
    sym (in_none c.args.field.now c.args.rest.now first second (other (bytes_eq c.args.field.now (version 3)) (bytes_eq c.args.field.now (version 5)) third ∙ fourth))
