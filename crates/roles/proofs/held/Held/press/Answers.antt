use Rattle.std.proofs.Common.{◌≡◌, ◌∙◌, sym, ap, arith, nat_lt, true, false}
use Rattle.std.specs.List.{prefix_len}
use Rattle.std.proofs.lemmas.Bool.Decides.{nat_tests}
use Rattle.roles.specs.Allowed.{is_down}
use Rattle.roles.proofs.HeldLaws.{press_same, press_new, rising_new}
use Rattle.roles.proofs.held.Held.press.Goals as goal

pub returns-then-is_among-clause-kept : goal.returns-then-is_among-clause-kept
returns-then-is_among-clause-kept c =
    let down : is_down c.args.key c.self.inside.keys.items ≡ true = ap (is_down c.args.key) (sym c.as_slice.ensures.value) ∙ sym c.is_among.ensures ∙ c.if-is_among.true in
    rw (← c.self.view_is)
    (press_same (record { keys = c.self.inside.keys.items; mask = c.self.inside.mask; x = c.self.inside.x; y = c.self.inside.y }) c.args.key c.self.invariant down)

pub invariant_of-self : goal.invariant_of-self
invariant_of-self c =
    let down : is_down c.args.key c.self.inside.keys.items ≡ false = ap (is_down c.args.key) (sym c.as_slice.ensures.value) ∙ sym c.is_among.ensures ∙ c.if-is_among.false in
    rising_new c.self.inside.keys.items c.args.key c.place_of-place.result c.insert.new.self.items c.self.invariant down (c.place_of-place.ensures.value ∙ ap (prefix_len (λ k. nat_lt k c.args.key)) c.as_slice-2.ensures.value) c.insert.ensures.items

pub returns-clause-kept : goal.returns-clause-kept
returns-clause-kept c =
    let down : is_down c.args.key c.self.inside.keys.items ≡ false = ap (is_down c.args.key) (sym c.as_slice.ensures.value) ∙ sym c.is_among.ensures ∙ c.if-is_among.false in
    rw (← c.self.view_is)
    (press_new (record { keys = c.self.inside.keys.items; mask = c.self.inside.mask; x = c.self.inside.x; y = c.self.inside.y }) c.args.key c.place_of-place.result c.insert.new.self.items down (grind (arith, nat_tests, c.is_full.ensures.value, c.is_full.ensures.fits, c.if-is_full.false)) (c.place_of-place.ensures.value ∙ ap (prefix_len (λ k. nat_lt k c.args.key)) c.as_slice-2.ensures.value) c.insert.ensures.items)
