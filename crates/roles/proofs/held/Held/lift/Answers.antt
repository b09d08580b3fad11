use Rattle.std.proofs.Common.{◌≡◌, ◌∙◌, sym, ap, arith, nat_lt, true}
use Rattle.std.specs.List.{prefix_len}
use Rattle.roles.specs.Allowed.{is_down}
use Rattle.roles.proofs.Keys.{place_within}
use Rattle.roles.proofs.HeldLaws.{lift_same, rising_left}
use Rattle.roles.proofs.held.Held.lift.Goals as goal

pub remove-requires : goal.remove-requires
remove-requires c =
    let down : is_down c.args.key c.self.inside.keys.items ≡ true = ap (is_down c.args.key) (sym c.as_slice.ensures.value) ∙ sym c.is_among.ensures ∙ c.if-not-is_among.false in
    (omega arith, rw (c.place_of-place.ensures.value ∙ ap (prefix_len (λ k. nat_lt k c.args.key)) c.as_slice-2.ensures.value) (place_within c.args.key c.self.inside.keys.items down))

pub invariant_of-self : goal.invariant_of-self
invariant_of-self c =
    let down : is_down c.args.key c.self.inside.keys.items ≡ true = ap (is_down c.args.key) (sym c.as_slice.ensures.value) ∙ sym c.is_among.ensures ∙ c.if-not-is_among.false in
    rising_left c.self.inside.keys.items c.args.key c.place_of-place.result c.remove.new.self.items c.self.invariant down (c.place_of-place.ensures.value ∙ ap (prefix_len (λ k. nat_lt k c.args.key)) c.as_slice-2.ensures.value) c.remove.ensures.items

pub returns-clause-kept : goal.returns-clause-kept
returns-clause-kept c =
    let down : is_down c.args.key c.self.inside.keys.items ≡ true = ap (is_down c.args.key) (sym c.as_slice.ensures.value) ∙ sym c.is_among.ensures ∙ c.if-not-is_among.false in
    rw (← c.self.view_is)
    (lift_same (record { keys = c.self.inside.keys.items; mask = c.self.inside.mask; x = c.self.inside.x; y = c.self.inside.y }) c.args.key c.place_of-place.result c.remove.new.self.items c.self.invariant down (c.place_of-place.ensures.value ∙ ap (prefix_len (λ k. nat_lt k c.args.key)) c.as_slice-2.ensures.value) c.remove.ensures.items)
