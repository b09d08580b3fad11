use Rattle.std.proofs.Common.{Some, arith, ap, sym, ◌∙◌, length}
use Rattle.rfb_wire.specs.Handshake.{chosen}
use Rattle.rfb_wire.proofs.Judging.{two_was_chosen, none_chosen, challenge_follows, nothing_chosen}
use Rattle.rfb_wire.proofs.host_talk.HostTalk.judge_types.Goals as goal

pub returns-in-Some-eq1 : goal.returns-in-Some-eq1
returns-in-Some-eq1 c =
    let is = ap (chosen c.args.self.now.password) (sym c.as_slice.ensures.value) ∙ sym (c.chosen.ensures c.args.self.now.password (sym c.is_some.ensures)) in
    rw (c.begin.ensures, c.say.ensures) (none_chosen c.args.self.now c.requires.stage c.requires.whole c.requires.says (is ∙ (c.in-Some-eq1.is ∙ ap Some c.in-Some-eq1.field-0-test)))

pub returns-in-Some : goal.returns-in-Some
returns-in-Some c =
    let is = ap (chosen c.args.self.now.password) (sym c.as_slice.ensures.value) ∙ (sym (c.chosen.ensures c.args.self.now.password (sym c.is_some.ensures)) ∙ c.in-Some.is) in
    let two = two_was_chosen c.args.self.now.password c.args.self.now.field.items c.in-Some.kind is c.in-Some.kind-test.1 in
    rw (c.begin-in-Some.ensures, c.say-in-Some.ensures, two) (challenge_follows c.args.self.now c.requires.stage c.requires.whole c.requires.says (is ∙ ap Some two))

pub returns-in-None : goal.returns-in-None
returns-in-None c =
    let is = ap (chosen c.args.self.now.password) (sym c.as_slice.ensures.value) ∙ (sym (c.chosen.ensures c.args.self.now.password (sym c.is_some.ensures)) ∙ c.in-None.is) in
    nothing_chosen c.args.self.now c.requires.stage c.requires.whole (omega (arith, ap length c.as_slice.ensures.value, c.as_slice.ensures.fits)) c.requires.says is
