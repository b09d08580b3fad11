use Rattle.std.proofs.Common.{arith, ap, sym, ◌∙◌, get_or}
use Rattle.rfb_wire.proofs.Judging.{types_follow, reason_follows}
use Rattle.rfb_wire.proofs.host_talk.HostTalk.judge_type_count.Goals as goal

pub returns-then-count-eq0 : goal.returns-then-count-eq0
returns-then-count-eq0 c =
    let told = ap (λ xs. get_or xs 0 0) (sym c.as_slice.ensures.value) ∙ sym c.count_in-count.ensures in
    rw c.begin.ensures (reason_follows c.args.self.now c.requires.stage c.requires.whole c.requires.says (told ∙ c.if-count-eq0.true))

pub returns-else-count-eq0 : goal.returns-else-count-eq0
returns-else-count-eq0 c =
    let told = ap (λ xs. get_or xs 0 0) (sym c.as_slice.ensures.value) ∙ sym c.count_in-count.ensures in
    rw c.begin-else-count-eq0.ensures
    (types_follow c.args.self.now c.from.result c.requires.stage c.requires.whole c.requires.says (told ∙ sym c.from.ensures) (omega (arith, c.from.ensures, c.if-count-eq0.false)) (omega (arith, c.from.ensures, c.count_in-count.type_inv)))
