use Rattle.std.proofs.Common.{◌≡◌, min, arith, ap, ◌∙◌}
use Rattle.std.specs.Int.{w32, from_be_bytes}
use Rattle.rfb_wire.proofs.Judging.{no_reason, some_reason}
use Rattle.rfb_wire.proofs.host_talk.HostTalk.judge_reason_length.Goals as goal

pub returns-then-kept-eq0 : goal.returns-then-kept-eq0
returns-then-kept-eq0 c =
    let told = c.number_in.ensures ∙ ap (from_be_bytes w32) c.as_slice.ensures.value in
    let kept : min 255 (from_be_bytes w32 c.args.self.now.field.items) ≡ 0 = omega (arith, told, c.min-kept.ensures, c.if-kept-eq0.true) in
    rw (c.begin.ensures, c.if-kept-eq0.true) (no_reason c.args.self.now c.requires.stage c.requires.whole c.requires.says kept)

pub returns-else-kept-eq0 : goal.returns-else-kept-eq0
returns-else-kept-eq0 c =
    let told = c.number_in.ensures ∙ ap (from_be_bytes w32) c.as_slice.ensures.value in
    let kept : min 255 (from_be_bytes w32 c.args.self.now.field.items) ≡ c.min-kept.result = omega (arith, told, c.min-kept.ensures) in
    rw c.begin.ensures (some_reason c.args.self.now c.min-kept.result c.requires.stage c.requires.whole c.requires.says kept (omega (arith, c.if-kept-eq0.false)))
