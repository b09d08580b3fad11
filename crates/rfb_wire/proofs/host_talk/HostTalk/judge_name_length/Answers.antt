use Rattle.std.proofs.Common.{◌≡◌, arith, ap, sym, ◌∙◌}
use Rattle.std.specs.Int.{w32, from_be_bytes}
use Rattle.rfb_wire.proofs.Judging.{no_name, some_name}
use Rattle.rfb_wire.proofs.host_talk.HostTalk.judge_name_length.Goals as goal

pub returns-then-kept-eq0 : goal.returns-then-kept-eq0
returns-then-kept-eq0 c =
    let told = sym (c.number_in-length.ensures ∙ ap (from_be_bytes w32) c.as_slice.ensures.value) in
    let zero : c.number_in-length.result ≡ 0 = omega (arith, c.min-kept.ensures, c.if-kept-eq0.true) in
    rw (c.begin.ensures, c.if-kept-eq0.true) (no_name c.args.self.now _ c.requires.stage c.requires.whole c.requires.says (told ∙ zero))

pub returns-else-kept-eq0 : goal.returns-else-kept-eq0
returns-else-kept-eq0 c =
    let told = sym (c.number_in-length.ensures ∙ ap (from_be_bytes w32) c.as_slice.ensures.value) in
    let kept = c.min-kept.ensures in
    rw c.begin.ensures
    (some_name c.args.self.now c.number_in-length.result c.min-kept.result _ c.requires.stage c.requires.whole c.requires.says told (omega (arith, kept)) (omega (arith, kept)) (omega (arith, c.if-kept-eq0.false)))
