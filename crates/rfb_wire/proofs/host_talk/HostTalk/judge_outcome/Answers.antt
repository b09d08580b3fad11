use Rattle.std.proofs.Common.{ap, sym, ◌∙◌}
use Rattle.std.specs.Prelude.{◌==◌}
use Rattle.std.specs.Int.{w32, from_be_bytes}
use Rattle.std.proofs.lemmas.Bool.{ne_eqb}
use Rattle.rfb_wire.proofs.Judging.{good_outcome, bad_outcome}
use Rattle.rfb_wire.proofs.host_talk.HostTalk.judge_outcome.Goals as goal

pub returns-then-number_in-eq0 : goal.returns-then-number_in-eq0
returns-then-number_in-eq0 c =
    let told = sym (c.number_in.ensures ∙ ap (from_be_bytes w32) c.as_slice.ensures.value) in
    rw (c.begin.ensures, c.say.ensures) (good_outcome c.args.self.now c.requires.stage c.requires.whole c.requires.says (told ∙ c.if-number_in-eq0.true))

pub returns-else-number_in-eq0 : goal.returns-else-number_in-eq0
returns-else-number_in-eq0 c =
    let told = sym (c.number_in.ensures ∙ ap (from_be_bytes w32) c.as_slice.ensures.value) in
    bad_outcome c.args.self.now c.requires.stage c.requires.whole c.requires.says (ap (λ n. n == 0) told ∙ ne_eqb c.number_in.result 0 c.if-number_in-eq0.false)
