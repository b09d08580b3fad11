use Rattle.std.proofs.Common.{arith, subst, length, ◌∙◌}
use Rattle.rfb_wire.specs.Joining.{FitsStage}
use Rattle.rfb_wire.specs.declared.host_talk.Stage.{Stage}
use Rattle.rfb_wire.proofs.Judging.{whole_reason, whole_format, whole_name, front_of_name}
use Rattle.rfb_wire.proofs.host_talk.HostTalk.judge.Goals as goal

pub returns-in-Reason : goal.returns-in-Reason
returns-in-Reason c =
    let fits = subst (λ (s : Stage). FitsStage s c.args.self.now.wanted c.args.self.now.rest (length c.args.self.now.field.items)) c.in-Reason.is c.requires.fits in
    whole_reason c.args.self.now c.in-Reason.is c.requires.whole (omega (arith, fits.0, fits.1)) c.requires.says

pub returns-in-Format : goal.returns-in-Format
returns-in-Format c =
    let fits = subst (λ (s : Stage). FitsStage s c.args.self.now.wanted c.args.self.now.rest (length c.args.self.now.field.items)) c.in-Format.is c.requires.fits in
    rw c.begin.ensures (whole_format c.args.self.now c.in-Format.is (c.requires.whole ∙ fits.0) c.requires.says)

pub returns-in-Name : goal.returns-in-Name
returns-in-Name c =
    let fits = subst (λ (s : Stage). FitsStage s c.args.self.now.wanted c.args.self.now.rest (length c.args.self.now.field.items)) c.in-Name.is c.requires.fits in
    whole_name c.args.self.now c.in-Name.is c.requires.whole (omega (arith, fits.0, fits.1)) c.requires.says c.if-self-eq0.true

pub returns-in-Name-2 : goal.returns-in-Name-2
returns-in-Name-2 c =
    let fits = subst (λ (s : Stage). FitsStage s c.args.self.now.wanted c.args.self.now.rest (length c.args.self.now.field.items)) c.in-Name-2.is c.requires.fits in
    front_of_name c.args.self.now c.in-Name-2.is c.requires.whole (omega (arith, fits.0, fits.1)) c.requires.says (omega (arith, c.if-self-eq0.false))
