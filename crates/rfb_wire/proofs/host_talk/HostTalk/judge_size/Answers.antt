use Rattle.std.proofs.Common.{◌≡◌, ap, sym, ◌∙◌}
use Rattle.std.proofs.lemmas.Bool.{and_from}
use Rattle.rfb_wire.specs.Handshake.{is_size}
use Rattle.rfb_wire.proofs.Joinings.{wide, high}
use Rattle.rfb_wire.proofs.Judging.{good_size}
use Rattle.rfb_wire.proofs.host_talk.HostTalk.judge_size.Goals as goal

pub returns-then-is_size-2 : goal.returns-then-is_size-2
returns-then-is_size-2 c =
    let w : c.size_at-w.result ≡ wide c.args.self.now.field.items = c.size_at-w.ensures ∙ ap wide c.as_slice-field.ensures.value in
    let h : c.size_at-h.result ≡ high c.args.self.now.field.items = c.size_at-h.ensures ∙ ap high c.as_slice-field.ensures.value in
    let good = and_from _ _ (ap is_size (sym w) ∙ (sym c.is_size.ensures ∙ c.if-is_size.true)) (ap is_size (sym h) ∙ (sym c.is_size-then-is_size.ensures ∙ c.if-is_size-2.true)) in
    rw (c.begin.ensures, c.from-self.ensures, c.from-self-then-is_size-2.ensures, w, h) (good_size c.args.self.now c.requires.stage c.requires.whole c.requires.says good)
