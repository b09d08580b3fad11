-- Nothing was taken or given yet.
use Rattle.std.proofs.Common.{ap, sym, ◌∙◌}
use Rattle.rfb_wire.specs.Handshake.{host_hello}
use Rattle.link.proofs.Handshaking.{hearing_begins}
use Rattle.link.proofs.joining.Joining.new.Goals as goal

pub invariant_of-result : goal.invariant_of-result
invariant_of-result g c =
    record {
      lawful = ∣ rw (ap g.L.Link.state c.requires) (hearing_begins (g.L.Link.state c.args.link.now) c.new.result (record { heard = c.new.ensures.heard; whole = c.new.ensures.ahead ∙ ap host_hello (sym c.new.ensures.password); sent = c.new.ensures.sent })) ∣₁;
    }
