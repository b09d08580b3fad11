use Rattle.std.proofs.Common.{[], inr, refl, ap, subst, sym, ◌∙◌}
use Rattle.raster.specs.Screen.{opening}
use Rattle.painter.proofs.SameLaws.{same_none}
use Rattle.host_decoder.specs.Decoder.{Decodes, host_message}
use Rattle.reflect_world.proofs.host.Host.new.Goals as goal

pub returns-clause-stands : goal.returns-clause-stands
returns-clause-stands c =
    let screen = c.in_ok-new.field-0 in
    let size = c.in_ok-new.ensures.size in
    inr (record {
      read = [];
      split = sym c.new-2.ensures;
      updates = same_none screen.decoder.width screen.decoder.height opening opening (λ x y lx ly. refl);
      decodes = subst (Decodes screen.decoder screen.painter opening) (ap (λ n. host_message n c.args.height) (sym size.0) ∙ ap (host_message screen.decoder.width) (sym size.1)) c.in_ok-new.ensures.begins;
    })
