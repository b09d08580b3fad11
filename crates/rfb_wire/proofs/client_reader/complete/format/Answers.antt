use Rattle.std.proofs.Common.{◌∙◌, ap, refl, false, true, ◌≡◌}
use Rattle.std.specs.Prelude.{take}
use Rattle.byte_reading.specs.Reading.{Faulty}
use Rattle.rfb_wire.proofs.ViewerParts.{format_accepted, format_refused}
use Rattle.rfb_wire.proofs.client_reader.complete.format.Goals as goal

pub returns-in-Ok : goal.returns-in-Ok
returns-in-Ok c =
    format_accepted c.args.b.now c.in-Some.fields.now c.in-Ok.format c.requires (c.in-Some.ensures.cases.same ∙ ap (take 16) c.split_at.ensures.back) (c.in-Ok.ensures.accepted.0 refl) (c.in-Ok.ensures.value)

pub returns-in-Err : goal.returns-in-Err
returns-in-Err c =
    ap Faulty c.in-Err.ensures.refused
    ∙ format_refused c.args.b.now c.in-Some.fields.now c.requires (c.in-Some.ensures.cases.same ∙ ap (take 16) c.split_at.ensures.back) (λ a. let e : false ≡ true = c.in-Err.ensures.accepted.1 a in absurd cc)
