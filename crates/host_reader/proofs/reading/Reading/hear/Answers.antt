-- A piece came.
use Rattle.std.proofs.Common.{◌≡◌, ◌∙◌, sym}
use Rattle.std.proofs.Math.Logic.{∥∥₁_map}
use Rattle.host_reader.proofs.Steps.{far_on}
use Rattle.host_reader.proofs.reading.Reading.hear.Goals as goal

pub invariant_of-self-clause-size : goal.invariant_of-self-clause-size
invariant_of-self-clause-size g c = (c.hear-answer.ensures.decoder.0 ∙ c.args.self.now.size.0, c.hear-answer.ensures.decoder.1 ∙ c.args.self.now.size.1)

pub invariant_of-self-clause-painter_size : goal.invariant_of-self-clause-painter_size
invariant_of-self-clause-painter_size g c = (c.hear-answer.ensures.painter.width, c.hear-answer.ensures.painter.height)

pub invariant_of-self-clause-publisher_size : goal.invariant_of-self-clause-publisher_size
invariant_of-self-clause-publisher_size g c =
    (c.hear-answer.ensures.publisher.0 ∙ (c.args.self.now.publisher_size.0 ∙ sym c.hear-answer.ensures.decoder.0), c.hear-answer.ensures.publisher.1 ∙ (c.args.self.now.publisher_size.1 ∙ sym c.hear-answer.ensures.decoder.1))

pub invariant_of-self-clause-given : goal.invariant_of-self-clause-given
invariant_of-self-clause-given g c = c.hear-answer.ensures.given ∙ c.args.self.now.given

pub invariant_of-self-clause-lawful : goal.invariant_of-self-clause-lawful
invariant_of-self-clause-lawful g c = ∥∥₁_map c.args.self.now.lawful (λ f. λ screen k.
    c.hear-answer.ensures.so_far _ _ screen _ _ c.args.self.now.size.0 c.args.self.now.size.1
    (far_on c.args.self.now.is_over _ _ screen _ _ _ _ _ _ _ c.requires.on (f screen k)))
