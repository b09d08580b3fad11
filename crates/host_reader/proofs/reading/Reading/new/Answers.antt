-- Nothing was taken yet.
use Rattle.std.proofs.Common.{◌≡◌, ap, sym}
use Rattle.host_decoder.specs.Decoder.{Decoding}
use Rattle.host_reader.proofs.Steps.{far_begins_at}
use Rattle.host_reader.proofs.reading.Reading.new.Goals as goal

pub invariant_of-result-clause-size : goal.invariant_of-result-clause-size
invariant_of-result-clause-size g c = (ap (λ (d : Decoding). d.width) (sym c.requires.first.1), ap (λ (d : Decoding). d.height) (sym c.requires.first.1))

pub invariant_of-result-clause-painter_size : goal.invariant_of-result-clause-painter_size
invariant_of-result-clause-painter_size g c = (c.requires.painter.width, c.requires.painter.height)

pub invariant_of-result-clause-given : goal.invariant_of-result-clause-given
invariant_of-result-clause-given g c = ap (λ l. (g.L.Link.state l).given) (sym c.requires.first.0)

pub invariant_of-result-clause-lawful : goal.invariant_of-result-clause-lawful
invariant_of-result-clause-lawful g c = ∣ (λ screen k. far_begins_at screen _ c.args.first.now.decoder.value _ c.args.first.now.painter.value _ _ _ _ (ap g.L.Link.state c.requires.first.0) c.requires.first.1 c.requires.first.2 (ap g.P.Puts.updates c.requires.first.3) k) ∣₁
