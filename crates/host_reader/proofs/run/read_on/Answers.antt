use Rattle.std.proofs.Common.{◌≡◌, refl, ◌∙◌}
use Rattle.host_reader.proofs.Steps.{running_begins, running_reads, runs_on}
use Rattle.host_reader.proofs.run.read_on.Goals as goal

pub loop-init : goal.loop-init
loop-init g c = (
  tt,
  tt,
  record {
    on = c.requires.on.1;
    first = refl;
    link_name = refl;
    decoder_name = refl;
    painter_name = refl;
    publisher_name = refl;
    given = refl;
    wide = refl;
    high = refl;
    publisher_wide = refl;
    publisher_high = refl;
    running = λ screen decodes. rw c.requires.on.0 (running_begins screen _ _ _ _ decodes);
  },
)

pub hear-requires-clause-reads : goal.hear-requires-clause-reads
hear-requires-clause-reads g c =
    let began = c.requires.begins in
    running_reads _ _ began.0 c.loop.reading.decoder.now c.loop.reading.painter.now c.loop.reading.is_between _ _ _ _ (c.loop.invariant.2.running began.0 began.1)

pub returns-in-Some-hear-clause-reads : goal.returns-in-Some-hear-clause-reads
returns-in-Some-hear-clause-reads g c = λ screen decodes.
    let inv = c.loop.invariant.2 in
    c.in-Some-hear.ensures.keeps _ _ screen _ _ inv.wide inv.high (inv.running screen decodes)

pub returns-in-Some-hear-clause-painter : goal.returns-in-Some-hear-clause-painter
returns-in-Some-hear-clause-painter g c = record { width = c.hear.new.self.painter_size.0; height = c.hear.new.self.painter_size.1 }

pub loop-preserved : goal.loop-preserved
loop-preserved g c =
    let inv = c.loop.invariant.2 in (
      tt,
      tt,
      record {
        on = c.hear.ensures.on c.in_default.is;
        first = c.hear.ensures.first ∙ inv.first;
        link_name = c.hear.ensures.same.0 ∙ inv.link_name;
        decoder_name = c.hear.ensures.same.1 ∙ inv.decoder_name;
        painter_name = c.hear.ensures.same.2 ∙ inv.painter_name;
        publisher_name = c.hear.ensures.same.3 ∙ inv.publisher_name;
        given = c.hear.ensures.given ∙ inv.given;
        wide = c.hear.ensures.decoder.0 ∙ inv.wide;
        high = c.hear.ensures.decoder.1 ∙ inv.high;
        publisher_wide = c.hear.ensures.publisher.0 ∙ inv.publisher_wide;
        publisher_high = c.hear.ensures.publisher.1 ∙ inv.publisher_high;
        running = λ screen decodes. runs_on c.hear.result _ _ screen _ _ _ _ _ _ _ c.in_default.is (c.hear.ensures.keeps _ _ screen _ _ inv.wide inv.high (inv.running screen decodes));
      },
    )
