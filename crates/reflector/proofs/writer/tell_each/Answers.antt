-- One host more, or the last.
use Rattle.std.proofs.Common.{refl, ap, sym, ◌∙◌}
use Rattle.run_traits.specs.Unused.{unused}
use Rattle.reflector.specs.Tellings.{desk}
use Rattle.run_traits.specs.LinkTrails.{links_in}
use Rattle.reflector.proofs.Telling.{noted_twice, telling_on, told_all}
use Rattle.reflector.proofs.writer.tell_each.Goals as goal

pub returns-in_default-clause-told : goal.returns-in_default-clause-told
returns-in_default-clause-told g c = told_all _ _ _ _ _ _ _ _ _ c.loop.invariant.4 refl

pub run_writer-why-requires-clause-whole : goal.run_writer-why-requires-clause-whole
run_writer-why-requires-clause-whole g c = let telling = c.meet-busy.ensures.telling in rw telling.1 c.meet-busy.ensures.begins.2

pub close-idle-requires-clause-first : goal.close-idle-requires-clause-first
close-idle-requires-clause-first g c = c.run_writer-why.ensures.first ∙ (c.meet-busy.ensures.first ∙ sym c.meet-busy.ensures.lent.0)

pub close-idle-requires-clause-writes : goal.close-idle-requires-clause-writes
close-idle-requires-clause-writes g c =
    let telling = c.meet-busy.ensures.telling in let began = c.beginning-began.ensures.parts in
    rw (c.meet-busy.ensures.lent.0, c.beginning-began.ensures.fresh, began.1, began.2, began.3)
    (rw (telling.0, telling.1, telling.2, telling.3) at c.run_writer-why.ensures.tells)

pub loop-preserved : goal.loop-preserved
loop-preserved g c =
    let telling = c.meet-busy.ensures.telling in let parts = c.close-idle.ensures.parts in let met = c.meet-busy.ensures.came in
    let writes = rw (telling.0, telling.1, telling.2, telling.3) at c.run_writer-why.ensures.tells in (
      tt,
      tt,
      ap g.K.InputSource.relay parts.1 ∙ (c.run_writer-why.ensures.relay ∙ (ap g.K.InputSource.relay telling.2 ∙ c.loop.invariant.2)),
      λ k. rw (parts.1, parts.2, parts.3) (c.run_writer-why.ensures.counted (rw (telling.2, telling.3, telling.4) (c.loop.invariant.3 k))),
      rw (parts.0, parts.1, parts.2)
          (telling_on _ _ _ _ (desk (links_in g.L.Link.state c.loop.idle.told_links) c.loop.idle.source (g.K.InputSource.taken c.loop.idle.taker) c.loop.idle.strokes) _ _ _ _ unused _ c.run_writer-why.result c.loop.invariant.4 refl writes
          (noted_twice _ _ _ _ _ met refl c.close-idle.ensures.left)),
    )
