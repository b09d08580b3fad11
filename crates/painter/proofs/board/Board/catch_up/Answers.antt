use Rattle.std.proofs.Common.{◌∷◌, [], ◌++◌, map, subst, ap, sym, ◌∙◌}
use Rattle.std.specs.Cmp.{unsigned_Decides}
use Rattle.std.proofs.lemmas.List.{nil_from_length}
use Rattle.copy_log.specs.Notes.{paint_of}
use Rattle.painter.specs.Board.{BoardStands, Posted}
use Rattle.painter.proofs.board.Board.catch_up.Goals as goal

pub catch_up_with_tiles-requires-clause-tiles : goal.catch_up_with_tiles-requires-clause-tiles
catch_up_with_tiles-requires-clause-tiles c =
    sym c.copies.ensures.paints ∙ ap (map paint_of) (nil_from_length c.copies.result.now ((unsigned_Decides _ 0).0 (sym c.is_empty.ensures ∙ c.if-is_empty.true)))

pub returns-else-is_empty-clause-stands : goal.returns-else-is_empty-clause-stands
returns-else-is_empty-clause-stands c us stood stands =
    subst (λ (b : Posted). BoardStands b (us ++ c.args.patch.now.update ∷ [])) (sym c.self.view_is) (c.apply.ensures.stands us (c.take_over.ensures.stands us stood stands))
