use Rattle.std.proofs.Common.{◌≡◌, ap, ◌∙◌}
use Rattle.tiles.proofs.RunTiles.{walk_at}
use Rattle.copy_log.specs.Notes.{PassedOn, is_marked}
use Rattle.copy_log.proofs.Marks.{held_by_walk}
use Rattle.copy_log.proofs.passed.Passed.is_held.Goals as goal

pub returns : goal.returns
returns c =
    let on : PassedOn = c.args.self.now in
    let wide : c.self.inside.width ≡ on.width = ap (λ (v : PassedOn). v.width) c.self.view_is in
    let high : c.self.inside.height ≡ on.height = ap (λ (v : PassedOn). v.height) c.self.view_is in
    let start : c.new.result ≡ walk_at on.width on.height c.args.area.now 0 = c.new.ensures ∙ (λ i. walk_at (wide i) (high i) c.args.area.now 0) in
    held_by_walk on.width on.height (is_marked on.lacks) c.args.area.now c.new.result c.next.new.self c.next.result c.is_none.result start c.next.ensures.run c.next.ensures.done c.is_none.ensures
