use Rattle.std.proofs.Common.{ℕ, Bool, refl, ap, ◌∙◌}
use Rattle.tiles.specs.Grid.{Stamps, due_at}
use Rattle.tiles.specs.Have.{SentTiles}
use Rattle.tiles.specs.Touched.{runs}
use Rattle.tiles.specs.Walk.{Walking, runs_left}
use Rattle.tiles.proofs.WalkLaws.{left_at_first}
use Rattle.tiles.proofs.due_runs.DueRuns.new.Goals as goal

pub returns : goal.returns
returns c =
    let due : ℕ → Bool = due_at c.new.result.grid.now c.new.result.have.now in
    let w : ℕ = c.size-width.result.0 in
    let h : ℕ = c.size-width.result.1 in
    ap (λ (walk : Walking). runs_left walk due) c.new-2.ensures
    ∙ (left_at_first (record { width = w; height = h; area = c.args.area.now; next = 0 }) due refl
    ∙ (ap (λ (k : ℕ). runs k h c.args.area.now due) c.size-width.ensures.value.0
    ∙ (ap (λ (k : ℕ). runs c.args.grid.now.width k c.args.area.now due) c.size-width.ensures.value.1
    ∙ (ap (λ (v : Stamps). runs c.args.grid.now.width c.args.grid.now.height c.args.area.now (due_at v c.new.result.have.now)) c.new.ensures.0
    ∙ ap (λ (v : SentTiles). runs c.args.grid.now.width c.args.grid.now.height c.args.area.now (due_at c.args.grid.now v)) c.new.ensures.1))))
