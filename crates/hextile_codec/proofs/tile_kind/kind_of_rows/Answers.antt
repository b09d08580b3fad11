use Rattle.std.proofs.Common.{◌≡◌, ◌∙◌, ℕ, refl, sym, ap}
use Rattle.raster.specs.Screen.{values_of}
use Rattle.joined_runs.specs.Joined.{joined_runs, most_frequent, runs_over}
use Rattle.hextile_codec.specs.declared.tile_kind.TileKind.TheVariants.{TwoColours}
use Rattle.hextile_codec.specs.TileKinds.{kind_of}
use Rattle.hextile_codec.proofs.KindBeside.{joined_over, most_shown, not_two, rows_over, same_back, two_apart}
use Rattle.hextile_codec.proofs.tile_kind.kind_of_rows.Goals as goal

pub returns-then-backgrounds : goal.returns-then-backgrounds
returns-then-backgrounds c w h canvas found lw lh are is =
    let b : ℕ = most_frequent (values_of w h canvas) in
    let f : ℕ = canvas 0 0 in
    let same : f ≡ b = sym are.rows ∙ (c.if-backgrounds.true ∙ are.joined.background) in
    is ∙ (ap kind_of are.joined.all ∙ same_back canvas w h b f (joined_runs canvas b w h) (runs_over canvas f w h) (joined_over canvas w h b) (rows_over canvas w h f) (most_shown canvas w h lw lh) (record { x = 0; y = 0; column = lw; row = lh; is = refl }) same)

pub returns-in-TwoColours : goal.returns-in-TwoColours
returns-in-TwoColours c w h canvas found lw lh are is =
    let b : ℕ = most_frequent (values_of w h canvas) in
    let f : ℕ = canvas 0 0 in
    let kind = is ∙ ap kind_of are.joined.all in
    ap TwoColours are.joined.background
    ∙ sym (two_apart canvas w h b f (joined_runs canvas b w h) (runs_over canvas f w h) (joined_over canvas w h b) (rows_over canvas w h f) (most_shown canvas w h lw lh) (record { x = 0; y = 0; column = lw; row = lh; is = refl }) c.in-TwoColours.field-0 (sym kind ∙ c.in-TwoColours.is)
    (λ same. c.if-backgrounds.false (are.rows ∙ (same ∙ sym are.joined.background))))

pub returns-in_default : goal.returns-in_default
returns-in_default c w h canvas found lw lh are is =
    let b : ℕ = most_frequent (values_of w h canvas) in
    let f : ℕ = canvas 0 0 in
    let kind = is ∙ ap kind_of are.joined.all in
    kind
    ∙ not_two canvas w h b f (joined_runs canvas b w h) (runs_over canvas f w h) (joined_over canvas w h b) (rows_over canvas w h f) (most_shown canvas w h lw lh) (record { x = 0; y = 0; column = lw; row = lh; is = refl }) (λ v e. c.in_default.not-TwoColours v (kind ∙ e))
