use Rattle.std.proofs.Common.{◌≡◌, ℕ, Bool, true, false, List, map, refl}
use Rattle.std.specs.Prelude.{MatchOption}
use Rattle.std.specs.Bool.{then_some}
use Rattle.raster.specs.declared.rect.Rect.{Rect}
use Rattle.raster.specs.Screen.{Canvas, value_at, part_of}
use Rattle.raster.specs.Encoding.{Subrect}
use Rattle.raster.proofs.AreaRows.{tile_first}
use Rattle.joined_runs.specs.declared.rect_form.RectForm.TheVariants.{OfRows}
use Rattle.hextile_codec.specs.TileKinds.{HasMany, IsFoundAs, subrect_of}
use Rattle.hextile_codec.proofs.joining.find_rows.Goals as goal

by_answer : (b : Bool) (v : ℕ) (N : Type 0) (S : ℕ → Type 0) → (b ≡ false → N) → (b ≡ true → S v) → MatchOption (then_some b v) N S
by_answer true v N S f g = g refl
by_answer false v N S f g = f refl

pub returns : goal.returns
returns c =
    let tile : Rect = c.args.tile.now in
    let canvas : Canvas = part_of tile (value_at c.args.w c.args.values.now) in
    let first = tile_first c.args.values.now c.args.w tile in
    let found : List Subrect = map subrect_of c.find_runs.new.found.items in
    rw c.then_some.ensures
    (by_answer c.find_runs.result _ (HasMany OfRows tile.w tile.h canvas c.args.enough) (IsFoundAs OfRows tile.w tile.h canvas found)
    (λ e. record { many = rw first at (c.find_runs.ensures.many e); mixed = rw first at (c.find_runs.ensures.mixed e) })
    (λ e. record { background = first; all = rw first at (c.find_runs.ensures.all e) }))
