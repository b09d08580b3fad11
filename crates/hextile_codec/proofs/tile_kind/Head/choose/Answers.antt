use Rattle.std.proofs.Common.{◌≡◌, ◌∙◌, List, length, sym, ap, arith}
use Rattle.pixel_format.specs.PixelFormat.{PixelFormat}
use Rattle.raster.specs.declared.rect.Rect.{Rect}
use Rattle.raster.specs.Encoding.{Subrect, Carried, drawn_bytes}
use Rattle.joined_runs.specs.Joined.{background_of, subrects_of}
use Rattle.hextile_codec.specs.declared.tile_kind.Head.{Head}
use Rattle.hextile_codec.specs.Carried.{carried_by}
use Rattle.hextile_codec.specs.TileKinds.{drawn_len, kind_of}
use Rattle.hextile_codec.proofs.Drawings.{chosen_drawn, drawn_has}
use Rattle.hextile_codec.proofs.tile_kind.Head.choose.Goals as goal

pub returns-then-raw-len-clause-choice : goal.returns-then-raw-len-clause-choice
returns-then-raw-len-clause-choice c form canvas found is all =
    let format : PixelFormat = c.args.format.now in
    let tile : Rect = c.args.tile.now in
    let before : Carried = carried_by c.args.said.now in
    let head : Head = c.args.self.now in
    let subrects : List Subrect = subrects_of form tile.w tile.h canvas in
    let has : c.drawn_len-len.result ≡ length (drawn_bytes format before (background_of form tile.w tile.h canvas) subrects) =
    c.drawn_len-len.ensures
    ∙ (ap (λ n. drawn_len format before head.background head.kind n) is.count ∙ (drawn_has format before head.background subrects head.kind is.kind ∙ ap (λ b. length (drawn_bytes format before b subrects)) is.background)) in
    c.raw_choice-raw.ensures.least form canvas found before (omega (arith, c.raw_choice-raw.ensures.len, has, c.if-raw-len.true))

pub returns-clause-choice : goal.returns-clause-choice
returns-clause-choice c form canvas found is all =
    let format : PixelFormat = c.args.format.now in
    let tile : Rect = c.args.tile.now in
    let before : Carried = carried_by c.args.said.now in
    let head : Head = c.args.self.now in
    chosen_drawn form format before tile.w tile.h canvas found head.background c.drawn_len-len.result head.kind all is.background (is.kind ∙ ap kind_of (sym all))
    (c.drawn_len-len.ensures ∙ ap (λ n. drawn_len format before head.background head.kind n) (is.count ∙ ap length (sym all))) (omega (arith, c.raw_choice-raw.ensures.len, c.if-raw-len.false))
