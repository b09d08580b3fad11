use Rattle.std.proofs.Common.{◌≡◌, ℕ, ◌+◌, false, ap, subst, ◌∙◌, arith}
use Rattle.raster.specs.declared.encoding.Encoding.TheVariants.{Hextile}
use Rattle.raster.specs.Screen.{Canvas, value_at, values_of}
use Rattle.joined_runs.specs.Joined.{IsEncodedAs}
use Rattle.hextile_codec.specs.declared.source.PixelSource.{PixelSource}
use Rattle.hextile_codec.specs.Sources.{shows}
use Rattle.hextile_codec.proofs.Alike.{list_back}
use Rattle.hextile_codec.proofs.writing.encode_as.Goals as goal

pub returns : goal.returns
returns c =
    let w : ℕ = c.args.w in
    let h : ℕ = c.args.h in
    let source : PixelSource = record { numbers = c.args.values; width = w; height = h; area = record { x = 0; y = 0; w = w; h = h }; are_colours = false } in
    let canvas : Canvas = shows c.args.format.now source in
    let back : values_of w h canvas ≡ c.args.values.now =
    list_back w h canvas c.args.values.now c.requires.count (λ x y lx ly.
    let left : 0 + x ≡ x = omega arith in
    let top : 0 + y ≡ y = omega arith in
    ap (λ u. value_at w c.args.values.now u (0 + y)) left ∙ ap (λ v. value_at w c.args.values.now x v) top) in
    subst (λ values. IsEncodedAs c.args.form Hextile c.args.format.now w h values c.encode_from.new.out c.encode_from.result) back c.encode_from.ensures
