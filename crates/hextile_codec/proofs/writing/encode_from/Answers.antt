use Rattle.std.proofs.Common.{◌≡◌, ◌*◌, ◌<◌, ℕ, List, length, take, drop, sym, ap, ◌∙◌, arith}
use Rattle.std.proofs.lemmas.List.{length-take}
use Rattle.pixel_format.specs.PixelFormat.{PixelFormat, pixel_len}
use Rattle.raster.specs.declared.encoding.Encoding.TheVariants.{Hextile}
use Rattle.raster.specs.Screen.{Canvas, value_at, values_of}
use Rattle.raster.proofs.Places.{length_values}
use Rattle.joined_runs.specs.declared.rect_form.RectForm.TheVariants.{OfRows, Joined}
use Rattle.joined_runs.specs.Joined.{form_of, hextile_bytes_as, shorter}
use Rattle.hextile_codec.specs.Sources.{shows}
use Rattle.hextile_codec.proofs.Alike.{of_values, some_wide}
use Rattle.hextile_codec.proofs.Encoded.{encoded, rows_form, joined_form}
use Rattle.hextile_codec.proofs.writing.encode_from.Goals as goal

pub returns-in-OfRows : goal.returns-in-OfRows
returns-in-OfRows c =
    let format : PixelFormat = c.args.format.now in
    let w : ℕ = c.args.source.now.area.w in
    let h : ℕ = c.args.source.now.area.h in
    let canvas : Canvas = shows format c.args.source.now in
    let values : List ℕ = values_of w h canvas in
    let raw : ℕ = w * h * c.bytes.result in
    let same : raw ≡ length values * pixel_len format = ap (λ p. w * h * p) c.bytes.ensures ∙ ap (λ n. n * pixel_len format) (sym (length_values w h canvas)) in
    let room : List ℕ = take raw c.args.out.now in
    let size : length room ≡ length values * pixel_len format = omega (arith, length-take raw c.args.out.now, same, ap (λ p. w * h * p) c.bytes.ensures, c.requires.room) in
    let wide : 0 < w = some_wide w h c.bytes.result c.if-raw-eq0.false in
    let form : hextile_bytes_as OfRows format w h canvas ≡ form_of OfRows Hextile format w h values = of_values OfRows format w h canvas wide ∙ rows_form format w h values in
    rw c.in-OfRows.is (encoded OfRows format w h values room c.put_rows.new.out (drop raw c.args.out.now) c.put_rows.result size c.put_rows.auto.out (rw form at c.put_rows.ensures))

pub returns-in-Joined : goal.returns-in-Joined
returns-in-Joined c =
    let format : PixelFormat = c.args.format.now in
    let w : ℕ = c.args.source.now.area.w in
    let h : ℕ = c.args.source.now.area.h in
    let canvas : Canvas = shows format c.args.source.now in
    let values : List ℕ = values_of w h canvas in
    let raw : ℕ = w * h * c.bytes.result in
    let same : raw ≡ length values * pixel_len format = ap (λ p. w * h * p) c.bytes.ensures ∙ ap (λ n. n * pixel_len format) (sym (length_values w h canvas)) in
    let room : List ℕ = take raw c.args.out.now in
    let size : length room ≡ length values * pixel_len format = omega (arith, length-take raw c.args.out.now, same, ap (λ p. w * h * p) c.bytes.ensures, c.requires.room) in
    let wide : 0 < w = some_wide w h c.bytes.result c.if-raw-eq0.false in
    let form : shorter (hextile_bytes_as Joined format w h canvas) (hextile_bytes_as OfRows format w h canvas) ≡ form_of Joined Hextile format w h values =
    ap (λ bytes. shorter bytes (hextile_bytes_as OfRows format w h canvas)) (of_values Joined format w h canvas wide)
    ∙ (ap (λ bytes. shorter (hextile_bytes_as Joined format w h (value_at w values)) bytes) (of_values OfRows format w h canvas wide) ∙ joined_form format w h values) in
    rw c.in-Joined.is (encoded Joined format w h values room c.put_shorter.new.out (drop raw c.args.out.now) c.put_shorter.result size c.put_shorter.auto.out (rw form at c.put_shorter.ensures))
