use Rattle.std.proofs.Common.{◌≡◌, ap, sym, ◌∙◌}
use Rattle.pixel_format.specs.PixelFormat.{PixelFormat, host_format}
use Rattle.raster.specs.Encoding.{pixels}
use Rattle.raster.specs.Reader.{values_read}
use Rattle.host_decoder.specs.Data.{putting}
use Rattle.host_decoder.specs.Updates.{colour_of}
use Rattle.host_decoder.proofs.codec_data.AnyRectReader.of.Goals as goal

pub returns-clause-stands : goal.returns-clause-stands
returns-clause-stands g c canvas =
    let area = c.args.area.now in
    let R = g.R.CodecReader in
    let begins : values_read area.w area.h (R.picture area.w area.h) (R.ahead c.begin.result R.nothing) ≡ pixels R.encoding host_format area.w area.h =
    c.begin.ensures.begins ∙ ap (λ (f : PixelFormat). pixels R.encoding f area.w area.h) c.host.ensures in
    record {
      sofar = R.nothing;
      width_is = c.begin.ensures.width;
      height_is = c.begin.ensures.height;
      stands = c.begin.ensures.stands colour_of canvas;
      reads = ap (putting area) (sym begins);
    }
