use Rattle.std.proofs.Common.{ap, ◌∙◌}
use Rattle.byte_reading.specs.Reading.{Reading, after}
use Rattle.raster.specs.Screen.{values_of}
use Rattle.raster.specs.Update.{Paint}
use Rattle.host_decoder.proofs.Mapping.{putting_fed}
use Rattle.host_decoder.proofs.codec_data.AnyRectReader.feed.Goals as goal

pub returns-clause-fed : goal.returns-clause-fed
returns-clause-fed g c reading s =
    let area = c.args.painter.now.area in
    let piece = c.args.piece.now in
    let R = g.R.CodecReader in
    let e = c.read_piece.ensures in
    let d = e.drawn s.sofar s.stands in
    let fed = putting_fed (λ read. values_of area.w area.h (R.picture area.w area.h read)) area (R.ahead c.args.self.now s.sofar) (R.ahead c.read_piece.new.reader d.drawing) piece c.read_piece.result d.feeds in (
      record {
        sofar = d.drawing;
        width_is = e.width ∙ s.width_is;
        height_is = e.height ∙ s.height_is;
        stands = d.stands;
        reads = ap (λ (r : Reading Paint). after r piece) s.reads ∙ fed.0;
      },
      rw (s.reads) fed.1,
    )
