use Rattle.std.proofs.Common.{◌*◌, [], refl}
use Rattle.host_decoder.specs.DataParts.{RawProgress}
use Rattle.host_decoder.proofs.RawPieces.{stands_new}
use Rattle.host_decoder.proofs.raw_data.RawPixelsRectReader.of.Goals as goal

pub returns-clause-stands : goal.returns-clause-stands
returns-clause-stands c canvas =
    let area = c.args.area.now in
    let p : RawProgress = record { width = area.w; count = area.w * area.h; done = 0; begun = [] } in
    stands_new area p canvas refl refl refl
