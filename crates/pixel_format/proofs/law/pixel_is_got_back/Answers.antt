use Rattle.pixel_format.proofs.Pixels.{pixel_back}
use Rattle.pixel_format.proofs.law.pixel_is_got_back.Goals as goal

pub returns : goal.returns
returns c = pixel_back
