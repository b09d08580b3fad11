use Rattle.raster.proofs.RreSpelled.{spells_rect, rect_back}
use Rattle.raster.proofs.law.rect_is_read.Goals as goal

pub returns-clause-spelled : goal.returns-clause-spelled
returns-clause-spelled c = λ r fits. spells_rect r fits.x fits.y fits.w fits.h

pub returns-clause-value : goal.returns-clause-value
returns-clause-value c = rect_back
