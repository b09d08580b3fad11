use Rattle.raster.proofs.Forms.{spelling_determines, form_determines}
use Rattle.raster.proofs.law.spelling_determines_values.Goals as goal

pub returns-clause-spelling : goal.returns-clause-spelling
returns-clause-spelling c = spelling_determines

pub returns-clause-canonical : goal.returns-clause-canonical
returns-clause-canonical c = form_determines
