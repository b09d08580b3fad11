use Rattle.joined_runs.proofs.Recoloured.{background_tinted, subrects_tinted}
use Rattle.joined_runs.proofs.law.form_is_tinted.Goals as goal

pub returns-clause-background : goal.returns-clause-background
returns-clause-background c = λ runs format w h colours shown is. background_tinted format w h colours shown is runs

pub returns-clause-subrects : goal.returns-clause-subrects
returns-clause-subrects c = λ runs format w h colours shown is. subrects_tinted format w h colours shown is runs
