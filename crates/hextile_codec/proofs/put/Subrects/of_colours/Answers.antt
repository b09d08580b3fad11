use Rattle.hextile_codec.proofs.SubrectsIn.{of_colours_in}
use Rattle.hextile_codec.proofs.put.Subrects.of_colours.Goals as goal

pub returns : goal.returns
returns c = λ format. of_colours_in format c.args.runs.now
