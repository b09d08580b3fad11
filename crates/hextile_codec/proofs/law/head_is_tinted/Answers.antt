use Rattle.hextile_codec.proofs.Tinted.{head_tinted}
use Rattle.hextile_codec.proofs.law.head_is_tinted.Goals as goal

pub returns : goal.returns
returns c = head_tinted
