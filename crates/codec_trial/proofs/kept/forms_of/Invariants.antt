use Rattle.std.proofs.Common.{◌≡◌, length}
use Rattle.raster.specs.Screen.{value_at}
use Rattle.hextile_codec.specs.Kept.{AreFormsOf}
use Rattle.codec_trial.proofs.kept.forms_of.Given as goal

abbrev pub invariant-loop-k : goal.invariant-loop-k
invariant-loop-k l =
    record {
      count : length l.forms.items ≡ l.k;
      are : AreFormsOf l.w l.h (value_at l.w l.colours) l.forms.items;
    }
