use Rattle.std.proofs.Common.{◌≡◌, ◌-◌, ◌++◌, ◌≤◌, take, length}
use Rattle.raster.specs.Screen.{tile_count}
use Rattle.joined_runs.specs.declared.rect_form.RectForm.TheVariants.{Joined}
use Rattle.joined_runs.specs.Joined.{tiles_from_as, hextile_bytes_as}
use Rattle.hextile_codec.specs.Carried.{carried_by}
use Rattle.hextile_codec.specs.Chosen.{carried_to}
use Rattle.hextile_codec.specs.Sources.{shows}
use Rattle.hextile_codec.proofs.writing.put_all_chosen.Given as goal

abbrev pub invariant-loop-k : goal.invariant-loop-k
invariant-loop-k l =
    record {
      room : l.used ≤ length l.out;
      carried : carried_by l.said ≡ carried_to l.format l.w l.h (shows l.format l.source) l.k;
      bytes : take l.used l.out ++ tiles_from_as Joined l.format l.w l.h (shows l.format l.source) (carried_by l.said) l.k (tile_count l.w l.h - l.k) ≡ hextile_bytes_as Joined l.format l.w l.h (shows l.format l.source);
    }
