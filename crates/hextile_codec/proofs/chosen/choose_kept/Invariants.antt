use Rattle.std.proofs.Common.{◌≡◌, ◌+◌, ◌*◌, ◌-◌, ◌≤◌, length}
use Rattle.raster.specs.Screen.{tile_count}
use Rattle.joined_runs.specs.declared.rect_form.RectForm.TheVariants.{OfRows, Joined}
use Rattle.joined_runs.specs.Joined.{tiles_from_as, hextile_bytes_as}
use Rattle.hextile_codec.specs.Carried.{carried_by}
use Rattle.hextile_codec.specs.Chosen.{AreChosenBy, carried_to}
use Rattle.hextile_codec.specs.Sources.{shows}
use Rattle.hextile_codec.proofs.chosen.choose_kept.Given as goal

abbrev pub invariant-loop-k : goal.invariant-loop-k
invariant-loop-k l =
    record {
      carried : carried_by l.said.joined ≡ carried_to l.format l.w l.h (shows l.format l.source) l.k;
      count : length l.chosen.items ≡ l.k;
      chosen : AreChosenBy l.format l.w l.h (shows l.format l.source) l.forms l.chosen.items;
      joined : l.lengths.joined + length (tiles_from_as Joined l.format l.w l.h (shows l.format l.source) (carried_by l.said.joined) l.k (tile_count l.w l.h - l.k)) ≡ length (hextile_bytes_as Joined l.format l.w l.h (shows l.format l.source));
      rows : l.lengths.rows + length (tiles_from_as OfRows l.format l.w l.h (shows l.format l.source) (carried_by l.said.rows) l.k (tile_count l.w l.h - l.k)) ≡ length (hextile_bytes_as OfRows l.format l.w l.h (shows l.format l.source));
      few : (l.lengths.joined ≤ 1025 * l.k) × (l.lengths.rows ≤ 1025 * l.k);
    }
