use Rattle.std.proofs.Common.{◌≡◌, ℕ, ◌≤◌, ◌++◌, ◌-◌, List, length, take}
use Rattle.raster.specs.Screen.{Canvas}
use Rattle.raster.specs.Update.{Update}
use Rattle.host_decoder.specs.Decoder.{IsFor}
use Rattle.host_reader.specs.Running.{CanRead, HasRead}
use Rattle.host_reader.proofs.events.put_piece.Given as goal

abbrev pub invariant-loop-used : goal.invariant-loop-used
invariant-loop-used g l =
    record {
      within : l.used ≤ length l.piece;
      wide : l.decoder.width ≡ l.fn.decoder.width;
      high : l.decoder.height ≡ l.fn.decoder.height;
      painter : IsFor l.decoder l.painter;
      publisher_wide : g.P.Puts.width l.publisher ≡ g.P.Puts.width l.fn.publisher;
      publisher_high : g.P.Puts.height l.publisher ≡ g.P.Puts.height l.fn.publisher;
      can_read : CanRead l.decoder l.painter;
      has_read : (screen : Canvas) (stream : List ℕ) (old : List Update) → HasRead l.fn.decoder.width l.fn.decoder.height screen l.fn.decoder l.fn.painter l.fn.is_between stream old (g.P.Puts.updates l.fn.publisher)
          → HasRead l.fn.decoder.width l.fn.decoder.height screen l.decoder l.painter l.between (stream ++ take l.used l.piece) old (g.P.Puts.updates l.publisher);
    }

abbrev pub decreases-loop-used : goal.decreases-loop-used
decreases-loop-used g l = length l.piece - l.used
