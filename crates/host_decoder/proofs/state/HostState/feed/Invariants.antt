use Rattle.std.proofs.Common.{◌≡◌, ◌≤◌, ◌-◌, false, length}
use Rattle.byte_reading.specs.Reading.{Reading}
use Rattle.raster.specs.Screen.{Canvas}
use Rattle.rfb_wire.specs.ServerMessage.{ServerMessage}
use Rattle.host_decoder.specs.Decoder.{Stands, Suits, is_open}
use Rattle.host_decoder.proofs.FeedSteps.{HasFed}
use Rattle.host_decoder.proofs.state.HostState.feed.Given as goal

abbrev pub invariant-loop-used : goal.invariant-loop-used
invariant-loop-used l =
    record {
      within : l.used ≤ length l.piece;
      width : l.painter.width ≡ l.fn.painter.width;
      height : l.painter.height ≡ l.fn.painter.height;
      suits : Suits l.fn.painter.width l.fn.painter.height l.self;
      fed : (screen : Canvas) (r : Reading ServerMessage) → Stands l.fn.painter.width l.fn.painter.height l.fn.self screen l.fn.painter r → HasFed l.fn.painter l.painter l.self screen r l.piece l.used;
      still : is_open l.fn.self ≡ false → (l.self ≡ l.fn.self) × (l.painter ≡ l.fn.painter) × (l.used ≡ 0);
    }

abbrev pub decreases-loop-used : goal.decreases-loop-used
decreases-loop-used l = length l.piece - l.used
