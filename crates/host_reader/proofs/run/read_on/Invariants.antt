use Rattle.std.proofs.Common.{◌≡◌, true, false}
use Rattle.raster.specs.Screen.{Canvas}
use Rattle.host_decoder.specs.Decoder.{Decodes, host_message}
use Rattle.host_reader.specs.Moment.{IsRunning}
use Rattle.host_reader.proofs.run.read_on.Given as goal

abbrev pub invariant-loop : goal.invariant-loop
invariant-loop g l =
    (goal.iterator-loop g).can_next l.iterator' × (goal.iterator-loop g).is_finite l.iterator'
    × record {
      on : l.reading.is_over ≡ false;
      first : l.reading.first ≡ l.fn.reading.first;
      link_name : l.reading.link.ghost_name ≡ l.fn.reading.link.ghost_name;
      decoder_name : l.reading.decoder.ghost_name ≡ l.fn.reading.decoder.ghost_name;
      painter_name : l.reading.painter.ghost_name ≡ l.fn.reading.painter.ghost_name;
      publisher_name : l.reading.publisher.ghost_name ≡ l.fn.reading.publisher.ghost_name;
      given : (g.L.Link.state l.reading.link.now).given ≡ (g.L.Link.state l.fn.reading.link.now).given;
      wide : l.reading.decoder.now.width ≡ l.fn.reading.decoder.now.width;
      high : l.reading.decoder.now.height ≡ l.fn.reading.decoder.now.height;
      publisher_wide : g.P.Puts.width l.reading.publisher.now ≡ g.P.Puts.width l.fn.reading.publisher.now;
      publisher_high : g.P.Puts.height l.reading.publisher.now ≡ g.P.Puts.height l.fn.reading.publisher.now;
      running : (screen : Canvas) → Decodes l.fn.reading.decoder.now l.fn.reading.painter.now screen (host_message l.fn.reading.decoder.now.width l.fn.reading.decoder.now.height)
          → IsRunning l.fn.reading.decoder.now.width l.fn.reading.decoder.now.height screen l.reading.decoder.now l.reading.painter.now l.reading.is_between (g.L.Link.state l.fn.reading.link.now) (g.L.Link.state l.reading.link.now) (g.P.Puts.updates l.fn.reading.publisher.now) (g.P.Puts.updates l.reading.publisher.now);
    }
