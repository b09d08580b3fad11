-- How grave what happens in a run is (own).
use Rattle.run_reports.specs.declared.gravity.Gravity.{Gravity}
use Rattle.run_reports.specs.declared.gravity.Gravity.TheVariants.{Warning, Plain}
use Rattle.run_traits.specs.declared.event.Event.{Event}
use Rattle.run_traits.specs.declared.event.Event.TheVariants.{HostOut, OpenToAll}
use Rattle.serve.specs.declared.incident.Incident.{Incident}
use Rattle.recorder.specs.declared.news.EndReason.{EndReason}
use Rattle.recorder.specs.declared.news.EndReason.TheVariants.{RunOver}
use Rattle.recorder.specs.declared.news.RecordingNews.{RecordingNews}
use Rattle.recorder.specs.declared.news.RecordingNews.TheVariants.{Begun, Ended}
use Rattle.serve.specs.declared.incident.Incident.TheVariants.{Noted, MetricsListening, HostsListening, HostStopped, HostSkipped, RecordingSought, RecordingBad, IndexUnused, Recording}

-- A host that has ended by itself, or wasn't joined, is a warning, and so is a port that is open to all. Nothing else
-- that happens at the doors is one.
abbrev pub event_gravity : Event → Gravity
event_gravity (HostOut address why) = Warning
event_gravity (OpenToAll address way) = Warning
event_gravity event = Plain

-- A recording that ended before the run is a warning.
abbrev pub end_gravity : EndReason → Gravity
end_gravity RunOver = Plain
end_gravity why = Warning

abbrev pub news_gravity : RecordingNews → Gravity
news_gravity Begun = Plain
news_gravity (Ended end) = end_gravity end.why

-- A host that was left because the run was asked to stop, for its next host, or for another time, is no warning either.
-- A recording that can't be played on is one, as each host that has ended by itself, and so is an index that isn't
-- used.
abbrev pub gravity_for : Incident → Gravity
gravity_for (Noted event) = event_gravity event.now
gravity_for (MetricsListening address) = Plain
gravity_for (HostsListening address) = Plain
gravity_for (HostStopped address cut) = Plain
gravity_for (HostSkipped address skip) = Plain
gravity_for RecordingSought = Plain
gravity_for (RecordingBad bad) = Warning
gravity_for (IndexUnused path why) = Warning
gravity_for (Recording path news) = news_gravity news.now
