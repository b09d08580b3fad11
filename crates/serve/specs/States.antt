-- What an operator is told of a run (own). Times are in milliseconds, ages in whole seconds.
use Rattle.std.specs.Prelude.{◌≡◌, ◌-◌, ◌/◌, List, ℕ}
use Rattle.std.specs.String.{string_bytes}
use Rattle.run_reports.specs.declared.report.HostReport.{HostReport}
use Rattle.run_reports.specs.declared.report.ViewerReport.{ViewerReport}
use Rattle.run_reports.specs.declared.report.RecordingReport.{RecordingReport}
use Rattle.run_reports.specs.declared.report.RecordingState.{RecordingState}
use Rattle.run_reports.specs.declared.report.RecordingState.TheVariants as state
use Rattle.recorder.specs.declared.standing.Standing.{Standing}
use Rattle.recorder.specs.declared.standing.Standing.TheVariants as standing
use Rattle.roles.specs.declared.role.Role.TheVariants.{Full, View}
use Rattle.settings.specs.ByRole.{places_for}
use Rattle.settings.specs.declared.values.Settings.{Settings}
use Rattle.connections.specs.declared.desk.RunCard.{RunCard}
use Rattle.connections.specs.declared.desk.ViewerCard.{ViewerCard}
use Rattle.connections.specs.declared.desk.HostCard.{HostCard}
use Rattle.serve.specs.declared.control.Control.{Control}

abbrev pub seconds_from : ℕ → ℕ → ℕ
seconds_from since now = (now - since) / 1000

-- How a recording stands, and for how many seconds it has gone on.
abbrev pub told_of : ℕ → Standing → RecordingState × ℕ
told_of now standing.Awaited = (state.Awaited, 0)
told_of now (standing.Begun began) = (state.On, seconds_from began.millis now)
told_of now standing.Ended = (state.Ended, 0)
told_of now (standing.Failed kind) = (state.Failed, 0)

-- The report of a viewer, with this text as its address, when so many updates were put: the viewer is behind by those
-- that it wasn't shown.
pub record IsViewerReport (viewer : ViewerCard) (address : List ℕ) (updates now : ℕ) (report : ViewerReport) : Type 0 where
  pub place : report.place ≡ viewer.comer.place
  pub role : report.role ≡ viewer.comer.role
  pub address_text : report.address.now ≡ address
  pub seconds : report.seconds ≡ seconds_from viewer.since now
  pub updates_begun : report.updates ≡ viewer.updates
  pub bytes : report.bytes ≡ viewer.bytes
  pub behind : report.behind ≡ updates - viewer.shown
  pub asked : report.is_asked ≡ viewer.is_asked

-- The report of a host, with this text as its address. The run's card says what time it is, when the host's last byte
-- came, and how many updates were put.
pub record IsHostReport (card : HostCard) (address : List ℕ) (run_card : RunCard) (report : HostReport) : Type 0 where
  pub address_text : report.address.now ≡ address
  pub name : report.name.now ≡ string_bytes card.name
  pub width : report.width ≡ card.width
  pub height : report.height ≡ card.height
  pub seconds : report.seconds ≡ seconds_from card.since run_card.now
  pub silent : report.silent ≡ seconds_from run_card.heard run_card.now
  pub updates : report.updates ≡ run_card.updates

-- The report of a recording that stands so, whose file took so many bytes.
pub record IsRecordingReport (standing : Standing) (bytes now : ℕ) (report : RecordingReport) : Type 0 where
  pub is : (report.state, report.seconds) ≡ told_of now standing
  pub bytes_are : report.bytes ≡ bytes

-- An operator is told of as many places of each role as the settings say.
abbrev pub HasPlacesFor : Settings → Control → Type 0
HasPlacesFor settings control = (control.full_places ≡ places_for Full settings) × (control.view_places ≡ places_for View settings)
