-- What is known of a run that `serve` ran, and how its exit status says how the run ended (own).
use Rattle.std.specs.Prelude.{◌≡◌, ◌⊎◌, ◌++◌, ℕ, List, [], ◌∷◌, if◌then◌else◌, Option, Some, None, IfSome, Result, Ok, Err, is_some, not, replicate, true}
use Rattle.fault.specs.declared.kinds.Fault.{Fault}
use Rattle.fault.specs.declared.kinds.Fault.TheVariants.{LinkEnded}
use Rattle.roles.specs.declared.role.Role.{Role}
use Rattle.roles.specs.declared.role.Role.TheVariants.{Full, View}
use Rattle.settings.specs.ByRole.{places_for, rect_form_for}
use Rattle.settings.specs.Rooms.{IsRoomFor}
use Rattle.settings.specs.declared.values.Settings.{Settings}
use Rattle.host_turns.specs.declared.ending.Ending.{Ending}
use Rattle.host_turns.specs.Running.{goes_on}
use Rattle.viewer_session.specs.declared.form.AnswerForm.{AnswerForm}
use Rattle.reflector.specs.Course.{Course, IsReflected}
use Rattle.reflector.specs.declared.ran.Ran.{Ran}
use Rattle.serve.specs.Hosts.{HasRecording}
use Rattle.serve.specs.Statuses.{status_for}
use Rattle.serve.specs.Turns.{MayEnd}
use Rattle.serve.specs.declared.ended.Ended.{Ended}
use Rattle.serve.specs.declared.ended.Reflected.{Reflected}
use Rattle.serve.specs.declared.ended.Served.{Served}
use Rattle.serve.specs.declared.order.StopOrder.{StopOrder}
use Rattle.serve.specs.declared.trouble.Trouble.{Trouble}

-- The roles of the viewers' places: as many of each as the settings say, and those with full control come first.
abbrev pub viewer_roles : Settings → List Role
viewer_roles settings = replicate (places_for Full settings) Full ++ replicate settings.view_places View

-- The roles of all places: those of the viewers, and, where the run is recorded, one more that looks on.
abbrev pub roles_for : Settings → List Role
roles_for settings = viewer_roles settings ++ (if is_some settings.recording then View ∷ [] else [])

-- How all viewers are answered: RRE and Hextile in the form of the settings, and ZRLE unless the settings say
-- otherwise. Copies of the host are passed on to viewers that take them.
abbrev pub form_for : Settings → AnswerForm
form_for settings = record { runs = rect_form_for settings; zrle = not settings.no_zrle; copies = true }

-- A run by these settings: its room has their size, or that of its first host's screen; its hosts are joined with a
-- password exactly where the settings have a file for one; its places have their roles; and its viewers are answered in
-- their form.
pub record IsRunFor (settings : Settings) (course : Course) : Type 0 where
  pub reflected : IsReflected course
  pub room : IsRoomFor settings course.host.w course.host.h course.room_width course.room_height
  pub password : is_some course.password ≡ is_some settings.host_password
  pub roles : course.roles ≡ roles_for settings
  pub form : course.form ≡ form_for settings

-- How the answer counts with which a run ended: as it is. Where its last link ended inside a message it may count as
-- one that ended between two, but only in a run one of whose hosts is a recording, which may be cut off there.
abbrev pub CountsAs : Settings → (answer counted : Result (Unit {0}) Fault) → Type 0
CountsAs settings answer counted =
    (counted ≡ answer) ⊎ ((counted ≡ Ok tt) × (answer ≡ Err LinkEnded) × HasRecording settings)

-- What the exit status says. If an operator has stopped the run, it is 0, and the settings have a socket for one. If
-- none has, it is the one for the answer with which the run ended, as that counts, and 3 or 4 where none was run.
abbrev pub IsToldBy : Settings → ℕ → Option Ran → Option StopOrder → Type 0
IsToldBy settings status ran (Some cut) = (status ≡ 0) × (is_some settings.control ≡ true)
IsToldBy settings status (Some ran) None =
    (counted : Result (Unit {0}) Fault) × CountsAs settings ran.course.last_end.answer counted
    × (status ≡ status_for counted)
IsToldBy settings status None None = (status ≡ 3) ⊎ (status ≡ 4)

-- ---- on the way

-- A run by these settings was run, and ended with this answer.
pub record IsRunBy (settings : Settings) (run : Reflected) : Type 0 where
  pub is : IsRunFor settings run.ran.course
  pub last : run.last ≡ run.ran.course.last_end
  pub ends : goes_on run.last ≡ true → MayEnd settings

-- How a run ended: as an operator has stopped it, which only one with a socket can, or as the last host of a run that
-- was run has ended, as that counts.
abbrev pub IsEnd : Settings → Ending → Option Ran → Option StopOrder → Type 0
IsEnd settings last ran (Some cut) = (last.answer ≡ Ok tt) × (is_some settings.control ≡ true)
IsEnd settings last (Some ran) None = CountsAs settings ran.course.last_end.answer last.answer
    × (last.has_called ≡ ran.course.last_end.has_called)
IsEnd settings last None None = ⊥

pub record IsEndBy (settings : Settings) (ended : Ended) : Type 0 where
  pub end : IsEnd settings ended.last ended.ran ended.stopped
  pub run : IfSome ended.ran (λ ran. IsRunFor settings ran.course)
  pub ends : goes_on ended.last ≡ true → MayEnd settings

-- What is handed out at such an end, or after trouble before any run.
abbrev pub IsServed : Result Ended Trouble → Served → Type 0
IsServed (Ok ended) served = (served.status ≡ status_for ended.last.answer) × (served.ran ≡ ended.ran) × (served.stopped ≡ ended.stopped)
IsServed (Err trouble) served = (served.status ≡ status_for (Err trouble.fault)) × (served.ran ≡ None) × (served.stopped ≡ None)
