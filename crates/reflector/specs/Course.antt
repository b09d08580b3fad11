-- What a run was, for a caller that is handed only what shows that there was a run (own).
use Rattle.std.specs.Prelude.{◌≤◌, ℕ, false, List, [], Option, None, Ok, ⊤}
use Rattle.raster.specs.Update.{Update}
use Rattle.rfb_wire.specs.Handshake.{Joined}
use Rattle.joined_runs.specs.declared.rect_form.RectForm.TheVariants.{OfRows}
use Rattle.viewer_session.specs.declared.form.AnswerForm.{AnswerForm}
use Rattle.roles.specs.declared.role.Role.{Role}
use Rattle.link.specs.Links.{LinkState}
use Rattle.link.specs.Joins.{Joins}
use Rattle.input_relay.specs.declared.queue.Message.{Message}
use Rattle.run_traits.specs.Unused.{unused}
use Rattle.host_turns.specs.declared.ending.Ending.{Ending}
use Rattle.host_turns.specs.Running.{Coming, HasRun, came_over}
use Rattle.reflector.specs.Tellings.{AreToldInTurn}

-- A run, without the types of its links, hosts and doors: the first host, as it was joined; the size of the room, which
-- viewers are told; the password that hosts may ask for; the form in which all viewers are answered; the roles of the
-- places, in order; how the last host has ended; whether the first host had called, and the state of the link that it
-- was read from, after its join; the links of the hosts that were read, as they were left; the links over which the
-- hosts were told, each first as it came and then as it was left; the input that was taken from the places; and the
-- updates that were put.
pub record Course : Type 0 where
  pub host : Joined
  pub room_width : ℕ
  pub room_height : ℕ
  pub password : Option (List ℕ)
  pub form : AnswerForm
  pub roles : List Role
  pub last_end : Ending
  pub came : Coming
  pub links : List LinkState
  pub told : List LinkState
  pub taken : List Message
  pub updates : List Update

-- The first host was joined with the password, over the link that it was read from afterwards, and its screen fits into
-- the room. The updates are exactly those of what the hosts' links took after their joins, in turn, over the room, with
-- a switch to black between two hosts. And the hosts were told one after another: each was given a beginning of what is
-- said for the input that was taken for it.
pub record IsReflected (course : Course) : Type 0 where
  pub joins : ∥ Joins course.password unused course.came.link course.host ∥₁
  pub fits : (course.host.w ≤ course.room_width) × (course.host.h ≤ course.room_height)
  pub run : HasRun course.room_width course.room_height course.password (λ _. ⊤) course.last_end course.came course.links [] course.updates
  pub told : AreToldInTurn course.room_width course.room_height [] course.told course.taken

-- The course of no run.
abbrev pub no_course : Course
no_course = record {
  host = record { w = 0; h = 0; name = [] };
  room_width = 0;
  room_height = 0;
  password = None;
  form = record { runs = OfRows; zrle = false; copies = false };
  roles = [];
  last_end = record { answer = Ok tt; has_called = false };
  came = came_over false unused;
  links = [];
  told = [];
  taken = [];
  updates = [];
}
