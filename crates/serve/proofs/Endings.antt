-- How the exit status says how a run ended. A run that didn't end well has another status than 0.
use Rattle.std.proofs.Common.{◌≡◌, ◌⊎◌, inl, inr, ⊎_elim, ℕ, Bool, List, Option, Some, None, Result, Ok, Err, refl, sym, ap, subst, ◌∙◌, arith, true}
use Rattle.std.specs.Prelude.{IfOk, IfSome, is_some}
use Rattle.fault.specs.declared.kinds.Fault.{Fault}
use Rattle.fault.specs.declared.kinds.Fault.TheVariants as fault
use Rattle.viewer_session.specs.declared.form.AnswerForm.{AnswerForm}
use Rattle.rfb_wire.specs.Handshake.{Joined}
use Rattle.roles.specs.declared.role.Role.{Role}
use Rattle.settings.specs.Rooms.{IsRoomFor}
use Rattle.settings.specs.declared.values.Settings.{Settings}
use Rattle.host_turns.specs.declared.ending.Ending.{Ending}
use Rattle.host_turns.specs.Running.{goes_on, goes_on_after}
use Rattle.reflector.specs.Course.{IsReflected}
use Rattle.reflector.specs.declared.ran.Ran.{Ran}
use Rattle.serve.specs.Runs.{CountsAs, IsEnd, IsEndBy, IsRunBy, IsRunFor, IsServed, IsToldBy, form_for, roles_for}
use Rattle.serve.specs.Statuses.{IsStatus, status_for}
use Rattle.serve.specs.Turns.{MayEnd}
use Rattle.serve.specs.declared.ended.Ended.{Ended}
use Rattle.serve.specs.declared.ended.PlayedEnd.{PlayedEnd}
use Rattle.serve.specs.declared.ended.Reflected.{Reflected}
use Rattle.serve.specs.declared.ended.Served.{Served}
use Rattle.serve.specs.declared.order.StopOrder.{StopOrder}
use Rattle.serve.specs.declared.trouble.Trouble.{Trouble}

-- ---- the status

failed : (f : Fault) → (status_for (Err f) ≡ 3) ⊎ (status_for (Err f) ≡ 4)
failed fault.BadVersion = inl refl
failed (fault.HostRefused reason) = inl refl
failed fault.NoNone = inl refl
failed fault.SecurityFailed = inl refl
failed fault.BadScreen = inl refl
failed (fault.UnknownMessage kind) = inl refl
failed fault.RectOutside = inl refl
failed fault.UnknownEncoding = inl refl
failed fault.SubrectOutside = inl refl
failed fault.NoBackground = inl refl
failed fault.NoForeground = inl refl
failed fault.BadFormat = inl refl
failed fault.BadChoice = inl refl
failed fault.CopyOutside = inl refl
failed fault.Memory = inr refl
failed fault.LinkFailed = inl refl
failed fault.LinkEnded = inl refl
failed fault.Gone = inl refl
failed fault.NoPlace = inl refl
failed fault.QueueFull = inl refl
failed fault.NumbersOut = inl refl

isnt_nought : {A : Type 0} (f : Fault) → status_for (Err f) ≡ 0 → A
isnt_nought f e = ⊎_elim (λ (t : status_for (Err f) ≡ 3). absurd (omega (arith, t, e))) (λ (t : status_for (Err f) ≡ 4). absurd (omega (arith, t, e))) (failed f)

-- Where the status is 0 the next host would have been taken.
went_well_after : (has_called : Bool) (why : Result (Unit {0}) Fault) → status_for why ≡ 0 → goes_on_after has_called why ≡ true
went_well_after has_called (Ok done) e = refl
went_well_after has_called (Err f) e = isnt_nought f e

went_well : (last : Ending) → status_for last.answer ≡ 0 → goes_on last ≡ true
went_well last e = went_well_after last.has_called last.answer e

-- ---- a run

-- What `over` says of a run, with the room, a password, the roles and the form of the settings.
pub run_by : {A : Type 0} (settings : Settings) (result : Result Reflected Fault) (host : Joined) (width height : ℕ) (password : Option (List ℕ)) (roles : List Role) (form : AnswerForm) (again : Option A) → IfOk result (λ run. IsReflected run.ran.course)
    → IfOk result (λ run. (run.ran.course.host ≡ host) × (run.ran.course.room_width ≡ width) × (run.ran.course.room_height ≡ height) × (run.ran.course.password ≡ password)) → is_some password ≡ is_some settings.host_password → IfOk result (λ run. run.ran.course.roles ≡ roles)
    → IfOk result (λ run. run.ran.course.form ≡ form) → IfOk result (λ run. run.last ≡ run.ran.course.last_end) → IfOk result (λ run. goes_on run.last ≡ true → again ≡ None) → IsRoomFor settings host.w host.h width height → roles ≡ roles_for settings → form ≡ form_for settings
    → (again ≡ None → MayEnd settings) → IfOk result (λ run. IsRunBy settings run)
run_by settings (Ok run) host width height password roles form again reflected has_room known has_roles has_form last never is_room same_roles same_form ends = record {
  is = record { reflected = reflected; room = rw (has_room.0, has_room.1, has_room.2) is_room; password = ap is_some has_room.3 ∙ known; roles = has_roles ∙ same_roles; form = has_form ∙ same_form };
  last = last;
  ends = λ on. ends (never on);
}
run_by settings (Err f) host width height password roles form again reflected has_room known has_roles has_form last never is_room same_roles same_form ends = tt

-- An end that counts for another one: the next host would have been taken after that, too.
goes_on_as : (settings : Settings) (is counted : Ending) → CountsAs settings is.answer counted.answer → counted.has_called ≡ is.has_called → goes_on counted ≡ true → goes_on is ≡ true
goes_on_as settings is counted (inl same) called on = rw (sym same, sym called) on
goes_on_as settings is counted (inr (_, ended, _)) called on = rw ended refl

-- A run that ended by itself.
pub by_itself : (settings : Settings) (last counted : Ending) (ran : Ran) (played : Option PlayedEnd) → IsRunBy settings (record { last = last; played = played; ran = ran }) → CountsAs settings last.answer counted.answer → counted.has_called ≡ last.has_called → IsEndBy settings (record { last = counted; ran = Some ran; stopped = None; played = played })
by_itself settings last counted ran played is counts called = record {
  end = (subst (λ (e : Ending). CountsAs settings e.answer counted.answer) is.last counts, called ∙ ap (λ (e : Ending). e.has_called) is.last);
  run = is.is;
  ends = λ on. is.ends (goes_on_as settings last counted counts called on);
}

-- What is handed out at an end, or after trouble before any run.
told : (settings : Settings) (last : Ending) (status : ℕ) (ran : Option Ran) (stopped : Option StopOrder) → status ≡ status_for last.answer → IsEnd settings last ran stopped → IsToldBy settings status ran stopped
told settings last status ran (Some cut) is end = (is ∙ ap status_for end.0, end.1)
told settings last status (Some ran) None is end = (last.answer, end.0, is)
told settings last status None None is end = absurd end

pub ended_well : (settings : Settings) (ended : Result Ended Trouble) (served : Served) → IfOk ended (λ e. IsEndBy settings e) → IsServed ended served → served.status ≡ 0 → MayEnd settings
ended_well settings (Ok e) served by is nought = by.ends (went_well e.last (sym is.0 ∙ nought))
ended_well settings (Err trouble) served by is nought = isnt_nought trouble.fault (sym is.0 ∙ nought)

pub was_run : (settings : Settings) (ended : Result Ended Trouble) (served : Served) → IfOk ended (λ e. IsEndBy settings e) → IsServed ended served → IfSome served.ran (λ ran. IsRunFor settings ran.course)
was_run settings (Ok e) served by is = subst (λ (r : Option Ran). IfSome r (λ ran. IsRunFor settings ran.course)) (sym is.1) by.run
was_run settings (Err trouble) served by is = subst (λ (r : Option Ran). IfSome r (λ ran. IsRunFor settings ran.course)) (sym is.1) tt

pub status_tells : (settings : Settings) (ended : Result Ended Trouble) (served : Served) → IfOk ended (λ e. IsEndBy settings e) → IsServed ended served → IsToldBy settings served.status served.ran served.stopped
status_tells settings (Ok e) served by is =
    told settings e.last served.status served.ran served.stopped is.0
    (subst (λ (r : Option Ran). IsEnd settings e.last r served.stopped) (sym is.1) (subst (λ (s : Option StopOrder). IsEnd settings e.last e.ran s) (sym is.2) by.end))
status_tells settings (Err trouble) served by is =
    let no_run : IsToldBy settings served.status None None = ⊎_elim (λ (t : status_for (Err trouble.fault) ≡ 3). inl (is.0 ∙ t)) (λ (t : status_for (Err trouble.fault) ≡ 4). inr (is.0 ∙ t)) (failed trouble.fault) in
    subst (λ (r : Option Ran). IsToldBy settings served.status r served.stopped) (sym is.1) (subst (λ (s : Option StopOrder). IsToldBy settings served.status None s) (sym is.2) no_run)

status_in : (why : Result (Unit {0}) Fault) (status : ℕ) → status ≡ status_for why → IsStatus status
status_in (Ok done) status is = inl is
status_in (Err f) status is = inr (⊎_elim (λ (t : status_for (Err f) ≡ 3). inl (is ∙ t)) (λ (t : status_for (Err f) ≡ 4). inr (is ∙ t)) (failed f))

pub in_range : (ended : Result Ended Trouble) (served : Served) → IsServed ended served → IsStatus served.status
in_range (Ok e) served is = status_in e.last.answer served.status is.0
in_range (Err trouble) served is = status_in (Err trouble.fault) served.status is.0
