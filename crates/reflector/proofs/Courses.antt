-- What shows that a run was run says the same of it as `run_all` does, of hosts that come over any links.
use Rattle.std.proofs.Common.{◌≡◌, ◌≤◌, ℕ, List, [], ◌∷◌, subst, sym}
use Rattle.std.specs.Prelude.{Option, ⊤}
use Rattle.raster.specs.Update.{Update}
use Rattle.link.specs.Links.{LinkState}
use Rattle.link.specs.Joins.{Joins}
use Rattle.run_traits.specs.Unused.{unused}
use Rattle.host_turns.specs.declared.ending.Ending.{Ending}
use Rattle.host_turns.specs.Running.{AreTurns, Coming, HasRun, IsTurn, Missed, Read, Stay, Turn, put_by}
use Rattle.reflector.specs.Course.{Course, IsReflected}
use Rattle.reflector.specs.Tellings.{AreToldInTurn}

any_turn : (w h : ℕ) (password : Option (List ℕ)) (comes : Coming → Type 0) (old : List Update) (turn : Turn) → IsTurn w h password comes old turn → IsTurn w h password (λ _. ⊤) old turn
any_turn w h password comes old (Read stay) is = (is.0, tt, is.2)
any_turn w h password comes old (Missed has_called fault) is = (is.0, tt, is.2)

any_turns : (w h : ℕ) (password : Option (List ℕ)) (comes : Coming → Type 0) (first : Stay) (turns : List Turn) → AreTurns w h password comes first turns → AreTurns w h password (λ _. ⊤) first turns
any_turns w h password comes first [] are = tt
any_turns w h password comes first (turn ∷ turns) are = (any_turns w h password comes first turns are.0, are.1, any_turn w h password comes (put_by first turns) turn are.2)

any_run : (w h : ℕ) (password : Option (List ℕ)) (comes : Coming → Type 0) (last_end : Ending) (came : Coming) (links : List LinkState) (old new : List Update) → HasRun w h password comes last_end came links old new → HasRun w h password (λ _. ⊤) last_end came links old new
any_run w h password comes last_end came links old new run = record {
  first = run.first;
  begins = run.begins;
  comes_as = run.comes_as;
  read = run.read;
  turns = run.turns;
  in_turn = any_turns w h password comes run.first run.turns run.in_turn;
  last = run.last;
  handed = run.handed;
  put = run.put;
}

-- A run over its room, whose first host was joined over the link that was read then, and fits.
pub reflected : (course : Course) (w h : ℕ) (comes : Coming → Type 0) → course.room_width ≡ w → course.room_height ≡ h → ∥ Joins course.password unused course.came.link course.host ∥₁
    → (course.host.w ≤ course.room_width) × (course.host.h ≤ course.room_height) → HasRun w h course.password comes course.last_end course.came course.links [] course.updates → AreToldInTurn w h [] course.told course.taken → IsReflected course
reflected course w h comes wide high joins fits run told =
    let all = any_run w h course.password comes course.last_end course.came course.links [] course.updates run in
    record {
      joins = joins;
      fits = fits;
      run = subst (λ (n : ℕ). HasRun n course.room_height course.password (λ _. ⊤) course.last_end course.came course.links [] course.updates) (sym wide) (subst (λ (m : ℕ). HasRun w m course.password (λ _. ⊤) course.last_end course.came course.links [] course.updates) (sym high) all);
      told = subst (λ (n : ℕ). AreToldInTurn n course.room_height [] course.told course.taken) (sym wide) (subst (λ (m : ℕ). AreToldInTurn w m [] course.told course.taken) (sym high) told);
    }
