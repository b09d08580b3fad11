use Rattle.std.proofs.Common.{◌≡◌, ℕ, ◌+◌, ◌*◌, ◌≤◌, [], Bool, List, take, Option, Some, sym, ap, subst, arith}
use Rattle.std.specs.Prelude.{IfNone}
use Rattle.raster.specs.declared.rect.Rect.{Rect}
use Rattle.reflect_core.specs.declared.cut.Cut.{Cut}
use Rattle.reflect_core.specs.Source.{marked}
use Rattle.tiles.specs.declared.walk.Run.{Run}
use Rattle.tiles.specs.Walk.{IsNextRun, Walking, runs_left, tiles_rect}
use Rattle.raster.specs.Screen.{common}
use Rattle.tiles.proofs.WalkLaws.{left_none}
use Rattle.update_encoder.specs.Coming.{AnswerStands, Answering, WroteNext, coming, shown}
use Rattle.update_encoder.specs.Style.{style_in}
use Rattle.update_encoder.proofs.Counts.{bytes_of, first_then, small_run}
use Rattle.update_encoder.proofs.answer.Answer.next.Goals as goal

pub returns-in_err-run-clause-none : goal.returns-in_err-run-clause-none
returns-in_err-run-clause-none c =
    let inside = c.self.inside in
    let cut : Cut = c.args.cut.now in
    let bytes : List Rect → List ℕ = λ rs. bytes_of (style_in inside.style) (shown cut) inside.may_copy inside.before rs in
    let before : coming c.args.self.now cut ≡ [] = subst (λ (a : Answering). coming a cut ≡ []) c.self.view_is (ap bytes c.in_err-run.ensures.left) in
    let none : runs_left c.next.new.self (marked cut) ≡ [] = left_none c.next.new.self (marked cut) c.in_err-run.ensures.done.1 in
    let now : Answering = record { walk = c.next.new.self; style = style_in inside.style; may_copy = inside.may_copy; before = inside.before; count = inside.count } in
    subst (λ (o : Option ℕ). IfNone o ((coming c.args.self.now cut ≡ []) × (coming now cut ≡ []))) (sym c.from_residual.ensures) (before, ap bytes none)

-- A run is 16 rows at most.
low : (area r : Rect) (w first count : ℕ) → r ≡ common area (tiles_rect w first count) → r.h ≤ 16
low area r w first count e = subst (λ (s : Rect). s.h ≤ 16) (sym e) (omega arith)

fits : (walk : Walking) (due : ℕ → Bool) (run : Run) (width : ℕ) → IsNextRun walk due run → walk.width ≡ width → run.area.w * run.area.h ≤ 16 * width
fits walk due run width k e =
    let across : run.area.x + run.area.w ≤ walk.width = k.part.inside.across in
    small_run run.area.w run.area.h width (omega (arith, across, e)) (low walk.area run.area walk.width run.first run.count k.area)

pub write_rectangle-requires-clause-values : goal.write_rectangle-requires-clause-values
write_rectangle-requires-clause-values c =
    let stands : AnswerStands _ c.args.cut.now = subst (λ (a : Answering). AnswerStands a c.args.cut.now) (sym c.self.view_is) c.requires.stands in
    omega (arith, fits c.self.inside.walk (marked c.args.cut.now) c.in_ok-run.run' c.args.cut.now.width c.in_ok-run.ensures.run.0 stands.width, c.requires.values)

pub write_rectangle-requires-clause-room : goal.write_rectangle-requires-clause-room
write_rectangle-requires-clause-room c =
    let stands : AnswerStands _ c.args.cut.now = subst (λ (a : Answering). AnswerStands a c.args.cut.now) (sym c.self.view_is) c.requires.stands in
    omega (arith, fits c.self.inside.walk (marked c.args.cut.now) c.in_ok-run.run' c.args.cut.now.width c.in_ok-run.ensures.run.0 stands.width, c.requires.room)

pub returns-clause-some : goal.returns-clause-some
returns-clause-some c =
    let inside = c.self.inside in
    let cut : Cut = c.args.cut.now in
    let run : Run = c.in_ok-run.run' in
    let stands : AnswerStands _ cut = subst (λ (a : Answering). AnswerStands a cut) (sym c.self.view_is) c.requires.stands in
    let now : Answering = record { walk = c.next.new.self; style = style_in inside.style; may_copy = inside.may_copy; before = Some run.area; count = inside.count } in
    let small = fits inside.walk (marked cut) run cut.width c.in_ok-run.ensures.run.0 stands.width in (
      omega (arith, c.write_rectangle.ensures.some),
      omega (arith, c.write_rectangle.ensures.room, small),
      subst (λ (a : Answering). WroteNext a now cut (take c.write_rectangle.result c.write_rectangle.new.out)) c.self.view_is
          (record {
            rectangle = run.area;
            is_first = c.in_ok-run.ensures.left;
            bytes_are = c.write_rectangle.ensures.written.front;
            others = first_then (style_in inside.style) (shown cut) inside.may_copy inside.before (runs_left inside.walk (marked cut)) (runs_left c.next.new.self (marked cut)) run.area (take c.write_rectangle.result c.write_rectangle.new.out) c.in_ok-run.ensures.left c.write_rectangle.ensures.written.front;
          }),
    )
