use Rattle.std.proofs.Common.{◌≡◌, ◌-◌, ◌+◌, ℕ, length, [], None, sym, ap, subst, ◌∙◌, arith}
use Rattle.std.specs.Prelude.{min}
use Rattle.std.proofs.lemmas.Bool.{eqb-true}
use Rattle.std.proofs.lemmas.List.{length-drop}
use Rattle.reflect_world.specs.World.{Held, IsWritten, WritesSome}
use Rattle.reflect_world.proofs.Writing.{has_written, writes_on}
use Rattle.reflect_world.proofs.place.Place.write.Goals as goal
use Rattle.reflect_world.proofs.place.Place.write.Goals.{then-loop-left-test+else-not-is_empty, else-loop-left-test}

pub loop-left-preserved : goal.loop-left-preserved
loop-left-preserved c =
    let n : ℕ = c.in-Ok.written in
    let done : ℕ = c.args.count - c.loop-left.left in
    let left : c.args.count - (c.loop-left.left - n) ≡ done + n = omega (arith, c.loop-left.invariant.within, c.in-Ok.ensures.ok.1) in
    record {
      within = omega (arith, c.loop-left.invariant.within);
      writes = subst (λ k. WritesSome c.args.self.now c.write_piece.new.self k) (sym left) (writes_on c.args.self.now c.loop-left.self c.write_piece.new.self done n c.loop-left.invariant.writes c.in-Ok.ensures.ok.0);
    }

pub returns-clause-ok : goal.returns-clause-ok
returns-clause-ok c =
    let old : Held = c.args.self.now in
    let now : Held = c.loop-left.self in
    let done : ℕ = c.args.count - c.loop-left.left in
    let m : ℕ = min c.args.count (length old.session.unsent) in
    let writes = c.loop-left.invariant.writes in
    let all : done ≡ m =
    elim c.loop-left-test.branch [
      | then-loop-left-test+else-not-is_empty w ↦
          let none : now.session.unsent ≡ [] = ap (λ (h : Held). h.session.unsent) (sym c.self-in-loop-left.view_is) ∙ w.out.ensures.empty.0 (eqb-true (length w.out.result.now) 0 (sym w.is_empty.ensures ∙ w.if-not-is_empty.false)) in
          omega (arith, writes.within, c.loop-left.invariant.within, ap length (sym writes.left ∙ none), length-drop done old.session.unsent)
      | else-loop-left-test w ↦ omega (arith, writes.within, c.loop-left.invariant.within, w.loop-left-test.false)
    ] in
    subst (λ (h : Held). IsWritten old (record h { looked = None }) m) (sym c.self-2.view_is) (has_written old now c.args.count c.loop-left.left writes all)
