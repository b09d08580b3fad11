use Rattle.std.proofs.Common.{◌≡◌, ℕ, List, Bool, ap, sym, ◌∙◌, refl, arith}
use Rattle.std.specs.Prelude.{◌&&◌, slice_get}
use Rattle.std.proofs.lemmas.List.{with_items_is}
use Rattle.std.specs.Vec.{with_items}
use Rattle.reflect_core.proofs.cut.Cut.take.Goals as goal
use Rattle.reflect_core.proofs.cut.Cut.take.Goals.{then-self, else-self}

pub returns : goal.returns
returns c =
    let was = c.args.self.now in
    let run = c.args.run.now in
    let due : (with_items was.due c.mark_part.new.due).items ≡ c.mark_part.new.due = with_items_is was.due c.mark_part.new.due (omega (arith, c.mark_part.auto.due, c.as_mut_slice.ensures.len)) in
    let at : (t : ℕ) → slice_get (with_items was.due c.mark_part.new.due).items t ≡ slice_get c.mark_part.new.due t = λ t. ap (λ (l : List Bool). slice_get l t) due in
    let before : (t : ℕ) → slice_get c.as_mut_slice.result.now t ≡ slice_get was.due.items t = λ t. ap (λ (l : List Bool). slice_get l t) c.as_mut_slice.ensures.value in
    record {
      width = refl;
      height = refl;
      number = refl;
      host_size = refl;
      bells = refl;
      text = refl;
      passed = refl;
      inside = λ t lo hi. at t ∙ c.mark_part.ensures.inside t lo hi;
      before = λ t lt. at t ∙ (c.mark_part.ensures.before t lt ∙ before t);
      behind = λ t le. at t ∙ (c.mark_part.ensures.behind t le ∙ before t);
      sent = (
        c.were_sent-sent.result,
        c.were_sent-sent.ensures,
        elim c.if-self.branch [
          | then-self w ↦ w.self-is ∙ ap (λ (b : Bool). b && c.were_sent-sent.result) (sym w.if-self.true)
          | else-self w ↦ w.self-is ∙ (w.if-self.false ∙ ap (λ (b : Bool). b && c.were_sent-sent.result) (sym w.if-self.false))
        ],
      );
      shows = c.lay.ensures.shows;
      is_shared = c.lay.ensures.shared;
      kept = c.lay.ensures.kept;
    }
