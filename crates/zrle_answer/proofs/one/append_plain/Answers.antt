use Rattle.std.proofs.Common.{◌≡◌, ℕ, ◌+◌, ◌-◌, ◌*◌, ◌≤◌, ◌++◌, ◌∙◌, List, length, take, drop, replicate, ap, arith, vec_len}
use Rattle.std.proofs.lemmas.List.{length-take, length-drop}
use Rattle.update_encoder.specs.Answer.{spelled}
use Rattle.update_encoder.specs.Coming.{shown}
use Rattle.update_encoder.specs.Style.{style_in}
use Rattle.zrle_answer.proofs.Behind.{written_behind}
use borrow.Rule.Slice.PartMut.{post_of}
use Rattle.zrle_answer.proofs.one.append_plain.Goals as goal

pub returns : goal.returns
returns c =
    let old : List ℕ = c.args.out.now.items in
    let lent : List ℕ = c.deref_mut.result.now in
    let start : ℕ = c.len-start.result in
    let n : ℕ = start + (12 + 4 * (c.args.area.now.w * c.args.area.now.h)) in
    let used : ℕ = c.write_rectangle-len.result in
    let now : List ℕ = c.write_rectangle-len.new.out in
    let post : List ℕ = post_of start (length lent - start) lent in
    let size : start ≡ length old = c.len-start.ensures ∙ c.args.out.now.ok.0 in
    let long : length lent ≡ c.resize-2.new.self.len = c.deref_mut.ensures.len in
    let grown : c.resize-2.new.self.len ≡ n = c.in_ok-resize-2.ensures.len in
    let given : length (take (length lent - start) (drop start lent)) ≡ length lent - start = simp (length-take, length-drop) (omega arith) in
    let few : used ≤ length now = omega (arith, c.write_rectangle-len.ensures.written.count, ap length c.write_rectangle-len.ensures.written.front, length-take used now) in
    record {
      ok = written_behind old lent now post (replicate (n - vec_len c.args.out.now) 0) (drop (length (take start lent ++ (now ++ post))) c.resize-2.new.self.items) c.truncate.new.self.items
          (spelled (style_in c.args.style.now) (shown c.args.cut.now) c.args.may_copy c.args.before c.args.area.now) n c.resize-2.new.self.len start used size (omega arith) (c.deref_mut.ensures.value ∙ c.in_ok-resize-2.ensures.items)
          (omega (arith, long, grown)) (omega (arith, long, grown, c.write_rectangle-len.ensures.room)) few c.truncate.ensures.items c.write_rectangle-len.ensures.written.front;
    }
