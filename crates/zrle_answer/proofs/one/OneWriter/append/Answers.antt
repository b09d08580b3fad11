use Rattle.std.proofs.Common.{◌≡◌, ℕ, ◌++◌, ◌∙◌, List, length, ap}
use Rattle.update_encoder.specs.Answer.{spelled}
use Rattle.update_encoder.specs.Coming.{shown}
use Rattle.update_encoder.specs.Style.{style_in}
use Rattle.zrle_answer.proofs.Whole.{cut_back, without_zrle}
use Rattle.zrle_answer.proofs.one.OneWriter.append.Goals as goal
use Rattle.zrle_answer.proofs.one.OneWriter.append.Goals.{then-not-planned+then-not-is_copied+in_ok-append_zrle+else-len-start, else-not-planned}

pub returns : goal.returns
returns c =
    let old : List ℕ = c.args.out.now.items in
    let bytes : List ℕ = spelled (style_in c.args.style.now) (shown c.args.cut.now) c.args.may_copy c.args.before c.args.planned.now.area in
    let size : c.len-start.result ≡ length old = c.len-start.ensures ∙ c.args.out.now.ok.0 in
    let same : c.if-not-planned.out.items ≡ old =
    elim c.if-not-planned.branch [
      | then-not-planned+then-not-is_copied+in_ok-append_zrle+else-len-start w ↦
          ap (λ v. v.items) w.out-is
          ∙ cut_back old w.append_zrle.new.out.items w.truncate.new.self.items w.in_ok-append_zrle.ensures.ok.bytes c.len-start.result size w.in_ok-append_zrle.ensures.ok.appended w.truncate.ensures.items
      | else-not-planned w ↦ ap (λ v. v.items) w.out-is
    ] in
    record {
      ok = without_zrle (style_in c.args.style.now) (shown c.args.cut.now) c.args.may_copy c.args.before c.args.planned.now.area c.args.begun old c.append_plain.new.out.items
          (c.in_ok-append_plain.ensures.ok ∙ ap (λ t. t ++ bytes) same);
    }
