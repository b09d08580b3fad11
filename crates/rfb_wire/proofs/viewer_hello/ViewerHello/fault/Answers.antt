use Rattle.std.proofs.Common.{arith, ap, sym, ◌∙◌}
use Rattle.rfb_wire.proofs.Greetings.{fault_seen, none_seen, bad_version, bad_choice, no_fault}
use Rattle.rfb_wire.proofs.viewer_hello.ViewerHello.fault.Goals as goal
use Rattle.rfb_wire.proofs.viewer_hello.ViewerHello.fault.Goals.{else-begun-ge-VERSION_LEN-via-then-begun-ge-VERSION_LEN+else-not-starts_with, else-begun-ge-VERSION_LEN-via-else-begun-ge-VERSION_LEN, else-begun-gt-VERSION_LEN-via-then-begun-gt-VERSION_LEN+else-begun-ne-NONE, else-begun-gt-VERSION_LEN-via-else-begun-gt-VERSION_LEN}

pub returns-then-not-starts_with : goal.returns-then-not-starts_with
returns-then-not-starts_with c =
    let seen = c.as_slice-begun.result.now in
    let same = c.as_slice-begun.ensures.value ∙ ap (λ v. v.begun) c.self.view_is in
    fault_seen seen c.args.self.now.begun same (bad_version seen c.if-begun-ge-VERSION_LEN.true (sym c.starts_with.ensures.value ∙ c.if-not-starts_with.true))

pub returns-then-begun-ne-NONE : goal.returns-then-begun-ne-NONE
returns-then-begun-ne-NONE c =
    let seen = c.as_slice-begun.result.now in
    let same = c.as_slice-begun.ensures.value ∙ ap (λ v. v.begun) c.self.view_is in
    elim c.else-begun-ge-VERSION_LEN.branch [
      | else-begun-ge-VERSION_LEN-via-then-begun-ge-VERSION_LEN+else-not-starts_with w ↦
          fault_seen seen c.args.self.now.begun same (bad_choice seen c.if-begun-gt-VERSION_LEN.true (sym w.starts_with.ensures.value ∙ w.if-not-starts_with.false) c.if-begun-ne-NONE.true)
      | else-begun-ge-VERSION_LEN-via-else-begun-ge-VERSION_LEN w ↦ absurd (omega arith)
    ]

pub returns-else-begun-gt-VERSION_LEN : goal.returns-else-begun-gt-VERSION_LEN
returns-else-begun-gt-VERSION_LEN c =
    let seen = c.as_slice-begun.result.now in
    let same = c.as_slice-begun.ensures.value ∙ ap (λ v. v.begun) c.self.view_is in
    none_seen seen c.args.self.now.begun same
    (no_fault seen
    (λ ge. elim c.else-begun-ge-VERSION_LEN.branch [
      | else-begun-ge-VERSION_LEN-via-then-begun-ge-VERSION_LEN+else-not-starts_with w ↦ sym w.starts_with.ensures.value ∙ w.if-not-starts_with.false
      | else-begun-ge-VERSION_LEN-via-else-begun-ge-VERSION_LEN w ↦ absurd (omega arith)
    ])
    (λ ge. elim c.else-begun-gt-VERSION_LEN.branch [
      | else-begun-gt-VERSION_LEN-via-then-begun-gt-VERSION_LEN+else-begun-ne-NONE w ↦ w.if-begun-ne-NONE.false
      | else-begun-gt-VERSION_LEN-via-else-begun-gt-VERSION_LEN w ↦ absurd (omega arith)
    ]))
