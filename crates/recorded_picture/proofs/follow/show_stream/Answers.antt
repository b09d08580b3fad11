use Rattle.std.proofs.Common.{◌∙◌, List, subst, sym, inr}
use Rattle.fault.specs.declared.kinds.Fault.{Fault}
use Rattle.raster.specs.Screen.{opening}
use Rattle.raster.specs.Update.{Update}
use Rattle.host_decoder.specs.Decoder.{Decodes, Decoding, host_message}
use Rattle.host_reader.specs.Running.{EndsBetween, EndsWith}
use Rattle.std.proofs.lemmas.Result.{IfOk-weaker, IfErr-weaker}
use Rattle.recorded_picture.specs.Picture.{Shown}
use Rattle.recorded_picture.specs.Recorded.{ShowsStream, StopsIn}
use Rattle.recorded_picture.proofs.Shows.{Follows, at_end, inside}
use Rattle.recorded_picture.proofs.follow.show_stream.Goals as goal

pub run_host-ended-requires-clause-begins : goal.run_host-ended-requires-clause-begins
run_host-ended-requires-clause-begins g c =
    let begins = c.new-decoder.ensures.begins opening c.in_ok-painter.painter c.in_ok-painter.ensures.black in
    (opening, subst (λ (d : Decoding). Decodes c.new-decoder.result c.in_ok-painter.painter opening (host_message d.width d.height)) (sym c.new-decoder.ensures.value) begins)

pub returns-in-Ok-clause-ok : goal.returns-in-Ok-clause-ok
returns-in-Ok-clause-ok g c =
    let old = g.L.Link.state c.args.link.now in
    let new = g.L.Link.state c.run_host-ended.new.link in
    let before : List Update = c.in_ok-picture.picture.updates in
    let after = c.run_host-ended.new.publisher in
    let begins = c.new-decoder.ensures.begins opening c.in_ok-painter.painter c.in_ok-painter.ensures.black in
    let own = subst (λ (d : Decoding). Decodes c.new-decoder.result c.in_ok-painter.painter opening (host_message d.width d.height)) (sym c.new-decoder.ensures.value) begins in
    let ends : EndsBetween c.args.w c.args.h opening old new before after.updates = subst (λ (d : Decoding). EndsBetween d.width d.height opening old new before after.updates) c.new-decoder.ensures.value (c.in-Ok.ensures.ok opening own) in
    let follows : Follows c.args.w c.args.h before after = record {
      same = c.same_updates_show_the_same.ensures.screen;
      none = c.in_ok-picture.ensures.ok.2;
      wide = c.run_host-ended.ensures.publisher.0 ∙ c.in_ok-picture.ensures.ok.0;
      high = c.run_host-ended.ensures.publisher.1 ∙ c.in_ok-picture.ensures.ok.1;
      shows = c.so_far.ensures;
    } in
    at_end c.args.w c.args.h old new before after follows ends

pub returns-clause-ok : goal.returns-clause-ok
returns-clause-ok g c =
    let old = g.L.Link.state c.args.link.now in
    let new = g.L.Link.state c.run_host-ended.new.link in
    let before : List Update = c.in_ok-picture.picture.updates in
    let after = c.run_host-ended.new.publisher in
    let begins = c.new-decoder.ensures.begins opening c.in_ok-painter.painter c.in_ok-painter.ensures.black in
    let own = subst (λ (d : Decoding). Decodes c.new-decoder.result c.in_ok-painter.painter opening (host_message d.width d.height)) (sym c.new-decoder.ensures.value) begins in
    let ends = subst (λ (d : Decoding). EndsWith d.width d.height opening c.in-Err.fault old new before after.updates) c.new-decoder.ensures.value (c.in-Err.ensures.err opening own) in
    let follows : Follows c.args.w c.args.h before after = record {
      same = c.same_updates_show_the_same.ensures.screen;
      none = c.in_ok-picture.ensures.ok.2;
      wide = c.run_host-ended.ensures.publisher.0 ∙ c.in_ok-picture.ensures.ok.0;
      high = c.run_host-ended.ensures.publisher.1 ∙ c.in_ok-picture.ensures.ok.1;
      shows = c.so_far.ensures;
    } in
    IfOk-weaker c.unless_ended.result _ _ (λ (given : Shown) is. subst (λ (p : Shown). ShowsStream c.args.w c.args.h old new p) (sym is.0)
    (inside c.args.w c.args.h old new before after follows (subst (λ (fault : Fault). EndsWith c.args.w c.args.h opening fault old new before after.updates) is.1 ends))) c.unless_ended.ensures.ok

pub returns-clause-err : goal.returns-clause-err
returns-clause-err g c =
    let old = g.L.Link.state c.args.link.now in
    let new = g.L.Link.state c.run_host-ended.new.link in
    let before : List Update = c.in_ok-picture.picture.updates in
    let after = c.run_host-ended.new.publisher in
    let begins = c.new-decoder.ensures.begins opening c.in_ok-painter.painter c.in_ok-painter.ensures.black in
    let own = subst (λ (d : Decoding). Decodes c.new-decoder.result c.in_ok-painter.painter opening (host_message d.width d.height)) (sym c.new-decoder.ensures.value) begins in
    let ends = subst (λ (d : Decoding). EndsWith d.width d.height opening c.in-Err.fault old new before after.updates) c.new-decoder.ensures.value (c.in-Err.ensures.err opening own) in
    let none = subst (λ (us : List Update). EndsWith c.args.w c.args.h opening c.in-Err.fault old new us after.updates) c.in_ok-picture.ensures.ok.2 ends in
    IfErr-weaker c.unless_ended.result _ _ (λ (given : Fault) is. subst (λ (f : Fault). StopsIn c.args.w c.args.h f old new) (sym is.0) (inr (is.1, after.updates, none))) c.unless_ended.ensures.err
