use Rattle.std.proofs.Common.{◌∙◌, ap, inl, map, sym}
use Rattle.clap.specs.Words.{fault_of, found_of, is_simple, is_simple_and_free, matches_of}
use Rattle.command_line.proofs.Set.{misread_is, refusal_is, values_set}
use Rattle.command_line.proofs.Taken.{values_there}
use Rattle.command_line.proofs.options.settings.Goals as goal

pub told-requires : goal.told-requires
told-requires g c = values_there c.in-Ok.command c.in-Ok-try_get_matches_from.matches c.in-Ok.ensures c.in-Ok-try_get_matches_from.ensures.parsed

pub returns-in-Ok-told-clause-ok : goal.returns-in-Ok-told-clause-ok
returns-in-Ok-told-clause-ok g c =
    let words = map g.S.AsStr.text c.args.words.now in
    let rows = (c.in-Ok-try_get_matches_from.ensures.matches (ap is_simple c.in-Ok.ensures)).0 ∙ ap (λ app. matches_of app words) c.in-Ok.ensures in
    values_set (found_of c.in-Ok-try_get_matches_from.matches) words c.in-Ok-told.settings rows c.in-Ok-told.ensures.ok

pub returns-in-Ok-told-clause-faultless : goal.returns-in-Ok-told-clause-faultless
returns-in-Ok-told-clause-faultless g c =
    let words = map g.S.AsStr.text c.args.words.now in
    sym (ap (λ app. fault_of app words) c.in-Ok.ensures) ∙ c.in-Ok-try_get_matches_from.ensures.kinds (ap is_simple_and_free c.in-Ok.ensures)

pub returns-in-Ok-try_get_matches_from-clause-err : goal.returns-in-Ok-try_get_matches_from-clause-err
returns-in-Ok-try_get_matches_from-clause-err g c =
    let words = map g.S.AsStr.text c.args.words.now in
    let rows = (c.in-Ok-try_get_matches_from.ensures.matches (ap is_simple c.in-Ok.ensures)).0 ∙ ap (λ app. matches_of app words) c.in-Ok.ensures in
    misread_is (found_of c.in-Ok-try_get_matches_from.matches) words c.in-Err-told.bad.status rows c.in-Err-told.ensures.err

pub returns : goal.returns
returns g c =
    let words = map g.S.AsStr.text c.args.words.now in
    let faults = c.in-Err.ensures.kinds (ap is_simple_and_free c.in-Ok.ensures) in
    record {
      ok = tt;
      faultless = tt;
      err = inl (refusal_is words c.in-Err.error c.of.result.status c.in-Ok.ensures faults c.of.ensures);
    }
