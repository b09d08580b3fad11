use Rattle.std.proofs.Common.{◌∙◌, ap, map, refl}
use Rattle.clap.specs.Words.{rule_of}
use Rattle.command_line.proofs.RuleLists.{also}
use Rattle.command_line.proofs.serve_command.run_options.Goals as goal

pub returns-clause-rules : goal.returns-clause-rules
returns-clause-rules c =
    ap (map rule_of) c.in_ok-options.ensures.items
    ∙ also c.seconds.ensures.rule
    (also c.option.ensures.rule
    (also c.option-2.ensures.rule
    (also c.seconds-2.ensures.rule
    (also c.further.ensures.rule refl))))
