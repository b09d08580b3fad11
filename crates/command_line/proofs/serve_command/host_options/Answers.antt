use Rattle.std.proofs.Common.{◌∙◌, ap, map, refl}
use Rattle.clap.specs.Words.{rule_of}
use Rattle.command_line.proofs.RuleLists.{also}
use Rattle.command_line.proofs.serve_command.host_options.Goals as goal

pub returns-clause-rules : goal.returns-clause-rules
returns-clause-rules c =
    ap (map rule_of) c.in_ok-options.ensures.items
    ∙ also c.host.ensures.rule
    (also c.option.ensures.rule refl)
