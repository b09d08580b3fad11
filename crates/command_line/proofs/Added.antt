-- Arguments that are added in turn to a command. `serve_command` adds its options so.
use Rattle.std.proofs.Common.{◌∙◌, ◌≡◌, ap, ap₂, false, map, sym, List, [], ◌∷◌}
use Rattle.std.specs.List.{AllByRecursion, fold}
use Rattle.clap.specs.Built.{AddsArg, AddsInTurn}
use Rattle.clap.specs.Words.{App, Rule, app_of, rule_of, with_rule}
use Rattle.clap.specs.declared.builder.arg.Arg.{Arg}
use Rattle.clap.specs.declared.builder.command.Command.{Command}

all_added : (old new : Command) (args : List Arg) → AddsInTurn AddsArg old args new → AllByRecursion (λ arg. arg.global ≡ false) args
    → app_of new ≡ fold with_rule (app_of old) (map rule_of args)
all_added old new [] same local = ap app_of (sym same)
all_added old new (arg ∷ args) steps local =
    all_added steps.0 new args steps.2 local.1 ∙ ap (λ app. fold with_rule app (map rule_of args)) (steps.1.shape local.0)

-- A command that had these rules has also those of the options that were added to it.
pub added : (old new : Command) (args : List Arg) → {app : App} {rules : List Rule} → app_of old ≡ app → map rule_of args ≡ rules
    → AllByRecursion (λ arg. arg.global ≡ false) args → AddsInTurn AddsArg old args new → app_of new ≡ fold with_rule app rules
added old new args has are local steps = all_added old new args steps local ∙ ap₂ (fold with_rule) has are
