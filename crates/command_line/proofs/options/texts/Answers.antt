use Rattle.std.proofs.Common.{◌∙◌, ap, map, rules}
use Rattle.std.specs.String.{string_bytes}
use Rattle.command_line.proofs.Texts.{text_more}
use Rattle.command_line.proofs.options.texts.Goals as goal

pub loop-word-preserved : goal.loop-word-preserved
loop-word-preserved c =
    ap (λ texts. map string_bytes texts) c.in_ok-push.ensures.items
    ∙ text_more _ _ c.loop-word.texts.items c.in_ok-from_str.field-0 c.in-Some.words.now c.loop-word.word-index _ (search rules) c.loop-word.invariant c.in_ok-from_str.ensures.ok
