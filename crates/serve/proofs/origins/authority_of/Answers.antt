-- A text that can't be split, or of which a part is none, is no origin.
use Rattle.std.proofs.Common.{None, Some, sym, ◌∙◌}
use Rattle.std.specs.Prelude.{codes}
use Rattle.std.proofs.lemmas.Bool.{false≢true}
use Rattle.std.proofs.lemmas.Str.Pattern.{split_text_parts}
use Rattle.serve.proofs.Splits.{no_origin, no_split}
use Rattle.serve.proofs.origins.authority_of.Goals as goal
use Rattle.serve.proofs.origins.authority_of.Goals.{else-is_part-via-then-is_part+else-is_part-2, else-is_part-via-else-is_part}

pub returns-in_default : goal.returns-in_default
returns-in_default c = no_split c.args.origin.now (split_text_parts (codes "://") c.args.origin.now None c.in_default.ensures.cases)

pub returns-else-is_part : goal.returns-else-is_part
returns-else-is_part c =
    let scheme = c.in-Some.scheme in
    let authority = c.in-Some.authority in
    let split = split_text_parts (codes "://") c.args.origin.now (Some (scheme, authority)) c.in-Some.ensures.cases in
    no_origin c.args.origin.now scheme.now authority.now split (λ first second. elim c.else-is_part.branch [
      | else-is_part-via-then-is_part+else-is_part-2 w ↦ false≢true (sym w.if-is_part-2.false ∙ w.is_part-then-is_part.ensures.1 second)
      | else-is_part-via-else-is_part w ↦ false≢true (sym w.if-is_part.false ∙ c.is_part.ensures.1 first)
    ])
