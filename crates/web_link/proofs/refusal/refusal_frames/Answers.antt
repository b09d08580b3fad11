-- What is spelled is what a client reads as two messages and a close.
use Rattle.std.proofs.Common.{List, ℕ, ◌++◌, sym, subst, arith}
use Rattle.web_link.specs.declared.saying.Saying.TheVariants.{Closed}
use Rattle.web_link.specs.Web.{Says}
use Rattle.web_link.proofs.Said.{says_refusal}
use Rattle.std.specs.Int.{w16, to_be_bytes}
use Rattle.web_link.proofs.refusal.refusal_frames.Goals as goal

pub returns-clause-read : goal.returns-clause-read
returns-clause-read c =
    subst (λ (b : List ℕ). Says b (c.args.version.now ++ c.args.reason.now) Closed) (sym c.spell.ensures)
    (says_refusal c.args.version.now c.args.reason.now (to_be_bytes w16 1013) c.requires.version c.requires.reason (omega (arith, c.requires.short)) (omega (arith, c.requires.short)) (omega arith))
