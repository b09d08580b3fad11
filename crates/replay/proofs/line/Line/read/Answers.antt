use Rattle.std.specs.Prelude.{codes}
use Rattle.replay.proofs.Lines.{no_line, no_word, not_word}
use Rattle.replay.proofs.line.Line.read.Goals as goal

pub returns-in_default-clause-none : goal.returns-in_default-clause-none
returns-in_default-clause-none c =
    no_line c.args.line.now (not_word c.eq.result c.args.line.now (codes "raise") c.eq.ensures c.if-eq.false) (not_word c.eq-2.result c.args.line.now (codes "input") c.eq-2.ensures c.if-eq-2.false) (not_word c.eq-3.result c.args.line.now (codes "next") c.eq-3.ensures c.if-eq-3.false) c.in_default.ensures.none

pub returns-in_default-word-clause-none : goal.returns-in_default-word-clause-none
returns-in_default-word-clause-none c =
    no_word c.args.line.now c.in-Some.word.now c.in-Some.rest.now (not_word c.eq.result c.args.line.now (codes "raise") c.eq.ensures c.if-eq.false) (not_word c.eq-2.result c.args.line.now (codes "input") c.eq-2.ensures c.if-eq-2.false) (not_word c.eq-3.result c.args.line.now (codes "next") c.eq-3.ensures c.if-eq-3.false) c.in-Some.ensures.found.0 c.in-Some.ensures.found.1
    c.in_default-word.not-screen c.in_default-word.not-host c.in_default-word.not-open c.in_default-word.not-greet c.in_default-word.not-viewer c.in_default-word.not-turn c.in_default-word.not-leave c.in_default-word.not-dropped
