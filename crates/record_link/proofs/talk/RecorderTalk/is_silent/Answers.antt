-- Nothing is left of the handshake, nor of the messages.
use Rattle.std.proofs.Common.{◌≡◌, ◌==◌, ◌∙◌, [], true, length, sym}
use Rattle.std.proofs.lemmas.Bool.{eqb-true}
use Rattle.std.proofs.lemmas.List.{nil_from_length}
use Rattle.record_link.proofs.talk.RecorderTalk.is_silent.Goals as goal

pub returns-then-is_empty-clause-said : goal.returns-then-is_empty-clause-said
returns-then-is_empty-clause-said c =
    let none : c.out.result.now ≡ [] = nil_from_length c.out.result.now (eqb-true (length c.out.result.now) 0 (sym c.is_empty.ensures ∙ c.if-is_empty.true)) in
    rw (← c.self.view_is) (λ _ stream heard fine. sym (c.out.ensures.said stream heard fine) ∙ none)

pub returns-then-is_empty-clause-none : goal.returns-then-is_empty-clause-none
returns-then-is_empty-clause-none c = λ is.
    let none : (length c.pending.result.now == 0) ≡ true = cc in
    sym c.pending.ensures ∙ nil_from_length c.pending.result.now (eqb-true (length c.pending.result.now) 0 none)
