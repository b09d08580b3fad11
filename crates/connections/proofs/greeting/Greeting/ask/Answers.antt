use Rattle.std.proofs.Common.{◌≡◌, ◌∙◌, ◌-◌, ◌≤◌, ℕ, List, take, drop, ap, arith, rules}
use Rattle.std.proofs.lemmas.Grind.{common_steps}
use Rattle.rfb_wire.specs.Handshake.{version}
use Rattle.connections.specs.Keys.{question}
use Rattle.connections.proofs.Asked.{asked_more}
use Rattle.connections.proofs.greeting.Greeting.ask.Goals as goal

pub invariant_of-self-2 : goal.invariant_of-self-2
invariant_of-self-2 g c =
    let asked : ℕ = c.self.inside.asked in
    let count : ℕ = c.in_ok-count.count in
    let wanted : ℕ = c.args.due - asked in
    let asks : List ℕ = question c.self.inside.challenge in
    let left : List ℕ = c.split_at-2.result.0.now in
    let here : left ≡ take wanted (drop asked asks) = c.split_at-2.ensures.front ∙ ap (take wanted) (c.split_at.ensures.back ∙ ap (drop asked) c.question-question.ensures) in
    let within : count ≤ wanted = grind (arith, common_steps) in
    record {
      said = asked_more version asks _ left _ c.self.inside.said asked wanted count within c.self.invariant.said here c.in_ok-count.ensures.sent;
      heard = search rules;
      most = c.self.invariant.most;
      in_turn = c.self.invariant.in_turn;
      most_asked = grind (arith, common_steps);
      locked = λ _. search rules;
      after_version = λ _. search rules;
      choice_in_turn = search rules;
      after_choice = search rules;
      answer_in_turn = search rules;
    }
