use Rattle.std.proofs.Common.{◌≡◌, ℕ, ◌++◌, Bool, sym, ap, subst, ◌∙◌}
use Rattle.reflect_core.specs.Asked.{Wanted, AskedStands}
use Rattle.reflect_core.specs.Source.{copies_in}
use Rattle.reflect_core.specs.declared.cut.Cut.{Cut}
use Rattle.tiles.specs.Have.{SentTiles, HaveStands}
use Rattle.update_encoder.specs.Coming.{coming, front_bytes}
use Rattle.viewer_session.specs.Found.{answered_at}
use Rattle.viewer_session.specs.Session.{State}
use Rattle.viewer_session.specs.Turn.{update_part}
use Rattle.viewer_session.specs.contracts.session.Session.{the_view}
use Rattle.viewer_session.proofs.TurnLaws.{has_none, none_at, some_at}
use Rattle.viewer_session.proofs.session.Session.answer.Goals as goal

-- What is found of one cut is found of the other.
tested : (count : ℕ) (seen other cut : Cut) (b c : Bool) → seen ≡ cut → other ≡ cut → b ≡ has_none other count → b ≡ c → has_none seen count ≡ c
tested count seen other cut b c e f is test = ap (λ (t : Cut). has_none t count) (e ∙ sym f) ∙ (sym is ∙ test)

pub returns-then-is_empty-clause-bytes : goal.returns-then-is_empty-clause-bytes
returns-then-is_empty-clause-bytes c =
    let a = c.start-answer.result in
    let seen : Cut = c.cut.result.now in
    let empty = tested a.count seen c.cut-2.result.now c.self.inside.out.cut c.is_empty.result _ c.cut.ensures c.cut-2.ensures c.is_empty.ensures c.if-is_empty.true in
    sym (ap update_part (none_at (the_view c.self.inside) c.args.self.now c.args.area c.in_ok-area.area seen a.count c.self.view_is c.in_ok-area.was c.cut.ensures c.start-answer.ensures.count empty))

pub returns-then-is_empty-clause-asked : goal.returns-then-is_empty-clause-asked
returns-then-is_empty-clause-asked c = λ es stands.
    let a = c.start-answer.result in
    let seen : Cut = c.cut.result.now in
    let empty = tested a.count seen c.cut-2.result.now c.self.inside.out.cut c.is_empty.result _ c.cut.ensures c.cut-2.ensures c.is_empty.ensures c.if-is_empty.true in
    subst (λ found. AskedStands c.args.self.now.asked (answered_at c.args.number found es))
    (sym (none_at (the_view c.self.inside) c.args.self.now c.args.area c.in_ok-area.area seen a.count c.self.view_is c.in_ok-area.was c.cut.ensures c.start-answer.ensures.count empty)) stands

pub returns-then-is_empty-clause-have : goal.returns-then-is_empty-clause-have
returns-then-is_empty-clause-have c = λ es told stands.
    let a = c.start-answer.result in
    let seen : Cut = c.cut.result.now in
    let empty = tested a.count seen c.cut-2.result.now c.self.inside.out.cut c.is_empty.result _ c.cut.ensures c.cut-2.ensures c.is_empty.ensures c.if-is_empty.true in
    subst (λ found. HaveStands c.args.self.now.have (answered_at c.args.number found es))
    (sym (none_at (the_view c.self.inside) c.args.self.now c.args.area c.in_ok-area.area seen a.count c.self.view_is c.in_ok-area.was c.cut.ensures c.start-answer.ensures.count empty)) stands

pub returns-clause-bytes : goal.returns-clause-bytes
returns-clause-bytes c =
    let a = c.start-answer.result in
    let seen : Cut = c.cut.result.now in
    let some = tested a.count seen c.cut-2.result.now c.self.inside.out.cut c.is_empty.result _ c.cut.ensures c.cut-2.ensures c.is_empty.ensures c.if-is_empty.false in
    let there : seen ≡ c.args.self.now.cut = c.cut.ensures ∙ ap (λ (st : State). st.cut) c.self.view_is in
    ap (λ (cut : Cut). front_bytes (copies_in cut) a.count ++ coming a cut) (sym there)
    ∙ sym (ap update_part (some_at (the_view c.self.inside) c.args.self.now c.args.area c.in_ok-area.area seen a.count (front_bytes (copies_in seen) a.count ++ coming a seen) c.self.view_is c.in_ok-area.was c.cut.ensures c.start-answer.ensures.count some c.start-answer.ensures.bytes))

pub returns-clause-asked : goal.returns-clause-asked
returns-clause-asked c = λ es stands.
    let a = c.start-answer.result in
    let seen : Cut = c.cut.result.now in
    let some = tested a.count seen c.cut-2.result.now c.self.inside.out.cut c.is_empty.result _ c.cut.ensures c.cut-2.ensures c.is_empty.ensures c.if-is_empty.false in
    subst (λ found. AskedStands c.answered.new.self (answered_at c.args.number found es))
    (sym (some_at (the_view c.self.inside) c.args.self.now c.args.area c.in_ok-area.area seen a.count (front_bytes (copies_in seen) a.count ++ coming a seen) c.self.view_is c.in_ok-area.was c.cut.ensures c.start-answer.ensures.count some c.start-answer.ensures.bytes))
    (c.answered.ensures.stands c.in_ok-area.area es (subst (λ (w : Wanted). AskedStands w es) (sym (ap (λ (st : State). st.asked) c.self.view_is)) stands))

pub returns-clause-have : goal.returns-clause-have
returns-clause-have c = λ es told stands.
    let a = c.start-answer.result in
    let seen : Cut = c.cut.result.now in
    let some = tested a.count seen c.cut-2.result.now c.self.inside.out.cut c.is_empty.result _ c.cut.ensures c.cut-2.ensures c.is_empty.ensures c.if-is_empty.false in
    subst (λ found. HaveStands c.keep.new.self (answered_at c.args.number found es))
    (sym (some_at (the_view c.self.inside) c.args.self.now c.args.area c.in_ok-area.area seen a.count (front_bytes (copies_in seen) a.count ++ coming a seen) c.self.view_is c.in_ok-area.was c.cut.ensures c.start-answer.ensures.count some c.start-answer.ensures.bytes))
    (c.keep.ensures.stands es (told ∙ sym (ap (λ (st : State). st.told) c.self.view_is)) (subst (λ (h : SentTiles). HaveStands h es) (sym (ap (λ (st : State). st.have) c.self.view_is)) stands))
