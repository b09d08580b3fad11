use Rattle.std.proofs.Common.{◌≡◌, ℕ, List, ◌++◌, Some, true, sym, ap, subst, ◌∙◌}
use Rattle.std.proofs.lemmas.Result.{IfOk-weaker}
use Rattle.rfb_wire.specs.Greeting.{Greeting, to_send}
use Rattle.rfb_wire.specs.Handshake.{version}
use Rattle.viewer_session.specs.Session.{IsBegun}
use Rattle.viewer_session.proofs.HelloLaws.{first_greeting, with_said, opens}
use Rattle.viewer_session.proofs.session.Session.open.Goals as goal

-- What the hello of a new session is, and what was said of it.
said_first : (w h : ℕ) (name : List ℕ) (hello said : Greeting) → hello ≡ first_greeting w h name → said ≡ with_said hello → said ≡ with_said (first_greeting w h name)
said_first w h name hello said e f = f ∙ ap with_said e

pub returns-clause-stands : goal.returns-clause-stands
returns-clause-stands c =
    let first = said_first c.args.w c.args.h c.args.name.now c.new-hello.result c.say.new.hello c.new-hello.ensures c.say.ensures.hello in
    let unsent : c.say.new.out.unsent ≡ version = c.say.ensures.unsent ∙ (ap (λ u. u ++ to_send c.new-hello.result) c.in_ok-out.ensures.empty.2 ∙ ap to_send c.new-hello.ensures) in
    IfOk-weaker c.begun.result _ _
    (λ session stands s w h name form host. stands s true w h form host (subst (λ (g : Greeting). IsBegun s c.args.role true (Some g) c.say.new.out) (sym first) (opens s c.args.role c.args.w c.args.h c.args.name.now c.say.new.out w h name unsent)))
    c.begun.ensures.stands
