use Rattle.std.proofs.Common.{◌≡◌, ℕ, ◌+◌, ◌≤◌, List, ◌++◌, true, length, Option, Some, sym, ap, subst, ◌∙◌}
use Rattle.std.specs.Prelude.{is_some}
use Rattle.byte_reading.specs.Reading.{wants_more, whole_of}
use Rattle.rfb_wire.specs.Greeting.{Greeting, ahead, to_send}
use Rattle.reflect_core.specs.declared.cut.Cut.{Cut}
use Rattle.viewer_session.specs.Session.{State, Stands, IsSpoken, IsGreeting, hello_of}
use Rattle.viewer_session.specs.Viewer.{after_byte}
use Rattle.viewer_session.specs.contracts.session.Session.{the_view}
use Rattle.viewer_session.proofs.HelloLaws.{with_byte, with_said, not_yet, takes_byte, has_room, spoken_on, stands_byte}
use Rattle.viewer_session.proofs.session.Session.greet.Goals as goal

-- The hello that the session has wants a byte.
wanted : (st : State) (o : Option Greeting) (g : Greeting) → o ≡ st.greeting → o ≡ Some g → wants_more (hello_of st.greeting) ≡ true → wants_more (ahead g) ≡ true
wanted st o g same is wants = ap (λ q. wants_more (hello_of q)) (sym is ∙ same) ∙ wants

pub say-requires-clause-room : goal.say-requires-clause-room
say-requires-clause-room c =
    let g = c.in-Some.hello in
    let wants = wanted c.args.self.now c.self.inside.hello g (ap (λ (st : State). st.greeting) c.self.view_is) c.in-Some.is c.requires.wants in
    let fed : c.feed.new.self ≡ with_byte g c.args.byte = c.feed.ensures.after ∙ takes_byte g c.args.byte wants in
    let room : IsSpoken g c.self.inside.out = subst (λ (o : Option Greeting). IsGreeting o c.self.inside.out) c.in-Some.is c.self.invariant.greets in
    subst (λ (h : Greeting). c.self.inside.out.filled + length (to_send h) ≤ 65544) (sym fed) (has_room g c.args.byte c.self.inside.out wants room)

pub invariant_of-self : goal.invariant_of-self
invariant_of-self c =
    let g = c.in-Some.hello in
    let wants = wanted c.args.self.now c.self.inside.hello g (ap (λ (st : State). st.greeting) c.self.view_is) c.in-Some.is c.requires.wants in
    let fed : c.feed.new.self ≡ with_byte g c.args.byte = c.feed.ensures.after ∙ takes_byte g c.args.byte wants in
    let room : IsSpoken g c.self.inside.out = subst (λ (o : Option Greeting). IsGreeting o c.self.inside.out) c.in-Some.is c.self.invariant.greets in
    let now : IsSpoken (with_said (with_byte g c.args.byte)) c.say.new.out =
    spoken_on g c.args.byte c.self.inside.out c.say.new.out wants room (c.say.ensures.filled ∙ ap (λ (h : Greeting). c.self.inside.out.filled + length (to_send h)) fed) c.say.ensures.alone in
    let i = c.self.invariant in
    record {
      size = i.size;
      taken = i.taken;
      fresh = λ open_. i.fresh (ap (λ (o : Option Greeting). is_some (whole_of (hello_of o))) c.in-Some.is ∙ not_yet (ahead g) wants);
      asked_size = i.asked_size;
      have_size = i.have_size;
      cut_size = (ap (λ (t : Cut). t.width) c.say.ensures.cut ∙ i.cut_size.0, ap (λ (t : Cut). t.height) c.say.ensures.cut ∙ i.cut_size.1);
      greets = subst (λ (h : Greeting). IsSpoken h c.say.new.out) (sym (c.say.ensures.hello ∙ ap with_said fed)) now;
    }

pub returns-in-Some-clause-stands : goal.returns-in-Some-clause-stands
returns-in-Some-clause-stands c = λ s p k.
    let g = c.in-Some.hello in
    let st = the_view c.self.inside in
    let wants = wanted c.args.self.now c.self.inside.hello g (ap (λ (t : State). t.greeting) c.self.view_is) c.in-Some.is c.requires.wants in
    let fed : c.feed.new.self ≡ with_byte g c.args.byte = c.feed.ensures.after ∙ takes_byte g c.args.byte wants in
    let room : IsSpoken g c.self.inside.out = subst (λ (o : Option Greeting). IsGreeting o c.self.inside.out) c.in-Some.is c.self.invariant.greets in
    let unsent : c.say.new.out.unsent ≡ st.unsent ++ to_send (with_byte g c.args.byte) = c.say.ensures.unsent ∙ ap (λ (h : Greeting). st.unsent ++ to_send h) fed in
    let piece : List ℕ = c.say.new.out.piece in
    let now : Greeting = with_said (with_byte g c.args.byte) in
    let stood : Stands s st p = subst (λ (t : State). Stands s t p) (sym c.self.view_is) k in
    subst (λ (cut : Cut). Stands s (record st { greeting = Some c.say.new.hello; cut = cut; piece = piece; unsent = c.say.new.out.unsent }) (after_byte p c.args.byte)) (sym c.say.ensures.cut)
    (subst (λ (h : Greeting). Stands s (record st { greeting = Some h; piece = piece; unsent = c.say.new.out.unsent }) (after_byte p c.args.byte)) (sym (c.say.ensures.hello ∙ ap with_said fed))
    (subst (λ (u : List ℕ). Stands s (record st { greeting = Some now; piece = piece; unsent = u }) (after_byte p c.args.byte)) (sym unsent)
    (stands_byte s st p g c.args.byte piece c.in-Some.is wants (room.said wants).said stood)))
