use Rattle.std.proofs.Common.{refl, ap}
use Rattle.rfb_wire.specs.ClientMessage as client
use Rattle.rfb_wire.specs.Message.{choice_in, message_of}
use Rattle.roles.specs.Allowed as input
use Rattle.viewer_session.specs.contracts.session.Session.{the_view}
use Rattle.viewer_session.proofs.SessionLaws.{serves_lost}
use Rattle.viewer_session.proofs.Taking.{stands_quiet, stands_waits}
use Rattle.viewer_session.proofs.session.Session.take_message.Goals as goal

pub returns-in-Format-clause-stands : goal.returns-in-Format-clause-stands
returns-in-Format-clause-stands c = λ s p k.
    let asked = c.passes-passes.ensures in
    let done = c.set_format.ensures in
    stands_quiet s (the_view c.self.inside) c.args.self.now c.set_format.new.self p c.passes-passes.new.self (message_of c.args.message) (client.SetPixelFormat c.in-Format.format) c.self.view_is (ap message_of c.in-Format.is) refl k c.requires.none
    asked.kept asked.stands (done.serves s p) done.same.role done.input.0 done.input.1

pub returns-in-Ask-clause-stands : goal.returns-in-Ask-clause-stands
returns-in-Ask-clause-stands c = λ s p k.
    let asked = c.passes-passes.ensures in
    let done = c.ask.ensures in
    stands_quiet s (the_view c.self.inside) c.args.self.now c.ask.new.self p c.passes-passes.new.self (message_of c.args.message) (client.Ask c.in-Ask.incremental c.in-Ask.rect) c.self.view_is (ap message_of c.in-Ask.is) refl k c.requires.none
    asked.kept asked.stands (done.serves s p) done.same.role done.input.0 done.input.1

pub returns-in-Encodings-clause-stands : goal.returns-in-Encodings-clause-stands
returns-in-Encodings-clause-stands c = λ s p k.
    let asked = c.passes-passes.ensures in
    let done = c.set_choice.ensures in
    stands_quiet s (the_view c.self.inside) c.args.self.now c.set_choice.new.self p c.passes-passes.new.self (message_of c.args.message) (client.SetEncodings (choice_in c.in-Encodings.choice)) c.self.view_is (ap message_of c.in-Encodings.is) refl k c.requires.none
    asked.kept asked.stands (done.serves s p) done.same.role done.input.0 done.input.1

pub returns-in-Key-clause-stands : goal.returns-in-Key-clause-stands
returns-in-Key-clause-stands c = λ s p k.
    let asked = c.passes-passes.ensures in
    stands_waits s (the_view c.self.inside) c.args.self.now c.wait.new.self p c.passes-passes.new.self (message_of c.args.message) (client.Key c.in-Key.down c.in-Key.key) (input.Key c.in-Key.down c.in-Key.key) c.passes-passes.result c.self.view_is (ap message_of c.in-Key.is) refl k c.requires.none
    asked.value asked.kept asked.stands c.wait.ensures

pub returns-in-Pointer-clause-stands : goal.returns-in-Pointer-clause-stands
returns-in-Pointer-clause-stands c = λ s p k.
    let asked = c.passes-passes.ensures in
    stands_waits s (the_view c.self.inside) c.args.self.now c.wait-in-Pointer.new.self p c.passes-passes.new.self (message_of c.args.message) (client.Pointer c.in-Pointer.mask c.in-Pointer.x c.in-Pointer.y) (input.Pointer c.in-Pointer.mask c.in-Pointer.x c.in-Pointer.y) c.passes-passes.result c.self.view_is (ap message_of c.in-Pointer.is) refl k c.requires.none
    asked.value asked.kept asked.stands c.wait-in-Pointer.ensures

pub returns-in-Cut-clause-stands : goal.returns-in-Cut-clause-stands
returns-in-Cut-clause-stands c = λ s p k.
    let asked = c.passes-passes.ensures in
    stands_waits s (the_view c.self.inside) c.args.self.now c.wait-in-Cut.new.self p c.passes-passes.new.self (message_of c.args.message) (client.CutText c.in-Cut.text) (input.Cut c.in-Cut.text) c.passes-passes.result c.self.view_is (ap message_of c.in-Cut.is) refl k c.requires.none
    asked.value asked.kept asked.stands c.wait-in-Cut.ensures

pub returns-in-CutLost-clause-stands : goal.returns-in-CutLost-clause-stands
returns-in-CutLost-clause-stands c = λ s p k.
    let asked = c.passes-passes.ensures in
    let st = the_view c.self.inside in
    let len = c.in-CutLost.field-0 in
    stands_quiet s st c.args.self.now (record st { held = c.passes-passes.new.self }) p c.passes-passes.new.self (message_of c.args.message) (client.LostText len) c.self.view_is (ap message_of c.in-CutLost.is) refl k c.requires.none
    asked.kept asked.stands (serves_lost s (record st { held = c.passes-passes.new.self }) p len) refl refl refl
