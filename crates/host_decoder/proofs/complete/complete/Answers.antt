use Rattle.std.proofs.Common.{inr, refl, sym, ap, subst, ◌∙◌}
use Rattle.byte_reading.specs.Reading.{Reading, Faulty}
use Rattle.rfb_wire.specs.ServerMessage.{ServerMessage}
use Rattle.host_decoder.specs.Decoder.{GoesOn}
use Rattle.host_decoder.proofs.Completed.{outside_update, behind_count, behind_encoding, behind_kind, behind_outside}
use Rattle.host_decoder.proofs.complete.complete.Goals as goal

pub returns-in-Kind-clause-goes_on : goal.returns-in-Kind-clause-goes_on
returns-in-Kind-clause-goes_on c start sofar holds suited =
    let w = c.args.painter.now.width in
    let h = c.args.painter.now.height in
    let none = rw c.in-Kind.is at suited in
    let count = rw c.in-Kind.is at c.requires.count in
    rw c.in-Kind.is
    (subst (λ (r : Reading ServerMessage). GoesOn c.args.painter.now c.args.painter.now c.behind_kind.result start r) (sym (behind_kind w h sofar c.args.b.now count))
    (outside_update c.args.painter.now start sofar c.behind_kind.result _ holds none c.behind_kind.ensures.stands))

pub returns-in-Count-clause-goes_on : goal.returns-in-Count-clause-goes_on
returns-in-Count-clause-goes_on c start sofar holds suited =
    let w = c.args.painter.now.width in
    let h = c.args.painter.now.height in
    let none = rw c.in-Count.is at suited in
    let count = rw c.in-Count.is at c.requires.count in
    rw c.in-Count.is
    (subst (λ (r : Reading ServerMessage). GoesOn c.args.painter.now c.next_rectangle.new.painter c.next_rectangle.result start r) (sym (behind_count w h sofar c.args.b.now c.read_update_head.result count none c.read_update_head.ensures))
    (c.next_rectangle.ensures.goes_on start sofar holds))

pub returns-in-Area-clause-goes_on : goal.returns-in-Area-clause-goes_on
returns-in-Area-clause-goes_on c start sofar holds suited =
    rw c.in-Area.is (inr (c.behind_area.ensures.stands start sofar holds))

pub returns-in-Encoding-clause-goes_on : goal.returns-in-Encoding-clause-goes_on
returns-in-Encoding-clause-goes_on c start sofar holds suited =
    let w = c.args.painter.now.width in
    let h = c.args.painter.now.height in
    let count = rw c.in-Encoding.is at c.requires.count in
    rw c.in-Encoding.is
    (subst (λ (r : Reading ServerMessage). GoesOn c.args.painter.now c.begin_data.new.painter c.begin_data.result start r)
    (sym (behind_encoding w h sofar c.in-Encoding.left c.in-Encoding.area c.args.b.now c.read_encoding.result count c.read_encoding.ensures)) (c.begin_data.ensures.goes_on start sofar holds))

pub returns-in-Outside-clause-goes_on : goal.returns-in-Outside-clause-goes_on
returns-in-Outside-clause-goes_on c start sofar holds suited =
    let count = rw c.in-Outside.is at c.requires.count in
    rw c.in-Outside.is
    (inr (behind_outside c.args.painter.now.width c.args.painter.now.height sofar c.args.b.now c.read_encoding-in-Outside.result count c.read_encoding-in-Outside.ensures ∙ ap Faulty (sym c.outside.ensures)))

pub returns-in-Colours-clause-stays : goal.returns-in-Colours-clause-stays
returns-in-Colours-clause-stays c = record { width = refl; height = refl; suits = c.behind_colours.ensures.suits c.args.painter.now.width c.args.painter.now.height }

pub returns-in-Length-clause-goes_on : goal.returns-in-Length-clause-goes_on
returns-in-Length-clause-goes_on c start sofar holds suited =
    let none = rw c.in-Length.is at suited in
    rw c.in-Length.is (outside_update c.args.painter.now start sofar c.behind_length.result _ holds none c.behind_length.ensures.stands)
