use Rattle.std.proofs.Common.{◌≡◌, ℕ, ◌+◌, ◌≤◌, ◌∙◌, ◌++◌, List, [], take, length, ap, sym, arith, Result, Ok, Err}
use Rattle.std.specs.Prelude.{IsOk, OnOk}
use Rattle.std.proofs.lemmas.List.{length-take, nil_from_length}
use Rattle.std.proofs.lemmas.Bool.{eqb-true}
use Rattle.byte_reading.specs.Reading.{Reading, after, taken}
use Rattle.raster.specs.Encoding.{Drawing}
use Rattle.rre_codec.specs.Ahead.{needed, next_form}
use Rattle.rre_codec.proofs.Going.{goes_on, all_taken, nothing_begun, open_is}
use Rattle.rre_codec.proofs.reading.ReaderCodecReader.step.Goals as goal

blank : Drawing
blank = record { background = 0; subrects = [] }

-- What fits is added.
added : {E P : Type 0} (answer : Result (Unit {0}) E) → IsOk answer → OnOk answer P → P
added (Ok x) fits p = p
added (Err e) fits p = absurd cc

pub draw_fields-stage-requires-clause-width : goal.draw_fields-stage-requires-clause-width
draw_fields-stage-requires-clause-width g c = c.requires.width ∙ ap (λ p. p.width) (sym c.self.view_is)

pub draw_fields-stage-requires-clause-height : goal.draw_fields-stage-requires-clause-height
draw_fields-stage-requires-clause-height g c = c.requires.height ∙ ap (λ p. p.height) (sym c.self.view_is)

pub draw_fields-stage-requires-clause-open : goal.draw_fields-stage-requires-clause-open
draw_fields-stage-requires-clause-open g c =
    let r = c.self.inside in
    open_is r.format r.width r.height r.stage blank r.begun.items c.self.invariant ∙ (rw (← c.self.view_is) at (c.requires.more blank))

pub draw-self-inside-requires-clause-open : goal.draw-self-inside-requires-clause-open
draw-self-inside-requires-clause-open g c =
    let r = c.self.inside in
    open_is r.format r.width r.height r.stage blank r.begun.items c.self.invariant ∙ (rw (← c.self.view_is) at (c.requires.more blank))

pub returns-then-len-needed-clause-drawn : goal.returns-then-len-needed-clause-drawn
returns-then-len-needed-clause-drawn g c sofar stands =
    let r = c.self.inside in
    let begun : List ℕ = r.begun.items in
    let more : List ℕ = take c.min-count.result c.args.bytes.now in
    let wanted = open_is r.format r.width r.height r.stage blank begun c.self.invariant ∙ (rw (← c.self.view_is) at (c.requires.more blank)) in
    let before = rw (← c.self.view_is) at stands in
    let some : length more ≡ c.min-count.result = omega (arith, length-take c.min-count.result c.args.bytes.now, c.min-count.ensures) in
    let room : length begun + length more ≤ needed r.format r.stage = omega (arith, some, c.min-count.ensures, c.len.ensures.value, c.needed-needed.ensures.value, c.self.invariant) in
    let joined : c.try_extend_from_slice.new.self.items ≡ begun ++ more =
    added c.try_extend_from_slice.result (c.try_extend_from_slice.ensures.variant.1 (omega (arith, room, c.needed-needed.ensures.value, c.needed-needed.ensures.most))) c.try_extend_from_slice.ensures.ok in
    let led = c.draw-self-inside.ensures.drawn sofar before in
    let whole : c.as_slice.result.now ≡ begun ++ more = c.as_slice.ensures.value ∙ joined in
    rw (← c.self.view_is)
    (record {
      drawing = led.drawing;
      goes = record {
        all = all_taken r.format r.width r.height r.stage sofar begun more wanted room;
        leads = sym (nothing_begun (next_form r.format r.width r.height c.draw-self-inside.result led.drawing) c.clear.new.self.items c.clear.ensures ∙ (sym led.reads ∙ goes_on r.format r.width r.height r.stage sofar begun more c.as_slice.result.now whole));
      };
      stands = led.shows;
    })

pub returns-else-len-needed-clause-drawn : goal.returns-else-len-needed-clause-drawn
returns-else-len-needed-clause-drawn g c sofar stands =
    let r = c.self.inside in
    let begun : List ℕ = r.begun.items in
    let more : List ℕ = take c.min-count.result c.args.bytes.now in
    let wanted = open_is r.format r.width r.height r.stage blank begun c.self.invariant ∙ (rw (← c.self.view_is) at (c.requires.more blank)) in
    let before = rw (← c.self.view_is) at stands in
    let some : length more ≡ c.min-count.result = omega (arith, length-take c.min-count.result c.args.bytes.now, c.min-count.ensures) in
    let room : length begun + length more ≤ needed r.format r.stage = omega (arith, some, c.min-count.ensures, c.len.ensures.value, c.needed-needed.ensures.value, c.self.invariant) in
    let joined : c.try_extend_from_slice.new.self.items ≡ begun ++ more =
    added c.try_extend_from_slice.result (c.try_extend_from_slice.ensures.variant.1 (omega (arith, room, c.needed-needed.ensures.value, c.needed-needed.ensures.most))) c.try_extend_from_slice.ensures.ok in
    rw (← c.self.view_is)
    (record {
      drawing = sofar;
      goes = record {
        all = all_taken r.format r.width r.height r.stage sofar begun more wanted room;
        leads = sym (goes_on r.format r.width r.height r.stage sofar begun more c.try_extend_from_slice.new.self.items joined);
      };
      stands = before;
    })

pub returns-then-needed-bytes-clause-drawn : goal.returns-then-needed-bytes-clause-drawn
returns-then-needed-bytes-clause-drawn g c sofar stands =
    let r = c.self.inside in
    let begun : List ℕ = r.begun.items in
    let fields : List ℕ = take c.draw_fields-stage.result.1 c.args.bytes.now in
    let none : begun ≡ [] = nil_from_length begun (eqb-true (length begun) 0 (sym c.is_empty.ensures ∙ c.if-is_empty.true)) in
    let form = next_form r.format r.width r.height r.stage sofar in
    let led = c.draw_fields-stage.ensures.drawn sofar (rw (← c.self.view_is) at stands) in
    let fresh : after form begun ≡ form = nothing_begun form begun none in
    rw (← c.self.view_is)
    (record {
      drawing = led.drawing;
      goes = record {
        all = ap (λ (t : Reading Drawing). taken t fields) fresh ∙ led.takes;
        leads = ap (λ (t : Reading Drawing). after t fields) fresh ∙ (led.reads ∙ sym (nothing_begun (next_form r.format r.width r.height c.draw_fields-stage.result.0 led.drawing) begun none));
      };
      stands = led.shows;
    })
