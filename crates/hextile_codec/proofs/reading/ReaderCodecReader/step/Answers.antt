use Rattle.std.proofs.Common.{◌≡◌, ℕ, ◌+◌, ◌<◌, ◌≤◌, ◌∙◌, ◌++◌, List, take, length, length-append, false, ap, sym, arith, Result, Ok, Err}
use Rattle.std.specs.Prelude.{nat_lt, not, IsOk, OnOk}
use Rattle.std.proofs.lemmas.List.{length-take}
use Rattle.byte_reading.specs.Reading.{Reading, after}
use Rattle.byte_reading.proofs.ReadingLaws.{after-append}
use Rattle.raster.specs.Encoding.{Tile}
use Rattle.raster.specs.Screen.{tile_count}
use Rattle.hextile_codec.specs.Carried.{carried_by}
use Rattle.hextile_codec.specs.Ahead.{blank, nothing_read, is_failed, needed, next_form}
use Rattle.hextile_codec.proofs.Needed.{begun_takes}
use Rattle.hextile_codec.proofs.Standing.{needs_there, open_there, wanting_lt, wanting_fine}
use Rattle.hextile_codec.proofs.Taking.{kept_first}
use Rattle.hextile_codec.proofs.reading.ReaderCodecReader.step.Goals as goal

-- What fits is added.
added : {E P : Type 0} (answer : Result (Unit {0}) E) → IsOk answer → OnOk answer P → P
added (Ok x) fits p = p
added (Err e) fits p = absurd cc

pub take-requires-clause-wanting : goal.take-requires-clause-wanting
take-requires-clause-wanting g c =
    let r = c.self.inside in
    let len : length r.begun.items ≤ length r.begun.items = omega arith in
    rw (← c.self.view_is)
    (open_there r.format r.width r.height r.tiles r.tile r.area r.stage (length r.begun.items) (carried_by r.carried) (nothing_read blank) r.begun.items c.self.invariant len ∙ (rw (← c.self.view_is) at (c.requires.more (nothing_read blank))))

pub take-requires-then-len-needed-clause-wanting : goal.take-requires-then-len-needed-clause-wanting
take-requires-then-len-needed-clause-wanting g c =
    let r = c.self.inside in
    let len : length r.begun.items ≤ length r.begun.items = omega arith in
    open_there r.format r.width r.height r.tiles r.tile r.area r.stage (length r.begun.items) (carried_by r.carried) (nothing_read blank) r.begun.items c.self.invariant len ∙ (rw (← c.self.view_is) at (c.requires.more (nothing_read blank)))

pub returns-then-len-needed-clause-drawn : goal.returns-then-len-needed-clause-drawn
returns-then-len-needed-clause-drawn g c sofar stands =
    let r = c.self.inside in
    let begun : List ℕ = r.begun.items in
    let more : List ℕ = take c.min-count.result c.args.bytes.now in
    let before = rw (← c.self.view_is) at stands in
    let some : length more ≡ c.min-count.result = omega (arith, length-take c.min-count.result c.args.bytes.now, c.min-count.ensures) in
    let room : length begun + length more ≤ needed r.format r.stage = omega (arith, some, c.min-count.ensures, c.len.ensures.value, c.needed-needed.ensures.value, c.self.invariant.room) in
    let joined : c.try_extend_from_slice.new.self.items ≡ begun ++ more =
    added c.try_extend_from_slice.result (c.try_extend_from_slice.ensures.variant.1 (omega (arith, room, c.needed-needed.ensures.value, c.needed-needed.ensures.most))) c.try_extend_from_slice.ensures.ok in
    let s = rw (c.replace-field.ensures.after, c.new.ensures) at (c.take-then-len-needed.ensures.drawn sofar (record { count = before.count; before = before.before; part = before.part })) in
    let field : c.as_slice.result.now ≡ begun ++ more = c.as_slice.ensures.value ∙ rw c.replace-field.ensures.value joined in
    rw (← c.self.view_is)
    (kept_first g.C.Canvas.keeps r.format r.width r.height r.tile (carried_by r.carried) r.stage begun more c.as_slice.result.now c.take-then-len-needed.result c.take-then-len-needed.new.self (g.C.Canvas.shows c.take-then-len-needed.new.canvas) sofar field
    (omega (arith, ap length field, length-append begun more, room, c.take-then-len-needed.ensures.used)) s)

pub returns-else-len-needed-clause-drawn : goal.returns-else-len-needed-clause-drawn
returns-else-len-needed-clause-drawn g c sofar stands =
    let r = c.self.inside in
    let begun : List ℕ = r.begun.items in
    let more : List ℕ = take c.min-count.result c.args.bytes.now in
    let before = rw (← c.self.view_is) at stands in
    let some : length more ≡ c.min-count.result = omega (arith, length-take c.min-count.result c.args.bytes.now, c.min-count.ensures) in
    let room : length begun + length more ≤ needed r.format r.stage = omega (arith, some, c.min-count.ensures, c.len.ensures.value, c.needed-needed.ensures.value, c.self.invariant.room) in
    let joined : c.try_extend_from_slice.new.self.items ≡ begun ++ more =
    added c.try_extend_from_slice.result (c.try_extend_from_slice.ensures.variant.1 (omega (arith, room, c.needed-needed.ensures.value, c.needed-needed.ensures.most))) c.try_extend_from_slice.ensures.ok in
    let form : Reading (List Tile) = next_form r.format r.width r.height r.tile (carried_by r.carried) r.stage sofar in
    let wanting = open_there r.format r.width r.height r.tiles r.tile r.area r.stage (length begun) (carried_by r.carried) (nothing_read blank) begun c.self.invariant (omega arith) ∙ (rw (← c.self.view_is) at (c.requires.more (nothing_read blank))) in
    let lt : r.tile < tile_count r.width r.height = wanting_lt r.tile (tile_count r.width r.height) (not (is_failed r.stage)) wanting in
    let fine : is_failed r.stage ≡ false = wanting_fine (nat_lt r.tile (tile_count r.width r.height)) (is_failed r.stage) wanting in
    let needs = needs_there r.format r.width r.height r.tiles r.tile r.area r.stage (length begun) (carried_by r.carried) sofar c.self.invariant (omega (arith, lt, c.self.invariant.count)) fine in
    rw (← c.self.view_is)
    (record {
      drawing = sofar;
      goes = record {
        all = begun_takes (needed r.format r.stage) form begun more needs room;
        leads = sym (after-append form begun more) ∙ sym (ap (after form) joined);
      };
      stands = record { count = before.count; before = before.before; part = before.part };
    })
