use Rattle.std.proofs.Common.{◌≡◌, ℕ, ◌+◌, ◌++◌, ◌∙◌, List, Some, length, take, get_or, sym, ap, subst, arith}
use Rattle.std.specs.List.{flat_map}
use Rattle.std.proofs.lemmas.List.{flat_map_more, length-map, length-take-le, map_push, take_all, take_more}
use Rattle.raster.specs.declared.rect.Rect.{Rect}
use Rattle.copy_log.specs.declared.copy_rect.CopyRect.{CopyRect}
use Rattle.copy_log.specs.Notes.{paint_of, paints}
use Rattle.rfb_wire.specs.Writing.{rectangle_bytes, update_head_bytes}
use Rattle.update_encoder.specs.Answer.{copy_bytes, copy_source}
use Rattle.update_encoder.specs.Coming.{front_bytes}
use Rattle.update_encoder.specs.Written.{IsFront}
use Rattle.update_encoder.proofs.Fronts.{goes_on}
use Rattle.update_encoder.proofs.front.write_front.Goals as goal

pub loop-copy-preserved : goal.loop-copy-preserved
loop-copy-preserved c =
    let copies : List CopyRect = c.args.copies.now in
    let i : ℕ = c.loop-copy.copy-index in
    let none : CopyRect = record { area = record { x = 0; y = 0; w = 0; h = 0 }; x = 0; y = 0 } in
    let copy : CopyRect = get_or copies i none in
    let head : List ℕ = update_head_bytes (length copies + c.args.count) in
    let written : IsFront (copy_bytes (paint_of copy)) c.write_copy-len.new.out c.write_copy-len.result =
    subst (λ (s : Rect). IsFront (rectangle_bytes copy.area 1 (copy_source (Some s))) c.write_copy-len.new.out c.write_copy-len.result) c.source.ensures c.write_copy-len.ensures.written in
    record {
      len = omega (arith, c.loop-copy.invariant.len, c.write_copy-len.ensures.len);
      bytes =
          goes_on (head ++ flat_map copy_bytes (paints (take i copies))) (copy_bytes (paint_of copy)) c.loop-copy.out c.write_copy-len.new.out _ c.loop-copy.len c.write_copy-len.result (omega arith) c.loop-copy.invariant.bytes written
          ∙ (flat_map_more copy_bytes head (paints (take i copies)) (paint_of copy)
          ∙ ap (λ t. head ++ flat_map copy_bytes t) (sym (map_push paint_of (take i copies) copy) ∙ ap paints (sym (take_more copies i none c.loop-copy-test.true))));
    }

pub returns-clause-written : goal.returns-clause-written
returns-clause-written c =
    let copies : List CopyRect = c.args.copies.now in
    let i : ℕ = c.loop-copy.copy-index in
    let out : List ℕ = c.loop-copy.out in
    let all : take i copies ≡ copies = take_all i copies (omega (arith, c.loop-copy-test.false)) in
    let front : take c.loop-copy.len out ≡ front_bytes (paints copies) c.args.count =
    c.loop-copy.invariant.bytes
    ∙ (ap (λ (cs : List CopyRect). update_head_bytes (length copies + c.args.count) ++ flat_map copy_bytes (paints cs)) all
    ∙ ap (λ n. update_head_bytes (n + c.args.count) ++ flat_map copy_bytes (paints copies)) (sym (length-map copies paint_of))) in
    record {
      count = sym (length-take-le c.loop-copy.len out (omega arith)) ∙ ap length front;
      front = front;
    }
