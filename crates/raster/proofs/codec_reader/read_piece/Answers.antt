use Rattle.std.proofs.Common.{◌≡◌, ◌∙◌, ℕ, ◌-◌, ◌<◌, Ok, Err, true, false, length, inl, inr, refl, sym, ap, arith}
use Rattle.std.proofs.lemmas.Bool.{eqb-true, cases_lt}
use Rattle.byte_reading.specs.Reading.{after, taken, wants_more}
use Rattle.byte_reading.proofs.ReadingLaws.{none_left, none_wanted}
use Rattle.raster.proofs.PieceRead.{drawn_more, drawn_stops}
use Rattle.raster.proofs.codec_reader.read_piece.Goals as goal
use Rattle.raster.proofs.codec_reader.read_piece.Goals.{then-loop-reader-test+else-is_open, else-loop-reader-test}

pub loop-reader-preserved : goal.loop-reader-preserved
loop-reader-preserved g c =
    let i = c.loop-reader.invariant in
    let s = c.step-used.ensures in
    record {
      within = omega (arith, c.split_at.ensures.back_len, i.within);
      still = λ e. absurd (omega (arith, e, c.split_at.ensures.back_len, i.within, s.some));
      format = s.format ∙ i.format;
      width = s.width ∙ i.width;
      height = s.height ∙ i.height;
      across = s.across ∙ i.across;
      down = s.down ∙ i.down;
      stays = g.met.C.Canvas.stays_then c.args.canvas.now c.loop-reader.canvas c.step-used.new.canvas i.stays s.stays;
      drawn = λ sofar stands. rw c.split_at.ensures.back
          (drawn_more g.R.CodecReader.ahead (g.R.CodecReader.Stands g.C.Canvas.keeps) c.args.reader.now c.loop-reader.reader c.step-used.new.self (g.C.Canvas.shows c.loop-reader.canvas) (g.C.Canvas.shows c.step-used.new.canvas) c.args.piece.now c.loop-reader.left.now c.step-used.result sofar
          s.within (i.drawn sofar stands) s.drawn);
    }

pub returns-in-Some-clause-drawn : goal.returns-in-Some-clause-drawn
returns-in-Some-clause-drawn g c sofar stands =
    let now = c.loop-reader.reader in
    let left = c.loop-reader.left.now in
    let over : (d : g.R.CodecReader.Sofar) → (after (g.R.CodecReader.ahead now d) left ≡ g.R.CodecReader.ahead now d) × (taken (g.R.CodecReader.ahead now d) left ≡ 0) =
    elim c.loop-reader-test.branch [
      | then-loop-reader-test+else-is_open w ↦ λ d. none_wanted (g.R.CodecReader.ahead now d) left (sym (w.is_open.ensures d) ∙ w.if-is_open.false)
      | else-loop-reader-test w ↦ λ d. none_left (g.R.CodecReader.ahead now d) left (eqb-true (length left) 0 (sym c.is_empty.ensures ∙ w.loop-reader-test.false))
    ] in
    drawn_stops g.R.CodecReader.ahead (g.R.CodecReader.Stands g.C.Canvas.keeps) c.args.reader.now now (g.C.Canvas.shows c.loop-reader.canvas) c.args.piece.now left (Err c.in-Some.fault) sofar
    (c.loop-reader.invariant.drawn sofar stands) over (λ d. sym (c.fault.ensures d) ∙ c.in-Some.is)

pub returns-in-None-clause-drawn : goal.returns-in-None-clause-drawn
returns-in-None-clause-drawn g c sofar stands =
    let now = c.loop-reader.reader in
    let left = c.loop-reader.left.now in
    let over : (d : g.R.CodecReader.Sofar) → (after (g.R.CodecReader.ahead now d) left ≡ g.R.CodecReader.ahead now d) × (taken (g.R.CodecReader.ahead now d) left ≡ 0) =
    elim c.loop-reader-test.branch [
      | then-loop-reader-test+else-is_open w ↦ λ d. none_wanted (g.R.CodecReader.ahead now d) left (sym (w.is_open.ensures d) ∙ w.if-is_open.false)
      | else-loop-reader-test w ↦ λ d. none_left (g.R.CodecReader.ahead now d) left (eqb-true (length left) 0 (sym c.is_empty.ensures ∙ w.loop-reader-test.false))
    ] in
    drawn_stops g.R.CodecReader.ahead (g.R.CodecReader.Stands g.C.Canvas.keeps) c.args.reader.now now (g.C.Canvas.shows c.loop-reader.canvas) c.args.piece.now left (Ok (length c.args.piece.now - length left)) sofar
    (c.loop-reader.invariant.drawn sofar stands) over (λ d. (refl, sym (c.fault.ensures d) ∙ c.in-None.is))

pub returns-in-None-clause-some : goal.returns-in-None-clause-some
returns-in-None-clause-some g c wanting more =
    let now = c.loop-reader.reader in
    let d : g.R.CodecReader.Sofar = g.R.CodecReader.nothing in
    let i = c.loop-reader.invariant in
    let left : ℕ = length c.loop-reader.left.now in
    let some : left < length c.args.piece.now =
    elim (cases_lt left (length c.args.piece.now)) [
      | inl lt ↦ lt
      | inr all ↦ elim c.loop-reader-test.branch [
        | then-loop-reader-test+else-is_open w ↦
            let same : now ≡ c.args.reader.now = i.still (omega (arith, i.within, all)) in
            let f : true ≡ false = sym (wanting d) ∙ (ap (λ p. wants_more (g.R.CodecReader.ahead p d)) (sym same) ∙ (sym (w.is_open.ensures d) ∙ w.if-is_open.false)) in
            absurd cc
        | else-loop-reader-test w ↦ let none : left ≡ 0 = eqb-true left 0 (sym c.is_empty.ensures ∙ w.loop-reader-test.false) in absurd (omega (arith, none, all, more))
      ]
    ] in
    omega (arith, some)
