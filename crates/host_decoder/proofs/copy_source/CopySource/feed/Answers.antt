use Rattle.std.proofs.Common.{◌≡◌, ℕ, ◌-◌, ◌≤◌, ◌<◌, ◌++◌, List, length, take, min, ap, sym, ◌∙◌, length-append, arith}
use Rattle.std.proofs.lemmas.Bool.{eqb-true, eqb-false}
use Rattle.byte_reading.specs.Reading.{Reading, after, taken, wants_more}
use Rattle.raster.specs.declared.rect.Rect.{Rect}
use Rattle.raster.specs.Screen.{is_within}
use Rattle.raster.specs.Update.{Paint, Copy}
use Rattle.rfb_wire.specs.ServerMessage.{copy_rect}
use Rattle.host_decoder.proofs.Copies.{closing_fed, copy_needs, copy_closes, copy_open, copy_inside, copy_outside}
use Rattle.host_decoder.proofs.copy_source.CopySource.feed.Goals as goal

-- The bytes that were missing have come.
goes : (w h n : ℕ) (area : Rect) (old new piece : List ℕ) (reading : Reading Paint) → reading ≡ after (copy_rect w h area) old → new ≡ old ++ take n piece → length new ≤ 4 → n ≡ min (4 - length old) (length piece)
    → (after reading piece ≡ after (copy_rect w h area) new) × (n ≡ taken reading piece)
goes w h n area old new piece reading e joined most count =
    let le : length old ≤ 4 = omega (arith, ap length joined, length-append old (take n piece), most) in
    let fed = closing_fed 4 n (copy_rect w h area) old piece (copy_needs w h area) (copy_closes w h area) le count in
    (ap (λ (r : Reading Paint). after r piece) e ∙ (fed.0 ∙ ap (after (copy_rect w h area)) (sym joined)), sym (ap (λ (r : Reading Paint). taken r piece) e ∙ fed.1))

pub returns-then-not-is_full-clause-fed : goal.returns-then-not-is_full-clause-fed
returns-then-not-is_full-clause-fed c start paints reading over e =
    let t = c.take_bytes-used in
    let w : ℕ = c.args.painter.now.width in
    let h : ℕ = c.args.painter.now.height in
    let new : List ℕ = t.new.self in
    let area = c.args.area.now in
    let go = goes w h t.result area c.args.self.now new c.args.piece.now reading e t.ensures.bytes t.ensures.most t.ensures.count in
    let short : length new < 4 = omega (arith, t.ensures.most, eqb-false (length new) 4 (sym c.is_full.ensures.value ∙ c.if-not-is_full.true)) in
    ((over, go.0), ap (λ (r : Reading Paint). wants_more r) go.0 ∙ copy_open w h area new short, go.1)

pub returns-then-not-within-clause-fed : goal.returns-then-not-within-clause-fed
returns-then-not-within-clause-fed c start paints reading over e =
    let t = c.take_bytes-used in
    let w : ℕ = c.args.painter.now.width in
    let h : ℕ = c.args.painter.now.height in
    let new : List ℕ = t.new.self in
    let area = c.args.area.now in
    let go = goes w h t.result area c.args.self.now new c.args.piece.now reading e t.ensures.bytes t.ensures.most t.ensures.count in
    let full : length new ≡ 4 = eqb-true (length new) 4 (sym c.is_full.ensures.value ∙ c.if-not-is_full.false) in
    let size = c.size-width.ensures in
    go.0 ∙ copy_outside w h area c.source-source.result new (c.source-source.ensures.value full)
    (ap (λ (n : ℕ). is_within c.source-source.result n h) (sym size.0) ∙ (ap (λ (n : ℕ). is_within c.source-source.result c.size-width.result.0 n) (sym size.1) ∙ (sym c.within.ensures ∙ c.if-not-within.true)))

pub returns-clause-fed : goal.returns-clause-fed
returns-clause-fed c start paints reading over e =
    let t = c.take_bytes-used in
    let w : ℕ = c.args.painter.now.width in
    let h : ℕ = c.args.painter.now.height in
    let new : List ℕ = t.new.self in
    let area = c.args.area.now in
    let go = goes w h t.result area c.args.self.now new c.args.piece.now reading e t.ensures.bytes t.ensures.most t.ensures.count in
    let full : length new ≡ 4 = eqb-true (length new) 4 (sym c.is_full.ensures.value ∙ c.if-not-is_full.false) in
    let size = c.size-width.ensures in
    let inside = ap (λ (n : ℕ). is_within c.source-source.result n h) (sym size.0) ∙ (ap (λ (n : ℕ). is_within c.source-source.result c.size-width.result.0 n) (sym size.1) ∙ (sym c.within.ensures ∙ c.if-not-within.false)) in (
      record {
        painted = Copy area c.source-source.result.x c.source-source.result.y;
        reads = go.0 ∙ copy_inside w h area c.source-source.result new (c.source-source.ensures.value full) inside;
        shows = c.copy.ensures.painted start paints over;
      },
      go.1,
    )
