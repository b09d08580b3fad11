use Rattle.std.proofs.Common.{◌≡◌, ◌+◌, ◌-◌, ◌∙◌, ◌++◌, List, ℕ, take, [], length, refl, sym, ap, arith}
use Rattle.std.proofs.lemmas.Bool.{eqb-true}
use Rattle.std.proofs.lemmas.List.{length-take, length-append}
use Rattle.std.proofs.lemmas.Slice.{take-put_mid}
use Rattle.painter.specs.Drawing.{drawn}
use Rattle.host_decoder.specs.DataParts.{RawProgress}
use Rattle.host_decoder.proofs.RawPieces.{takes_nothing, takes_some, takes_pixel, written_to_end}
use Rattle.host_decoder.proofs.raw_data.RawPixels.take_bytes.Goals as goal

pub returns-then-is_empty-clause-takes : goal.returns-then-is_empty-clause-takes
returns-then-is_empty-clause-takes c reading h =
    let bytes : List ℕ = c.args.bytes.now in
    takes_nothing c.args.painter.now.area c.args.self.now (drawn c.args.painter.now) reading bytes (eqb-true (length bytes) 0 (sym c.is_empty.ensures ∙ c.if-is_empty.true)) h

pub returns-then-end-eq-PIXEL_LEN-clause-takes : goal.returns-then-end-eq-PIXEL_LEN-clause-takes
returns-then-end-eq-PIXEL_LEN-clause-takes c reading h =
    let area = c.args.painter.now.area in
    let inside = c.self.inside in
    let bytes : List ℕ = c.args.bytes.now in
    let filled : ℕ = inside.filled in
    let old : RawProgress = record { width = inside.width; count = inside.count; done = inside.done; begun = take filled inside.begun } in
    let new : RawProgress = record { width = inside.width; count = inside.count; done = inside.done + 1; begun = [] } in
    let missing = rw (← c.self.view_is) at c.requires.missing in
    let put : length c.copy_from_slice.new.self ≡ length bytes = ap length c.copy_from_slice.ensures.after in
    let end : filled + (filled + length bytes - filled) ≡ 4 = omega (arith, c.if-end-eq-PIXEL_LEN.true) in
    let joined = written_to_end filled (filled + length bytes - filled) inside.begun c.copy_from_slice.new.self end c.self.invariant.0 (omega (arith, put)) ∙ ap (λ t. take filled inside.begun ++ t) c.copy_from_slice.ensures.after in
    let four : length (take filled inside.begun ++ bytes) ≡ 4 = omega (arith, length-append (take filled inside.begun) bytes, length-take filled inside.begun, c.self.invariant, c.if-end-eq-PIXEL_LEN.true) in
    takes_pixel area old new (drawn c.args.painter.now) (drawn c.put_pixels.new.painter) reading bytes _ missing joined (ap length joined ∙ four) refl refl refl c.put_pixels.ensures.shows (rw (← c.self.view_is) at h)

pub returns-else-end-eq-PIXEL_LEN-clause-takes : goal.returns-else-end-eq-PIXEL_LEN-clause-takes
returns-else-end-eq-PIXEL_LEN-clause-takes c reading h =
    let area = c.args.painter.now.area in
    let inside = c.self.inside in
    let bytes : List ℕ = c.args.bytes.now in
    let filled : ℕ = inside.filled in
    let old : RawProgress = record { width = inside.width; count = inside.count; done = inside.done; begun = take filled inside.begun } in
    let new : RawProgress = record { width = inside.width; count = inside.count; done = inside.done; begun = take (filled + length bytes) _ } in
    let missing = rw (← c.self.view_is) at c.requires.missing in
    let put : length c.copy_from_slice.new.self ≡ length bytes = ap length c.copy_from_slice.ensures.after in
    let joined = take-put_mid filled (filled + length bytes - filled) inside.begun c.copy_from_slice.new.self (filled + length bytes) (omega (arith, put)) (omega (arith, c.self.told, c.self.invariant))
    ∙ ap (λ t. take filled inside.begun ++ t) c.copy_from_slice.ensures.after in
    takes_some area old new (drawn c.args.painter.now) reading bytes missing refl refl joined (rw (← c.self.view_is) at h)
