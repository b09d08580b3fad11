use Rattle.std.proofs.Common.{◌≡◌, ℕ, ◌+◌, ◌*◌, ◌/◌, ◌<◌, List, [], ◌++◌, length, map, take, drop, inl, inr, ap, sym, subst, ◌∙◌, append_assoc, arith}
use Rattle.std.proofs.lemmas.Bool.{eqb-true, eqb-false}
use Rattle.std.proofs.lemmas.List.{take_all, take-append-drop, length-drop, nil_from_length}
use Rattle.byte_reading.specs.Reading.{Reading}
use Rattle.std.specs.Int.{w32, from_le_bytes}
use Rattle.raster.specs.declared.rect.Rect.{Rect}
use Rattle.raster.specs.Update.{Paint}
use Rattle.painter.specs.Drawing.{drawn}
use Rattle.host_decoder.specs.Data.{RawStands, RawTakes, ShowsFirst}
use Rattle.host_decoder.specs.DataParts.{RawProgress}
use Rattle.host_decoder.proofs.RawPieces.{chunks_len, takes_pixels, takes_then, values_in}
use Rattle.host_decoder.proofs.raw_data.RawPixels.take_all.Goals as goal

pub returns-then-is_empty-clause-takes : goal.returns-then-is_empty-clause-takes
returns-then-is_empty-clause-takes c reading h =
    let area = c.args.painter.now.area in
    let bytes : List ℕ = c.args.bytes.now in
    let none : length c.split_at.result.1.now ≡ 0 = eqb-true (length c.split_at.result.1.now) 0 (sym c.is_empty.ensures ∙ c.if-is_empty.true) in
    let all : c.split_at.result.0.now ≡ bytes = c.split_at.ensures.front ∙ take_all c.first_len.result bytes (omega (arith, none, ap length c.split_at.ensures.back, length-drop c.first_len.result bytes)) in
    subst (λ (bs : List ℕ). RawTakes area c.take_bytes.new.self (drawn c.take_bytes.new.painter) reading bs) all (c.take_bytes.ensures.takes reading h)

pub returns-clause-takes : goal.returns-clause-takes
returns-clause-takes c reading h =
    let area = c.args.painter.now.area in
    let bytes : List ℕ = c.args.bytes.now in
    let n : ℕ = c.first_len.result in
    let first : List ℕ = c.split_at.result.0.now in
    let rest : List ℕ = c.split_at.result.1.now in
    let k : ℕ = length rest / 4 in
    let one = c.take_bytes.new.self in
    let two = c.take_pixels.new.self in
    let three = c.take_bytes-2.new.self in
    let some : n < length bytes = omega (arith, eqb-false (length rest) 0 (sym c.is_empty.ensures ∙ c.if-is_empty.false), ap length c.split_at.ensures.back, length-drop n bytes) in
    let begun : one.begun ≡ [] =
    nil_from_length one.begun
    (elim (c.first_len.ensures.ends some) [
      | inl z ↦ omega (arith, z, c.take_bytes.ensures.more, c.take_bytes.ensures.begun, ap length c.split_at.ensures.front)
      | inr z ↦ omega (arith, z, c.take_bytes.ensures.more, c.take_bytes.ensures.begun, ap length c.split_at.ensures.front)
    ]) in
    let now = drawn c.take_bytes.new.painter in
    let then_ = drawn c.take_pixels.new.painter in
    let end = drawn c.take_bytes-2.new.painter in
    let chunks : List (List ℕ) = c.as_chunks.result.0.now in
    let same = c.take_pixels.ensures.same in
    let here : c.take_bytes.new.painter.area ≡ area = c.take_bytes.ensures.around.area in
    let there : c.take_pixels.new.painter.area ≡ area = c.take_pixels.ensures.around.area ∙ here in
    let shows : (values : List ℕ) → length values ≡ one.done → ShowsFirst area now values → ShowsFirst area then_ (values ++ values_in k rest) =
    subst (λ (t : List (List ℕ)). (values : List ℕ) → length values ≡ one.done → ShowsFirst area now values → ShowsFirst area then_ (values ++ map (from_le_bytes w32) t)) c.as_chunks.ensures.front
    (subst (λ (a : Rect). (values : List ℕ) → length values ≡ one.done → ShowsFirst a now values → ShowsFirst a then_ (values ++ map (from_le_bytes w32) chunks)) here c.take_pixels.ensures.shows) in
    let count : length chunks ≡ k = ap (λ (t : List (List ℕ)). length t) c.as_chunks.ensures.front ∙ chunks_len k rest in
    let pixels : (r : Reading Paint) → RawStands area one now r → RawTakes area two then_ r (take (4 * k) rest) =
    λ r s. takes_pixels area one two now then_ r k rest (omega arith) (omega (arith, c.requires.missing, c.take_bytes.ensures.more, c.take_bytes.ensures.fits.count, c.requires.fits.count, ap length c.split_at.ensures.front, ap length c.split_at.ensures.back, length-drop n bytes)) begun (ap (λ (p : RawProgress). p.count) same)
    (ap (λ (p : RawProgress). p.done) same ∙ ap (λ j. one.done + j) count) (ap (λ (p : RawProgress). p.begun) same ∙ begun) shows s in
    let more : (r : Reading Paint) → RawStands area two then_ r → RawTakes area three end r c.as_chunks.result.1.now =
    subst (λ (a : Rect). (r : Reading Paint) → RawStands a two then_ r → RawTakes a three end r c.as_chunks.result.1.now) there c.take_bytes-2.ensures.takes in
    let last : List ℕ = c.as_chunks.result.1.now in
    let front = takes_then area one two now then_ reading first (take (4 * k) rest) (c.take_bytes.ensures.takes reading h) pixels in
    let all = takes_then area two three then_ end reading (first ++ take (4 * k) rest) last front more in
    let size : k * 4 ≡ 4 * k = omega arith in
    let behind : last ≡ drop (4 * k) rest = c.as_chunks.ensures.back ∙ ap (λ m. drop m rest) size in
    let joined : (first ++ take (4 * k) rest) ++ last ≡ bytes =
    append_assoc first (take (4 * k) rest) last
    ∙ (ap (λ t. first ++ (take (4 * k) rest ++ t)) behind ∙ (ap (λ t. first ++ t) (take-append-drop (4 * k) rest)
    ∙ (ap (λ t. t ++ rest) c.split_at.ensures.front ∙ (ap (λ t. take n bytes ++ t) c.split_at.ensures.back ∙ take-append-drop n bytes)))) in
    subst (λ (bs : List ℕ). RawTakes area three end reading bs) joined all
