use Rattle.std.proofs.Common.{◌≡◌, ◌+◌, ◌-◌, ◌*◌, ◌≤◌, ◌/◌, ◌∙◌, ◌++◌, List, ℕ, ap, length, take, drop, arith, sym, append_assoc, length-append}
use Rattle.std.specs.List.{flat_map}
use Rattle.std.specs.Int.{w32, to_be_bytes}
use Rattle.std.proofs.lemmas.List.{length-take}
use Rattle.pixel_format.specs.PixelFormat.{pixel_len, pixel_bytes}
use Rattle.raster.specs.Screen.{Canvas, value_at}
use Rattle.std.proofs.lemmas.Grind.{div_ceil_times}
use Rattle.std.proofs.Math.Nat.{mul-le-mul_right}
use Rattle.raster.specs.Encoding.{runs, rre_subrect_bytes}
use Rattle.joined_runs.specs.Joined.{written}
use Rattle.rre_codec.proofs.Lengths.{head_len, rre_is, rre_len, rre_saves, rre_saves_nothing, count_by_len, number_in_front}
use Rattle.rre_codec.proofs.writing.encode_as.Goals as goal

pub returns-then-raw-head : goal.returns-then-raw-head
returns-then-raw-head c =
    let same : length c.args.values.now * c.bytes-pixel.result ≡ length c.args.values.now * pixel_len c.args.format.now = ap (λ p. length c.args.values.now * p) c.bytes-pixel.ensures in
    rre_saves_nothing c.args.form c.args.format.now c.args.w c.args.h c.args.values.now (omega (arith, same, c.bytes-pixel.ensures, c.if-raw-head.true))

pub returns-in_err-end : goal.returns-in_err-end
returns-in_err-end c =
    let same : length c.args.values.now * c.bytes-pixel.result ≡ length c.args.values.now * pixel_len c.args.format.now = ap (λ p. length c.args.values.now * p) c.bytes-pixel.ensures in
    let long = c.in_err-end.ensures in
    let canvas : Canvas = value_at c.args.w c.args.values.now in
    let room : List ℕ = take (length c.args.values.now * c.bytes-pixel.result) c.args.out.now in
    let given : length room ≡ length c.args.values.now * c.bytes-pixel.result = omega (arith, same, c.requires.room, length-take (length c.args.values.now * c.bytes-pixel.result) c.args.out.now) in
    let size = head_len c.args.format.now room (canvas 0 0) (written c.args.form canvas c.args.w c.args.h (runs canvas c.args.w c.args.h)) (omega (arith, given, c.if-raw-head.false)) in
    rw c.from_residual.ensures
    (rre_saves_nothing c.args.form c.args.format.now c.args.w c.args.h c.args.values.now (omega (arith, same, long, size, given)))

pub copy_from_slice-requires : goal.copy_from_slice-requires
copy_from_slice-requires c =
    let more : List ℕ = drop (length c.args.values.now * c.bytes-pixel.result) c.args.out.now in
    let same : length c.args.values.now * c.bytes-pixel.result ≡ length c.args.values.now * pixel_len c.args.format.now = ap (λ p. length c.args.values.now * p) c.bytes-pixel.ensures in
    omega (arith, length-take 4 (c.put_runs.new.out ++ more), length-append c.put_runs.new.out more, c.put_runs.auto.out, length-take (length c.args.values.now * c.bytes-pixel.result) c.args.out.now, same, c.requires.room, c.if-raw-head.false, ap length c.to_be_bytes.ensures)

pub returns : goal.returns
returns c =
    let format = c.args.format.now in
    let canvas : Canvas = value_at c.args.w c.args.values.now in
    let raw : ℕ = length c.args.values.now * c.bytes-pixel.result in
    let old : List ℕ = take 4 (take raw c.args.out.now) in
    let pixel : List ℕ = pixel_bytes format (canvas 0 0) in
    let places : List ℕ = flat_map (rre_subrect_bytes format) (written c.args.form canvas c.args.w c.args.h (runs canvas c.args.w c.args.h)) in
    let same : raw ≡ length c.args.values.now * pixel_len format = ap (λ p. length c.args.values.now * p) c.bytes-pixel.ensures in
    let room : length (take raw c.args.out.now) ≡ raw = omega (arith, length-take raw c.args.out.now, same, c.requires.room) in
    let said = c.in_ok-end.ensures in
    let end : c.in_ok-end.end ≡ 4 + pixel_len format + (pixel_len format + 8) * length (written c.args.form canvas c.args.w c.args.h (runs canvas c.args.w c.args.h)) =
    said.end ∙ head_len format (take raw c.args.out.now) (canvas 0 0) (written c.args.form canvas c.args.w c.args.h (runs canvas c.args.w c.args.h)) (omega (arith, room, c.if-raw-head.false)) in
    let count : (c.in_ok-end.end - (4 + c.bytes-pixel.result)) / (c.bytes-pixel.result + 8) ≡ length (written c.args.form canvas c.args.w c.args.h (runs canvas c.args.w c.args.h)) =
    rw (end, c.bytes-pixel.ensures) (count_by_len format (4 + pixel_len format) (length (written c.args.form canvas c.args.w c.args.h (runs canvas c.args.w c.args.h)))) in
    let number : c.copy_from_slice.new.self ≡ to_be_bytes w32 (length (written c.args.form canvas c.args.w c.args.h (runs canvas c.args.w c.args.h))) = c.copy_from_slice.ensures.after ∙ (c.to_be_bytes.ensures ∙ ap (to_be_bytes w32) count) in (
      rre_saves c.args.form format c.args.w c.args.h c.in_ok-end.end c.args.values.now end (omega (arith, same, said.inside, room)),
      end ∙ sym (rre_len c.args.form format c.args.w c.args.h c.args.values.now),
      number_in_front c.copy_from_slice.new.self (pixel ++ places) c.put_runs.new.out old (drop raw c.args.out.now) c.in_ok-end.end (ap length number) (omega (arith, length-take 4 (take raw c.args.out.now), room, c.if-raw-head.false)) (omega (arith, said.inside, c.put_runs.auto.out))
          (said.front ∙ append_assoc old pixel places)
          ∙ (ap (λ t. t ++ (pixel ++ places)) number ∙ (sym (append_assoc (to_be_bytes w32 (length (written c.args.form canvas c.args.w c.args.h (runs canvas c.args.w c.args.h)))) pixel places) ∙ sym (rre_is c.args.form format c.args.w c.args.h c.args.values.now))),
    )

-- As many subrectangles as have no fewer bytes than Raw.
pub returns-then-has_many : goal.returns-then-has_many
returns-then-has_many c =
    let format = c.args.format.now in
    let p : ℕ = pixel_len format in
    let canvas : Canvas = value_at c.args.w c.args.values.now in
    let n : ℕ = length (written c.args.form canvas c.args.w c.args.h (runs canvas c.args.w c.args.h)) in
    let raw : ℕ = length c.args.values.now * c.bytes-pixel.result in
    let same : raw ≡ length c.args.values.now * p = ap (λ k. length c.args.values.now * k) c.bytes-pixel.ensures in
    let many : c.div_ceil-enough.result ≤ n = c.has_many.ensures c.if-has_many.true in
    let size : ℕ = c.bytes-pixel.result + 8 in
    let upto = (div_ceil_times (raw - (4 + c.bytes-pixel.result)) size (omega arith)).0 in
    let most : c.div_ceil-enough.result * size ≤ n * size = mul-le-mul_right {m = c.div_ceil-enough.result} {n = n} size many in
    let is = ap (λ k. k * size) c.div_ceil-enough.ensures in
    let sizes : n * size ≡ (p + 8) * n = ap (λ k. n * (k + 8)) c.bytes-pixel.ensures ∙ omega arith in
    rre_saves_nothing c.args.form format c.args.w c.args.h c.args.values.now (omega (arith, same, upto, most, is, sizes, c.bytes-pixel.ensures, c.if-raw-head.false))
