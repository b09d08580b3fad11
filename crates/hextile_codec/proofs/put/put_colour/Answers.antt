use Rattle.std.proofs.Common.{◌≡◌, ◌+◌, ◌-◌, ◌++◌, ◌∙◌, ℕ, List, [], false, cond, length, take, drop, sym, ap, arith}
use Rattle.pixel_format.specs.PixelFormat.{pixel_len, pixel_bytes}
use Rattle.pixel_format.proofs.Pixels.{pixel_size}
use Rattle.raster.specs.Encoding.{is_said}
use Rattle.raster.proofs.Puts.{first_part}
use Rattle.hextile_codec.proofs.put.put_colour.Goals as goal
use borrow.Rule.Slice.PartMut.{put_mid}

pub returns-clause-bytes : goal.returns-clause-bytes
returns-clause-bytes c =
    let out : List ℕ = c.args.out.now in
    let used : ℕ = c.args.used in
    let k : ℕ = length out - used in
    let p : ℕ = pixel_len c.args.format.now in
    let pixel : List ℕ = pixel_bytes c.args.format.now c.args.value in
    let unsaid : is_said c.args.before c.args.value ≡ false = sym c.is_said.ensures ∙ c.if-is_said.false in
    ap (λ n. take (used + n) (put_mid used k out c.put_pixel.new.out)) c.bytes.ensures
    ∙ (ap (λ t. take (used + p) (put_mid used k out t)) c.put_pixel.ensures
    ∙ (first_part out pixel (drop p (take k (drop used out))) used p k (pixel_size c.args.format.now c.args.value) (omega arith)
    ∙ ap (λ b. take used out ++ cond b [] pixel) (sym unsaid)))
