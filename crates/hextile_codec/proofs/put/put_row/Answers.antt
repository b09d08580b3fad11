use Rattle.std.proofs.Common.{◌≡◌, ℕ, ◌+◌, ◌-◌, ◌*◌, ◌++◌, List, take, length, ap, ◌∙◌, arith}
use Rattle.std.proofs.lemmas.Slice.{take-put_mid}
use Rattle.pixel_format.specs.PixelFormat.{pixel_len}
use Rattle.hextile_codec.proofs.Drawings.{raw_len}
use Rattle.hextile_codec.proofs.put.put_row.Goals as goal

pub returns-clause-bytes : goal.returns-clause-bytes
returns-clause-bytes c =
    let used : ℕ = c.args.used in
    let out : List ℕ = c.args.out.now in
    let row : List ℕ = c.args.row.now in
    let stop : ℕ = used + c.bytes.result * length row in
    let sizes : c.bytes.result * length row ≡ pixel_len c.args.format.now * length row = ap (λ n. n * length row) c.bytes.ensures in
    let size : length c.put_values.new.out ≡ pixel_len c.args.format.now * length row = ap length c.put_values.ensures ∙ raw_len c.args.format.now row in
    take-put_mid used (stop - used) out c.put_values.new.out stop (omega (arith, size, sizes)) (omega (arith, sizes, c.requires)) ∙ ap (λ t. take used out ++ t) c.put_values.ensures
