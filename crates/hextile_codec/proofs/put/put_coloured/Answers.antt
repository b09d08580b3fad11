use Rattle.std.proofs.Common.{◌≡◌, ◌+◌, ◌*◌, ◌++◌, ◌∷◌, [], ◌∙◌, ℕ, List, length, take, sym, ap, append_assoc, arith}
use Rattle.std.specs.List.{flat_map}
use Rattle.std.proofs.lemmas.List.{length-map}
use Rattle.pixel_format.specs.PixelFormat.{PixelFormat, pixel_len}
use Rattle.raster.specs.Encoding.{Subrect, Carried, unless_said, coloured_bytes}
use Rattle.hextile_codec.specs.Carried.{carried_by}
use Rattle.hextile_codec.specs.Subrects.{subrect_in, subrects_in}
use Rattle.hextile_codec.proofs.Puts.{then_put}
use Rattle.hextile_codec.proofs.Drawings.{background_bit, many_bytes, drawn_many}
use Rattle.hextile_codec.proofs.put.put_coloured.Goals as goal

pub returns : goal.returns
returns c =
    let format : PixelFormat = c.args.format.now in
    let before : Carried = carried_by c.args.said.now in
    let ss : List Subrect = subrects_in format c.args.subrects.now in
    let front : List ℕ = take c.args.used c.args.out.now in
    let mask : ℕ = c.background_bit.result + 8 + 16 in
    let bb : List ℕ = unless_said format before.background c.args.background in
    let count : List ℕ = length c.args.subrects.now.runs.now ∷ [] in
    let runs : List ℕ = flat_map (coloured_bytes format) ss in
    let head = then_put front c.put_byte-at.new.out c.put_colour-at.new.out (mask ∷ []) bb c.put_byte-at.result c.put_colour-at.result c.put_byte-at.ensures.bytes c.put_colour-at.ensures.bytes in
    let counted = then_put front c.put_colour-at.new.out c.put_byte-at-2.new.out (mask ∷ bb) count c.put_colour-at.result c.put_byte-at-2.result head c.put_byte-at-2.ensures.bytes in
    let all =
    then_put front c.put_byte-at-2.new.out c.put_runs.new.out ((mask ∷ bb) ++ count) runs c.put_byte-at-2.result (c.put_byte-at-2.result + (pixel_len format + 2) * length c.args.subrects.now.runs.now) counted c.put_runs.ensures in
    let end : c.args.used + (1 + length bb + 1 + (pixel_len format + 2) * length c.args.subrects.now.runs.now) ≡ c.put_byte-at-2.result + (pixel_len format + 2) * length c.args.subrects.now.runs.now = omega (arith, c.put_byte-at.ensures.end, c.put_colour-at.ensures.end, c.put_byte-at-2.ensures.end) in
    let bits : mask ≡ background_bit before c.args.background + 24 = omega (arith, c.background_bit.ensures) in
    let many : ((mask ∷ bb) ++ count) ++ runs ≡ many_bytes format before c.args.background ss =
    append_assoc (mask ∷ bb) count runs ∙ (ap (λ m. (m ∷ bb) ++ (length c.args.subrects.now.runs.now ∷ runs)) bits ∙ ap (λ n. ((background_bit before c.args.background + 24) ∷ bb) ++ (n ∷ runs)) (sym (length-map c.args.subrects.now.runs.now (subrect_in format c.args.subrects.now.are_colours)))) in
    ap (λ n. take n c.put_runs.new.out) end ∙ (all ∙ ap (λ t. front ++ t) (many ∙ sym (drawn_many format before c.args.background ss c.requires.is)))
