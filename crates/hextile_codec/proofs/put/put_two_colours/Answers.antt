use Rattle.std.proofs.Common.{◌≡◌, ◌+◌, ◌*◌, ◌++◌, ◌∷◌, [], ◌∙◌, ℕ, List, cond, length, take, sym, ap, append_assoc, arith}
use Rattle.std.specs.List.{flat_map}
use Rattle.std.proofs.lemmas.List.{length-map}
use Rattle.pixel_format.specs.PixelFormat.{PixelFormat}
use Rattle.raster.specs.Encoding.{Subrect, Carried, is_said, unless_said, place_bytes}
use Rattle.hextile_codec.specs.Carried.{carried_by}
use Rattle.hextile_codec.specs.Subrects.{subrect_in, subrects_in}
use Rattle.hextile_codec.proofs.Puts.{then_put}
use Rattle.hextile_codec.proofs.Drawings.{background_bit, two_bytes, drawn_two}
use Rattle.hextile_codec.proofs.SubrectsIn.{places_in}
use Rattle.hextile_codec.proofs.put.put_two_colours.Goals as goal
use Rattle.hextile_codec.proofs.put.put_two_colours.Goals.{then-is_said, else-is_said}

pub returns : goal.returns
returns c =
    let format : PixelFormat = c.args.format.now in
    let before : Carried = carried_by c.args.said.now in
    let ss : List Subrect = subrects_in format c.args.subrects.now in
    let front : List ℕ = take c.args.used c.args.out.now in
    let bits : ℕ = cond (is_said before.foreground c.args.foreground) 8 12 in
    let subrects : c.if-is_said.bits ≡ bits =
    elim c.if-is_said.branch [
      | then-is_said w ↦ w.bits-is ∙ ap (λ b. cond b 8 12) (sym w.if-is_said.true ∙ c.is_said.ensures)
      | else-is_said w ↦ w.bits-is ∙ ap (λ b. cond b 8 12) (sym w.if-is_said.false ∙ c.is_said.ensures)
    ] in
    let mask : ℕ = c.background_bit.result + c.if-is_said.bits in
    let bb : List ℕ = unless_said format before.background c.args.background in
    let fb : List ℕ = unless_said format before.foreground c.args.foreground in
    let count : List ℕ = length c.args.subrects.now.runs.now ∷ [] in
    let runs : List ℕ = flat_map place_bytes ss in
    let head = then_put front c.put_byte-at.new.out c.put_colour-at.new.out (mask ∷ []) bb c.put_byte-at.result c.put_colour-at.result c.put_byte-at.ensures.bytes c.put_colour-at.ensures.bytes in
    let colours = then_put front c.put_colour-at.new.out c.put_colour-at-2.new.out (mask ∷ bb) fb c.put_colour-at.result c.put_colour-at-2.result head c.put_colour-at-2.ensures.bytes in
    let counted = then_put front c.put_colour-at-2.new.out c.put_byte-at-2.new.out ((mask ∷ bb) ++ fb) count c.put_colour-at-2.result c.put_byte-at-2.result colours c.put_byte-at-2.ensures.bytes in
    let all = then_put front c.put_byte-at-2.new.out c.put_places.new.out (((mask ∷ bb) ++ fb) ++ count) runs c.put_byte-at-2.result (c.put_byte-at-2.result + 2 * length c.args.subrects.now.runs.now) counted (c.put_places.ensures ∙ ap (λ t. take c.put_byte-at-2.result c.put_byte-at-2.new.out ++ t) (sym (places_in format c.args.subrects.now.are_colours c.args.subrects.now.runs.now))) in
    let end : c.args.used + (1 + length bb + length fb + 1 + 2 * length c.args.subrects.now.runs.now) ≡ c.put_byte-at-2.result + 2 * length c.args.subrects.now.runs.now =
    omega (arith, c.put_byte-at.ensures.end, c.put_colour-at.ensures.end, c.put_colour-at-2.ensures.end, c.put_byte-at-2.ensures.end) in
    let is : mask ≡ background_bit before c.args.background + bits = omega (arith, c.background_bit.ensures, subrects) in
    let two : (((mask ∷ bb) ++ fb) ++ count) ++ runs ≡ two_bytes format before c.args.background ss c.args.foreground =
    append_assoc ((mask ∷ bb) ++ fb) count runs
    ∙ (ap (λ m. ((m ∷ bb) ++ fb) ++ (length c.args.subrects.now.runs.now ∷ runs)) is ∙ ap (λ n. (((background_bit before c.args.background + bits) ∷ bb) ++ fb) ++ (n ∷ runs)) (sym (length-map c.args.subrects.now.runs.now (subrect_in format c.args.subrects.now.are_colours)))) in
    ap (λ n. take n c.put_places.new.out) end ∙ (all ∙ ap (λ t. front ++ t) (two ∙ sym (drawn_two format before c.args.background ss c.args.foreground c.requires.is)))
