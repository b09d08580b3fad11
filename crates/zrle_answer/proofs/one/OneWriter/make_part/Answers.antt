use Rattle.std.proofs.Common.{List, ℕ, ◌∙◌, sym, subst}
use Rattle.pixel_format.specs.PixelFormat.{PixelFormat}
use Rattle.shared_parts.specs.Parts.{ShowsArea}
use Rattle.zrle_answer.proofs.one.OneWriter.make_part.Goals as goal

pub keep-requires : goal.keep-requires
keep-requires c =
    let format : PixelFormat = c.args.style.now.format in
    let cut = c.args.cut.now in
    let area = c.args.area.now in
    let tag = c.in-Some.maker.claim.tag in
    let bytes : List ℕ = c.in-Ok-from_slice.bytes.items in
    let screen = c.in-Some.ensures cut.width cut.colours.items c.requires.parts in
    let made : ShowsArea format cut.width c.as_slice-colours.result.now area c.in-Ok.part.now =
    subst (λ (f : PixelFormat). ShowsArea f cut.width c.as_slice-colours.result.now area c.in-Ok.part.now) c.new-pixels.ensures c.in-Ok.ensures in
    let kept : ShowsArea format cut.width cut.colours.items area bytes =
    subst (ShowsArea format cut.width cut.colours.items area) (sym c.in-Ok-from_slice.ensures.items) (subst (λ colours. ShowsArea format cut.width colours area c.in-Ok.part.now) c.as_slice-colours.ensures.value made) in
    subst (λ width. ShowsArea format width tag.colours.value.items area bytes) (sym screen.0) (subst (λ colours. ShowsArea format cut.width colours area bytes) (sym screen.1) kept)
