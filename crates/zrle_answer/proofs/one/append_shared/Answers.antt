use Rattle.std.proofs.Common.{List, ℕ, subst}
use Rattle.shared_parts.specs.Parts.{ShowsArea}
use Rattle.zrle_answer.proofs.Writing.{appends_shown}
use Rattle.zrle_answer.proofs.one.append_shared.Goals as goal

pub returns-clause-some : goal.returns-clause-some
returns-clause-some c accepted did =
    let format = c.args.format.now in
    let cut = c.args.cut.now in
    let area = c.args.area.now in
    let part : List ℕ = c.in-Some-bytes.part.now in
    let screen = c.in-Some-find.ensures cut.width cut.colours.items c.in-Some.ensures in
    let wide : ShowsArea format cut.width c.in-Some-find.reader.claim.tag.colours.value.items area part =
    subst (λ width. ShowsArea format width c.in-Some-find.reader.claim.tag.colours.value.items area part) screen.0 c.in-Some-bytes.ensures in
    let shows : ShowsArea format cut.width cut.colours.items area part = subst (λ colours. ShowsArea format cut.width colours area part) screen.1 wide in
    appends_shown format cut.width cut.colours.items area c.args.begun c.args.out.now.items c.append_part.new.out.items part c.areas_show_their_colours.ensures accepted shows c.in_ok-append_part.ensures.ok
