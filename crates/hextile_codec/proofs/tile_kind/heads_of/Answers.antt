use Rattle.std.proofs.Common.{◌∙◌, length, sym, ap}
use Rattle.std.proofs.lemmas.List.{length-map}
use Rattle.hextile_codec.specs.TileKinds.{kind_of, subrect_of}
use Rattle.hextile_codec.proofs.tile_kind.heads_of.Goals as goal

pub returns : goal.returns
returns c = λ w h canvas wide high are. (
  record {
    background = are.joined.background;
    kind = c.kind_of-kind.ensures ∙ ap kind_of are.joined.all;
    count = sym (length-map c.args.subrects.now subrect_of) ∙ ap length are.joined.all;
  },
  record {
    background = are.rows;
    kind = c.kind_of_rows.ensures w h canvas _ wide high are c.kind_of-kind.ensures;
    count = are.count;
  },
)
