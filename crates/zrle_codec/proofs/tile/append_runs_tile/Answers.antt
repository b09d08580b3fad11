use Rattle.std.proofs.Common.{List, ℕ, subst}
use Rattle.zrle_codec.specs.Tiles.{plain_run_bytes}
use Rattle.zrle_codec.specs.Appends.{AppendsRuns}
use Rattle.zrle_codec.proofs.Forms.{runs_tile}
use Rattle.zrle_codec.proofs.tile.append_runs_tile.Goals as goal

pub returns-clause-ok : goal.returns-clause-ok
returns-clause-ok c =
    let P : List ℕ → Type 0 = λ t. AppendsRuns (plain_run_bytes c.args.pixels.now.format) t c.append_plain_runs.new.out.items c.args.values.now in
    runs_tile c.args.pixels.now.format c.args.w c.args.h c.args.values.now c.args.out.now.items c.append_plain_runs.new.out.items c.requires.count
    (subst P c.in_ok-append_byte.ensures.ok c.in_ok-append_plain_runs.ensures.ok)
