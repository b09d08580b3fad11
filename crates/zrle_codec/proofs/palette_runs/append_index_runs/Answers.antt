use Rattle.std.proofs.Common.{ℕ, List, subst, arith}
use Rattle.std.specs.Prelude.{slice_index}
use Rattle.std.proofs.lemmas.List.{take_all}
use Rattle.zrle_codec.specs.Tiles.{index_run_bytes}
use Rattle.zrle_codec.specs.Appends.{AppendsRuns}
use Rattle.zrle_codec.proofs.EqualRuns.{no_runs, then_run}
use Rattle.zrle_codec.proofs.palette_runs.append_index_runs.Goals as goal

pub loop-from-init : goal.loop-from-init
loop-from-init c = record { inside = omega arith; put = no_runs index_run_bytes c.args.out.now.items }

pub loop-from-preserved : goal.loop-from-preserved
loop-from-preserved c =
    record {
      inside = omega arith;
      put = then_run index_run_bytes c.args.out.now.items c.loop-from.out.items c.append_index_run.new.out.items c.args.indices.now c.loop-from.from c.index_run_len-len.result (slice_index c.args.indices.now c.loop-from.from) c.index_run_len-len.ensures.some c.index_run_len-len.ensures.same c.loop-from.invariant.put
          c.in_ok-append_index_run.ensures.ok;
    }

pub returns-clause-ok : goal.returns-clause-ok
returns-clause-ok c =
    let P : List ℕ → Type 0 = λ t. AppendsRuns index_run_bytes c.args.out.now.items c.loop-from.out.items t in
    subst P (take_all c.loop-from.from c.args.indices.now (omega arith)) c.loop-from.invariant.put
