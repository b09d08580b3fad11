use Rattle.std.proofs.Common.{ℕ, List, ◌++◌, ◌∙◌, subst, ap, arith, append_assoc}
use Rattle.std.specs.Prelude.{slice_index}
use Rattle.std.proofs.lemmas.List.{take_all}
use Rattle.zrle_codec.specs.Tiles.{plain_run_bytes, len_bytes}
use Rattle.zrle_codec.specs.Cpixel.{cpixel_bytes}
use Rattle.zrle_codec.specs.Appends.{AppendsRuns}
use Rattle.zrle_codec.proofs.EqualRuns.{no_runs, then_run}
use Rattle.zrle_codec.proofs.runs.append_plain_runs.Goals as goal

pub loop-from-init : goal.loop-from-init
loop-from-init c = record { inside = omega arith; put = no_runs (plain_run_bytes c.args.pixels.now.format) c.args.out.now.items }

pub loop-from-preserved : goal.loop-from-preserved
unfolding plain_run_bytes
loop-from-preserved c =
    let values : List ℕ = c.args.values.now in
    let from : ℕ = c.loop-from.from in
    let len : ℕ = c.run_len-len.result in
    let v : ℕ = slice_index values from in
    record {
      inside = omega arith;
      put = then_run (plain_run_bytes c.args.pixels.now.format) c.args.out.now.items c.loop-from.out.items c.append_len.new.out.items values from len v c.run_len-len.ensures.some c.run_len-len.ensures.same c.loop-from.invariant.put
          (c.in_ok-append_len.ensures.ok ∙ (ap (λ t. t ++ len_bytes len) c.in_ok-append.ensures.ok ∙ append_assoc c.loop-from.out.items (cpixel_bytes c.args.pixels.now.format v) (len_bytes len)));
    }

pub returns-clause-ok : goal.returns-clause-ok
returns-clause-ok c =
    let P : List ℕ → Type 0 = λ t. AppendsRuns (plain_run_bytes c.args.pixels.now.format) c.args.out.now.items c.loop-from.out.items t in
    subst P (take_all c.loop-from.from c.args.values.now (omega arith)) c.loop-from.invariant.put
