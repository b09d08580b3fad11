use Rattle.std.proofs.Common.{◌≡◌, ℕ, ◌+◌, ◌<◌, ◌∙◌, ◌++◌, [], ◌∷◌, List, length, map, get_or, sym, ap, arith, length-append}
use Rattle.std.proofs.lemmas.List.{append-nil}
use Rattle.raster.proofs.RowScan.{IsFresh}
use Rattle.raster.specs.Encoding.{run_from}
use Rattle.hextile_codec.specs.TileKinds.{subrect_of}
use Rattle.raster.specs.RowShown.{row_shows}
use Rattle.hextile_codec.specs.declared.runs.Run.{Run}
use Rattle.hextile_codec.proofs.RowRuns.{background_alone, run_at, run_added, run_skipped, run_fits, fresh_next}
use Rattle.hextile_codec.proofs.runs.add_row.Goals as goal
use Rattle.hextile_codec.proofs.runs.add_row.Goals.{then-value-background, else-value-background}

pub loop-x-preserved : goal.loop-x-preserved
loop-x-preserved c =
    let row : List ℕ = c.args.row.now in
    let x : ℕ = c.loop-x.x in
    let len : ℕ = c.run_len-len.result in
    let before : List Run = c.args.runs.now.items in
    let fresh : IsFresh (row_shows row) c.args.y x = c.loop-x.invariant.fresh c.loop-x-test.true in
    let long : len ≡ (run_from (row_shows row) (length row) c.args.y x).area.w = c.run_len-len.ensures ∙ run_at row c.args.y x c.loop-x-test.true in
    let fits = run_fits row c.args.y x len c.loop-x-test.true long in
    let behind : x + len < length row → IsFresh (row_shows row) c.args.y (x + len) = λ lt. fresh_next row c.args.y x len c.loop-x-test.true long lt in
    elim c.if-value-background.branch [
      | then-value-background w ↦
          let run : Run = record { value = get_or row x 0; x = x; y = c.args.y; len = len; high = 1 } in
          let now : c.if-value-background.runs.items ≡ c.loop-x.runs.items ++ run ∷ [] = rw w.runs-is w.push.ensures.items in
          let count : length c.if-value-background.runs.items ≡ length c.loop-x.runs.items + 1 = ap length now ∙ length-append c.loop-x.runs.items (run ∷ []) in
          record {
            inside = fits.1;
            few = omega (arith, count, fits.0, c.loop-x.invariant.few);
            fresh = behind;
            so_far = rw now (run_added before c.loop-x.runs.items row c.args.background c.args.y x len c.loop-x-test.true fresh long w.if-value-background.true c.loop-x.invariant.so_far);
          }
      | else-value-background w ↦
          let same : c.if-value-background.runs ≡ c.loop-x.runs = w.runs-is in
          record {
            inside = fits.1;
            few = rw same (omega (arith, c.loop-x.invariant.few));
            fresh = behind;
            so_far = rw same (run_skipped before c.loop-x.runs.items row c.args.background c.args.y x len c.loop-x-test.true fresh long w.if-value-background.false c.loop-x.invariant.so_far);
          }
    ]

pub returns-then-is_all-clause-added : goal.returns-then-is_all-clause-added
returns-then-is_all-clause-added c =
    let none = background_alone c.args.row.now c.args.background c.args.y (sym c.is_all.ensures ∙ c.if-is_all.true) in
    sym (ap (λ t. map subrect_of c.args.runs.now.items ++ t) none ∙ append-nil (map subrect_of c.args.runs.now.items))

pub overflow_cast-len : goal.overflow_cast-len
overflow_cast-len c =
    let long = c.run_len-len.ensures ∙ run_at c.args.row.now c.args.y c.loop-x.x c.loop-x-test.true in
    let fits = run_fits c.args.row.now c.args.y c.loop-x.x c.run_len-len.result c.loop-x-test.true long in
    omega (arith, fits.0, fits.1, c.requires.wide)

pub overflow_add-x : goal.overflow_add-x
overflow_add-x c =
    let long = c.run_len-len.ensures ∙ run_at c.args.row.now c.args.y c.loop-x.x c.loop-x-test.true in
    let fits = run_fits c.args.row.now c.args.y c.loop-x.x c.run_len-len.result c.loop-x-test.true long in
    omega (arith, fits.0, fits.1, c.requires.wide)

pub loop-x-smaller : goal.loop-x-smaller
loop-x-smaller c =
    let long = c.run_len-len.ensures ∙ run_at c.args.row.now c.args.y c.loop-x.x c.loop-x-test.true in
    let fits = run_fits c.args.row.now c.args.y c.loop-x.x c.run_len-len.result c.loop-x-test.true long in
    omega (arith, fits.0, fits.1, c.loop-x-test.true)
