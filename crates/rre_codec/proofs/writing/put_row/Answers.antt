use Rattle.std.proofs.Common.{◌≡◌, ◌+◌, ◌*◌, ◌<◌, ◌≤◌, ◌∙◌, List, [], ◌∷◌, arith, get_or, take, length, ℕ}
use Rattle.std.proofs.lemmas.List.{length-take}
use Rattle.std.proofs.Math.Nat.{mul-le-mul_right}
use Rattle.pixel_format.specs.PixelFormat.{pixel_len}
use Rattle.raster.specs.Screen.{Canvas, value_at}
use Rattle.raster.specs.Encoding.{Subrect, runs_of_row, run_from}
use Rattle.raster.proofs.Rows.{row_of, row_at}
use Rattle.raster.proofs.RowScan.{run_in_row, runs_behind_all, fresh_behind, IsFresh}
use Rattle.joined_runs.specs.Joined.{written}
use Rattle.joined_runs.proofs.WrittenParts.{written_none}
use Rattle.rre_codec.proofs.RunsPut.{run_fits, row_puts, row_skips, row_too_long, put_all}
use Rattle.rre_codec.proofs.Lengths.{behind_len}
use Rattle.rre_codec.proofs.writing.put_row.Goals as goal
use Rattle.rre_codec.proofs.writing.put_row.Goals.{then-value-background+in_ok-end, else-value-background}

-- A row lies among the values.
row_lies : (w h y len : ℕ) → len ≡ w * h → y < h → y * w + w ≤ len
row_lies w h y len e lt = let p : (y + 1) * w ≤ h * w = mul-le-mul_right w (omega arith) in omega (arith, p)

pub returns-in_err-end : goal.returns-in_err-end
returns-in_err-end c =
    let canvas : Canvas = value_at c.args.w c.args.values.now in
    let v : ℕ = get_or (row_of c.args.values.now c.args.w c.args.y) c.loop-x.x 0 in
    let all : List Subrect = written c.args.form canvas c.args.w c.args.h (runs_of_row canvas c.args.background c.args.w c.args.y) in
    let len : c.run_len-len.result ≡ (run_from canvas c.args.w c.args.y c.loop-x.x).area.w = c.run_len-len.ensures ∙ run_in_row c.args.values.now c.args.w c.args.y c.loop-x.x (row_lies c.args.w c.args.h c.args.y (length c.args.values.now) c.requires.count c.requires.row) c.loop-x-test.true in
    let long = row_too_long c.args.format.now c.args.form canvas c.args.background c.args.w c.args.h c.args.y c.loop-x.x v c.run_len-len.result all c.args.out.now c.loop-x.out c.args.used c.loop-x.end
    c.loop-x-test.true (c.loop-x.invariant.fresh c.loop-x-test.true) (row_at c.args.values.now c.args.w c.args.y c.loop-x.x c.loop-x-test.true) len c.loop-x.invariant.put c.if-value-background.true in
    let one : List Subrect = written c.args.form canvas c.args.w c.args.h (record { value = v; area = record { x = c.loop-x.x; y = c.args.y; w = c.run_len-len.result; h = 1 } } ∷ []) in
    let none = c.in_err-end.ensures in
    let here = behind_len c.args.format.now (take c.loop-x.end c.loop-x.out) one in
    let size = behind_len c.args.format.now (take c.args.used c.args.out.now) all in
    rw c.from_residual.ensures
    (omega (arith, long, none, here, size, length-take c.loop-x.end c.loop-x.out, length-take c.args.used c.args.out.now, c.requires.room, c.loop-x.invariant.room, c.loop-x.invariant.whole))

pub returns : goal.returns
returns c =
    let canvas : Canvas = value_at c.args.w c.args.values.now in
    let all : List Subrect = written c.args.form canvas c.args.w c.args.h (runs_of_row canvas c.args.background c.args.w c.args.y) in
    let rest = rw (runs_behind_all canvas c.args.background c.args.w c.args.y c.loop-x.x c.loop-x-test.false) at c.loop-x.invariant.put in
    let over = rw (written_none canvas c.args.w c.args.h c.args.form) at rest in
    let put = put_all c.args.format.now all c.args.out.now c.loop-x.out c.args.used c.loop-x.end over in
    record {
      end = omega (arith, put.0, behind_len c.args.format.now (take c.args.used c.args.out.now) all, length-take c.args.used c.args.out.now, c.requires.room);
      inside = omega (arith, c.loop-x.invariant.room, c.loop-x.invariant.whole);
      front = put.1;
    }

pub loop-x-preserved : goal.loop-x-preserved
loop-x-preserved c =
    let canvas : Canvas = value_at c.args.w c.args.values.now in
    let all : List Subrect = written c.args.form canvas c.args.w c.args.h (runs_of_row canvas c.args.background c.args.w c.args.y) in
    let v : ℕ = get_or (row_of c.args.values.now c.args.w c.args.y) c.loop-x.x 0 in
    let is : v ≡ canvas c.loop-x.x c.args.y = row_at c.args.values.now c.args.w c.args.y c.loop-x.x c.loop-x-test.true in
    let fresh : IsFresh canvas c.args.y c.loop-x.x = c.loop-x.invariant.fresh c.loop-x-test.true in
    let len : c.run_len-len.result ≡ (run_from canvas c.args.w c.args.y c.loop-x.x).area.w = c.run_len-len.ensures ∙ run_in_row c.args.values.now c.args.w c.args.y c.loop-x.x (row_lies c.args.w c.args.h c.args.y (length c.args.values.now) c.requires.count c.requires.row) c.loop-x-test.true in
    let behind : c.loop-x.x + c.run_len-len.result < c.args.w → IsFresh canvas c.args.y (c.loop-x.x + c.run_len-len.result) = λ lt. rw len (fresh_behind canvas c.args.w c.args.y c.loop-x.x c.loop-x-test.true (omega (arith, len))) in
    elim c.if-value-background.branch [
      | then-value-background+in_ok-end w ↦
          let one : List Subrect = written c.args.form canvas c.args.w c.args.h (record { value = v; area = record { x = c.loop-x.x; y = c.args.y; w = c.run_len-len.result; h = 1 } } ∷ []) in
          let said = w.in_ok-end.ensures in
          let here = behind_len c.args.format.now (take c.loop-x.end c.loop-x.out) one in
          let stop : w.in_ok-end.end ≡ c.loop-x.end + (pixel_len c.args.format.now + 8) * length one = omega (arith, said.end, here, length-take c.loop-x.end c.loop-x.out, c.loop-x.invariant.room) in
          record {
            room = omega (arith, w.end-is, said.inside, c.if-value-background.auto.out);
            whole = c.if-value-background.auto.out ∙ c.loop-x.invariant.whole;
            fresh = behind;
            put = rw (w.out-is, w.end-is)
                (row_puts c.args.format.now c.args.form canvas c.args.background c.args.w c.args.h c.args.y c.loop-x.x v c.run_len-len.result all c.args.out.now c.loop-x.out w.put_subrect.new.out c.args.used c.loop-x.end w.in_ok-end.end
                c.loop-x-test.true fresh is len c.loop-x.invariant.put w.if-value-background.true stop said.front);
          }
      | else-value-background w ↦ record {
        room = omega (arith, w.end-is, c.if-value-background.auto.out, c.loop-x.invariant.room);
        whole = c.if-value-background.auto.out ∙ c.loop-x.invariant.whole;
        fresh = behind;
        put = rw (w.out-is, w.end-is) (row_skips c.args.format.now c.args.form canvas c.args.background c.args.w c.args.h c.args.y c.loop-x.x v c.run_len-len.result all c.args.out.now c.loop-x.out c.args.used c.loop-x.end c.loop-x-test.true fresh is len c.loop-x.invariant.put w.if-value-background.false);
      }
    ]

pub put_subrect-requires-clause-len : goal.put_subrect-requires-clause-len
put_subrect-requires-clause-len c =
    let len = c.run_len-len.ensures ∙ run_in_row c.args.values.now c.args.w c.args.y c.loop-x.x (row_lies c.args.w c.args.h c.args.y (length c.args.values.now) c.requires.count c.requires.row) c.loop-x-test.true in
    let fits = run_fits (value_at c.args.w c.args.values.now) c.args.w c.args.y c.loop-x.x c.run_len-len.result c.loop-x-test.true len in
    omega (arith, fits.1, c.requires.wide)

pub overflow_add-x : goal.overflow_add-x
overflow_add-x c =
    let len = c.run_len-len.ensures ∙ run_in_row c.args.values.now c.args.w c.args.y c.loop-x.x (row_lies c.args.w c.args.h c.args.y (length c.args.values.now) c.requires.count c.requires.row) c.loop-x-test.true in
    let fits = run_fits (value_at c.args.w c.args.values.now) c.args.w c.args.y c.loop-x.x c.run_len-len.result c.loop-x-test.true len in
    omega (arith, fits.1, c.requires.wide)

pub loop-x-smaller : goal.loop-x-smaller
loop-x-smaller c =
    let len = c.run_len-len.ensures ∙ run_in_row c.args.values.now c.args.w c.args.y c.loop-x.x (row_lies c.args.w c.args.h c.args.y (length c.args.values.now) c.requires.count c.requires.row) c.loop-x-test.true in
    let fits = run_fits (value_at c.args.w c.args.values.now) c.args.w c.args.y c.loop-x.x c.run_len-len.result c.loop-x-test.true len in
    omega (arith, fits.0, c.loop-x-test.true)
