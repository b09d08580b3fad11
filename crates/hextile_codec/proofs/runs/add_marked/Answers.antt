use Rattle.std.proofs.Common.{◌≡◌, ℕ, ◌+◌, ◌/◌, ◌%◌, ◌<◌, ◌^◌, ◌∙◌, ◌++◌, [], ◌∷◌, length, length-append, map, get_or, refl, sym, ap, w64, arith}
use Rattle.std.specs.Int.{trailing_zeros}
use Rattle.std.proofs.lemmas.List.{append-nil}
use Rattle.std.proofs.Math.Nat.{mod-lt}
use Rattle.raster.specs.Screen.{Canvas, value_at, part_of}
use Rattle.hextile_codec.specs.TileKinds.{subrect_of}
use Rattle.hextile_codec.specs.declared.runs.Run.{Run}
use Rattle.hextile_codec.proofs.LeftBits.{IsNext, next_one, one_cleared, fewer_left, none_listed}
use Rattle.hextile_codec.proofs.MarkedRuns.{all_left, begins_at, run_at, run_ends, run_marked, all_behind}
use Rattle.hextile_codec.proofs.runs.add_marked.Goals as goal

pub loop-begins-init : goal.loop-begins-init
loop-begins-init c =
    record {
      p = 0;
      inside = omega arith;
      few = omega arith;
      left = all_left (part_of c.args.tile.now (value_at c.args.w c.args.values.now)) c.args.marks.background c.args.y c.args.marks c.requires.marks;
      so_far = refl;
    }

pub push-requires : goal.push-requires
push-requires c =
    let m = c.loop-begins.invariant in
    let n = next_one (begins_at (part_of c.args.tile.now (value_at c.args.w c.args.values.now)) c.args.marks.background c.args.y) m.p c.loop-begins.begins m.left (omega (arith, c.loop-begins-test.true)) in
    (omega arith, omega (arith, n.inside, n.from, m.few, c.requires.room))

pub loop-begins-smaller : goal.loop-begins-smaller
loop-begins-smaller c =
    let m = c.loop-begins.invariant in
    fewer_left (begins_at (part_of c.args.tile.now (value_at c.args.w c.args.values.now)) c.args.marks.background c.args.y) m.p c.loop-begins.begins m.left (omega (arith, c.loop-begins-test.true))

pub loop-begins-preserved : goal.loop-begins-preserved
loop-begins-preserved c =
    let canvas : Canvas = part_of c.args.tile.now (value_at c.args.w c.args.values.now) in
    let m = c.loop-begins.invariant in
    let some : 0 < c.loop-begins.begins = omega (arith, c.loop-begins-test.true) in
    let first : ℕ = trailing_zeros w64 c.loop-begins.begins in
    let n : IsNext (begins_at canvas c.args.marks.background c.args.y) m.p first = next_one (begins_at canvas c.args.marks.background c.args.y) m.p c.loop-begins.begins m.left some in
    let e = run_ends canvas c.args.marks.background c.args.y c.args.marks first c.requires.marks n.inside in
    let len : ℕ = trailing_zeros w64 (c.args.marks.ends / 2 ^ first) + 1 in
    let low : first % 16 < 16 = mod-lt first (omega arith) in
    let value : ℕ = get_or c.row_of.result.now (first % 16) 0 in
    let run : Run = record { value = value; x = first % 16; y = c.args.y + first / 16; len = len; high = 1 } in
    let count : length c.push.new.self.items ≡ length c.loop-begins.runs.items + 1 = ap length c.push.ensures.items ∙ length-append c.loop-begins.runs.items (run ∷ []) in
    record {
      p = first + 1;
      inside = omega (arith, n.inside);
      few = omega (arith, count, n.from, m.few);
      left = one_cleared (begins_at canvas c.args.marks.background c.args.y) m.p c.loop-begins.begins m.left some;
      so_far = rw c.push.ensures.items (run_marked c.args.runs.now.items c.loop-begins.runs.items canvas c.args.marks.background c.args.y m.p first value len n (c.row_of.ensures.values (first % 16) (omega (arith, low, c.requires.wide))) e.0 m.so_far);
    }

pub returns-clause-few : goal.returns-clause-few
returns-clause-few c =
    let m = c.loop-begins.invariant in
    omega (arith, m.few, m.inside)

pub returns-clause-added : goal.returns-clause-added
returns-clause-added c =
    let canvas : Canvas = part_of c.args.tile.now (value_at c.args.w c.args.values.now) in
    let m = c.loop-begins.invariant in
    let over = none_listed (begins_at canvas c.args.marks.background c.args.y) (run_at canvas c.args.y) m.p c.loop-begins.begins m.left (omega (arith, c.loop-begins-test.false)) in
    sym (append-nil (map subrect_of c.loop-begins.runs.items)) ∙ (ap (λ t. map subrect_of c.loop-begins.runs.items ++ t) (sym over) ∙ (m.so_far ∙ ap (λ t. map subrect_of c.args.runs.now.items ++ t) (all_behind canvas c.args.marks.background c.args.y)))
