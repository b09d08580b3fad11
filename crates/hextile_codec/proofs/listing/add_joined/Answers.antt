use Rattle.std.proofs.Common.{◌≡◌, ℕ, not, ◌+◌, ◌*◌, ◌/◌, ◌%◌, ◌<◌, ◌^◌, ◌∙◌, ◌++◌, [], ◌∷◌, length, length-append, map, get_or, refl, sym, ap, w64, arith}
use Rattle.std.specs.Int.{trailing_zeros}
use Rattle.std.proofs.lemmas.Bool.{and_parts}
use Rattle.std.proofs.lemmas.List.{append-nil}
use Rattle.std.proofs.Math.Nat.{mod-lt}
use Rattle.raster.specs.Screen.{Canvas, value_at, part_of}
use Rattle.joined_runs.specs.Joined.{is_below}
use Rattle.hextile_codec.specs.TileKinds.{subrect_of}
use Rattle.hextile_codec.specs.declared.marking.Marks.{Marks}
use Rattle.hextile_codec.specs.declared.runs.Run.{Run}
use Rattle.hextile_codec.proofs.Heads.{all_heads, all_heads_behind, head_listed, heads_at, joined_at}
use Rattle.hextile_codec.proofs.LeftBits.{IsNext, next_one, one_cleared, fewer_left, none_listed}
use Rattle.hextile_codec.proofs.MarkedRuns.{begins_at, run_at, run_ends}
use Rattle.hextile_codec.proofs.listing.add_joined.Goals as goal

pub loop-begins-init : goal.loop-begins-init
loop-begins-init c =
    record {
      p = 0;
      inside = omega arith;
      few = omega arith;
      left = all_heads (part_of c.args.tile.now (value_at c.args.w c.args.values.now)) c.args.marks.now c.args.joins.now c.args.k c.requires.word c.requires.marks c.requires.joins;
      so_far = refl;
    }

pub push-requires : goal.push-requires
push-requires c =
    let canvas : Canvas = part_of c.args.tile.now (value_at c.args.w c.args.values.now) in
    let m = c.loop-begins.invariant in
    let n = next_one (heads_at canvas c.args.marks.now.background (4 * c.args.k)) m.p c.loop-begins.begins m.left (omega (arith, c.loop-begins-test.true)) in
    (omega arith, omega (arith, n.inside, n.from, m.few, c.requires.room))

pub loop-begins-smaller : goal.loop-begins-smaller
loop-begins-smaller c =
    let canvas : Canvas = part_of c.args.tile.now (value_at c.args.w c.args.values.now) in
    let m = c.loop-begins.invariant in
    fewer_left (heads_at canvas c.args.marks.now.background (4 * c.args.k)) m.p c.loop-begins.begins m.left (omega (arith, c.loop-begins-test.true))

pub loop-begins-preserved : goal.loop-begins-preserved
loop-begins-preserved c =
    let canvas : Canvas = part_of c.args.tile.now (value_at c.args.w c.args.values.now) in
    let bg : ℕ = c.args.marks.now.background in
    let y : ℕ = 4 * c.args.k in
    let m = c.loop-begins.invariant in
    let some : 0 < c.loop-begins.begins = omega (arith, c.loop-begins-test.true) in
    let first : ℕ = trailing_zeros w64 c.loop-begins.begins in
    let n : IsNext (heads_at canvas bg y) m.p first = next_one (heads_at canvas bg y) m.p c.loop-begins.begins m.left some in
    let marks : Marks = record { background = bg; begins = get_or c.args.marks.now.begins c.args.k 0; ends = get_or c.args.marks.now.ends c.args.k 0 } in
    let e = run_ends canvas bg y marks first (c.requires.marks c.args.k c.requires.word) n.inside in
    let len : ℕ = trailing_zeros w64 (marks.ends / 2 ^ first) + 1 in
    let low : first % 16 < 16 = mod-lt first (omega arith) in
    let value : ℕ = get_or c.row_of.result.now (first % 16) 0 in
    let begins = (and_parts (begins_at canvas bg y first) (not (is_below canvas 16 (run_at canvas y first))) n.passes).0 in
    let tall = c.height.ensures.value canvas bg c.requires.joins begins in
    let run : Run = record { value = value; x = first % 16; y = y + first / 16; len = len; high = c.height.result } in
    let count : length c.push.new.self.items ≡ length c.loop-begins.found.items + 1 = ap length c.push.ensures.items ∙ length-append c.loop-begins.found.items (run ∷ []) in
    record {
      p = first + 1;
      inside = omega (arith, n.inside);
      few = omega (arith, count, n.from, m.few);
      left = one_cleared (heads_at canvas bg y) m.p c.loop-begins.begins m.left some;
      so_far = rw c.push.ensures.items (head_listed canvas bg y c.args.found.now.items c.loop-begins.found.items m.p first value len c.height.result n (c.row_of.ensures.values (first % 16) (omega (arith, low, c.requires.wide))) e.0 tall m.so_far);
    }

pub returns-clause-few : goal.returns-clause-few
returns-clause-few c =
    let m = c.loop-begins.invariant in
    omega (arith, m.few, m.inside)

pub returns-clause-added : goal.returns-clause-added
returns-clause-added c =
    let canvas : Canvas = part_of c.args.tile.now (value_at c.args.w c.args.values.now) in
    let bg : ℕ = c.args.marks.now.background in
    let y : ℕ = 4 * c.args.k in
    let m = c.loop-begins.invariant in
    let over = none_listed (heads_at canvas bg y) (joined_at canvas bg y) m.p c.loop-begins.begins m.left (omega (arith, c.loop-begins-test.false)) in
    sym (append-nil (map subrect_of c.loop-begins.found.items)) ∙ (ap (λ t. map subrect_of c.loop-begins.found.items ++ t) (sym over) ∙ (m.so_far ∙ ap (λ t. map subrect_of c.args.found.now.items ++ t) (all_heads_behind canvas bg y)))
