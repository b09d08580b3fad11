use Rattle.std.proofs.Common.{◌≡◌, ◌+◌, ◌-◌, ◌*◌, ◌++◌, ◌∙◌, ◌≤◌, ℕ, List, length, map, take, drop, get_or, sym, ap, arith}
use Rattle.std.specs.List.{flat_map}
use Rattle.std.proofs.lemmas.List.{take_more, flat_map_more, map_push, length-take, length-drop}
use Rattle.std.proofs.Math.Nat.{mul-le-mul_left}
use Rattle.pixel_format.specs.PixelFormat.{pixel_len, pixel_bytes}
use Rattle.pixel_format.proofs.Pixels.{pixel_size}
use Rattle.raster.specs.Encoding.{Subrect, place_bytes, coloured_bytes}
use Rattle.hextile_codec.specs.declared.runs.Run.{Run}
use Rattle.hextile_codec.specs.TileKinds.{subrect_of}
use Rattle.raster.proofs.Puts.{two_parts}
use Rattle.hextile_codec.proofs.put.put_coloured_runs.Goals as goal
use borrow.Rule.Slice.PartMut.{put_mid}

pub loop-run-preserved : goal.loop-run-preserved
loop-run-preserved c =
    let out : List ℕ = c.loop-run.out in
    let at : ℕ = c.loop-run.at in
    let i : ℕ = c.loop-run.run-index in
    let runs : List Run = c.args.runs.now in
    let none : Run = record { value = 0; x = 0; y = 0; len = 0; high = 0 } in
    let s : Subrect = subrect_of (get_or runs i none) in
    let p : ℕ = pixel_len c.args.format.now in
    let pixel : List ℕ = pixel_bytes c.args.format.now s.value in
    let before : List ℕ = take c.args.used c.args.out.now in
    let f : Subrect → List ℕ = coloured_bytes c.args.format.now in
    let part : List ℕ = take (length out - at) (drop at out) in
    let place : c.copy_from_slice.new.self ≡ place_bytes s = c.copy_from_slice.ensures.after ∙ c.place_of.ensures in
    let next : (p + 2) * (i + 1) ≤ (p + 2) * length runs = mul-le-mul_left (p + 2) (omega arith) in
    let room : at + p + 2 ≤ length out = omega (arith, next, c.loop-run.invariant.at, c.requires.room) in
    record {
      at = omega (arith, c.loop-run.invariant.at, c.bytes.ensures);
      bytes =
          ap (λ n. take (at + n + 2) (put_mid (at + c.bytes.result) (at + c.bytes.result + 2 - (at + c.bytes.result)) (put_mid at (length out - at) out c.put_pixel.new.out) c.copy_from_slice.new.self)) c.bytes.ensures
          ∙ (two_parts out pixel (drop p part) c.put_pixel.new.out c.copy_from_slice.new.self at p c.bytes.result (at + c.bytes.result + 2 - (at + c.bytes.result)) 2 c.put_pixel.ensures (pixel_size c.args.format.now s.value) c.bytes.ensures room (omega (arith, c.put_pixel.auto.out, length-take (length out - at) (drop at out), length-drop at out)) (ap length place)
          ∙ (ap (λ t. take at out ++ (pixel ++ t)) place
          ∙ (ap (λ t. t ++ f s) c.loop-run.invariant.bytes
          ∙ (flat_map_more f before (map subrect_of (take i runs)) s
          ∙ ap (λ t. before ++ flat_map f t) (sym (map_push subrect_of (take i runs) (get_or runs i none)) ∙ ap (map subrect_of) (sym (take_more runs i none c.loop-run-test.true)))))));
    }

pub overflow_add-at : goal.overflow_add-at
overflow_add-at c =
    let next : (pixel_len c.args.format.now + 2) * (c.loop-run.run-index + 1) ≤ (pixel_len c.args.format.now + 2) * length c.args.runs.now = mul-le-mul_left (pixel_len c.args.format.now + 2) (omega arith) in
    omega (arith, next, c.loop-run.invariant.at, c.requires.room, c.bytes.ensures)
