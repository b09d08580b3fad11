use Rattle.std.proofs.Common.{◌≡◌, ℕ, ◌+◌, ◌*◌, ◌≤◌, List, ◌∷◌, ◌++◌, length, take, ◌∙◌, ap, arith}
use Rattle.std.specs.Prelude.{slice_index}
use Rattle.std.specs.List.{flat_map}
use Rattle.pixel_format.specs.PixelFormat.{PixelFormat, pixel_len}
use Rattle.zrle_codec.specs.Cpixel.{cpixel_bytes, cpixel_from, cpixel_len}
use Rattle.zrle_codec.proofs.Bounded.{solid_appended, raw_appended, kept_appended, taken_off}
use Rattle.zrle_codec.proofs.tile.write_tile.Goals as goal

pub returns-then-is_solid-clause-ok : goal.returns-then-is_solid-clause-ok
returns-then-is_solid-clause-ok c =
    let inside : cpixel_from c.args.pixels.now.format + cpixel_len c.args.pixels.now.format ≤ pixel_len c.args.pixels.now.format =
    omega (arith, c.args.pixels.now.begins, c.args.pixels.now.has, c.args.pixels.now.inside) in
    solid_appended c.args.pixels.now.format c.args.w c.args.h (slice_index c.args.values.now 0) c.args.values.now c.args.out.now.items c.append_solid.new.out.items inside (omega (arith, c.requires.some, c.requires.count)) c.requires.count
    (c.is_solid.ensures c.if-is_solid.true) c.in_ok-append_solid.ensures.ok

pub returns-then-added-most-clause-ok : goal.returns-then-added-most-clause-ok
returns-then-added-most-clause-ok c =
    let f : PixelFormat = c.args.pixels.now.format in
    let most : c.raw_len-most.result ≡ 1 + cpixel_len f * (c.args.w * c.args.h) =
    c.raw_len-most.ensures ∙ (ap (λ n. 1 + n * length c.args.values.now) c.args.pixels.now.has ∙ ap (λ n. 1 + cpixel_len f * n) c.requires.count) in
    kept_appended f c.args.w c.args.h c.raw_len-most.result c.args.values.now c.args.out.now.items c.append_chosen.new.out.items c.in_ok-append_chosen.ensures.ok (omega arith) most

pub returns-clause-ok : goal.returns-clause-ok
returns-clause-ok c =
    let f : PixelFormat = c.args.pixels.now.format in
    let old : List ℕ = c.args.out.now.items in
    let inside : cpixel_from f + cpixel_len f ≤ pixel_len f = omega (arith, c.args.pixels.now.begins, c.args.pixels.now.has, c.args.pixels.now.inside) in
    let before : c.len-before.result ≡ length old = omega (arith, c.len-before.ensures) in
    let back : c.truncate.new.self.items ≡ old =
    c.truncate.ensures.items ∙ (ap (λ n. take n c.append_chosen.new.out.items) before
    ∙ taken_off f c.args.w c.args.h c.args.values.now old c.append_chosen.new.out.items c.in_ok-append_chosen.ensures.ok) in
    raw_appended f c.args.w c.args.h c.args.values.now old c.append_raw.new.out.items inside c.requires.count
    (c.in_ok-append_raw.ensures.ok ∙ ap (λ t. t ++ 0 ∷ flat_map (cpixel_bytes f) c.args.values.now) back)
