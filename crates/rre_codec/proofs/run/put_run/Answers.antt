use Rattle.std.proofs.Common.{◌∙◌, ◌+◌, ◌-◌, length, take, drop, ap, arith, append_assoc}
use Rattle.std.proofs.lemmas.List.{length-take, length-drop}
use Rattle.pixel_format.specs.PixelFormat.{pixel_len, pixel_bytes}
use Rattle.pixel_format.proofs.Pixels.{pixel_size}
use Rattle.raster.proofs.Puts.{two_parts}
use Rattle.rre_codec.proofs.run.put_run.Goals as goal

pub returns : goal.returns
returns c =
    let place = c.copy_from_slice.ensures.after ∙ c.write.ensures in
    two_parts c.args.out.now (pixel_bytes c.args.format.now c.args.run.now.value) (drop (pixel_len c.args.format.now) (take (length c.args.out.now - c.args.used) (drop c.args.used c.args.out.now))) c.put_pixel.new.out c.copy_from_slice.new.self
    c.args.used (pixel_len c.args.format.now) c.bytes.result (c.args.used + c.bytes.result + 8 - (c.args.used + c.bytes.result)) 8
    c.put_pixel.ensures (pixel_size c.args.format.now c.args.run.now.value) c.bytes.ensures c.requires.room (omega (arith, c.put_pixel.auto.out, length-take (length c.args.out.now - c.args.used) (drop c.args.used c.args.out.now), length-drop c.args.used c.args.out.now)) (ap length place)
    ∙ rw place (simp append_assoc)
