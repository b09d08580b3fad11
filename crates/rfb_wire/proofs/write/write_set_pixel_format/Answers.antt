use Rattle.std.proofs.Common.{[], ◌∷◌}
use Rattle.pixel_format.specs.PixelFormat.{format_bytes}
use Rattle.rfb_wire.proofs.Writers.{writes_behind}
use Rattle.rfb_wire.proofs.write.write_set_pixel_format.Goals as goal

pub returns : goal.returns
returns c =
    rw c.copy_from_slice.ensures.after
    (writes_behind (0 ∷ 0 ∷ 0 ∷ 0 ∷ []) (format_bytes c.args.format.now) c.args.out.now c.put.new.out c.put.result (rw (← c.split_at_mut-front.ensures.back, ← c.write.ensures) c.put.ensures))
