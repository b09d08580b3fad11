use Rattle.std.proofs.Common.{◌++◌, length}
use Rattle.std.specs.Int.{w32, to_be_bytes}
use Rattle.pixel_format.specs.PixelFormat.{host_format, format_bytes}
use Rattle.rfb_wire.proofs.Writers.{writes_behind}
use Rattle.rfb_wire.proofs.write.put_format_and_name.Goals as goal

pub returns : goal.returns
returns c =
    rw (c.copy_from_slice.ensures.after, c.write.ensures)
    (writes_behind (format_bytes host_format) (to_be_bytes w32 (length c.args.name.now) ++ c.args.name.now) c.args.out.now c.put_counted.new.out c.put_counted.result (rw (← c.split_at_mut-front.ensures.back) c.put_counted.ensures))
