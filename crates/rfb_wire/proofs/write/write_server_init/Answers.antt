use Rattle.std.proofs.Common.{◌++◌, length}
use Rattle.std.specs.Int.{w16, w32, to_be_bytes}
use Rattle.pixel_format.specs.PixelFormat.{host_format, format_bytes}
use Rattle.rfb_wire.proofs.Writers.{writes_behind}
use Rattle.rfb_wire.proofs.write.write_server_init.Goals as goal

pub returns : goal.returns
returns c =
    rw (c.copy_from_slice.ensures.after, c.to_be_bytes.ensures, c.to_be_bytes-2.ensures)
    (writes_behind (to_be_bytes w16 c.args.w ++ to_be_bytes w16 c.args.h) (format_bytes host_format ++ to_be_bytes w32 (length c.args.name.now) ++ c.args.name.now) c.args.out.now c.put_format_and_name.new.out c.put_format_and_name.result (rw (← c.split_at_mut-front.ensures.back) c.put_format_and_name.ensures))
