use Rattle.std.proofs.Common.{[], ◌∷◌, ◌++◌}
use Rattle.rfb_wire.specs.Handshake.{version, server_init}
use Rattle.rfb_wire.proofs.Writers.{writes_behind}
use Rattle.rfb_wire.proofs.write.write_handshake.Goals as goal

pub returns : goal.returns
returns c =
    rw c.copy_from_slice.ensures.after
    (writes_behind version ((1 ∷ 1 ∷ 0 ∷ 0 ∷ 0 ∷ 0 ∷ []) ++ server_init c.args.w c.args.h c.args.name.now) c.args.out.now c.put_security_and_init.new.out c.put_security_and_init.result (rw (← c.split_at_mut-front.ensures.back) c.put_security_and_init.ensures))
