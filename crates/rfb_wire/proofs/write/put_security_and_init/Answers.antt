use Rattle.std.proofs.Common.{[], ◌∷◌}
use Rattle.rfb_wire.specs.Handshake.{server_init}
use Rattle.rfb_wire.proofs.Writers.{writes_behind}
use Rattle.rfb_wire.proofs.write.put_security_and_init.Goals as goal

pub returns : goal.returns
returns c =
    rw c.copy_from_slice.ensures.after
    (writes_behind (1 ∷ 1 ∷ 0 ∷ 0 ∷ 0 ∷ 0 ∷ []) (server_init c.args.w c.args.h c.args.name.now) c.args.out.now c.write_server_init.new.out c.write_server_init.result (rw (← c.split_at_mut-front.ensures.back) c.write_server_init.ensures))
