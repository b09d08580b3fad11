use Rattle.std.proofs.Common.{[], refl}
use Rattle.rfb_wire.proofs.host_hello.HostHello.new.Goals as goal

pub returns-clause-ahead : goal.returns-clause-ahead
returns-clause-ahead c = rw c.new.ensures refl

pub returns-clause-heard : goal.returns-clause-heard
returns-clause-heard c = rw c.new.ensures (record { kind = 0; asked = []; version = refl; types = refl; challenge = refl; result = refl; whole = refl; said = refl })
