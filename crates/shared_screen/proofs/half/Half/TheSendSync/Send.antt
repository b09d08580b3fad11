use denote.Param.Send.{IsSend}
use Rattle.shared_screen.specs.contracts.half.Half.{the_row}
use Rattle.shared_screen.proofs.Shares.{half_keyless}

pub send : IsSend the_row
send = record { owned = λ d vs. ((λ vss. (tt, ((λ uss. (tt, tt)), tt))), half_keyless d.names d.here d.number); leaving = λ k f vs. tt }
