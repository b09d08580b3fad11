use Rattle.std.proofs.Common.{◌≡◌, ◌++◌, ℕ, length, take, drop, List, arith}
use Rattle.std.specs.Prelude.{min}
use Rattle.std.proofs.lemmas.Grind.{common_steps}
use Rattle.connections.proofs.Behind.{sent_behind}
use Rattle.connections.proofs.send_buffer.SendBuffer.send_with.Goals as goal

pub returns-clause-all : goal.returns-clause-all
returns-clause-all g c =
    let a : List ℕ = c.args.self.now.bytes in
    let sent : g.S.Socket.sent c.send_both.new.self ≡ g.S.Socket.sent c.args.socket.now ++ take c.in_ok-count.count (a ++ c.args.bytes.now) = grind (arith, common_steps) in
    let kept : c.pass.new.self.bytes ≡ drop (min c.in_ok-count.count (length a)) a = grind (arith, common_steps) in
    sent_behind c.in_ok-count.count (g.S.Socket.sent c.args.socket.now) a c.args.bytes.now (g.S.Socket.sent c.send_both.new.self) c.pass.new.self.bytes sent kept
