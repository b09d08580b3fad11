use Rattle.std.proofs.Common.{ℕ, ◌-◌, arith}
use Rattle.std.proofs.lemmas.List.{length-take}
use Rattle.painter.specs.Drawing.{drawn}
use Rattle.host_decoder.proofs.RawPieces.{takes_front}
use Rattle.host_decoder.proofs.raw_data.RawPixelsRectReader.feed.Goals as goal

pub returns-clause-fed : goal.returns-clause-fed
returns-clause-fed c reading h =
    let piece = c.args.piece.now in
    let used : ℕ = c.min-used.result in
    let t = c.take_all.ensures in
    let some = length-take used piece in
    takes_front c.args.painter.now.area c.take_all.new.self (drawn c.take_all.new.painter) reading piece used (c.missing.result - used) (omega (arith, c.min-used.ensures)) (λ lt. omega (arith, lt, c.min-used.ensures))
    (omega (arith, some, t.more, t.fits.count, c.requires.count, c.missing.ensures.left, c.min-used.ensures)) t.begun (t.takes reading h)

pub returns-clause-some : goal.returns-clause-some
returns-clause-some c lt more = omega (arith, c.min-used.ensures, c.missing.ensures.left, c.missing.ensures.begun, lt, more)
