use Rattle.std.proofs.Common.{ℕ, ap, ◌∙◌, arith}
use Rattle.host_decoder.specs.Updates.{colour_of}
use Rattle.host_decoder.proofs.Drawn.{drawn_whole}
use Rattle.host_decoder.proofs.codec_data.AnyRectReader.is_whole.Goals as goal

pub returns-clause-drawn : goal.returns-clause-drawn
returns-clause-drawn g c area canvas painted s =
    let R = g.R.CodecReader in
    let p = c.args.self.now in
    drawn_whole (R.picture area.w area.h) area canvas (R.ahead p s.sofar) painted
    (λ read e x y lx ly.
    c.whole.ensures.shows colour_of canvas s.sofar read s.stands e x y (omega (arith, s.width_is, lx)) (omega (arith, s.height_is, ly))
    ∙ ap colour_of (ap (λ (n : ℕ). R.picture n (R.height p) read x y) s.width_is ∙ ap (λ (n : ℕ). R.picture area.w n read x y) s.height_is)) s.reads
