use Rattle.std.proofs.Common.{refl}
use Rattle.host_decoder.proofs.Standing.{nothing_given}
use Rattle.host_decoder.proofs.decoder.HostDecoder.whole.Goals as goal

pub returns-in_default : goal.returns-in_default
returns-in_default c =
    let w = c.self.inside.width in
    let h = c.self.inside.height in
    let other = rw c.replace.ensures.value at c.in_default.not-Whole in
    rw (← c.self.view_is, c.replace.ensures.value)
    (record {
      size = (refl, refl);
      given = λ painter screen r stands. nothing_given w h c.self.inside.state screen painter r other stands;
      refused = λ e. refl;
      none = refl;
      some = tt;
    })
