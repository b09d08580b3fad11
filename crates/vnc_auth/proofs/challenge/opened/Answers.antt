use Rattle.std.proofs.Common.{◌∙◌, ap}
use Rattle.vnc_auth.specs.Answer.{opened}
use Rattle.vnc_auth.specs.Bits.{bytes_of, mirrored_bits_of}
use Rattle.vnc_auth.specs.Des.{decrypted}
use Rattle.vnc_auth.proofs.challenge.opened.Goals as goal

pub returns : goal.returns
unfolding opened
returns c =
    let key = ap (λ key. decrypted key c.bits_of-block.result) c.mirrored_bits_of-key.ensures in
    let block = ap (decrypted (mirrored_bits_of c.args.password.now)) c.bits_of-block.ensures in
    c.bytes_of.ensures ∙ ap bytes_of (c.decrypted-found.ensures ∙ key ∙ block)
