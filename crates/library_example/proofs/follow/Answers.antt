use Rattle.std.proofs.Common.{subst, sym}
use Rattle.raster.specs.Screen.{opening}
use Rattle.host_decoder.specs.Decoder.{Decodes, Decoding, host_message}
use Rattle.library_example.proofs.follow.Goals as goal

pub run_host-ended-requires-clause-begins : goal.run_host-ended-requires-clause-begins
run_host-ended-requires-clause-begins g c =
    let begins = c.new-decoder.ensures.begins opening c.in_ok-painter.painter c.in_ok-painter.ensures.black in
    (opening, subst (λ (d : Decoding). Decodes c.new-decoder.result c.in_ok-painter.painter opening (host_message d.width d.height)) (sym c.new-decoder.ensures.value) begins)
