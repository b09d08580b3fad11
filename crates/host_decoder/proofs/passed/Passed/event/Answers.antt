use Rattle.host_decoder.proofs.Ends.{map_ends, long_text_ends}
use Rattle.host_decoder.proofs.passed.Passed.event.Goals as goal

pub returns-in-Colours : goal.returns-in-Colours
returns-in-Colours c = rw c.in-Colours.is (λ w h. map_ends w h)

pub returns-in-Text : goal.returns-in-Text
returns-in-Text c = rw c.in-Text.is (λ w h. long_text_ends w h c.in-Text.field-0)
