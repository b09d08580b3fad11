use Rattle.std.proofs.Common.{◌≡◌, ℕ, List, [], ap, sym, subst, ◌∙◌, arith}
use Rattle.byte_reading.specs.Reading.{after}
use Rattle.host_decoder.specs.declared.part.HostPart.TheVariants.{Length}
use Rattle.host_decoder.specs.Decoder.{StandsUnpainted, form_of, keeping}
use Rattle.host_decoder.proofs.Completed.{long_text, short_text}
use Rattle.host_decoder.proofs.complete.behind_length.Goals as goal

pub returns-then-len-gt-LONGEST_TEXT-clause-suits : goal.returns-then-len-gt-LONGEST_TEXT-clause-suits
returns-then-len-gt-LONGEST_TEXT-clause-suits c = c.past.ensures.suits c.args.painter.now.width c.args.painter.now.height

pub returns-then-len-gt-LONGEST_TEXT-clause-stands : goal.returns-then-len-gt-LONGEST_TEXT-clause-stands
returns-then-len-gt-LONGEST_TEXT-clause-stands c =
    let w = c.args.painter.now.width in
    let h = c.args.painter.now.height in
    subst (λ r. StandsUnpainted w h c.past.result r) (long_text w h c.args.b.now c.read_text_head-len.result c.requires.count c.read_text_head-len.ensures c.if-len-gt-LONGEST_TEXT.true) (c.past.ensures.stands w h)

pub returns-then-len-eq0-clause-suits : goal.returns-then-len-eq0-clause-suits
returns-then-len-eq0-clause-suits c = c.text.ensures.suits c.args.painter.now.width c.args.painter.now.height

pub returns-then-len-eq0-clause-stands : goal.returns-then-len-eq0-clause-stands
returns-then-len-eq0-clause-stands c =
    let w = c.args.painter.now.width in
    let h = c.args.painter.now.height in
    let none : c.from_vec.result ≡ [] = c.from_vec.ensures ∙ c.new.ensures.items in
    let empty : keeping c.from_vec.result 0 ≡ keeping [] c.read_text_head-len.result = ap (λ (t : List ℕ). keeping t 0) none ∙ ap (keeping []) (sym c.if-len-eq0.true) in
    let said = short_text w h c.args.b.now c.read_text_head-len.result c.requires.count c.read_text_head-len.ensures c.if-len-gt-LONGEST_TEXT.false in
    subst (λ r. StandsUnpainted w h c.text.result r) (empty ∙ said) c.text.ensures.stands

pub returns-else-len-eq0-clause-stands : goal.returns-else-len-eq0-clause-stands
returns-else-len-eq0-clause-stands c start painter none =
    let w = c.args.painter.now.width in
    let h = c.args.painter.now.height in
    let len = c.read_text_head-len.result in
    let said = short_text w h c.args.b.now len c.requires.count c.read_text_head-len.ensures c.if-len-gt-LONGEST_TEXT.false in
    let kept = c.begin.result in
    let same : after (form_of w h [] Length) c.args.b.now ≡ keeping kept.0 kept.1 = sym said ∙ ap (λ (k : List ℕ × ℕ). keeping k.0 k.1) (sym c.begin.ensures) in
    (none, omega (arith, ap (λ (k : List ℕ × ℕ). k.1) c.begin.ensures, c.if-len-eq0.false), same)
