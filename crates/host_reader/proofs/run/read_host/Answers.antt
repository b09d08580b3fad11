use Rattle.std.proofs.Common.{◌≡◌, ap, subst, sym, ◌∙◌}
use Rattle.std.proofs.lemmas.Result.{err_from_is_err_and}
use Rattle.host_decoder.specs.Decoder.{Decodes, Decoding, IsFor, host_message}
use Rattle.painter.specs.Painter.{Painting}
use Rattle.host_reader.proofs.Steps.{ends_at, ends_err, ends_ok, no_room}
use Rattle.host_reader.proofs.run.read_host.Goals as goal

pub returns-in_err-buffer-clause-err : goal.returns-in_err-buffer-clause-err
returns-in_err-buffer-clause-err g c =
    let p = err_from_is_err_and c.from_residual.result c.from_residual.ensures.1 in
    rw (p.1, p.2) (λ screen decodes. no_room c.args.decoder.now.width c.args.decoder.now.height screen (g.L.Link.state c.args.link.now) (g.P.Puts.updates c.args.publisher.now))

pub read_on-requires-clause-begins : goal.read_on-requires-clause-begins
read_on-requires-clause-begins g c = rw (c.new-reading.ensures.decoder.0, c.new-reading.ensures.painter.0) c.requires.begins

pub returns-clause-decoder : goal.returns-clause-decoder
returns-clause-decoder g c =
    let is = c.decoder-1.given.1 (sym (c.read_on.ensures.same.1 ∙ c.new-reading.ensures.decoder.1)) in
    (ap (λ (d : Decoding). d.width) is ∙ (c.read_on.ensures.decoder.0 ∙ ap (λ (d : Decoding). d.width) c.new-reading.ensures.decoder.0), ap (λ (d : Decoding). d.height) is ∙ (c.read_on.ensures.decoder.1 ∙ ap (λ (d : Decoding). d.height) c.new-reading.ensures.decoder.0))

pub returns-clause-painter : goal.returns-clause-painter
returns-clause-painter g c =
    subst (λ (d : Decoding). IsFor d c.painter-1.given.0) (sym (c.decoder-1.given.1 (sym (c.read_on.ensures.same.1 ∙ c.new-reading.ensures.decoder.1))))
    (subst (λ (p : Painting). IsFor c.read_on.new.reading.decoder.now p) (sym (c.painter-1.given.1 (sym (c.read_on.ensures.same.2 ∙ c.new-reading.ensures.painter.1)))) c.read_on.ensures.painter)

pub returns-clause-publisher : goal.returns-clause-publisher
returns-clause-publisher g c =
    let is = c.publisher-1.given.1 (sym (c.read_on.ensures.same.3 ∙ c.new-reading.ensures.publisher.1)) in
    (ap g.P.Puts.width is ∙ (c.read_on.ensures.publisher.0 ∙ ap g.P.Puts.width c.new-reading.ensures.publisher.0), ap g.P.Puts.height is ∙ (c.read_on.ensures.publisher.1 ∙ ap g.P.Puts.height c.new-reading.ensures.publisher.0))

pub returns-clause-given : goal.returns-clause-given
returns-clause-given g c = ap (λ v. (g.L.Link.state v).given) (c.link-1.given.1 (sym (c.read_on.ensures.same.0 ∙ c.new-reading.ensures.link.1))) ∙ (c.read_on.ensures.given ∙ ap (λ v. (g.L.Link.state v).given) c.new-reading.ensures.link.0)

pub returns-clause-ok : goal.returns-clause-ok
returns-clause-ok g c = ends_ok c.args.decoder.now.width c.args.decoder.now.height (λ screen. Decodes c.args.decoder.now c.args.painter.now screen (host_message c.args.decoder.now.width c.args.decoder.now.height)) c.read_on.result _ _ _ _
    (ends_at c.read_on.result c.args.decoder.now _ c.args.painter.now _ _ _ _ _ _ _ _ _ c.new-reading.ensures.decoder.0 c.new-reading.ensures.painter.0 (ap g.L.Link.state c.new-reading.ensures.link.0) (ap g.L.Link.state (sym (c.link-1.given.1 (sym (c.read_on.ensures.same.0 ∙ c.new-reading.ensures.link.1))))) (ap g.P.Puts.updates c.new-reading.ensures.publisher.0) (ap g.P.Puts.updates (sym (c.publisher-1.given.1 (sym (c.read_on.ensures.same.3 ∙ c.new-reading.ensures.publisher.1))))) c.read_on.ensures.reads)

pub returns-clause-err : goal.returns-clause-err
returns-clause-err g c = ends_err c.args.decoder.now.width c.args.decoder.now.height (λ screen. Decodes c.args.decoder.now c.args.painter.now screen (host_message c.args.decoder.now.width c.args.decoder.now.height)) c.read_on.result _ _ _ _
    (ends_at c.read_on.result c.args.decoder.now _ c.args.painter.now _ _ _ _ _ _ _ _ _ c.new-reading.ensures.decoder.0 c.new-reading.ensures.painter.0 (ap g.L.Link.state c.new-reading.ensures.link.0) (ap g.L.Link.state (sym (c.link-1.given.1 (sym (c.read_on.ensures.same.0 ∙ c.new-reading.ensures.link.1))))) (ap g.P.Puts.updates c.new-reading.ensures.publisher.0) (ap g.P.Puts.updates (sym (c.publisher-1.given.1 (sym (c.read_on.ensures.same.3 ∙ c.new-reading.ensures.publisher.1))))) c.read_on.ensures.reads)
