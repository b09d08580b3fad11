-- What is read is of the size of the decoder, which is that of the run; and the link that was read comes last.
use Rattle.std.proofs.Common.{◌≡◌, [], ◌∷◌, ◌++◌, map, sym, ap, subst, ◌∙◌, rules}
use Rattle.std.proofs.Math.Logic.{∥∥₁_map}
use Rattle.std.proofs.lemmas.List.{map-append}
use Rattle.raster.specs.Screen.{opening}
use Rattle.host_decoder.specs.Decoder.{Decodes, host_message}
use Rattle.painter.proofs.Switches.{at_size}
use Rattle.link.specs.Links.{LinkState}
use Rattle.host_turns.specs.Running.{IsComing, IsRead, came_over}
use Rattle.host_turns.proofs.Turns.{stayed}
use Rattle.host_turns.proofs.stages.JoinedRun.read.Goals as goal

pub read-answer-requires-clause-begins : goal.read-answer-requires-clause-begins
read-answer-requires-clause-begins g c =
    let screen = c.args.self.screen in
    let run = c.args.self.lent.run_screen.now in
    let size = c.args.self.sized in
    at_size (λ v k. Decodes screen.decoder screen.painter opening (host_message v k)) run.width run.height screen.decoder.width screen.decoder.height (sym size.0) (sym size.1) c.requires

pub returns-clause-read : goal.returns-clause-read
returns-clause-read g c =
    let state = g.L.Link.state in
    let screen = c.args.self.screen in
    let run = c.args.self.lent.run_screen.now in
    let size = c.args.self.sized in
    let left : LinkState = state c.left.new.reader in
    let pushed : c.push.new.self.items ≡ c.args.self.parts.links.items ++ c.left.new.reader ∷ [] = search rules in
    let over = λ (link : LinkState). IsRead screen.decoder.width screen.decoder.height c.read-answer.result (state c.args.self.reader) link (g.P.Puts.updates c.args.self.parts.publisher) (g.P.Puts.updates c.read-answer.new.publisher) in (
      left,
      ap (map state) pushed ∙ map-append state c.args.self.parts.links.items (c.left.new.reader ∷ []),
      at_size (λ v k. IsRead v k c.read-answer.result (state c.args.self.reader) left (g.P.Puts.updates c.args.self.parts.publisher) (g.P.Puts.updates c.read-answer.new.publisher)) screen.decoder.width screen.decoder.height run.width run.height size.0 size.1
          (subst over (sym c.left.ensures.link) (record { out = c.read-answer.ensures.read; given = c.read-answer.ensures.given })),
    )

pub invariant_of-result-clause-lawful : goal.invariant_of-result-clause-lawful
invariant_of-result-clause-lawful g c =
    let state = g.L.Link.state in
    let screen = c.args.self.screen in
    let run = c.args.self.lent.run_screen.now in
    let size = c.args.self.sized in
    let first = c.args.self.lent.first.now in
    let left : LinkState = state c.left.new.reader in
    let pushed : c.push.new.self.items ≡ c.args.self.parts.links.items ++ c.left.new.reader ∷ [] = search rules in
    let handed = ap (map state) pushed ∙ map-append state c.args.self.parts.links.items (c.left.new.reader ∷ []) in
    let over = λ (link : LinkState). IsRead screen.decoder.width screen.decoder.height c.read-answer.result (state c.args.self.reader) link (g.P.Puts.updates c.args.self.parts.publisher) (g.P.Puts.updates c.read-answer.new.publisher) in
    let is = at_size (λ v k. IsRead v k c.read-answer.result (state c.args.self.reader) left (g.P.Puts.updates c.args.self.parts.publisher) (g.P.Puts.updates c.read-answer.new.publisher)) screen.decoder.width screen.decoder.height run.width run.height size.0 size.1
    (subst over (sym c.left.ensures.link) (record { out = c.read-answer.ensures.read; given = c.read-answer.ensures.given })) in
    ∥∥₁_map c.args.self.lawful (λ k.
    rw handed (stayed run.width run.height run.password (IsComing state g.H.Hosts.came) c.read-answer.result (came_over first.has_called.value (state first.reader.value)) (came_over c.args.self.has_called (state c.args.self.reader)) left (map state c.args.self.parts.links.items) (g.P.Puts.updates first.publisher.value) (g.P.Puts.updates c.args.self.parts.publisher)
    (g.P.Puts.updates c.read-answer.new.publisher) k is))
