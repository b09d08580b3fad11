use Rattle.std.proofs.Common.{◌≡◌, ℕ, ◌∷◌, [], ◌++◌, Bool, List, take, sym, ap, subst, ◌∙◌, arith}
use Rattle.std.specs.Prelude.{if◌then◌else◌, not}
use Rattle.std.specs.Vec.{with_items}
use Rattle.std.proofs.lemmas.List.{with_items_is}
use Rattle.std.proofs.lemmas.List.Elements.{All-push}
use Rattle.raster.specs.Screen.{Canvas, value_at}
use Rattle.painter.specs.declared.encoded.EncodedArea.{EncodedArea}
use Rattle.painter.specs.Encoded.{AreEncoded, IsEncodedAt}
use Rattle.painter.proofs.EncodedLaws.{still_encoded}
use Rattle.painter.proofs.encoded.EncodedAreas.add.Goals as goal

pub returns-then-is_err-clause-encoded : goal.returns-then-is_err-clause-encoded
returns-then-is_err-clause-encoded c =
    let format = c.args.self.now.format in
    let colours : Canvas = value_at c.args.source.now.width c.args.source.now.colours.now in
    let start : ℕ = c.args.start in
    let list : List EncodedArea = c.args.self.now.list.items in
    let bytes : List ℕ = c.encode_at.new.bytes in
    let stored : (with_items c.args.self.now.bytes bytes).items ≡ bytes = with_items_is c.args.self.now.bytes bytes (omega (arith, c.encode_at.auto.bytes, c.as_mut_slice.ensures.len)) in
    let more : EncodedArea = record { area = c.args.area.now; start = start; end = c.in-Some.end } in
    let same : take start bytes ≡ take start c.args.self.now.bytes.items = c.encode_at.ensures.before ∙ ap (take start) c.as_mut_slice.ensures.value in
    let items : c.push.new.self.items ≡ list =
    c.push.ensures.items ∙ ap (λ (b : Bool). if b then list ++ more ∷ [] else list) (c.is_err.ensures.negation ∙ ap not c.if-is_err.true) in
    subst (λ (l : List EncodedArea). AreEncoded format colours start (with_items c.args.self.now.bytes bytes).items l) (sym items)
    (subst (λ (b : List ℕ). AreEncoded format colours start b list) (sym stored)
    (still_encoded format colours c.args.self.now.bytes.items bytes start start list same (omega arith) c.requires.encoded))

pub returns-clause-encoded : goal.returns-clause-encoded
returns-clause-encoded c =
    let format = c.args.self.now.format in
    let colours : Canvas = value_at c.args.source.now.width c.args.source.now.colours.now in
    let start : ℕ = c.args.start in
    let end : ℕ = c.in-Some.end in
    let list : List EncodedArea = c.args.self.now.list.items in
    let bytes : List ℕ = c.encode_at.new.bytes in
    let more : EncodedArea = record { area = c.args.area.now; start = start; end = end } in
    let stored : (with_items c.args.self.now.bytes bytes).items ≡ bytes = with_items_is c.args.self.now.bytes bytes (omega (arith, c.encode_at.auto.bytes, c.as_mut_slice.ensures.len)) in
    let same : take start bytes ≡ take start c.args.self.now.bytes.items = c.encode_at.ensures.before ∙ ap (take start) c.as_mut_slice.ensures.value in
    let items : c.push.new.self.items ≡ list ++ more ∷ [] =
    c.push.ensures.items ∙ ap (λ (b : Bool). if b then list ++ more ∷ [] else list) (c.is_err.ensures.negation ∙ ap not c.if-is_err.false) in
    let some = c.in-Some.ensures.some in
    subst (λ (l : List EncodedArea). AreEncoded format colours end (with_items c.args.self.now.bytes bytes).items l) (sym items)
    (subst (λ (b : List ℕ). AreEncoded format colours end b (list ++ more ∷ [])) (sym stored)
    (All-push (IsEncodedAt format colours end bytes) list more
    (still_encoded format colours c.args.self.now.bytes.items bytes start end list same some.0 c.requires.encoded)
    (record { order = some.0; there = omega arith; is_hextile = some.2 })))
