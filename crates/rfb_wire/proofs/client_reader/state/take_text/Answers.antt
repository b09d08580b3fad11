use Rattle.std.proofs.Common.{◌≡◌, ◌<◌, ◌-◌, inl, inr, ap, ◌∙◌, arith, ℕ, List}
use Rattle.rfb_wire.specs.ClientMessage.{CutText, LostText}
use Rattle.rfb_wire.specs.ClientReader.{ahead, keeping, passing}
use Rattle.rfb_wire.specs.Message.{message_of}
use Rattle.rfb_wire.proofs.Texts.{text_uses, text_ends}
use Rattle.rfb_wire.proofs.client_reader.state.take_text.Goals as goal
use Rattle.rfb_wire.proofs.client_reader.state.take_text.Goals.{in-Ok, in-Err}

pub returns-then-left-eq0 : goal.returns-then-left-eq0
returns-then-left-eq0 c =
    let more : 0 < c.args.kept.now.1 = omega (arith, c.left.ensures.value, c.left.ensures.some) in
    let none : c.args.kept.now.1 - c.min-count.result ≡ 0 = omega (arith, c.left-2.ensures.value, c.if-left-eq0.true) in
    elim c.match-finish.branch [
      | in-Ok w ↦
          text_ends c.args.kept.now.0 c.args.kept.now.1 (message_of c.match-finish.message) c.args.piece.now c.split_at.result.0.now c.min-count.result more c.requires
          (cc (c.min-count.ensures, c.left.ensures.value)) c.split_at.ensures.front none (inl (ap message_of w.message-is ∙ ap CutText w.in-Ok.ensures.text))
      | in-Err w ↦
          text_ends c.args.kept.now.0 c.args.kept.now.1 (message_of c.match-finish.message) c.args.piece.now c.split_at.result.0.now c.min-count.result more c.requires
          (cc (c.min-count.ensures, c.left.ensures.value)) c.split_at.ensures.front none (inr (ap message_of w.message-is ∙ ap LostText c.len-len.ensures.value))
    ]

pub returns-in-Ok-keep : goal.returns-in-Ok-keep
returns-in-Ok-keep c =
    let more : 0 < c.args.kept.now.1 = omega (arith, c.left.ensures.value, c.left.ensures.some) in
    text_uses c.args.kept.now.0 c.args.kept.now.1 (keeping c.keep.new.self.0 c.keep.new.self.1) c.args.piece.now c.split_at.result.0.now c.min-count.result more c.requires
    (cc (c.min-count.ensures, c.left.ensures.value)) c.split_at.ensures.front (inl (ap (λ (k : List ℕ × ℕ). keeping k.0 k.1) c.in-Ok-keep.ensures.kept))

pub returns-in-Err-keep : goal.returns-in-Err-keep
returns-in-Err-keep c =
    let more : 0 < c.args.kept.now.1 = omega (arith, c.left.ensures.value, c.left.ensures.some) in
    text_uses c.args.kept.now.0 c.args.kept.now.1 (ahead c.past.result) c.args.piece.now c.split_at.result.0.now c.min-count.result more c.requires
    (cc (c.min-count.ensures, c.left.ensures.value)) c.split_at.ensures.front (inr (cc (c.past.ensures, c.left-2.ensures.value, c.len-len.ensures.value, c.split_at.ensures.front_len)))
