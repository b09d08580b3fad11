use Rattle.std.proofs.Common.{◌≡◌, ℕ, ◌-◌, List, ◌++◌, inl, inr, refl, sym, ap, subst, length, arith}
use Rattle.host_decoder.specs.Decoder.{StandsUnpainted, is_refused, keeping}
use Rattle.host_decoder.specs.declared.state.HostState.TheVariants as state
use Rattle.host_decoder.proofs.Steps.{text_uses}
use Rattle.host_decoder.proofs.advance.take_text.Goals as goal

pub returns-in-Ok-clause-uses : goal.returns-in-Ok-clause-uses
returns-in-Ok-clause-uses c start r s =
    text_uses c.args.painter.now c.args.kept.now.0 c.args.kept.now.1 (state.Keeping c.keep.new.self) c.args.bytes.now c.split_at.result.0.now c.min-count.result start r s.0 s.2 (cc (c.min-count.ensures, c.left.ensures.value)) c.split_at.ensures.front
    (inr (λ screen shown none. (
      none,
      omega (arith, ap (λ (k : List ℕ × ℕ). k.1) c.in-Ok.ensures.kept, c.left-2.ensures.value, c.split_at.ensures.front_len),
      ap (λ (k : List ℕ × ℕ). keeping k.0 k.1) (sym c.in-Ok.ensures.kept),
    )))

pub returns-in-Err-clause-uses : goal.returns-in-Err-clause-uses
returns-in-Err-clause-uses c start r s =
    text_uses c.args.painter.now c.args.kept.now.0 c.args.kept.now.1 (state.Failed c.in-Err.fault) c.args.bytes.now c.split_at.result.0.now c.min-count.result start r s.0 s.2 (cc (c.min-count.ensures, c.left.ensures.value)) c.split_at.ensures.front
    (inl (ap (λ f. is_refused (state.Failed f)) c.in-Err.ensures.refused.0))

pub returns-in-Ok-finish-clause-stays : goal.returns-in-Ok-finish-clause-stays
returns-in-Ok-finish-clause-stays c = record { width = refl; height = refl; suits = c.text.ensures.suits c.args.painter.now.width c.args.painter.now.height }

pub returns-in-Ok-finish-clause-uses : goal.returns-in-Ok-finish-clause-uses
returns-in-Ok-finish-clause-uses c start r s =
    let w = c.args.painter.now.width in
    let h = c.args.painter.now.height in
    let next = c.split_at.result.0.now in
    let over : 0 ≡ c.args.kept.now.1 - length next = omega (arith, c.left.ensures.value, c.left-2.ensures.value, c.if-count-left.false, c.split_at.ensures.front_len) in
    let stands = subst (λ (text : List ℕ). StandsUnpainted w h c.text.result (keeping text 0)) c.in-Ok-finish.ensures.text c.text.ensures.stands in
    text_uses c.args.painter.now c.args.kept.now.0 c.args.kept.now.1 c.text.result c.args.bytes.now next c.min-count.result start r s.0 s.2 (cc (c.min-count.ensures, c.left.ensures.value)) c.split_at.ensures.front
    (inr (subst (λ (n : ℕ). StandsUnpainted w h c.text.result (keeping (c.args.kept.now.0 ++ next) n)) over stands))

pub returns-in-Err-finish-clause-uses : goal.returns-in-Err-finish-clause-uses
returns-in-Err-finish-clause-uses c start r s =
    text_uses c.args.painter.now c.args.kept.now.0 c.args.kept.now.1 (state.Failed c.in-Err-finish.fault) c.args.bytes.now c.split_at.result.0.now c.min-count.result start r s.0 s.2 (cc (c.min-count.ensures, c.left.ensures.value)) c.split_at.ensures.front
    (inl (ap (λ f. is_refused (state.Failed f)) c.in-Err-finish.ensures.refused.0))
