use Rattle.std.proofs.Common.{◌≡◌, ℕ, ◌+◌, ◌≤◌, List, ◌++◌, length, take, drop, sym, ap, ◌∙◌, arith, length-append, append_assoc}
use Rattle.std.proofs.lemmas.List.{drop-append-le, length-take, take-take}
use Rattle.std.proofs.Math.Seq.{take-append_seam}
use Rattle.viewer_session.specs.Outgoing.{Waiting}
use Rattle.viewer_session.proofs.piece.Piece.append.Goals as goal

-- A part that was written after the bytes that were filled.
filled_on : (sent filled count room : ℕ) (whole part behind rest : List ℕ) → sent ≤ filled → filled ≤ length whole → length part ≡ count → filled + count ≤ room
    → drop sent (take (filled + count) (take room ((take filled whole ++ (part ++ behind)) ++ rest))) ≡ drop sent (take filled whole) ++ part
filled_on sent filled count room whole part behind rest le within len fits =
    let front : List ℕ = take filled whole in
    let all : length (front ++ part) ≡ filled + count = omega (arith, length-append front part, length-take filled whole) in
    let same : (front ++ (part ++ behind)) ++ rest ≡ (front ++ part) ++ (behind ++ rest) = simp append_assoc in
    ap (drop sent) (take-take (filled + count) room ((front ++ (part ++ behind)) ++ rest) fits)
    ∙ (ap (λ t. drop sent (take (filled + count) t)) same
    ∙ (ap (λ n. drop sent (take n ((front ++ part) ++ (behind ++ rest)))) (sym all)
    ∙ (ap (drop sent) (take-append_seam (front ++ part) (behind ++ rest))
    ∙ drop-append-le sent front part (omega (arith, length-take filled whole)))))

pub returns-clause-unsent : goal.returns-clause-unsent
returns-clause-unsent c =
    let o = c.self.inside in
    let fits : o.filled + length c.args.bytes.now ≤ o.bytes.len =
    omega (arith, c.requires, ap (λ (w : Waiting). w.filled) c.self.view_is, ap (λ (w : Waiting). w.room) c.self.view_is, o.bytes.ok.0) in
    let within : o.filled ≤ length c.as_mut_slice.result.now = omega (arith, c.self.invariant.1, c.as_mut_slice.ensures.len, ap length c.as_mut_slice.ensures.value) in
    filled_on o.sent o.filled (length c.args.bytes.now) o.bytes.len c.as_mut_slice.result.now c.copy_from_slice.new.self _ _ c.self.invariant.0 within (ap length c.copy_from_slice.ensures.after) fits
    ∙ (ap (λ w. drop o.sent (take o.filled w) ++ c.copy_from_slice.new.self) c.as_mut_slice.ensures.value
    ∙ (ap (λ t. drop o.sent (take o.filled o.bytes.items) ++ t) c.copy_from_slice.ensures.after
    ∙ ap (λ (w : Waiting). w.unsent ++ c.args.bytes.now) c.self.view_is))
