-- Where the link ends or fails no byte came, and it is the link that halts.
use Rattle.std.proofs.Common.{◌≡◌, ◌≤◌, ◌<◌, ◌+◌, ◌⊎◌, ◌^◌, ℕ, min, ◌==◌, false, refl, sym, ◌∙◌, ap, inl, inr, List, [], length, drop, arith, append-nil, true≢false}
use Rattle.std.proofs.lemmas.Bool.{cases_lt}
use Rattle.std.proofs.lemmas.List.{drop_all}
use Rattle.link.specs.Links.{LinkState, HasRisen}
use Rattle.viewer_server.proofs.serve.hear.Goals as goal
use Rattle.viewer_server.proofs.serve.hear.Goals.{else-is_empty-via-then-is_empty+else-between, else-is_empty-via-else-is_empty}

rises_by : (limit old new : ℕ) → new ≡ min limit (old + 1) → (old < limit) ⊎ (limit ≤ old) → (old < new) ⊎ (new ≡ limit)
rises_by limit old new next (inl lt) = inl (omega (arith, next, lt))
rises_by limit old new next (inr le) = inr (omega (arith, next, le))

rises : (old new : ℕ) → new ≡ min (2 ^ 62) (old + 1) → HasRisen old new
rises old new next = rises_by (2 ^ 62) old new next (cases_lt old (2 ^ 62))

-- Where the piece isn't empty not all was written.
some_left : (piece unsent all : List ℕ) (written : ℕ) → unsent ≡ drop written all → (unsent ≡ [] → length piece ≡ 0) → false ≡ (length piece == 0) → written < length all
some_left piece unsent all written left empty some = go (cases_lt written (length all))
  where
    go : (written < length all) ⊎ (length all ≤ written) → written < length all
    go (inl lt) = lt
    go (inr le) = absurd (true≢false (sym (some ∙ ap (λ n. n == 0) (empty (left ∙ drop_all written all le)))))

pub returns-else-is_empty-clause-hears : goal.returns-else-is_empty-clause-hears
returns-else-is_empty-clause-hears g c =
    let last = c.in-End.ensures in
    let next : (g.L.Link.state c.fill.new.link).ended ≡ min (2 ^ 62) ((g.L.Link.state c.args.link.now).ended + 1) = ap (λ (l : LinkState). l.ended) last.1 in
    record {
      piece = [];
      taken = ap (λ (l : LinkState). l.taken) last.1 ∙ sym (append-nil _);
      given = ap (λ (l : LinkState). l.given) last.1;
      heard = (refl, last.0);
      so = inr (
        refl,
        λ s p stands. (
          rises _ _ next,
          elim c.else-is_empty.branch [
            | else-is_empty-via-then-is_empty+else-between w ↦ inr (λ b. absurd (true≢false (sym ((w.between.ensures s p stands).1 b) ∙ w.if-between.false)))
            | else-is_empty-via-else-is_empty w ↦ inl (some_left c.out.result.now c.args.session.now.unsent _ p.written stands.serves.unsent c.out.ensures.empty.1 w.if-is_empty.ensures)
          ],
        ),
      );
    }

pub returns-in-Failed-clause-hears : goal.returns-in-Failed-clause-hears
returns-in-Failed-clause-hears g c =
    let last = c.in-Failed.ensures in
    let next : (g.L.Link.state c.fill.new.link).failed ≡ min (2 ^ 62) ((g.L.Link.state c.args.link.now).failed + 1) = ap (λ (l : LinkState). l.failed) last.1 in
    record {
      piece = [];
      taken = ap (λ (l : LinkState). l.taken) last.1 ∙ sym (append-nil _);
      given = ap (λ (l : LinkState). l.given) last.1;
      heard = (refl, last.0);
      so = inr (refl, λ s p stands. rises _ _ next);
    }
