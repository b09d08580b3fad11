use Rattle.std.proofs.Common.{[], ◌∷◌, ◌++◌, sym, ◌∙◌, ap}
use Rattle.shared_screen.proofs.Adding.{IsAllowed, adds_moves}
use Rattle.shared_screen.proofs.author.Author.add.Goals as goal

pub compare_exchange-requires : goal.compare_exchange-requires
compare_exchange-requires g c =
    let h = c.args.change_count.now.is_word in
    let offer = c.offered-offer.ensures in
    let pen = c.no_pen-pen.ensures in
    let log = c.self.inside.seen.log in let e = c.args.asked.now.ask in
    let may : IsAllowed g.J.Publicity.published (log ++ e ∷ []) = rw c.self.view_is c.requires.allowed in (
      ap (λ w. w.tracked) h,
      c.self.invariant.0 ∙ sym (ap (λ w. w.book) h),
      pen.0 ∙ (c.self.invariant.0 ∙ sym (ap (λ w. w.book) h)),
      offer.2 ∙ c.self.invariant.4,
      rw (ap (λ w. w.key) h, pen.1, offer.3, offer.5) (adds_moves g.J.Publicity.published log e c.self.inside.changes (sym c.self.invariant.3) may),
    )
