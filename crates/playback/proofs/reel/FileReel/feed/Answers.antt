-- The reader has seen more of what was read.
use Rattle.std.proofs.Common.{◌≡◌, ◌∙◌, ◌+◌, ℕ, List, take, drop, sym, ap, subst}
use Rattle.std.proofs.lemmas.List.{drop-drop}
use Rattle.recording.specs.Progress.{Progress, Uses, ahead}
use Rattle.playback.specs.Reels.{Reel}
use Rattle.playback.proofs.Reeling.{reads_fed, reads_none}
use Rattle.playback.proofs.reel.FileReel.feed.Goals as goal

pub returns-clause-on : goal.returns-clause-on
returns-clause-on g c =
    let l = c.self.inside in
    let come : List ℕ = take l.end l.piece.items in
    let unread : List ℕ = drop l.start come in
    let is : c.split_at-2.result.1.now ≡ unread = c.split_at-2.ensures.back ∙ ap (drop l.start) (c.split_at.ensures.front ∙ ap (take l.end) c.deref.ensures.value) in
    let old : Reel = record { is_behind = l.is_behind; before = l.before.bytes; start = g.F.Recorded.start l.file; so_far = g.F.Recorded.so_far l.file; unread = unread; reader = l.reader } in
    let uses : Uses (ahead l.reader) (ahead c.feed.new.self) unread c.in_ok-used.used = subst (λ (xs : List ℕ). Uses (ahead l.reader) (ahead c.feed.new.self) xs c.in_ok-used.used) is c.in_ok-used.ensures.used in
    rw (← c.self.view_is) (reads_fed old (drop (l.start + c.in_ok-used.used) come) c.feed.new.self c.in_ok-used.used (sym (drop-drop c.in_ok-used.used l.start come)) uses)

pub returns-in_err-used-clause-on : goal.returns-in_err-used-clause-on
returns-in_err-used-clause-on g c =
    let l = c.self.inside in
    let old : Reel = record { is_behind = l.is_behind; before = l.before.bytes; start = g.F.Recorded.start l.file; so_far = g.F.Recorded.so_far l.file; unread = drop l.start (take l.end l.piece.items); reader = l.reader } in
    let same : c.feed.new.self ≡ l.reader = c.in_err-used.ensures.refused.1 in
    rw (← c.self.view_is) (reads_none old _ (ap (λ (p : Progress). record old { reader = p }) same))
