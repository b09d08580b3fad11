-- At the other place the reader is to see the line of a recording, and what is read from there on.
use Rattle.std.proofs.Common.{◌≡◌, ◌∙◌, ◌++◌, ℕ, List, [], take, refl, sym, ap, append-nil}
use Rattle.std.proofs.lemmas.List.{with_items_is}
use Rattle.std.specs.Vec.{with_items}
use Rattle.recording.specs.Recording.{line}
use Rattle.playback.proofs.Reeling.{reel_goes}
use Rattle.playback.proofs.reel.FileReel.go_to.Goals as goal

pub returns-clause-blocks : goal.returns-clause-blocks
returns-clause-blocks g c =
    let l = c.self.inside in
    let items : (with_items l.piece c.put_front.new.slice).items ≡ c.put_front.new.slice = with_items_is l.piece c.put_front.new.slice (c.put_front.ensures.len ∙ c.as_mut_slice.ensures.len) in
    let front : take 12 (with_items l.piece c.put_front.new.slice).items ≡ line = ap (take 12) items ∙ c.put_front.ensures.bytes in
    let none : g.F.Recorded.so_far c.go_to.new.self ≡ [] = c.in-Ok.ensures.1 in
    reel_goes _ refl (ap (λ (xs : List ℕ). line ++ xs) none ∙ (append-nil line ∙ sym front)) c.new-2.ensures
