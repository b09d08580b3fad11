-- Whatever the file answers, what was read is what its reader has seen and hasn't.
use Rattle.std.proofs.Common.{◌≡◌, ◌∙◌, ◌≤◌, ℕ, List, [], ◌++◌, take, drop, refl, sym, ap, append-nil, length-take, arith}
use Rattle.std.proofs.lemmas.List.{with_items_is, drop_all}
use Rattle.std.specs.Vec.{with_items}
use Rattle.playback.specs.Reels.{Reel}
use Rattle.playback.proofs.Reeling.{reads_more, reads_none}
use Rattle.playback.proofs.reel.FileReel.read_more.Goals as goal

none_left : (start end : ℕ) (items : List ℕ) → end ≤ start → drop start (take end items) ≡ []
none_left start end items le = drop_all start (take end items) (omega (arith, length-take end items))

pub returns-then-self-clause-on : goal.returns-then-self-clause-on
returns-then-self-clause-on g c = reads_none c.args.self.now c.args.self.now refl

pub returns-in-Ok-clause-on : goal.returns-in-Ok-clause-on
returns-in-Ok-clause-on g c =
    let l = c.self.inside in
    let none : drop l.start (take l.end l.piece.items) ≡ [] = none_left l.start l.end l.piece.items (omega arith) in
    let old : Reel = record { is_behind = l.is_behind; before = l.before.bytes; start = g.F.Recorded.start l.file; so_far = g.F.Recorded.so_far l.file; unread = drop l.start (take l.end l.piece.items); reader = l.reader } in
    let h = c.in-Ok.ensures.bytes in
    let items : (with_items l.piece c.read.new.into).items ≡ c.read.new.into = with_items_is l.piece c.read.new.into (c.read.auto.into ∙ c.as_mut_slice.ensures.len) in
    rw (← c.self.view_is) (reads_more old _ _ _ none c.in-Ok.ensures.start (h.1 ∙ ap (λ (xs : List ℕ). g.F.Recorded.so_far l.file ++ take c.in-Ok.count xs) (sym items)))

pub returns-in-Err-clause-on : goal.returns-in-Err-clause-on
returns-in-Err-clause-on g c =
    let l = c.self.inside in
    let none : drop l.start (take l.end l.piece.items) ≡ [] = none_left l.start l.end l.piece.items (omega arith) in
    let old : Reel = record { is_behind = l.is_behind; before = l.before.bytes; start = g.F.Recorded.start l.file; so_far = g.F.Recorded.so_far l.file; unread = drop l.start (take l.end l.piece.items); reader = l.reader } in
    rw (← c.self.view_is) (reads_more old _ _ _ none c.in-Err.ensures.start (c.in-Err.ensures.bytes.0 ∙ sym (append-nil (g.F.Recorded.so_far l.file))))

pub returns-in-Err-2-clause-on : goal.returns-in-Err-2-clause-on
returns-in-Err-2-clause-on g c =
    let l = c.self.inside in
    let none : drop l.start (take l.end l.piece.items) ≡ [] = none_left l.start l.end l.piece.items (omega arith) in
    let old : Reel = record { is_behind = l.is_behind; before = l.before.bytes; start = g.F.Recorded.start l.file; so_far = g.F.Recorded.so_far l.file; unread = drop l.start (take l.end l.piece.items); reader = l.reader } in
    rw (← c.self.view_is) (reads_more old _ _ _ none c.in-Err-2.ensures.start (c.in-Err-2.ensures.bytes.0 ∙ sym (append-nil (g.F.Recorded.so_far l.file))))
