use Rattle.std.proofs.Common.{sym}
use Rattle.rre_codec.proofs.Going.{whole_at, not_whole, whole_shows, never_whole}
use Rattle.rre_codec.proofs.reading.Reader.whole.Goals as goal

pub returns-in-Subrects-clause-whole : goal.returns-in-Subrects-clause-whole
returns-in-Subrects-clause-whole c sofar =
    let room = rw c.in-Subrects.is at c.self.invariant in
    rw (← c.self.view_is)
    (rw c.in-Subrects.is
    (whole_at c.self.inside.format c.self.inside.width c.self.inside.height c.in-Subrects.left sofar c.self.inside.begun.items room))

pub returns-in-Subrects-clause-shows : goal.returns-in-Subrects-clause-shows
returns-in-Subrects-clause-shows c keeps canvas sofar drawing stands done =
    let room = rw c.in-Subrects.is at c.self.invariant in
    let drawn = rw c.in-Subrects.is at (rw (← c.self.view_is) at stands) in
    let read = rw c.in-Subrects.is at (rw (← c.self.view_is) at done) in
    rw (← c.self.view_is)
    (whole_shows keeps c.self.inside.format c.self.inside.width c.self.inside.height c.in-Subrects.left canvas sofar drawing c.self.inside.begun.items
    room drawn read)

pub returns-in_default-clause-whole : goal.returns-in_default-clause-whole
returns-in_default-clause-whole c sofar =
    rw (← c.self.view_is)
    (sym (not_whole c.self.inside.format c.self.inside.width c.self.inside.height c.self.inside.stage sofar c.self.inside.begun.items c.in_default.not-Subrects (c.self.invariant)))

pub returns-in_default-clause-shows : goal.returns-in_default-clause-shows
returns-in_default-clause-shows c keeps canvas sofar drawing stands done =
    let none = not_whole c.self.inside.format c.self.inside.width c.self.inside.height c.self.inside.stage sofar c.self.inside.begun.items c.in_default.not-Subrects (c.self.invariant) in
    absurd (never_whole _ drawing none (rw (← c.self.view_is) at done))
