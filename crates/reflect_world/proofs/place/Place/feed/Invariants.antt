use Rattle.std.proofs.Common.{◌≡◌, ◌+◌, ◌≤◌, List, ◌++◌, length, None}
use Rattle.std.specs.Prelude.{vec_len, vec_capacity}
use Rattle.raster.specs.Update.{Update}
use Rattle.viewer_session.specs.Session.{HasCounted, IsFeeding}
use Rattle.reflect_world.proofs.place.Place.feed.Given as goal

abbrev pub invariant-loop-self : goal.invariant-loop-self
invariant-loop-self l =
    record {
      others : l.self ≡ record l.fn.self { session = l.self.session; looked = None; unread = l.self.unread };
      feeding : IsFeeding l.fn.self.session l.self.session l.lost.items (l.fn.self.unread ++ l.bytes) l.self.unread;
      counted : (us : List Update) → HasCounted l.fn.self.session us → HasCounted l.self.session us;
      room : vec_len l.lost + length l.self.unread ≤ vec_capacity l.lost;
    }

abbrev pub decreases-loop-self : goal.decreases-loop-self
decreases-loop-self l = length l.self.unread
