use Rattle.raster.specs.Screen.{opening, tile_rect}
use Rattle.raster.specs.Update.{Update}
use Rattle.std.proofs.Common.{ℕ, List, None, refl}
use Rattle.painter.specs.Same.{AreSameFrom, AreSameUpdates}
use Rattle.painter.proofs.SameLaws.{same_bells, same_last_touch, same_shows, same_sizes, same_texts}
use Rattle.painter.proofs.law.same_updates_show_the_same.Goals as goal

at_once : (w h : ℕ) (us vs : List Update) → AreSameUpdates w h opening us vs → AreSameFrom w h opening opening us vs
at_once w h us vs same = same opening (λ x y lx ly. refl)

pub returns-clause-screen : goal.returns-clause-screen
returns-clause-screen c w h us vs same = same_shows w h opening opening us vs (at_once w h us vs same)

pub returns-clause-touched : goal.returns-clause-touched
returns-clause-touched c w h t us vs lt same = same_last_touch (tile_rect w h t) 0 1 us vs ((at_once w h us vs same).touched t lt)

pub returns-clause-bells : goal.returns-clause-bells
returns-clause-bells c w h us vs same = same_bells us vs (at_once w h us vs same).kinds

pub returns-clause-text : goal.returns-clause-text
returns-clause-text c w h us vs same = same_texts None 1 us vs (at_once w h us vs same).kinds

pub returns-clause-size : goal.returns-clause-size
returns-clause-size c w h us vs same = same_sizes None us vs (at_once w h us vs same).kinds
