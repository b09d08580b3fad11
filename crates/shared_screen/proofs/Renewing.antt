-- A board of a beginning of the history goes on to all of it. `Stamped::renewed` makes the next board of such a one.
use Rattle.std.proofs.Common.{◌≡◌, ◌≤◌, List, length, take, refl, ap, sym, ◌∙◌, subst}
use Rattle.std.proofs.lemmas.List.{take_at}
use Rattle.painter.specs.Board.{BoardStands, Posted}
use Rattle.reflect_core.specs.Sequential.{Begins}
use Rattle.shared_screen.specs.History.{Change, puts_of}
use Rattle.shared_screen.proofs.Beginnings.{begins_shorter}
use Rattle.shared_screen.proofs.Histories.{begins_puts}

-- It stands at the first of these updates, as many as its number says.
pub stands_at_first : (board : Posted) (front log both : List Change) → Begins front both → Begins log both → length (puts_of front) ≤ length (puts_of log) → BoardStands board (puts_of front) → BoardStands board (take board.number (puts_of log))
stands_at_first board front log both p q le stands =
    let r = begins_shorter (puts_of front) (puts_of log) (puts_of both) (begins_puts front both p) (begins_puts log both q) le in
    let start : take (length (puts_of front)) (puts_of log) ≡ puts_of front = ap (take (length (puts_of front))) r.1 ∙ take_at (puts_of front) r.0 (length (puts_of front)) refl in
    subst (BoardStands board) (sym (ap (λ n. take n (puts_of log)) stands.number ∙ start)) stands
