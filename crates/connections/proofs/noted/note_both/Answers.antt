use Rattle.std.proofs.Common.{◌≡◌, ◌++◌, ℕ, ◌-◌, length, take, List, arith}
use Rattle.std.specs.Prelude.{min}
use Rattle.std.proofs.lemmas.Grind.{common_steps}
use Rattle.connections.proofs.Behind.{noted_behind}
use Rattle.connections.proofs.noted.note_both.Goals as goal

pub returns : goal.returns
returns c =
    let n : ℕ = c.args.count in
    let a : List ℕ = c.args.first.now in
    let b : List ℕ = c.args.second.now in
    let one : c.note.new.self.bytes ≡ c.args.notes.now.bytes ++ take (min n (length a)) a = grind (arith, common_steps) in
    let two : c.note-2.new.self.bytes ≡ c.note.new.self.bytes ++ take (n - length a) b = grind (arith, common_steps) in
    noted_behind n c.args.notes.now.bytes a b c.note.new.self.bytes c.note-2.new.self.bytes one two
