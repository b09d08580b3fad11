use Rattle.std.proofs.Common.{◌≡◌, ◌∙◌, ◌++◌, ℕ, List, [], map, refl, sym, ap, append_assoc}
use Rattle.raster.specs.Screen.{Canvas, value_at, part_of}
use Rattle.raster.specs.Encoding.{Subrect}
use Rattle.joined_runs.specs.declared.rect_form.RectForm.TheVariants.{Joined}
use Rattle.joined_runs.specs.Joined.{written}
use Rattle.hextile_codec.specs.TileKinds.{subrect_of}
use Rattle.hextile_codec.specs.Marks.{runs_of_rows}
use Rattle.hextile_codec.proofs.FourWords.{joined_fours}
use Rattle.hextile_codec.proofs.listing.list_joined.Goals as goal

pub returns : goal.returns
returns c =
    let canvas : Canvas = part_of c.args.tile.now (value_at c.args.w c.args.values.now) in
    let bg : ℕ = c.args.marks.now.background in
    let four : ℕ → List Subrect = λ y. written Joined canvas 16 16 (runs_of_rows canvas bg 16 y 4) in
    let none : map subrect_of c.clear.new.self.items ≡ [] = rw c.clear.ensures refl in
    let a : map subrect_of c.add_joined.new.found.items ≡ four 0 = c.add_joined.ensures.added ∙ ap (λ l. l ++ four 0) none in
    let b : map subrect_of c.add_joined-2.new.found.items ≡ four 0 ++ four 4 = c.add_joined-2.ensures.added ∙ ap (λ l. l ++ four 4) a in
    let d : map subrect_of c.add_joined-3.new.found.items ≡ (four 0 ++ four 4) ++ four 8 = c.add_joined-3.ensures.added ∙ ap (λ l. l ++ four 8) b in
    let e : map subrect_of c.add_joined-4.new.found.items ≡ ((four 0 ++ four 4) ++ four 8) ++ four 12 = c.add_joined-4.ensures.added ∙ ap (λ l. l ++ four 12) d in
    e ∙ (append_assoc (four 0 ++ four 4) (four 8) (four 12) ∙ (append_assoc (four 0) (four 4) (four 8 ++ four 12) ∙ sym (joined_fours canvas bg)))
