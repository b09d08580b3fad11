use Rattle.std.proofs.Common.{◌≡◌, ℕ, ◌*◌, ◌<◌, ◌≤◌, List, [], ◌∷◌, ◌++◌, map, All, Option, ap, subst, sym, ◌∙◌, arith}
use Rattle.raster.specs.declared.size.Size.{Size}
use Rattle.raster.specs.Update.{Update, Paint, Paints, paints_of, size_told}
use Rattle.std.specs.List.{flat_map}
use Rattle.raster.specs.Painted.{Fits}
use Rattle.raster.specs.Screen.{tile_count, tile_rect}
use Rattle.copy_log.specs.Notes.{paint_of}
use Rattle.painter.specs.Copies.{AreCopies, leading_copies}
use Rattle.painter.specs.Patch.{SizedUpdate, tile_paints}
use Rattle.painter.specs.Same.{AreSameFrom}
use Rattle.painter.specs.Painter.{Painting, colours_in, colours_of, is_touched, tile_puts, touched_below, worked}
use Rattle.painter.proofs.CopyLaws.{fit_as_paints}
use Rattle.painter.proofs.TileColours.{are_touched_tiles, patch_few, patch_paints}
use Rattle.painter.proofs.TilePuts.{patch_is_same, patch_leads}
use Rattle.painter.proofs.painter.Painter.patch.Goals as goal

-- The copies and the tiles that were touched make this patch.
patch_of : (w h : ℕ) (now : Painting) (size : Option Size) (copies : List Paint) (ts colours : List ℕ) (made : SizedUpdate) → made ≡ record { width = w; height = h; update = Paints size (copies ++ tile_paints w h ts colours) } → w ≡ now.width → h ≡ now.height → size ≡ now.told
    → copies ≡ now.copies
    → ts ≡ touched_below now (tile_count now.width now.height) → colours ≡ flat_map (λ t. colours_in (worked now) (tile_rect now.width now.height t)) (touched_below now (tile_count now.width now.height))
    → made ≡ record { width = now.width; height = now.height; update = Paints now.told (now.copies ++ tile_puts now.width now.height (worked now) (is_touched now)) }
patch_of w h now size copies ts colours made is wide high is_size is_copies is_ts is_colours =
    let P : Option Size → List Paint → SizedUpdate = λ told ps. record { width = now.width; height = now.height; update = Paints told ps } in
    let S : ℕ → ℕ → SizedUpdate = λ v k. record { width = v; height = k; update = Paints size (copies ++ tile_paints v k ts colours) } in
    let puts : List Paint = tile_puts now.width now.height (worked now) (is_touched now) in
    is
    ∙ (ap (λ v. S v h) wide
    ∙ (ap (S now.width) high
    ∙ (ap (λ (ps : List Paint). P size (copies ++ ps)) (patch_paints now ts colours is_ts is_colours) ∙ (ap (λ (cs : List Paint). P size (cs ++ puts)) is_copies ∙ ap (λ told. P told (now.copies ++ puts)) is_size))))

pub of_tiles-requires-clause-tiles : goal.of_tiles-requires-clause-tiles
of_tiles-requires-clause-tiles c =
    let now : Painting = c.args.self.now in
    let wide : 0 < now.width = subst (λ (v : Painting). 0 < v.width) c.self.view_is (omega (arith, c.self.invariant.0.wide.0)) in
    rw c.size-width.ensures.0 (rw c.size-width.ensures.1 (are_touched_tiles now c.in_ok-numbers.numbers.items c.in_ok-numbers.colours.items wide c.in_ok-numbers.ensures.numbers c.in_ok-numbers.ensures.colours))

-- The copies are kept as they are.
same_copies : (c : goal.After-take-size) → c.in_ok-copies.copies.items ≡ c.self.inside.copies.items
same_copies c = c.in_ok-copies.ensures.items_if_clones_equal (λ x y same. same) ∙ c.as_slice.ensures.value

are_made : (c : goal.After-of_tiles) → c.of_tiles.result
    ≡ record { width = c.args.self.now.width; height = c.args.self.now.height; update = Paints c.args.self.now.told (c.args.self.now.copies ++ tile_puts c.args.self.now.width c.args.self.now.height (worked c.args.self.now) (is_touched c.args.self.now)) }
are_made c =
    let now : Painting = c.args.self.now in
    patch_of c.size-width.result.0 c.size-width.result.1 now c.take-size.result (map paint_of c.in_ok-copies.copies.items) c.in_ok-numbers.numbers.items c.in_ok-numbers.colours.items c.of_tiles.result c.of_tiles.ensures c.size-width.ensures.0 c.size-width.ensures.1
    (c.take-size.ensures.value ∙ ap (λ (v : Painting). v.told) c.self.view_is)
    (ap (map paint_of) (c.in_ok-copies.ensures.items_if_clones_equal (λ x y same. same) ∙ c.as_slice.ensures.value) ∙ ap (λ (v : Painting). v.copies) c.self.view_is) c.in_ok-numbers.ensures.numbers c.in_ok-numbers.ensures.colours

pub of_tiles-requires-clause-copies : goal.of_tiles-requires-clause-copies
of_tiles-requires-clause-copies c =
    let now : Painting = c.args.self.now in
    let are : AreCopies now.width now.height c.self.inside.copies.items = subst (λ (v : Painting). AreCopies v.width v.height c.self.inside.copies.items) c.self.view_is c.self.invariant.5 in
    rw c.size-width.ensures.0 (rw c.size-width.ensures.1 (subst (AreCopies now.width now.height) (sym (same_copies c)) are))

pub returns-clause-patch : goal.returns-clause-patch
returns-clause-patch c = are_made c

pub returns-clause-same : goal.returns-clause-same
returns-clause-same c start paints stands before alike =
    let now : Painting = c.args.self.now in
    let inside = c.self.inside in
    let wide : 0 < now.width = subst (λ (v : Painting). 0 < v.width) c.self.view_is (omega (arith, c.self.invariant.0.wide.0)) in
    let fit : All (Fits now.width now.height) now.copies = subst (λ (v : Painting). All (Fits v.width v.height) v.copies) c.self.view_is (fit_as_paints inside.raster.width inside.raster.height inside.copies.items c.self.invariant.5.fit) in
    subst (λ (u : Update). AreSameFrom now.width now.height start before (Paints (size_told paints) paints ∷ []) (u ∷ [])) (sym (ap (λ (p : SizedUpdate). p.update) (are_made c))) (patch_is_same now start before paints wide fit alike stands)

pub returns-clause-copies : goal.returns-clause-copies
returns-clause-copies c start paints stands =
    subst (λ (u : Update). leading_copies (paints_of u) ≡ leading_copies paints) (sym (ap (λ (p : SizedUpdate). p.update) (are_made c))) (patch_leads c.args.self.now paints stands.copies)

pub returns-clause-most : goal.returns-clause-most
returns-clause-most c =
    let now : Painting = c.args.self.now in
    let wide : 0 < now.width = subst (λ (v : Painting). 0 < v.width) c.self.view_is (omega (arith, c.self.invariant.0.wide.0)) in
    let few : colours_of (now.copies ++ tile_puts now.width now.height (worked now) (is_touched now)) ≤ now.width * now.height =
    subst (λ (cs : List Paint). colours_of (cs ++ tile_puts now.width now.height (worked now) (is_touched now)) ≤ now.width * now.height) (ap (λ (v : Painting). v.copies) c.self.view_is)
    (patch_few now.width now.height (worked now) (is_touched now) c.self.inside.copies.items wide) in
    subst (λ (u : Update). colours_of (paints_of u) ≤ now.width * now.height) (sym (ap (λ (p : SizedUpdate). p.update) (are_made c))) few
