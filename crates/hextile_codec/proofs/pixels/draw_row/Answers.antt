use Rattle.std.proofs.Common.{◌≡◌, ◌∙◌, ap, ℕ, ◌*◌, ◌/◌, List, [], ◌∷◌, length, take, map, arith}
use Rattle.std.specs.Int.{w32, from_le_bytes}
use Rattle.std.specs.Simd.{first_chunks}
use Rattle.pixel_format.specs.PixelFormat.{pixel_len}
use Rattle.std.proofs.lemmas.List.{length-take}
use Rattle.raster.specs.Screen.{lay, value_at, kept}
use Rattle.hextile_codec.specs.Ahead.{pixels_in}
use Rattle.hextile_codec.proofs.PixelsIn.{pixels_count, words_are}
use Rattle.hextile_codec.proofs.pixels.draw_row.Goals as goal

pub returns-clause-shows : goal.returns-clause-shows
returns-clause-shows g c x y lx ly =
    let before = g.C.Canvas.shows c.args.canvas.now in
    let n : ℕ = c.args.count in
    let values : List ℕ = pixels_in c.args.format.now n c.args.bytes.now in
    let zeros : List ℕ = 0 ∷ 0 ∷ 0 ∷ 0 ∷ 0 ∷ 0 ∷ 0 ∷ 0 ∷ 0 ∷ 0 ∷ 0 ∷ 0 ∷ 0 ∷ 0 ∷ 0 ∷ 0 ∷ [] in
    let room : length (take n zeros) ≡ n = omega (arith, length-take n zeros, c.requires.few) in
    let same : c.get_row.new.values ≡ values = c.get_row.ensures ∙ ap (λ k. pixels_in c.args.format.now k c.args.bytes.now) room in
    c.put_row.ensures.shows x y lx ly
    ∙ (ap (λ (vs : List ℕ). lay (record { x = c.args.x; y = c.args.y; w = length vs; h = 1 }) (kept g.C.Canvas.keeps (value_at (length vs) vs)) before x y) same
    ∙ ap (λ k. lay (record { x = c.args.x; y = c.args.y; w = k; h = 1 }) (kept g.C.Canvas.keeps (value_at k values)) before x y) (pixels_count c.args.format.now n c.args.bytes.now))

pub returns-then-spells_words-clause-shows : goal.returns-then-spells_words-clause-shows
returns-then-spells_words-clause-shows g c x y lx ly =
    let before = g.C.Canvas.shows c.args.canvas.now in
    let n : ℕ = c.args.count in
    let bytes : List ℕ = c.args.bytes.now in
    let words = c.as_chunks.result.0.now in
    let values : List ℕ = pixels_in c.args.format.now n bytes in
    let four : pixel_len c.args.format.now ≡ 4 = c.spells_words.ensures.len c.if-spells_words.true in
    let size : length bytes ≡ n * 4 = c.requires.bytes ∙ ap (λ k. n * k) four in
    let parts : length bytes / 4 ≡ n = omega (arith, size) in
    let count : length words ≡ n = c.as_chunks.ensures.front_len ∙ parts in
    let same : map (from_le_bytes w32) words ≡ values =
    ap (map (from_le_bytes w32)) (c.as_chunks.ensures.front ∙ ap (λ k. first_chunks 4 k bytes) parts) ∙ words_are c.args.format.now four (c.spells_words.ensures.value c.if-spells_words.true) n bytes in
    c.put_bytes.ensures.shows x y lx ly
    ∙ (ap (λ (vs : List ℕ). lay (record { x = c.args.x; y = c.args.y; w = length words; h = 1 }) (kept g.C.Canvas.keeps (value_at (length words) vs)) before x y) same
    ∙ ap (λ k. lay (record { x = c.args.x; y = c.args.y; w = k; h = 1 }) (kept g.C.Canvas.keeps (value_at k values)) before x y) count)
