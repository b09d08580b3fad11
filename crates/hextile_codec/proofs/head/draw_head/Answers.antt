use Rattle.std.proofs.Common.{◌≡◌, ◌∙◌, ap, sym, Bool, true, ℕ, ◌+◌, List, take, drop, length, arith}
use Rattle.std.proofs.lemmas.List.{length-drop}
use Rattle.std.specs.Prelude.{if◌then◌else◌, slice_index, unwrap_or}
use Rattle.pixel_format.specs.PixelFormat.{PixelFormat}
use Rattle.raster.specs.Encoding.{has_bit}
use Rattle.hextile_codec.specs.Ahead.{colour_in, colour_len, head_len}
use Rattle.hextile_codec.proofs.HeadRead.{head_goes, only_background, count_in}
use Rattle.hextile_codec.proofs.TileDrawn.{background_drawn}
use Rattle.hextile_codec.proofs.head.draw_head.Goals as goal
use Rattle.hextile_codec.proofs.head.draw_head.Goals.{then-has, else-has}

-- A number of subrectangles stands after the colours.
rest_len : (format : PixelFormat) (mask : ℕ) (b f s : Bool) (head behind last : List ℕ) → b ≡ has_bit mask 1 → f ≡ has_bit mask 2 → s ≡ has_bit mask 3 → behind ≡ drop (colour_len format b) head → last ≡ drop (colour_len format f) behind
    → length head ≡ head_len format mask → s ≡ true → length last ≡ 1
rest_len format mask b f s head behind last is_b is_f is_s rest_b rest_f size some =
    let count : Bool → ℕ = λ t. if t then 1 else 0 in
    let told : colour_len format b + colour_len format f + count s ≡ head_len format mask =
    ap (λ t. colour_len format t + colour_len format f + count s) is_b
    ∙ (ap (λ t. colour_len format (has_bit mask 1) + colour_len format t + count s) is_f ∙ ap (λ t. colour_len format (has_bit mask 1) + colour_len format (has_bit mask 2) + count t) is_s) in
    let one : count s ≡ 1 = ap count some in
    omega (arith, told, one, size, ap length rest_b, ap length rest_f, length-drop (colour_len format b) head, length-drop (colour_len format f) behind)

pub returns-clause-drawn : goal.returns-clause-drawn
returns-clause-drawn g c =
    let format = c.args.format.now in
    let mask : ℕ = c.args.mask in
    let bs : List ℕ = c.split_at.result.0.now in
    let n : ℕ = colour_len format (has_bit mask 1) in
    let behind : List ℕ = drop n bs in
    let m : ℕ = colour_len format (has_bit mask 2) in
    let last : List ℕ = drop m behind in
    let b_told : c.specified-background.result.0 ≡ colour_in format (has_bit mask 1) c.args.carried.background bs = c.specified-background.ensures.colour ∙ ap (λ b. colour_in format b c.args.carried.background bs) c.has.ensures in
    let b_rest : c.specified-background.result.1.now ≡ behind = c.specified-background.ensures.rest ∙ ap (λ b. drop (colour_len format b) bs) c.has.ensures in
    let f_told : c.specified-foreground.result.0 ≡ colour_in format (has_bit mask 2) c.args.carried.foreground behind =
    c.specified-foreground.ensures.colour ∙ (ap (λ b. colour_in format b c.args.carried.foreground c.specified-background.result.1.now) c.has-2.ensures ∙ ap (colour_in format (has_bit mask 2) c.args.carried.foreground) b_rest) in
    let f_rest : c.specified-foreground.result.1.now ≡ last =
    c.specified-foreground.ensures.rest ∙ (ap (λ b. drop (colour_len format b) c.specified-background.result.1.now) c.has-2.ensures ∙ ap (drop m) b_rest) in
    let count : c.if-has.left ≡ count_in (has_bit mask 3) last =
    elim c.if-has.branch [
      | then-has w ↦ w.left-is ∙ (w.from-left.ensures ∙ (ap (λ t. slice_index t 0) f_rest ∙ sym (ap (λ b. count_in b last) (sym c.has-3.ensures ∙ w.if-has.true))))
      | else-has w ↦ w.left-is ∙ sym (ap (λ b. count_in b last) (sym c.has-3.ensures ∙ w.if-has.false))
    ] in
    let front : take (length bs) c.args.bytes.now ≡ bs = ap (λ k. take k c.args.bytes.now) c.split_at.ensures.front_len ∙ sym c.split_at.ensures.front in
    record {
      later = tt;
      leads = λ part stands.
          rw (front, b_told, f_told, c.has-4.ensures, count)
          (record {
            grown = only_background (colour_in format (has_bit mask 1) c.args.carried.background bs);
            goes = head_goes format c.args.area.w c.args.area.h mask (record { background = c.args.carried.background; foreground = c.args.carried.foreground }) part bs (omega (arith, c.split_at.ensures.front_len, c.head_len.ensures.value, c.requires.count));
            shows =
                background_drawn g.C.Canvas.keeps c.args.area (g.C.Canvas.width c.args.canvas.now) (g.C.Canvas.height c.args.canvas.now) (unwrap_or (colour_in format (has_bit mask 1) c.args.carried.background bs) 0) (g.C.Canvas.shows c.args.canvas.now) (g.C.Canvas.shows c.fill.new.self) c.requires.tile
                (rw (c.unwrap_or.ensures, b_told) at c.fill.ensures.shows);
          });
    }

pub bounds-rest-0 : goal.bounds-rest-0
bounds-rest-0 g c =
    omega (arith, rest_len c.args.format.now c.args.mask c.has.result c.has-2.result c.has-3.result c.split_at.result.0.now c.specified-background.result.1.now c.specified-foreground.result.1.now c.has.ensures c.has-2.ensures c.has-3.ensures c.specified-background.ensures.rest c.specified-foreground.ensures.rest (c.split_at.ensures.front_len ∙ c.head_len.ensures.value) c.if-has.true)
