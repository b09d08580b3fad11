-- The data of an area stays what it was where what follows it among the bytes changes.
use Rattle.std.proofs.Common.{◌≡◌, ℕ, ◌+◌, ◌-◌, ◌≤◌, true, List, Option, None, Some, take, drop, get_or, sym, ap, subst, ◌∙◌, arith}
use Rattle.std.specs.Prelude.{◌==◌, ◌&&◌, IfSome, MatchOption}
use Rattle.std.specs.Cmp.{booleans_Decides, unsigned_Decides}
use Rattle.std.proofs.Math.Bool.{beq}
use Rattle.std.proofs.lemmas.Bool.{and_parts}
use Rattle.std.proofs.lemmas.List.{drop-take, take-take}
use Rattle.pixel_format.specs.PixelFormat.{Channel, PixelFormat}
use Rattle.raster.specs.declared.rect.Rect.{Rect}
use Rattle.raster.specs.Screen.{Canvas}
use Rattle.painter.specs.declared.encoded.EncodedArea.{EncodedArea}
use Rattle.painter.specs.Encoded.{AreEncoded, IsHextileOf}

-- Bytes before `start` are the same where the first `start` bytes are.
same_part : (old new : List ℕ) (start from end : ℕ) → take start new ≡ take start old → from ≤ end → end ≤ start → take (end - from) (drop from new) ≡ take (end - from) (drop from old)
same_part old new start from end same order inside =
    let whole : from + (end - from) ≡ end = omega (arith, order) in
    let part : (bytes : List ℕ) → take (end - from) (drop from bytes) ≡ drop from (take end (take start bytes)) =
    (λ bytes. sym (drop-take from (end - from) bytes) ∙ ap (λ n. drop from (take n bytes)) whole ∙ ap (drop from) (sym (take-take end start bytes inside))) in
    part new ∙ ap (λ bytes. drop from (take end bytes)) same ∙ sym (part old)

-- An area whose data ends by then stays encoded.
pub still_encoded : (format : PixelFormat) (colours : Canvas) (old new : List ℕ) (start end : ℕ) (list : List EncodedArea) → take start new ≡ take start old → start ≤ end
    → AreEncoded format colours start old list → AreEncoded format colours end new list
still_encoded format colours old new start end list same on are k d lt =
    let was = are k d lt in
    record {
      order = was.order;
      there = omega (arith, was.there, on);
      is_hextile = subst (λ bytes. IsHextileOf format colours (get_or list k d).area bytes) (sym (same_part old new start _ _ same was.order was.there)) was.is_hextile;
    }

-- ---- what is found

-- What holds of each part that may be found holds of the one that was.
pub found_part : {A : Type 0} (r : Option A) (nothing : Type 0) (P Q : A → Type 0) → MatchOption r nothing P → ((x : A) → P x → Q x) → IfSome r Q
found_part None nothing P Q found then = tt
found_part (Some x) nothing P Q found then = then x found

same_numbers : (a b : ℕ) → (a == b) ≡ true → a ≡ b
same_numbers a b = (unsigned_Decides a b).0

-- Two rectangles, each number of which is the same.
pub same_rect : (r s : Rect) → ((r.x == s.x) && ((r.y == s.y) && ((r.w == s.w) && (r.h == s.h)))) ≡ true → r ≡ s
same_rect r s e =
    let a = and_parts (r.x == s.x) _ e in
    let b = and_parts (r.y == s.y) _ a.1 in
    let d = and_parts (r.w == s.w) _ b.1 in
    let x = same_numbers r.x s.x a.0 in
    let y = same_numbers r.y s.y b.0 in
    let w = same_numbers r.w s.w d.0 in
    let h = same_numbers r.h s.h d.1 in
    (λ i. record { x = x i; y = y i; w = w i; h = h i })

same_channel : (a b : Channel) → ((a.max == b.max) && (a.shift == b.shift)) ≡ true → a ≡ b
same_channel a b e =
    let p = and_parts (a.max == b.max) _ e in
    let max = same_numbers a.max b.max p.0 in
    let shift = same_numbers a.shift b.shift p.1 in
    (λ i. record { max = max i; shift = shift i })

-- Two formats, each field of which is the same.
pub same_format : (f g : PixelFormat)
    → ((f.bits_per_pixel == g.bits_per_pixel) && ((f.depth == g.depth) && (beq f.big_endian g.big_endian && (((f.red.max == g.red.max) && (f.red.shift == g.red.shift)) && (((f.green.max == g.green.max) && (f.green.shift == g.green.shift)) && ((f.blue.max == g.blue.max) && (f.blue.shift == g.blue.shift))))))) ≡ true
    → f ≡ g
same_format f g e =
    let a = and_parts (f.bits_per_pixel == g.bits_per_pixel) _ e in
    let b = and_parts (f.depth == g.depth) _ a.1 in
    let d = and_parts (beq f.big_endian g.big_endian) _ b.1 in
    let r = and_parts ((f.red.max == g.red.max) && (f.red.shift == g.red.shift)) _ d.1 in
    let s = and_parts ((f.green.max == g.green.max) && (f.green.shift == g.green.shift)) _ r.1 in
    let bits = same_numbers f.bits_per_pixel g.bits_per_pixel a.0 in
    let deep = same_numbers f.depth g.depth b.0 in
    let order = (booleans_Decides f.big_endian g.big_endian).0 d.0 in
    let red = same_channel f.red g.red r.0 in
    let green = same_channel f.green g.green s.0 in
    let blue = same_channel f.blue g.blue s.1 in
    (λ i. record { bits_per_pixel = bits i; depth = deep i; big_endian = order i; red = red i; green = green i; blue = blue i })
