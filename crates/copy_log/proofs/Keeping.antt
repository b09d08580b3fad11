-- Copies that are passed on keep up with the host's screen. The law `copies_keep_up` is made of it.
use Rattle.std.proofs.Common.{◌≡◌, ℕ, ◌+◌, ◌-◌, ◌<◌, Bool, true, false, cond, List, [], ◌∷◌, ◌++◌, Option, Some, refl, ap, sym, ◌∙◌, arith}
use Rattle.std.specs.Prelude.{◌&&◌, ◌||◌}
use Rattle.std.specs.List.{list_any, range_with_len}
use Rattle.std.proofs.lemmas.Bool.{and_parts}
use Rattle.raster.specs.declared.rect.Rect.{Rect}
use Rattle.raster.specs.Screen.{Canvas, IsWithin, Map, copy, holds, lies_in, meets, tile_count, tile_rect}
use Rattle.raster.specs.Update.{Paint, Put, Copy, Resized, Update, painted, paints_of, after_paint, after_paints, after_updates}
use Rattle.raster.proofs.Places.{Has, has_holds, holds_has, lies_has, meets_at, tile_of, tile_of_has, tile_of_there}
use Rattle.tiles.proofs.Touching.{or_left, or_right, same_after_paints}
use Rattle.copy_log.specs.Passed.{Passed, can_pass, is_held, lacking, or_meets, passed_after, passed_after_paint, passed_after_paints, source_of, with_copy}
use Rattle.copy_log.specs.KeepsUp.{CopiesKeepUp, HoldsBut, moved}
use Rattle.copy_log.proofs.Ranges.{and_first, none_at, not_false}

pub moved-more : (held : Map (Option ℕ)) (ps : List Paint) (r : Rect) (sx sy : ℕ) → moved held (ps ++ Copy r sx sy ∷ []) ≡ copy r sx sy (moved held ps)
moved-more held [] r sx sy = refl
moved-more held (Put q colours ∷ ps) r sx sy = moved-more held ps r sx sy
moved-more held (Copy q qx qy ∷ ps) r sx sy = moved-more (copy q qx qy held) ps r sx sy
moved-more held (Resized size ∷ ps) r sx sy = moved-more held ps r sx sy

or_none : (a : Bool) → a ≡ false → (a || false) ≡ false
or_none true e = e
or_none false e = e

-- Where each tile that a paint touches is lacked, nothing is to be held anew.
keeps_lacking : (w h : ℕ) (area : Rect) (f : ℕ → ℕ) (lacks : ℕ → Bool) (held : Map (Option ℕ)) (screen : Canvas) (p : Paint) → HoldsBut w h area lacks f held screen
    → HoldsBut w h area (or_meets w h lacks (painted p)) f held (after_paint screen p)
keeps_lacking w h area f lacks held screen p on =
    record {
      each = λ t x y lt no here inside.
          (let away : meets (painted p) (tile_rect w h t) ≡ false = or_right (lacks t) (meets (painted p) (tile_rect w h t)) no in
          on.each t x y lt (or_left (lacks t) (meets (painted p) (tile_rect w h t)) no) here inside
          ∙ ap (λ c. Some (f c)) (sym (same_after_paints screen (p ∷ []) (tile_rect w h t) x y (or_none (meets (painted p) (tile_rect w h t)) away) (has_holds (tile_rect w h t) x y here))));
    }

-- Where the source of a copy is.
source_has : (r : Rect) (sx sy x y : ℕ) → Has r x y → Has (source_of r sx sy) (sx + (x - r.x)) (sy + (y - r.y))
source_has r sx sy x y p = record { left = omega arith; right = omega (arith, p.left, p.right); top = omega arith; bottom = omega (arith, p.top, p.bottom) }

-- What is held of the source of a copy that can be passed on.
source_held : (w h : ℕ) (area : Rect) (f : ℕ → ℕ) (lacks : ℕ → Bool) (held : Map (Option ℕ)) (screen : Canvas) (r : Rect) (sx sy x y : ℕ) → IsWithin area w h
    → can_pass w h area lacks r sx sy ≡ true → HoldsBut w h area lacks f held screen → Has (source_of r sx sy) x y → held x y ≡ Some (f (screen x y))
source_held w h area f lacks held screen r sx sy x y inside can on there =
    let source : Rect = source_of r sx sy in
    let parts = and_parts (lies_in r area && lies_in source area) (is_held w h lacks source) can in
    let here : Has area x y = lies_has source area x y (and_parts (lies_in r area) (lies_in source area) parts.0).1 there in
    let lx : x < w = omega (arith, here.right, inside.across) in
    let ly : y < h = omega (arith, here.bottom, inside.down) in
    let t : ℕ = tile_of w x y in
    let lt : t < tile_count w h = tile_of_there w h x y lx ly in
    let tile : Has (tile_rect w h t) x y = tile_of_has w h x y lx ly in
    let none : list_any (λ k. lacks k && meets source (tile_rect w h k)) (range_with_len 0 (tile_count w h)) ≡ false = not_false _ parts.1 in
    let both : (lacks t && meets source (tile_rect w h t)) ≡ false = none_at (λ k. lacks k && meets source (tile_rect w h k)) (tile_count w h) 0 t none (omega arith) (omega arith) in
    let has : lacks t ≡ false = and_first (lacks t) (meets source (tile_rect w h t)) both (meets_at source (tile_rect w h t) x y there tile) in
    on.each t x y lt has (holds_has (tile_rect w h t) x y tile) (holds_has area x y here)

copied : (b : Bool) (a c : Option ℕ) (f : ℕ → ℕ) (s u : ℕ) → (b ≡ true → a ≡ Some (f s)) → c ≡ Some (f u) → cond b a c ≡ Some (f (cond b s u))
copied true a c f s u d e = d refl
copied false a c f s u d e = e

-- A copy that can be passed on does the same to what is held as to the screen.
keeps_copied : (w h : ℕ) (area : Rect) (f : ℕ → ℕ) (lacks : ℕ → Bool) (held : Map (Option ℕ)) (screen : Canvas) (r : Rect) (sx sy : ℕ) → IsWithin area w h
    → can_pass w h area lacks r sx sy ≡ true → HoldsBut w h area lacks f held screen → HoldsBut w h area lacks f (copy r sx sy held) (copy r sx sy screen)
keeps_copied w h area f lacks held screen r sx sy inside can on =
    record {
      each = λ t x y lt no here in_area.
          copied (holds r x y) (held (sx + (x - r.x)) (sy + (y - r.y))) (held x y) f (screen (sx + (x - r.x)) (sy + (y - r.y))) (screen x y)
          (λ e. source_held w h area f lacks held screen r sx sy (sx + (x - r.x)) (sy + (y - r.y)) inside can on (source_has r sx sy x y (has_holds r x y e)))
          (on.each t x y lt no here in_area);
    }

-- What keeps up with the screen behind the copies that were passed on.
abbrev KeepsUp : ℕ → ℕ → Rect → (ℕ → ℕ) → Map (Option ℕ) → Passed → Canvas → Type 0
KeepsUp w h area f held p screen = HoldsBut w h area p.lacks f (moved held p.copies) screen

keeps_copy : (w h : ℕ) (area : Rect) (f : ℕ → ℕ) (held : Map (Option ℕ)) (p : Passed) (screen : Canvas) (r : Rect) (sx sy : ℕ) (b : Bool) → IsWithin area w h
    → can_pass w h area p.lacks r sx sy ≡ b → KeepsUp w h area f held p screen
    → KeepsUp w h area f held (cond b (with_copy p (Copy r sx sy)) (lacking w h p r)) (copy r sx sy screen)
keeps_copy w h area f held p screen r sx sy true inside can on =
    rw (moved-more held p.copies r sx sy) (keeps_copied w h area f p.lacks (moved held p.copies) screen r sx sy inside can on)
keeps_copy w h area f held p screen r sx sy false inside can on = keeps_lacking w h area f p.lacks (moved held p.copies) screen (Copy r sx sy) on

keeps_paint : (w h : ℕ) (area : Rect) (f : ℕ → ℕ) (held : Map (Option ℕ)) (p : Passed) (screen : Canvas) (q : Paint) → IsWithin area w h → KeepsUp w h area f held p screen
    → KeepsUp w h area f held (passed_after_paint w h area p q) (after_paint screen q)
keeps_paint w h area f held p screen (Put r colours) inside on = keeps_lacking w h area f p.lacks (moved held p.copies) screen (Put r colours) on
keeps_paint w h area f held p screen (Copy r sx sy) inside on = keeps_copy w h area f held p screen r sx sy (can_pass w h area p.lacks r sx sy) inside refl on
keeps_paint w h area f held p screen (Resized size) inside on = keeps_lacking w h area f p.lacks (moved held p.copies) screen (Resized size) on

keeps_paints : (w h : ℕ) (area : Rect) (f : ℕ → ℕ) (held : Map (Option ℕ)) (p : Passed) (screen : Canvas) (qs : List Paint) → IsWithin area w h → KeepsUp w h area f held p screen
    → KeepsUp w h area f held (passed_after_paints w h area p qs) (after_paints screen qs)
keeps_paints w h area f held p screen [] inside on = on
keeps_paints w h area f held p screen (q ∷ qs) inside on =
    keeps_paints w h area f held (passed_after_paint w h area p q) (after_paint screen q) qs inside (keeps_paint w h area f held p screen q inside on)

keeps_updates : (w h : ℕ) (area : Rect) (f : ℕ → ℕ) (held : Map (Option ℕ)) (p : Passed) (screen : Canvas) (us : List Update) → IsWithin area w h → KeepsUp w h area f held p screen
    → KeepsUp w h area f held (passed_after w h area p us) (after_updates screen us)
keeps_updates w h area f held p screen [] inside on = on
keeps_updates w h area f held p screen (u ∷ us) inside on =
    keeps_updates w h area f held (passed_after_paints w h area p (paints_of u)) (after_paints screen (paints_of u)) us inside
    (keeps_paints w h area f held p screen (paints_of u) inside on)

pub copies_keep_up : CopiesKeepUp
copies_keep_up w h area lacks f held before us inside on = keeps_updates w h area f held (record { copies = []; lacks = lacks }) before us inside on
