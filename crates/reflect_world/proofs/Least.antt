-- The pending area is the least rectangle that holds the requests since the last answer. So an answer's area is what
-- was asked for, and no more than it needs.
use Rattle.std.proofs.Common.{◌≡◌, ℕ, ◌+◌, ◌-◌, ◌<◌, ◌≤◌, Bool, true, false, cond, List, [], ◌∷◌, Option, Some, None, refl, subst, arith, ◌⊎◌, inl, inr}
use Rattle.std.specs.Prelude.{◌==◌}
use Rattle.std.proofs.lemmas.Bool.{cases_order, eqb-true, eqb-false, or_cases, or_parts}
use Rattle.raster.specs.declared.rect.Rect.{Rect}
use Rattle.raster.specs.Screen.{common, cover, holds, is_empty, lies_in, whole_screen}
use Rattle.raster.proofs.Places.{Has, has_holds, holds_has}
use Rattle.std.proofs.lemmas.Bool.Decides.{nat_tests}
use Rattle.reflect_core.specs.Asked.{covered, pending}
use Rattle.viewer_session.specs.Record.{Entry, Took, Saw, MadeCut, Began, ToldSize, events}
use Rattle.rfb_wire.specs.ClientMessage.{SetPixelFormat, SetEncodings, Ask, Key, Pointer, CutText, LostText}
use Rattle.reflect_world.specs.Headline.{requests, HoldsAll, IsLeast}

-- The one lies in the other, edge by edge.
record LiesIn (a b : Rect) : Type 0 where
  left : b.x ≤ a.x
  right : a.x + a.w ≤ b.x + b.w
  top : b.y ≤ a.y
  bottom : a.y + a.h ≤ b.y + b.h

abbrev IsInside : Rect → Rect → Type 0
IsInside r area = (x y : ℕ) → holds r x y ≡ true → holds area x y ≡ true

inside : (a b : Rect) → LiesIn a b → IsInside a b
inside a b k x y e =
    let h : Has a x y = has_holds a x y e in
    holds_has b x y (record { left = omega (arith, k.left, h.left); right = omega (arith, k.right, h.right); top = omega (arith, k.top, h.top); bottom = omega (arith, k.bottom, h.bottom) })

-- A rectangle that isn't empty has its corners.
edges : (r b : Rect) → 0 < r.w → 0 < r.h → IsInside r b → LiesIn r b
edges r b wide high k =
    let first : Has b r.x r.y = has_holds b r.x r.y (k r.x r.y (holds_has r r.x r.y (record { left = omega arith; right = omega (arith, wide); top = omega arith; bottom = omega (arith, high) }))) in
    let far : ℕ = r.x + (r.w - 1) in
    let low : ℕ = r.y + (r.h - 1) in
    let last : Has b far low = has_holds b far low (k far low (holds_has r far low (record { left = omega arith; right = omega (arith, wide); top = omega arith; bottom = omega (arith, high) }))) in
    record { left = first.left; right = omega (arith, last.right, wide); top = first.top; bottom = omega (arith, last.bottom, high) }

-- One that is empty has no position.
empty_has : (r b : Rect) → is_empty r ≡ true → IsInside r b
empty_has r b e x y k =
    let h : Has r x y = has_holds r x y k in
    empty_cases (or_cases (r.w == 0) (r.h == 0) e) h where
      empty_cases : ((r.w == 0) ≡ true) ⊎ ((r.h == 0) ≡ true) → Has r x y → holds b x y ≡ true
      empty_cases (inl n) h = absurd (omega (arith, eqb-true r.w 0 n, h.left, h.right))
      empty_cases (inr n) h = absurd (omega (arith, eqb-true r.h 0 n, h.top, h.bottom))

lies_is : (a b : Rect) → LiesIn a b → lies_in a b ≡ true
lies_is a b k =
    let left = k.left in
    let right = k.right in
    let top = k.top in
    let bottom = k.bottom in
    grind (arith, nat_tests, left, right, top, bottom)

-- What stands of a pending area: it isn't empty, and is the least.
record IsArea (area : Rect) (rs : List Rect) : Type 0 where
  wide : 0 < area.w
  high : 0 < area.h
  all : HoldsAll area rs
  least : (other : Rect) → HoldsAll other rs → LiesIn area other

abbrev AreaIf : Option Rect → List Rect → Type 0
AreaIf None rs = (other : Rect) → HoldsAll other rs
AreaIf (Some area) rs = IsArea area rs

all_in : (a b : Rect) (rs : List Rect) → LiesIn a b → HoldsAll a rs → HoldsAll b rs
all_in a b [] k l = tt
all_in a b (r ∷ rs) k l = (λ x y e. inside a b k x y (l.0 x y e), all_in a b rs k l.1)

cover_left : (r a : Rect) → 0 < r.w → 0 < r.h → 0 < a.w → 0 < a.h → LiesIn r (cover r a)
cover_left r a rw rh aw ah = record { left = omega arith; right = omega arith; top = omega arith; bottom = omega arith }

cover_right : (r a : Rect) → 0 < r.w → 0 < r.h → 0 < a.w → 0 < a.h → LiesIn a (cover r a)
cover_right r a rw rh aw ah = record { left = omega arith; right = omega arith; top = omega arith; bottom = omega arith }

cover_least : (r a o : Rect) → LiesIn r o → LiesIn a o → LiesIn (cover r a) o
cover_least r a o k l =
    record { left = omega (arith, k.left, l.left); right = omega (arith, k.left, l.left, k.right, l.right); top = omega (arith, k.top, l.top); bottom = omega (arith, k.top, l.top, k.bottom, l.bottom) }

area_one : (r : Rect) (o : Option Rect) (rs : List Rect) → 0 < r.w → 0 < r.h → AreaIf o rs → AreaIf (covered r o) (r ∷ rs)
area_one r None rs wide high k = record { wide = wide; high = high; all = (λ x y e. e, k r); least = λ other l. edges r other wide high l.0 }
area_one r (Some a) rs wide high k =
    record {
      wide = omega (arith, wide, k.wide);
      high = omega (arith, high, k.high);
      all = (inside r (cover r a) (cover_left r a wide high k.wide k.high), all_in a (cover r a) rs (cover_right r a wide high k.wide k.high) k.all);
      least = λ other l. cover_least r a other (edges r other wide high l.0) (k.least other l.1);
    }

area_none : (r : Rect) (o : Option Rect) (rs : List Rect) → is_empty r ≡ true → AreaIf o rs → AreaIf o (r ∷ rs)
area_none r None rs e k = λ other. (empty_has r other e, k other)
area_none r (Some a) rs e k = record { wide = k.wide; high = k.high; all = (empty_has r a e, k.all); least = λ other l. k.least other l.1 }

some_width : (n : ℕ) → (n == 0) ≡ false → 0 < n
some_width n e = let apart = eqb-false n 0 e in above (cases_order n 0) apart where
  above : (n ≡ 0) ⊎ ((n < 0) ⊎ (0 < n)) → (n ≡ 0 → ⊥) → 0 < n
  above (inl z) f = absurd (f z)
  above (inr (inl z)) f = omega (arith, z)
  above (inr (inr z)) f = z

area_more : (r : Rect) (o : Option Rect) (rs : List Rect) (b : Bool) → is_empty r ≡ b → AreaIf o rs → AreaIf (cond b o (covered r o)) (r ∷ rs)
area_more r o rs true e k = area_none r o rs e k
area_more r o rs false e k = let parts = or_parts (r.w == 0) (r.h == 0) e in area_one r o rs (some_width r.w parts.0) (some_width r.h parts.1) k

area_of : (w h : ℕ) (es : List Entry) → AreaIf (pending (events w h es)) (requests w h es)
area_of w h [] = λ other. tt
area_of w h (Took (SetPixelFormat format) ∷ es) = area_of w h es
area_of w h (Took (SetEncodings choice) ∷ es) = area_of w h es
area_of w h (Took (Ask incremental area) ∷ es) =
    area_more (common area (whole_screen w h)) (pending (events w h es)) (requests w h es) (is_empty (common area (whole_screen w h))) refl (area_of w h es)
area_of w h (Took (Key down key) ∷ es) = area_of w h es
area_of w h (Took (Pointer mask x y) ∷ es) = area_of w h es
area_of w h (Took (CutText text) ∷ es) = area_of w h es
area_of w h (Took (LostText len) ∷ es) = area_of w h es
area_of w h (Saw n ∷ es) = area_of w h es
area_of w h (MadeCut n ∷ es) = area_of w h es
area_of w h (Began area n bytes ∷ es) = λ other. tt
area_of w h (ToldSize size n bytes ∷ es) = λ other. tt

pub is_least : (w h : ℕ) (es : List Entry) (area : Rect) → pending (events w h es) ≡ Some area → IsLeast area (requests w h es)
is_least w h es area e =
    let it : IsArea area (requests w h es) = subst (λ o. AreaIf o (requests w h es)) e (area_of w h es) in
    record { all = it.all; least = λ other l. lies_is area other (it.least other l) }
