-- The definitions compute small cases: what a viewer has asked for, and histories that are legal or not.
use Rattle.std.proofs.Common.{◌≡◌, ℕ, List, [], ◌∷◌, length, true, false, refl, ap, ◌∙◌, arith}
use Rattle.std.specs.Prelude.{Some, None}
use Rattle.raster.specs.declared.rect.Rect.{Rect}
use Rattle.tiles.specs.Touched.{Requested, NewFormat, NewSize, WasCut, Answered}
use Rattle.raster.specs.Update.{Update, View, Paints, Bell, view}
use Rattle.raster.specs.Update as update
use Rattle.reflect_core.specs.Asked.{pending, has_asked, last_cut}
use Rattle.reflect_core.specs.Sequential.{Shared, Step, Put, Raise, Look, Cut, nothing_put, IsHistory, changes, Begins}

abbrev rect : ℕ → ℕ → ℕ → ℕ → Rect
rect x y w h = record { x = x; y = y; w = w; h = h }

-- An answer ends what was asked for. A cut that began none doesn't, but it isn't asked for again.
pub answer_ends_the_area : pending (Answered (rect 0 0 4 4) 2 ∷ WasCut 2 ∷ Requested true (rect 0 0 4 4) ∷ []) ≡ None
answer_ends_the_area = refl

pub area_outlives_a_cut : pending (WasCut 2 ∷ Requested true (rect 0 0 4 4) ∷ []) ≡ Some (rect 0 0 4 4)
area_outlives_a_cut = refl

pub cut_ends_the_asking : has_asked (WasCut 2 ∷ Requested true (rect 0 0 4 4) ∷ []) ≡ false
cut_ends_the_asking = refl

-- A size that is told ends it as well: the viewer asks again.
pub size_ends_the_area : pending (NewSize (record { width = 2; height = 2 }) ∷ WasCut 2 ∷ Requested true (rect 0 0 4 4) ∷ []) ≡ None
size_ends_the_area = refl

pub size_is_no_cut : last_cut (NewSize (record { width = 2; height = 2 }) ∷ WasCut 2 ∷ []) ≡ Some 2
size_is_no_cut = refl

-- Two requests ask for the least rectangle that holds both, and what lies between them is in it. One of no size adds
-- nothing.
pub two_requests : pending (Requested true (rect 3 3 1 1) ∷ Requested false (rect 0 0 1 1) ∷ []) ≡ Some (rect 0 0 4 4)
two_requests = refl

pub empty_request : pending (Requested false (rect 9 9 0 1) ∷ Requested true (rect 0 0 1 1) ∷ []) ≡ Some (rect 0 0 1 1)
empty_request = refl

pub empty_request_asks_nothing : has_asked (Requested false (rect 9 9 0 1) ∷ []) ≡ false
empty_request_asks_nothing = refl

-- A pixel format asks, and sets no area.
pub format_asks : has_asked (NewFormat ∷ []) ≡ true
format_asks = refl

pub format_has_no_area : pending (NewFormat ∷ []) ≡ None
format_has_no_area = refl

pub last_of_two_cuts : last_cut (Answered (rect 0 0 4 4) 5 ∷ WasCut 5 ∷ NewFormat ∷ WasCut 2 ∷ []) ≡ Some 5
last_of_two_cuts = refl

-- ---- histories of the sequential screen

abbrev red : Update
red = Paints None (update.Put (rect 0 0 1 1) (0xFF0000 ∷ []) ∷ [])

abbrev put : Shared
put = record { updates = red ∷ []; tally = 0 }

abbrev raised : Shared
raised = record { updates = red ∷ []; tally = 1 }

-- A put isn't seen by a look before it is raised; a cut sees it at once.
abbrev seen : List Step
seen = Look 0 ∷ Put red ∷ Look 0 ∷ Cut (view (red ∷ [])) ∷ Raise 1 ∷ Look 1 ∷ Cut (view (red ∷ [])) ∷ []

pub put_raised_and_seen : IsHistory seen raised
put_raised_and_seen =
    (nothing_put, (refl, refl), (put, refl, (put, (refl, refl), (put, (refl, refl), (raised, (omega arith, omega arith, refl), (raised, (refl, refl), (raised, (refl, refl), refl)))))))

-- Two puts may be raised at once.
pub two_puts_and_one_raise : IsHistory (Put red ∷ Put Bell ∷ Raise 2 ∷ Look 2 ∷ []) (record { updates = red ∷ Bell ∷ []; tally = 2 })
two_puts_and_one_raise =
    (put, refl, (record { updates = red ∷ Bell ∷ []; tally = 0 }, refl, (record { updates = red ∷ Bell ∷ []; tally = 2 }, (omega arith, omega arith, refl), (record { updates = red ∷ Bell ∷ []; tally = 2 }, (refl, refl), refl))))

-- A look that answers less than was raised before it, or more, is in no legal history.
pub look_below_the_tally : (now : Shared) → IsHistory (Put red ∷ Raise 1 ∷ Look 0 ∷ []) now → ⊥
look_below_the_tally now p =
    let tally : p.2.0.tally ≡ 1 = ap (λ (s : Shared). s.tally) p.2.1.2 in
    omega (arith, tally, p.2.2.1.0)

pub look_above_the_tally : (now : Shared) → IsHistory (Put red ∷ Look 1 ∷ []) now → ⊥
look_above_the_tally now p =
    let tally : p.0.tally ≡ 0 = ap (λ (s : Shared). s.tally) p.1 in
    omega (arith, tally, p.2.1.0)

-- Nor is a raise above the number of updates, or one that falls.
pub raise_above_the_length : (now : Shared) → IsHistory (Put red ∷ Raise 2 ∷ []) now → ⊥
raise_above_the_length now p =
    let count : length p.0.updates ≡ 1 = ap (λ (s : Shared). length s.updates) p.1 in
    omega (arith, count, p.2.1.1)

pub raise_that_falls : (now : Shared) → IsHistory (Put red ∷ Raise 1 ∷ Raise 0 ∷ []) now → ⊥
raise_that_falls now p =
    let tally : p.2.0.tally ≡ 1 = ap (λ (s : Shared). s.tally) p.2.1.2 in
    omega (arith, tally, p.2.2.1.0)

-- Nor is a cut at a later number than was put, at an earlier one, or of another screen at that number.
pub cut_of_more : (now : Shared) → IsHistory (Put red ∷ Cut (view (red ∷ Bell ∷ [])) ∷ []) now → ⊥
cut_of_more now p =
    let count : length p.0.updates ≡ 1 = ap (λ (s : Shared). length s.updates) p.1 in
    let number : 2 ≡ length p.0.updates = ap (λ (v : View). v.number) p.2.1.0 in
    omega (arith, count, number)

pub cut_of_less : (now : Shared) → IsHistory (Put red ∷ Cut (view []) ∷ []) now → ⊥
cut_of_less now p =
    let count : length p.0.updates ≡ 1 = ap (λ (s : Shared). length s.updates) p.1 in
    let number : 0 ≡ length p.0.updates = ap (λ (v : View). v.number) p.2.1.0 in
    omega (arith, count, number)

pub cut_of_another_screen : (now : Shared) → IsHistory (Put red ∷ Cut (view (Paints None [] ∷ [])) ∷ []) now → ⊥
cut_of_another_screen now p =
    let there : view p.0.updates ≡ view (red ∷ []) = ap (λ (s : Shared). view s.updates) p.1 in
    let colour : 0 ≡ 0xFF0000 = ap (λ (v : View). v.screen 0 0) (p.2.1.0 ∙ there) in
    omega (arith, colour)

-- Nor does a put vanish.
pub put_stays : (now : Shared) → IsHistory (Put red ∷ []) now → now.updates ≡ red ∷ []
put_stays now p = ap (λ (s : Shared). s.updates) (p.2 ∙ p.1)

-- The changes of a history are its puts and raises, and a beginning of it has a beginning of them.
pub puts_and_raises : changes seen ≡ Put red ∷ Raise 1 ∷ []
puts_and_raises = refl

pub looks_and_cuts_change_nothing : changes (Look 3 ∷ Cut (view []) ∷ []) ≡ []
looks_and_cuts_change_nothing = refl

pub first_put_begins : Begins (Put red ∷ []) (changes seen)
first_put_begins = (Raise 1 ∷ [], refl)

pub other_put_begins_it_not : Begins (Put Bell ∷ []) (changes seen) → ⊥
other_put_begins_it_not p = let e : Put red ∷ Raise 1 ∷ [] ≡ Put Bell ∷ p.0 = p.1 in cc
