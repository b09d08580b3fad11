-- The copies that an update begins with, and the paints behind them: together they are all paints, and each paint more
-- comes to one of the two. A painter keeps the copies, and a patch gives them back.
use Rattle.std.proofs.Common.{◌≡◌, ℕ, zero, suc, ◌<◌, ◌≤◌, Bool, true, false, List, [], ◌∷◌, ◌++◌, length, length-append, map, drop, All, refl, ap, subst, ◌∙◌, arith}
use Rattle.std.specs.Prelude.{◌==◌, ◌&&◌, ◌||◌, nat_lt, if◌then◌else◌, is_ok, IsOk, Result, Ok, Err}
use Rattle.std.specs.Cmp.{unsigned_Decides}
use Rattle.std.specs.List.{list_any}
use Rattle.std.proofs.Math.Seq.{drop-append_seam}
use Rattle.std.proofs.lemmas.Bool.{and_parts, both_ways, lt-ltb, ne_eqb}
use Rattle.std.proofs.lemmas.List.{nil_from_length}
use Rattle.std.proofs.lemmas.List.Elements.{All-map}
use Rattle.raster.specs.declared.rect.Rect.{Rect}
use Rattle.raster.specs.Painted.{Fits}
use Rattle.raster.specs.Screen.{Canvas, meets}
use Rattle.raster.specs.Update.{Paint, Put, Copy, Resized, after_paint, after_paints, painted}
use Rattle.copy_log.specs.Notes.{paint_of}
use Rattle.copy_log.specs.Passed.{is_copy}
use Rattle.painter.specs.Copies.{can_lead, first_copies, leading_copies, other_paints}
use Rattle.copy_log.specs.declared.copy_rect.CopyRect.{CopyRect}
use Rattle.copy_log.specs.declared.note.TheConstants.{MOST_COPIES}

-- ---- all of them

all_of : (n : ℕ) (ps : List Paint) → first_copies n ps ++ drop (length (first_copies n ps)) ps ≡ ps
all_of zero ps = refl
all_of (suc n) [] = refl
all_of (suc n) (Put r colours ∷ ps) = refl
all_of (suc n) (Copy r sx sy ∷ ps) = ap (λ qs. Copy r sx sy ∷ qs) (all_of n ps)
all_of (suc n) (Resized size ∷ ps) = refl

pub all_paints : (ps : List Paint) → leading_copies ps ++ other_paints ps ≡ ps
all_paints ps = all_of MOST_COPIES ps

pub no_paints : (ps : List Paint) → leading_copies ps ≡ [] → other_paints ps ≡ ps
no_paints ps none = ap (λ cs. drop (length cs) ps) none

-- Paints after others.
pub after_both : (s : Canvas) (ps qs : List Paint) → after_paints s (ps ++ qs) ≡ after_paints (after_paints s ps) qs
after_both s [] qs = refl
after_both s (p ∷ ps) qs = after_both (after_paint s p) ps qs

-- ---- a paint more

nothing : (n : ℕ) → first_copies n [] ≡ []
nothing zero = refl
nothing (suc n) = refl

-- A copy more, behind fewer than n copies alone.
grows : (n : ℕ) (r : Rect) (x y : ℕ) (ps : List Paint) → length (drop (length (first_copies n ps)) ps) ≡ 0 → length (first_copies n ps) < n
    → (first_copies n (ps ++ Copy r x y ∷ []) ≡ first_copies n ps ++ Copy r x y ∷ []) × (drop (length (first_copies n (ps ++ Copy r x y ∷ []))) (ps ++ Copy r x y ∷ []) ≡ [])
grows zero r x y ps none few = absurd (omega (arith, few))
grows (suc n) r x y [] none few = (ap (λ qs. Copy r x y ∷ qs) (nothing n), ap (λ qs. drop (length qs) []) (nothing n))
grows (suc n) r x y (Put s colours ∷ ps) none few = absurd (omega (arith, none))
grows (suc n) r x y (Copy s sx sy ∷ ps) none few =
    let next = grows n r x y ps none (omega (arith, few)) in
    (ap (λ qs. Copy s sx sy ∷ qs) next.0, next.1)
grows (suc n) r x y (Resized size ∷ ps) none few = absurd (omega (arith, none))

-- Another paint more, or a copy that comes too late.
stays : (n : ℕ) (p : Paint) (ps : List Paint) → (is_copy p ≡ true → length (drop (length (first_copies n ps)) ps) ≡ 0 → length (first_copies n ps) < n → ⊥)
    → (first_copies n (ps ++ p ∷ []) ≡ first_copies n ps) × (drop (length (first_copies n (ps ++ p ∷ []))) (ps ++ p ∷ []) ≡ drop (length (first_copies n ps)) ps ++ p ∷ [])
stays zero p ps late = (refl, refl)
stays (suc n) (Put r colours) [] late = (refl, refl)
stays (suc n) (Copy r x y) [] late = absurd (late refl refl (omega arith))
stays (suc n) (Resized size) [] late = (refl, refl)
stays (suc n) p (Put s colours ∷ ps) late = (refl, refl)
stays (suc n) p (Copy s sx sy ∷ ps) late =
    let next = stays n p ps (λ is none few. late is none (omega (arith, few))) in
    (ap (λ qs. Copy s sx sy ∷ qs) next.0, next.1)
stays (suc n) p (Resized size ∷ ps) late = (refl, refl)

-- A paint that comes behind the copies that lead.
abbrev pub IsLate : Bool → Paint → Type 0
IsLate leads p = is_copy p ≡ true → leads ≡ true → ⊥

pub not_late : (leads : Bool) (p : Paint) → is_copy p ≡ false → IsLate leads p
not_late leads p other is led = both_ways (is_copy p) other is

pub comes_behind : (leads : Bool) (ps : List Paint) (p : Paint) → leads ≡ can_lead ps → IsLate leads p
    → (leading_copies (ps ++ p ∷ []) ≡ leading_copies ps) × (other_paints (ps ++ p ∷ []) ≡ other_paints ps ++ p ∷ [])
comes_behind leads ps p leading late =
    stays MOST_COPIES p ps
    (λ is none few. late is (leading ∙ (ap (λ n. (n == 0) && nat_lt (length (leading_copies ps)) MOST_COPIES) none ∙ lt-ltb (length (leading_copies ps)) MOST_COPIES few)))

-- Behind it no copy leads.
pub leads_no_more : (ps : List Paint) (p : Paint) → other_paints (ps ++ p ∷ []) ≡ other_paints ps ++ p ∷ [] → can_lead (ps ++ p ∷ []) ≡ false
leads_no_more ps p is =
    ap (λ b. b && nat_lt (length (leading_copies (ps ++ p ∷ []))) MOST_COPIES)
    (ne_eqb (length (other_paints (ps ++ p ∷ []))) 0 (λ e. omega (arith, e, ap length is, length-append (other_paints ps) (p ∷ []))))

-- There is none behind those that lead, where one more can.
pub none_behind : (ps : List Paint) → can_lead ps ≡ true → other_paints ps ≡ []
none_behind ps e =
    nil_from_length (other_paints ps)
    ((unsigned_Decides (length (other_paints ps)) 0).0 (and_parts (length (other_paints ps) == 0) (nat_lt (length (leading_copies ps)) MOST_COPIES) e).0)

-- A copy that leads.
pub leads_on : (copies ps : List Paint) (r : Rect) (x y : ℕ) → copies ≡ leading_copies ps → can_lead ps ≡ true → length copies < MOST_COPIES
    → (leading_copies (ps ++ Copy r x y ∷ []) ≡ leading_copies ps ++ Copy r x y ∷ []) × (other_paints (ps ++ Copy r x y ∷ []) ≡ [])
leads_on copies ps r x y are leading few =
    grows MOST_COPIES r x y ps (ap length (none_behind ps leading)) (subst (λ (cs : List Paint). length cs < MOST_COPIES) are few)

-- ---- copies in front of puts

-- No copy leads these paints.
abbrev pub LeadNone : List Paint → Type 0
LeadNone qs = (n : ℕ) → first_copies n qs ≡ []

again : (n : ℕ) (ps qs : List Paint) → LeadNone qs → first_copies n (first_copies n ps ++ qs) ≡ first_copies n ps
again zero ps qs none = refl
again (suc n) [] qs none = none (suc n)
again (suc n) (Put r colours ∷ ps) qs none = none (suc n)
again (suc n) (Copy r sx sy ∷ ps) qs none = ap (λ cs. Copy r sx sy ∷ cs) (again n ps qs none)
again (suc n) (Resized size ∷ ps) qs none = none (suc n)

-- Those that lead some paints lead puts in their places, too.
pub lead_again : (ps qs : List Paint) → LeadNone qs → leading_copies (leading_copies ps ++ qs) ≡ leading_copies ps
lead_again ps qs none = again MOST_COPIES ps qs none

lead_all : (n : ℕ) (cs : List CopyRect) (qs : List Paint) → length cs ≤ n → LeadNone qs → first_copies n (map paint_of cs ++ qs) ≡ map paint_of cs
lead_all zero [] qs few none = refl
lead_all zero (c ∷ cs) qs few none = absurd (omega (arith, few))
lead_all (suc n) [] qs few none = none (suc n)
lead_all (suc n) (c ∷ cs) qs few none = ap (λ ds. paint_of c ∷ ds) (lead_all n cs qs (omega (arith, few)) none)

pub copies_lead : (cs : List CopyRect) (qs : List Paint) → length cs ≤ MOST_COPIES → LeadNone qs → leading_copies (map paint_of cs ++ qs) ≡ map paint_of cs
copies_lead cs qs few none = lead_all MOST_COPIES cs qs few none

pub puts_behind : (cs : List CopyRect) (qs : List Paint) → length cs ≤ MOST_COPIES → LeadNone qs → other_paints (map paint_of cs ++ qs) ≡ qs
puts_behind cs qs few none = ap (λ (ds : List Paint). drop (length ds) (map paint_of cs ++ qs)) (copies_lead cs qs few none) ∙ drop-append_seam (map paint_of cs) qs

-- ---- copies in the code

-- What stands for a copy past the end of a list.
abbrev pub no_copy : CopyRect
no_copy = record { area = record { x = 0; y = 0; w = 0; h = 0 }; x = 0; y = 0 }

pub fit_as_paints : (w h : ℕ) (cs : List CopyRect) → All (λ c. Fits w h (paint_of c)) cs → All (Fits w h) (map paint_of cs)
fit_as_paints w h cs fit = All-map (Fits w h) paint_of cs fit

-- A list after a push that isn't refused.
pub pushed : {A E X : Type 0} (r : Result A E) (xs ys : List X) → IsOk r → (if is_ok r then xs else ys) ≡ xs
pushed (Ok a) xs ys ok = refl
pushed (Err e) xs ys ok = let no : false ≡ true = ok in absurd cc

-- They touch what their rectangles meet.
pub meets_copies : (r : Rect) (cs : List CopyRect) → list_any (λ p. meets (painted p) r) (map paint_of cs) ≡ list_any (λ c. meets c.area r) cs
meets_copies r [] = refl
meets_copies r (c ∷ cs) = ap (λ b. meets c.area r || b) (meets_copies r cs)

-- What holds of one holds of all of these.
pub all_one : {A : Type 0} (P : A → Type 0) (x : A) → P x → All P (x ∷ [])
all_one P x there zero d lt = there
all_one P x there (suc k) d lt = absurd (omega arith)
