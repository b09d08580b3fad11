-- What comes to the same. The law `same_is_passed` is made of it.
use Rattle.std.proofs.Common.{◌≡◌, ℕ, ◌<◌, Bool, true, false, cond, List, [], ◌∷◌, ◌++◌, refl, ap, sym, ◌∙◌, arith}
use Rattle.std.specs.Prelude.{not, ◌&&◌, ◌||◌}
use Rattle.std.specs.List.{list_any}
use Rattle.raster.specs.declared.rect.Rect.{Rect}
use Rattle.raster.specs.Screen.{lies_in, meets, tile_count, tile_rect}
use Rattle.raster.specs.Update.{Paint, Put, Copy, Resized, Update, everything, painted, paints_of}
use Rattle.tiles.proofs.Touching.{or_left, or_right}
use Rattle.copy_log.specs.Passed.{BeginsWith, IsSamePassed, Passed, can_pass, has_copy, is_copy, is_held, lacking, passed_after_paint, passed_after_paints, some_touch, source_of, with_copy}
use Rattle.copy_log.specs.KeepsUp.{NonePassed, SameIsPassed}
use Rattle.copy_log.proofs.Ranges.{same_any}

pub same_as : (w h : ℕ) (p : Passed) → IsSamePassed w h p p
same_as w h p = record { copies = refl; lacks = λ t lt. refl }

pub same_back : (w h : ℕ) (p q : Passed) → IsSamePassed w h p q → IsSamePassed w h q p
same_back w h p q s = record { copies = sym s.copies; lacks = λ t lt. sym (s.lacks t lt) }

pub same_on : (w h : ℕ) (p q r : Passed) → IsSamePassed w h p q → IsSamePassed w h q r → IsSamePassed w h p r
same_on w h p q r s u = record { copies = u.copies ∙ s.copies; lacks = λ t lt. u.lacks t lt ∙ s.lacks t lt }

-- ---- from the same comes the same

same_held : (w h : ℕ) (a b : ℕ → Bool) (r : Rect) → ((t : ℕ) → t < tile_count w h → b t ≡ a t) → is_held w h b r ≡ is_held w h a r
same_held w h a b r same =
    ap not (same_any (λ t. b t && meets r (tile_rect w h t)) (λ t. a t && meets r (tile_rect w h t)) (tile_count w h) 0 (λ k lo hi. ap (λ c. c && meets r (tile_rect w h k)) (same k (omega arith))))

same_lacking : (w h : ℕ) (p q : Passed) (r : Rect) → IsSamePassed w h p q → IsSamePassed w h (lacking w h p r) (lacking w h q r)
same_lacking w h p q r s = record { copies = s.copies; lacks = λ t lt. ap (λ b. b || meets r (tile_rect w h t)) (s.lacks t lt) }

same_copy : (w h : ℕ) (p q : Passed) (r : Rect) (x : Paint) (a b : Bool) → b ≡ a → IsSamePassed w h p q
    → IsSamePassed w h (cond a (with_copy p x) (lacking w h p r)) (cond b (with_copy q x) (lacking w h q r))
same_copy w h p q r x true true e s = record { copies = ap (λ (cs : List Paint). cs ++ x ∷ []) s.copies; lacks = s.lacks }
same_copy w h p q r x true false e s = absurd cc
same_copy w h p q r x false true e s = absurd cc
same_copy w h p q r x false false e s = same_lacking w h p q r s

pub same_paint : (w h : ℕ) (area : Rect) (p q : Passed) (x : Paint) → IsSamePassed w h p q → IsSamePassed w h (passed_after_paint w h area p x) (passed_after_paint w h area q x)
same_paint w h area p q (Put r colours) s = same_lacking w h p q r s
same_paint w h area p q (Copy r sx sy) s =
    same_copy w h p q r (Copy r sx sy) (can_pass w h area p.lacks r sx sy) (can_pass w h area q.lacks r sx sy)
    (ap (λ b. (lies_in r area && lies_in (source_of r sx sy) area) && b) (same_held w h p.lacks q.lacks (source_of r sx sy) s.lacks)) s
same_paint w h area p q (Resized size) s = same_lacking w h p q everything s

pub same_paints : (w h : ℕ) (area : Rect) (p q : Passed) (xs : List Paint) → IsSamePassed w h p q → IsSamePassed w h (passed_after_paints w h area p xs) (passed_after_paints w h area q xs)
same_paints w h area p q [] s = s
same_paints w h area p q (x ∷ xs) s = same_paints w h area (passed_after_paint w h area p x) (passed_after_paint w h area q x) xs (same_paint w h area p q x s)

pub passed_after_paints-append : (w h : ℕ) (area : Rect) (p : Passed) (xs ys : List Paint) → passed_after_paints w h area p (xs ++ ys) ≡ passed_after_paints w h area (passed_after_paints w h area p xs) ys
passed_after_paints-append w h area p [] ys = refl
passed_after_paints-append w h area p (x ∷ xs) ys = passed_after_paints-append w h area (passed_after_paint w h area p x) xs ys

-- ---- paints that are no copies

-- The same copies, where the tiles that pass a test are lacked as well.
abbrev pub lacking_all : Passed → (ℕ → Bool) → Passed
lacking_all p touched = record { copies = p.copies; lacks = λ t. p.lacks t || touched t }

or_assoc : (a b c : Bool) → ((a || b) || c) ≡ (a || (b || c))
or_assoc true b c = refl
or_assoc false b c = refl

or_nothing : (a : Bool) → (a || false) ≡ a
or_nothing true = refl
or_nothing false = refl

plain_paint : (w h : ℕ) (area : Rect) (p : Passed) (x : Paint) → is_copy x ≡ false → passed_after_paint w h area p x ≡ lacking w h p (painted x)
plain_paint w h area p (Put r colours) e = refl
plain_paint w h area p (Copy r sx sy) e = absurd cc
plain_paint w h area p (Resized size) e = refl

pub plain_paints : (w h : ℕ) (area : Rect) (p : Passed) (xs : List Paint) → list_any is_copy xs ≡ false → IsSamePassed w h (passed_after_paints w h area p xs) (lacking_all p (some_touch w h xs))
plain_paints w h area p [] e = record { copies = refl; lacks = λ t lt. or_nothing (p.lacks t) }
plain_paints w h area p (x ∷ xs) e =
    let first : passed_after_paint w h area p x ≡ lacking w h p (painted x) = plain_paint w h area p x (or_left (is_copy x) (list_any is_copy xs) e) in
    let rest : IsSamePassed w h (passed_after_paints w h area (lacking w h p (painted x)) xs) (lacking_all (lacking w h p (painted x)) (some_touch w h xs)) =
    plain_paints w h area (lacking w h p (painted x)) xs (or_right (is_copy x) (list_any is_copy xs) e) in
    rw first (record { copies = rest.copies; lacks = λ t lt. sym (or_assoc (p.lacks t) (meets (painted x) (tile_rect w h t)) (some_touch w h xs t)) ∙ rest.lacks t lt })

-- What an update that begins with some copies comes to.
pub update_as : (w h : ℕ) (area : Rect) (p : Passed) (copies : List Paint) (touched : ℕ → Bool) (u : Update) → BeginsWith w h copies touched u
    → IsSamePassed w h (passed_after_paints w h area p (paints_of u)) (lacking_all (passed_after_paints w h area p copies) touched)
update_as w h area p copies touched u b =
    let behind : Passed = passed_after_paints w h area p copies in
    let all : passed_after_paints w h area p (paints_of u) ≡ passed_after_paints w h area behind b.others = ap (λ (xs : List Paint). passed_after_paints w h area p xs) b.paints ∙ passed_after_paints-append w h area p copies b.others in
    let plain : IsSamePassed w h (passed_after_paints w h area behind b.others) (lacking_all behind (some_touch w h b.others)) = plain_paints w h area behind b.others b.no_copies in
    rw all (record { copies = plain.copies; lacks = λ t lt. ap (λ c. behind.lacks t || c) (sym (b.tiles t lt)) ∙ plain.lacks t lt })

pub same_lacking_all : (w h : ℕ) (p q : Passed) (touched : ℕ → Bool) → IsSamePassed w h p q → IsSamePassed w h (lacking_all p touched) (lacking_all q touched)
same_lacking_all w h p q touched s = record { copies = s.copies; lacks = λ t lt. ap (λ b. b || touched t) (s.lacks t lt) }

pub same_is_passed : SameIsPassed
same_is_passed w h area p q copies touched u v s a b =
    same_on w h (passed_after_paints w h area p (paints_of u)) (lacking_all (passed_after_paints w h area p copies) touched) (passed_after_paints w h area q (paints_of v))
    (update_as w h area p copies touched u a)
    (same_on w h (lacking_all (passed_after_paints w h area p copies) touched) (lacking_all (passed_after_paints w h area q copies) touched) (passed_after_paints w h area q (paints_of v))
    (same_lacking_all w h (passed_after_paints w h area p copies) (passed_after_paints w h area q copies) touched (same_paints w h area p q copies s))
    (same_back w h (passed_after_paints w h area q (paints_of v)) (lacking_all (passed_after_paints w h area q copies) touched) (update_as w h area q copies touched v b)))

-- ---- no copies

pub none_passed : NonePassed
none_passed w h area p [] e = refl
none_passed w h area p (u ∷ us) e =
    none_passed w h area (passed_after_paints w h area p (paints_of u)) us (or_right (has_copy u) (list_any has_copy us) e)
    ∙ sym (plain_paints w h area p (paints_of u) (or_left (has_copy u) (list_any has_copy us) e)).copies
