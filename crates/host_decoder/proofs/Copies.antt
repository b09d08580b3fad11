-- The source of a CopyRect, in pieces. A piece may end inside it.
use Rattle.std.proofs.Common.{◌≡◌, ℕ, ◌+◌, ◌-◌, ◌<◌, ◌≤◌, min, not, Bool, true, false, List, [], ◌∷◌, ◌++◌, take, drop, length, inl, inr, refl, sym, ap, subst, ◌∙◌, arith}
use Rattle.std.specs.Prelude.{nat_le}
use Rattle.std.proofs.lemmas.Bool.{and_parts, cases_lt}
use Rattle.std.proofs.lemmas.Bool.Decides.{nat_tests}
use Rattle.std.specs.Int.{w16, from_be_bytes}
use Rattle.std.proofs.lemmas.List.{take-append-drop, length-take, length-drop, length-append}
use Rattle.byte_reading.specs.Reading.{Reading, Done, Faulty, after, taken, wants_more, unless}
use Rattle.fault.specs.declared.kinds.Fault.TheVariants.{CopyOutside}
use Rattle.byte_reading.proofs.ReadingLaws.{after-append, after_bind, after-stays, done, done_is, taken-append, taken-nil, taken-stays}
use Rattle.raster.specs.declared.rect.Rect.{Rect}
use Rattle.raster.specs.Screen.{IsWithin, is_within}
use Rattle.raster.specs.Update.{Paint, Copy}
use Rattle.raster.proofs.FixedLength.{Needs, needs_takes, needs_after, needs_wants}
use Rattle.rfb_wire.specs.ServerMessage.{copy_rect}
use Rattle.rfb_wire.specs.ServerHeads.{copy_source}
use Rattle.host_decoder.specs.Data.{IsSource}

-- ---- a form that needs this many bytes and then wants no more

abbrev pub Closes : {A : Type 0} → ℕ → Reading A → Type 0
Closes k form = (bs : List ℕ) → length bs ≡ k → wants_more (after form bs) ≡ false

pub stays_behind : {A : Type 0} (r : Reading A) (ys : List ℕ) (missing : ℕ) → (missing ≡ 0 → wants_more r ≡ false) → (0 < length ys → missing ≡ 0) → (after r ys ≡ r) × (taken r ys ≡ 0)
stays_behind r [] missing closed none = (refl, taken-nil r)
stays_behind r (b ∷ ys) missing closed none = let w = closed (none (omega arith)) in (after-stays r (b ∷ ys) w, taken-stays r (b ∷ ys) w)

-- It is fed what is missing of them.
pub closing_fed : {A : Type 0} (k n : ℕ) (form : Reading A) (begun piece : List ℕ) → Needs k form → Closes k form → length begun ≤ k → n ≡ min (k - length begun) (length piece)
    → (after (after form begun) piece ≡ after form (begun ++ take n piece)) × (taken (after form begun) piece ≡ n)
closing_fed {A} k n form begun piece needs closes le e =
    let r : Reading A = after form begun in
    let xs : List ℕ = take n piece in
    let ys : List ℕ = drop n piece in
    let len : length xs ≡ n = omega (arith, length-take n piece, e) in
    let left : Needs (k - length begun) r = needs_after k (k - length begun) form begun needs (omega arith) in
    let first : taken r xs ≡ length xs = needs_takes (k - length begun) r xs left (omega (arith, len, e)) in
    let both : taken r piece ≡ length xs + taken (after r xs) ys = ap (taken r) (sym (take-append-drop n piece)) ∙ taken-append r xs ys first in
    let goes : after r piece ≡ after (after r xs) ys = ap (after r) (sym (take-append-drop n piece)) ∙ after-append r xs ys in
    let joined : after r xs ≡ after form (begun ++ xs) = sym (after-append form begun xs) in
    let whole : (k - length begun - n ≡ 0) → wants_more (after r xs) ≡ false = λ z. rw joined (closes (begun ++ xs) (omega (arith, len, length-append begun xs, z, le, e))) in
    let stays = stays_behind (after r xs) ys (k - length begun - n) whole (λ lt. omega (arith, lt, length-drop n piece, e)) in
    (goes ∙ (stays.0 ∙ joined), omega (arith, both, stays.1, len))

-- ---- the source

pub copy_needs : (w h : ℕ) (area : Rect) → Needs 4 (copy_rect w h area)
copy_needs w h area = λ a b c d. tt

-- What four bytes, and whatever follows them, lead to.
abbrev judged : ℕ → ℕ → Rect → Rect → Reading Paint
judged w h area source = unless (not (is_within source w h)) CopyOutside (Done (Copy area source.x source.y))

closed_by : (b : Bool) (painted : Paint) → wants_more (unless (not b) CopyOutside (Done painted)) ≡ false
closed_by true painted = refl
closed_by false painted = refl

judged_closed : (w h : ℕ) (area source : Rect) → wants_more (judged w h area source) ≡ false
judged_closed w h area source = closed_by (is_within source w h) (Copy area source.x source.y)

judged_by : (b : Bool) (w h : ℕ) (area source : Rect) → is_within source w h ≡ b → judged w h area source ≡ unless (not b) CopyOutside (Done (Copy area source.x source.y))
judged_by b w h area source e = ap (λ t. unless (not t) CopyOutside (Done (Copy area source.x source.y))) e

copy_judged : (w h : ℕ) (area source : Rect) (bs : List ℕ) → IsSource area bs source → after (copy_rect w h area) bs ≡ judged w h area source
copy_judged w h area source bs is =
    after_bind copy_source (λ place. judged w h area (record { x = place.0; y = place.1; w = area.w; h = area.h })) bs (source.x, source.y) is.0.whole is.0.says
    ∙ (ap (λ n. judged w h area (record { x = source.x; y = source.y; w = n; h = area.h })) (sym is.1) ∙ ap (λ n. judged w h area (record { x = source.x; y = source.y; w = source.w; h = n })) (sym is.2))

pub copy_closes : (w h : ℕ) (area : Rect) → Closes 4 (copy_rect w h area)
copy_closes w h area [] e = absurd (omega arith)
copy_closes w h area (a ∷ []) e = absurd (omega arith)
copy_closes w h area (a ∷ b ∷ []) e = absurd (omega arith)
copy_closes w h area (a ∷ b ∷ c ∷ []) e = absurd (omega arith)
copy_closes w h area (a ∷ b ∷ c ∷ d ∷ []) e = judged_closed w h area (record { x = from_be_bytes w16 (a ∷ b ∷ []); y = from_be_bytes w16 (c ∷ d ∷ []); w = area.w; h = area.h })
copy_closes w h area (a ∷ b ∷ c ∷ d ∷ f ∷ bs) e = absurd (omega arith)

pub copy_open : (w h : ℕ) (area : Rect) (bs : List ℕ) → length bs < 4 → wants_more (after (copy_rect w h area) bs) ≡ true
copy_open w h area bs lt = needs_wants (4 - length bs) (after (copy_rect w h area) bs) (needs_after 4 (4 - length bs) (copy_rect w h area) bs (copy_needs w h area) (omega arith)) (omega arith)

pub copy_inside : (w h : ℕ) (area source : Rect) (bs : List ℕ) → IsSource area bs source → is_within source w h ≡ true → after (copy_rect w h area) bs ≡ Done (Copy area source.x source.y)
copy_inside w h area source bs is e = copy_judged w h area source bs is ∙ judged_by true w h area source e

pub copy_outside : (w h : ℕ) (area source : Rect) (bs : List ℕ) → IsSource area bs source → is_within source w h ≡ false → after (copy_rect w h area) bs ≡ Faulty CopyOutside
copy_outside w h area source bs is e = copy_judged w h area source bs is ∙ judged_by false w h area source e

-- ---- the paint of a source that has come

judged_done : (b : Bool) (painted other : Paint) → done painted ≡ unless (not b) CopyOutside (Done other) → (painted ≡ other) × (b ≡ true)
judged_done true painted other e = (done_is painted other e, refl)
judged_done false painted other e = absurd cc

done_within : (w h : ℕ) (source : Rect) → is_within source w h ≡ true → IsWithin source w h
done_within w h source e =
    let both = and_parts (nat_le (source.x + source.w) w) (nat_le (source.y + source.h) h) e in
    let across = both.0 in
    let down = both.1 in
    record { across = grind (arith, nat_tests, across); down = grind (arith, nat_tests, down) }

-- Where it is known at four bytes, of at most four that have come, it lies on the screen.
pub record IsCopy (w h : ℕ) (area source : Rect) (painted : Paint) : Type 0 where
  pub paint : painted ≡ Copy area source.x source.y
  pub inside : IsWithin (record { x = source.x; y = source.y; w = area.w; h = area.h }) w h

pub copy_done : (w h : ℕ) (area source : Rect) (bs : List ℕ) (painted : Paint) → length bs ≤ 4 → (length bs ≡ 4 → IsSource area bs source) → Done painted ≡ after (copy_rect w h area) bs → IsCopy w h area source painted
copy_done w h area source bs painted most known e =
    elim (cases_lt (length bs) 4) [
      | inl lt ↦ (let f : false ≡ true = ap wants_more e ∙ copy_open w h area bs lt in absurd cc)
      | inr le ↦ (let is = known (omega (arith, most, le)) in
          let found = judged_done (is_within source w h) painted (Copy area source.x source.y) (e ∙ copy_judged w h area source bs is) in
          record {
            paint = found.0;
            inside = subst (λ n. IsWithin (record { x = source.x; y = source.y; w = n; h = area.h }) w h) is.1
                (subst (λ n. IsWithin (record { x = source.x; y = source.y; w = source.w; h = n }) w h) is.2 (done_within w h source found.1));
          })
    ]
