-- Turns, from their parts. `Session::turn` is a look and then a cut.
use Rattle.std.proofs.Common.{◌≡◌, ℕ, ◌+◌, ◌≤◌, Bool, true, false, List, [], ◌++◌, length, Option, Some, None, refl, sym, ap, subst, ◌∙◌, arith, append_assoc, length-append}
use Rattle.std.specs.Prelude.{unwrap_or, Result, Ok, Err, IfOk}
use Rattle.std.proofs.lemmas.List.{append-nil}
use Rattle.fault.specs.declared.kinds.Fault.{Fault}
use Rattle.raster.specs.declared.rect.Rect.{Rect}
use Rattle.raster.specs.Screen.{IsWithin}
use Rattle.raster.specs.Update.{Update}
use Rattle.reflect_core.specs.Asked.{LiesOn}
use Rattle.reflect_core.specs.Sequential.{Begins}
use Rattle.viewer_session.specs.Session.{State, CutsAt, Turns, wants_cut}

-- A list begins itself, and what begins a beginning begins the whole.
pub begins_same : {A : Type 0} (xs : List A) → Begins xs xs
begins_same xs = ([], sym (append-nil xs))

pub begins_on : {A : Type 0} (xs ys zs : List A) → Begins xs ys → Begins ys zs → Begins xs zs
begins_on xs ys zs a b = (a.0 ++ b.0, b.1 ∙ (ap (λ t. t ++ b.0) a.1 ∙ append_assoc xs a.0 b.0))

pub begins_length : {A : Type 0} (xs ys : List A) → Begins xs ys → length xs ≤ length ys
begins_length xs ys a = omega (arith, ap length a.1, length-append xs a.0)

bound_by : (b : Bool) (most later looked : ℕ) → looked ≤ later → (b ≡ false → most ≡ later) → (b ≡ true → later ≤ most) → looked ≤ most
bound_by true most later looked le stays cuts = omega (arith, le, cuts refl)
bound_by false most later looked le stays cuts = omega (arith, le, stays refl)

-- A turn, from its look and what follows it.
pub turns_by : {S : Type 0} (looks cutting : S → ℕ → S → Type 0) (before behind after : S) (old new : State) (us : List Update) (least later most looked : ℕ) (r : Result Bool Fault)
    → looks before looked behind → looked ≤ length us → (least ≤ later) × (looked ≤ later) → (wants_cut old.asked looked ≡ false → most ≡ later)
    → (wants_cut old.asked looked ≡ false → (new ≡ old) × (after ≡ behind)) → (wants_cut old.asked looked ≡ true → IfOk r (λ _. CutsAt cutting behind after old new us later most)) → IfOk r (λ _. Turns looks cutting before after old new us least most)
turns_by looks cutting before behind after old new us least later most looked (Err fault) replied seen answered stays idle cuts = tt
turns_by looks cutting before behind after old new us least later most looked (Ok begun) replied seen answered stays idle cuts =
    record {
      looked = looked;
      behind = behind;
      replied = replied;
      seen = seen;
      rises = bound_by (wants_cut old.asked looked) most later least answered.0 stays (λ yes. let cut : CutsAt cutting behind after old new us later most = cuts yes in omega (arith, cut.fresh, cut.bounded));
      bounded = bound_by (wants_cut old.asked looked) most later looked answered.1 stays (λ yes. let cut : CutsAt cutting behind after old new us later most = cuts yes in omega (arith, cut.fresh, cut.bounded));
      idle = idle;
      cut = λ yes.
          let cut : CutsAt cutting behind after old new us later most = cuts yes in
          record { number = cut.number; cut = cut.cut; known = cut.known; fresh = omega (arith, cut.fresh, answered); bounded = cut.bounded; counted = cut.counted; stands = cut.stands };
    }

-- What is cut for lies on the screen: the pending area, or a rectangle of no size at its corner.
pub cut_within : (o : Option Rect) (r nowhere : Rect) (v u w h : ℕ) → r ≡ unwrap_or o nowhere → (nowhere.x + nowhere.w ≡ 0) × (nowhere.y + nowhere.h ≡ 0) → LiesOn v u o → v ≡ w → u ≡ h → IsWithin r w h
cut_within None r nowhere v u w h e z on ew eh = subst (λ (t : Rect). IsWithin t w h) (sym e) (record { across = omega (arith, z.0); down = omega (arith, z.1) })
cut_within (Some area) r nowhere v u w h e z on ew eh = subst (λ (t : Rect). IsWithin t w h) (sym e) (record { across = omega (arith, on.across); down = omega (arith, on.down) })
