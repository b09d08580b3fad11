-- How many rectangles an answer has, and their bytes. An answer's header has the number before a rectangle is written.
use Rattle.std.proofs.Common.{◌≡◌, ℕ, suc, ◌*◌, ◌≤◌, ◌^◌, Bool, List, [], ◌∷◌, ◌++◌, length, map, Option, Some, None, refl, sym, ap, ◌∙◌, subst, arith, length-append}
use Rattle.std.specs.Prelude.{◌&&◌, ◌+◌}
use Rattle.std.specs.List.{flat_map}
use Rattle.std.proofs.Math.Path.{fun_ext}
use Rattle.std.proofs.Math.Nat.{mul-le-mul_right, mul_comm}
use Rattle.std.proofs.lemmas.Bool.{le-leb}
use Rattle.std.proofs.lemmas.Grind.{flat_map-append}
use Rattle.std.proofs.lemmas.List.{append_assoc, length-map}
use Rattle.std.proofs.lemmas.List.Folds.{flat_map-map}
use Rattle.raster.specs.declared.rect.Rect.{Rect}
use Rattle.raster.specs.Screen.{Canvas, IsWithin}
use Rattle.raster.specs.Size.{IsScreenSize}
use Rattle.raster.specs.Update.{Paint}
use Rattle.rfb_wire.specs.Writing.{update_head_bytes, update_bytes}
use Rattle.tiles.specs.Touched.{runs}
use Rattle.tiles.specs.Walk.{Walking, runs_left}
use Rattle.tiles.proofs.Brought.{runs_bring_the_due}
use Rattle.update_encoder.specs.Answer.{all_spelled, copy_bytes, spelled}
use Rattle.update_encoder.specs.Coming.{front_bytes}
use Rattle.update_encoder.specs.Style.{Style}

abbrev pub at_start : ℕ → ℕ → Rect → Walking
at_start w h area = record { width = w; height = h; area = area; next = 0 }

-- At its beginning a walk has all runs before it.
pub all_left : (w h : ℕ) (area : Rect) (due : ℕ → Bool) → runs_left (at_start w h area) due ≡ runs w h area due
all_left w h area due = ap (λ (p : ℕ → Bool). runs w h area p) (fun_ext (λ t. ap (λ b. b && due t) (le-leb 0 t (omega arith))))

-- They are few.
pub few_left : (w h : ℕ) (area : Rect) (due : ℕ → Bool) → IsScreenSize w h → IsWithin area w h → length (runs_left (at_start w h area) due) ≤ 2 ^ 15
few_left w h area due size on = subst (λ (rs : List Rect). length rs ≤ 2 ^ 15) (sym (all_left w h area due)) (runs_bring_the_due w h area due size.wide.1 size.high.1 on).few

pub count_spelled : (style : Style) (screen : Canvas) (may_copy : Bool) (before : Option Rect) (rs : List Rect)
    → length (all_spelled style screen may_copy before rs) ≡ length rs
count_spelled style screen may_copy before [] = refl
count_spelled style screen may_copy before (r ∷ rs) = ap (λ n. suc n) (count_spelled style screen may_copy (Some r) rs)

abbrev pub bytes_of : Style → Canvas → Bool → Option Rect → List Rect → List ℕ
bytes_of style screen may_copy before rs = flat_map (λ r. r) (all_spelled style screen may_copy before rs)

-- A front that counts what stands behind its copies, and that, are the update.
pub front_is : (copies : List Paint) (others : List (List ℕ)) → front_bytes copies (length others) ++ flat_map (λ r. r) others ≡ update_bytes (map copy_bytes copies ++ others)
front_is copies others =
    let behind : List ℕ = flat_map (λ r. r) others in
    let counted : length (map copy_bytes copies ++ others) ≡ length copies + length others = length-append (map copy_bytes copies) others ∙ ap (λ n. n + length others) (length-map copies copy_bytes) in
    let joined : flat_map (λ r. r) (map copy_bytes copies ++ others) ≡ flat_map copy_bytes copies ++ behind =
    flat_map-append (λ r. r) (map copy_bytes copies) others ∙ ap (λ t. t ++ behind) (flat_map-map (λ r. r) copy_bytes copies) in
    append_assoc (update_head_bytes (length copies + length others)) (flat_map copy_bytes copies) behind
    ∙ (ap (λ n. update_head_bytes n ++ (flat_map copy_bytes copies ++ behind)) (sym counted)
    ∙ ap (λ t. update_head_bytes (length (map copy_bytes copies ++ others)) ++ t) (sym joined))

-- So are a front with the number of rectangles, and all of these.
pub is_update : (style : Style) (screen : Canvas) (copies : List Paint) (may_copy : Bool) (count : ℕ) (some rs : List Rect) → some ≡ rs → count ≡ length some
    → front_bytes copies count ++ bytes_of style screen may_copy None some ≡ update_bytes (map copy_bytes copies ++ all_spelled style screen may_copy None rs)
is_update style screen copies may_copy count some rs same counted =
    ap (λ n. front_bytes copies n ++ bytes_of style screen may_copy None some) (counted ∙ sym (count_spelled style screen may_copy None some))
    ∙ (front_is copies (all_spelled style screen may_copy None some)
    ∙ ap (λ (l : List Rect). update_bytes (map copy_bytes copies ++ all_spelled style screen may_copy None l)) same)

-- The first of the rectangles that are left, and the others.
pub first_then : (style : Style) (screen : Canvas) (may_copy : Bool) (before : Option Rect) (some rs : List Rect) (r : Rect) (bytes : List ℕ) → some ≡ r ∷ rs
    → bytes ≡ spelled style screen may_copy before r
    → bytes_of style screen may_copy before some ≡ bytes ++ bytes_of style screen may_copy (Some r) rs
first_then style screen may_copy before some rs r bytes same is =
    ap (λ (l : List Rect). bytes_of style screen may_copy before l) same ∙ ap (λ t. t ++ bytes_of style screen may_copy (Some r) rs) (sym is)

-- A run is at most as wide as the screen and 16 high.
pub small_run : (w h width : ℕ) → w ≤ width → h ≤ 16 → w * h ≤ 16 * width
small_run w h width lw lh =
    let a : w * h ≤ width * h = mul-le-mul_right h lw in
    let b : h * width ≤ 16 * width = mul-le-mul_right width lh in
    omega (arith, a, b, mul_comm width h)
