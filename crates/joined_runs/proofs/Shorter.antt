-- The joined form has at most the bytes of the runs of rows. The law `joined_is_shorter` says so.
use Rattle.std.proofs.Common.{◌≡◌, ℕ, Bool, true, false, cond, List, [], ◌∷◌, ◌++◌, length, refl, sym, ◌∙◌, ◌+◌, ◌*◌, ◌≤◌, arith, inl, inr, length-append}
use Rattle.std.specs.Prelude.{nat_le}
use Rattle.std.specs.List.{flat_map}
use Rattle.std.specs.Int.{w16, w32, to_be_bytes}
use Rattle.std.proofs.lemmas.Bool.{cases_lt, lt-leb}
use Rattle.std.proofs.Math.Nat.{mul-le-mul_left}
use Rattle.pixel_format.specs.PixelFormat.{PixelFormat, pixel_len, pixel_bytes}
use Rattle.pixel_format.proofs.Pixels.{pixel_size}
use Rattle.raster.specs.declared.encoding.Encoding.{Encoding}
use Rattle.raster.specs.declared.encoding.Encoding.TheVariants.{Raw, Rre, Hextile}
use Rattle.raster.specs.Screen.{Canvas, value_at}
use Rattle.raster.specs.Encoding.{Subrect, runs, rre_subrect_bytes, form}
use Rattle.joined_runs.specs.declared.rect_form.RectForm.TheVariants.{Joined}
use Rattle.joined_runs.specs.Joined.{joined_runs, hextile_bytes_as, shorter, form_of}
use Rattle.joined_runs.proofs.Counts.{joined_few}

pub one_subrect_len : (format : PixelFormat) (s : Subrect) → length (rre_subrect_bytes format s) ≡ pixel_len format + 8
one_subrect_len format s =
    let p : List ℕ = pixel_bytes format s.value in
    omega (arith, pixel_size format s.value, length-append p (to_be_bytes w16 s.area.x), length-append (p ++ to_be_bytes w16 s.area.x) (to_be_bytes w16 s.area.y), length-append (p ++ to_be_bytes w16 s.area.x ++ to_be_bytes w16 s.area.y) (to_be_bytes w16 s.area.w), length-append (p ++ to_be_bytes w16 s.area.x ++ to_be_bytes w16 s.area.y ++ to_be_bytes w16 s.area.w) (to_be_bytes w16 s.area.h))

pub subrects_len : (format : PixelFormat) (ss : List Subrect) → length (flat_map (rre_subrect_bytes format) ss) ≡ (pixel_len format + 8) * length ss
subrects_len format [] = omega arith
subrects_len format (s ∷ ss) =
    let n : ℕ = pixel_len format + 8 in
    let rest : length (flat_map (rre_subrect_bytes format) ss) ≡ n * length ss = subrects_len format ss in
    let sizes : n * (length ss + 1) ≡ n * length ss + n = omega arith in
    omega (arith, length-append (rre_subrect_bytes format s) (flat_map (rre_subrect_bytes format) ss), one_subrect_len format s, rest, sizes)

-- The bytes of a rectangle in RRE are those of its head and of its subrectangles.
pub rre_len : (format : PixelFormat) (background : ℕ) (ss : List Subrect) → length (to_be_bytes w32 (length ss) ++ pixel_bytes format background ++ flat_map (rre_subrect_bytes format) ss) ≡ 4 + pixel_len format + (pixel_len format + 8) * length ss
rre_len format background ss =
    omega (arith, pixel_size format background, length-append (to_be_bytes w32 (length ss)) (pixel_bytes format background), length-append (to_be_bytes w32 (length ss) ++ pixel_bytes format background) (flat_map (rre_subrect_bytes format) ss), subrects_len format ss)

shorter_by : (b : Bool) (xs ys : List ℕ) → (b ≡ true → length xs ≤ length ys) → length (cond b xs ys) ≤ length ys
shorter_by true xs ys f = f refl
shorter_by false xs ys f = omega arith

pub shorter_is : (xs ys : List ℕ) → length (shorter xs ys) ≤ length ys
shorter_is xs ys =
    shorter_by (nat_le (length xs) (length ys)) xs ys (λ e. elim (cases_lt (length ys) (length xs)) [
      | inl lt ↦ let f : nat_le (length xs) (length ys) ≡ false = lt-leb (length xs) (length ys) lt in let g : true ≡ false = sym e ∙ f in absurd cc
      | inr ge ↦ omega arith
    ])

pub joined_shorter : (encoding : Encoding) (format : PixelFormat) (w h : ℕ) (values : List ℕ) → length (form_of Joined encoding format w h values) ≤ length (form encoding format w h values)
joined_shorter Raw format w h values = omega arith
joined_shorter Rre format w h values =
    let canvas : Canvas = value_at w values in
    let ss : List Subrect = joined_runs canvas (canvas 0 0) w h in
    let rs : List Subrect = runs canvas w h in
    let few : length ss ≤ length rs = joined_few canvas (canvas 0 0) w h in
    let more : (pixel_len format + 8) * length ss ≤ (pixel_len format + 8) * length rs = mul-le-mul_left (pixel_len format + 8) few in
    omega (arith, more, rre_len format (canvas 0 0) ss, rre_len format (canvas 0 0) rs)
joined_shorter Hextile format w h values = shorter_is (hextile_bytes_as Joined format w h (value_at w values)) (form Hextile format w h values)
