-- How long a form is, and when it saves bytes. `encode` stops where Raw is as short.
use Rattle.std.proofs.Common.{◌≡◌, ℕ, true, false, List, [], ◌∷◌, ◌++◌, length, take, drop, ◌+◌, ◌-◌, ◌*◌, ◌/◌, ◌<◌, ◌≤◌, refl, sym, ap, ◌∙◌, append_assoc, length-append, arith}
use Rattle.std.specs.List.{flat_map}
use Rattle.std.specs.Int.{w16, w32, to_be_bytes}
use Rattle.std.proofs.lemmas.Bool.{lt-ltb, le-ltb}
use Rattle.std.proofs.lemmas.List.{length-take, take-append-le, take_at, drop_at, take-append-drop}
use Rattle.std.proofs.Math.Nat.{mul-div_cancel_left}
use Rattle.pixel_format.specs.PixelFormat.{PixelFormat, pixel_len, pixel_bytes}
use Rattle.pixel_format.proofs.Pixels.{pixel_size}
use Rattle.raster.specs.declared.encoding.Encoding.TheVariants.{Rre}
use Rattle.raster.specs.Screen.{value_at}
use Rattle.raster.specs.Encoding.{Subrect, raw_bytes, rre_subrect_bytes, runs}
use Rattle.joined_runs.specs.declared.rect_form.RectForm.{RectForm}
use Rattle.joined_runs.specs.declared.rect_form.RectForm.TheVariants.{OfRows, Joined}
use Rattle.joined_runs.specs.Joined.{written, form_of, saves_bytes_as}
use Rattle.rre_codec.proofs.RunsPut.{subrect_len}

raw_len : (format : PixelFormat) (values : List ℕ) → length (raw_bytes format values) ≡ length values * pixel_len format
raw_len format [] = omega arith
raw_len format (v ∷ vs) =
    let p : ℕ = pixel_len format in
    let rest : length (raw_bytes format vs) ≡ length vs * p = raw_len format vs in
    let sizes : (length vs + 1) * p ≡ length vs * p + p = omega arith in
    omega (arith, length-append (pixel_bytes format v) (raw_bytes format vs), pixel_size format v, rest, sizes)

pub one_len : (format : PixelFormat) (s : Subrect) → length (rre_subrect_bytes format s) ≡ subrect_len format
one_len format s =
    let p : List ℕ = pixel_bytes format s.value in
    let x : List ℕ = to_be_bytes w16 s.area.x in
    let y : List ℕ = to_be_bytes w16 s.area.y in
    let w : List ℕ = to_be_bytes w16 s.area.w in
    let h : List ℕ = to_be_bytes w16 s.area.h in
    omega (arith, pixel_size format s.value, length-append p x, length-append (p ++ x) y, length-append (p ++ x ++ y) w, length-append (p ++ x ++ y ++ w) h)

all_len : (format : PixelFormat) (ss : List Subrect) → length (flat_map (rre_subrect_bytes format) ss) ≡ subrect_len format * length ss
all_len format [] = omega arith
all_len format (s ∷ ss) =
    let n : ℕ = subrect_len format in
    let rest : length (flat_map (rre_subrect_bytes format) ss) ≡ n * length ss = all_len format ss in
    omega (arith, length-append (rre_subrect_bytes format s) (flat_map (rre_subrect_bytes format) ss), one_len format s, rest)

-- How long a form is after what comes before its subrectangles.
pub behind_len : (format : PixelFormat) (front : List ℕ) (ss : List Subrect) → length (front ++ flat_map (rre_subrect_bytes format) ss) ≡ length front + subrect_len format * length ss
behind_len format front ss = omega (arith, length-append front (flat_map (rre_subrect_bytes format) ss), all_len format ss)

-- And after a number's place and the background.
pub head_len : (format : PixelFormat) (out : List ℕ) (v : ℕ) (ss : List Subrect) → 4 ≤ length out → length (take 4 out ++ pixel_bytes format v ++ flat_map (rre_subrect_bytes format) ss) ≡ 4 + pixel_len format + subrect_len format * length ss
head_len format out v ss le =
    let p : List ℕ = pixel_bytes format v in
    omega (arith, behind_len format (take 4 out ++ p) ss, length-append (take 4 out) p, length-take 4 out, pixel_size format v)

-- The subrectangles that are written.
abbrev pub subrects : RectForm → ℕ → ℕ → List ℕ → List Subrect
subrects form w h values = written form (value_at w values) w h (runs (value_at w values) w h)

pub rre_is : (form : RectForm) (format : PixelFormat) (w h : ℕ) (values : List ℕ)
    → form_of form Rre format w h values ≡ to_be_bytes w32 (length (subrects form w h values)) ++ pixel_bytes format (value_at w values 0 0) ++ flat_map (rre_subrect_bytes format) (subrects form w h values)
rre_is OfRows format w h values = refl
rre_is Joined format w h values = refl

pub rre_len : (form : RectForm) (format : PixelFormat) (w h : ℕ) (values : List ℕ) → length (form_of form Rre format w h values) ≡ 4 + pixel_len format + subrect_len format * length (subrects form w h values)
rre_len form format w h values =
    let ss : List Subrect = subrects form w h values in
    let p : List ℕ = pixel_bytes format (value_at w values 0 0) in
    let n : List ℕ = to_be_bytes w32 (length ss) in
    omega (arith, ap length (rre_is form format w h values), length-append n p, length-append (n ++ p) (flat_map (rre_subrect_bytes format) ss), all_len format ss, pixel_size format (value_at w values 0 0))

-- It is shorter than Raw, or it isn't.
pub rre_saves : (form : RectForm) (format : PixelFormat) (w h end : ℕ) (values : List ℕ) → end ≡ 4 + pixel_len format + subrect_len format * length (subrects form w h values) → end < length values * pixel_len format → saves_bytes_as form Rre format w h values ≡ true
rre_saves form format w h end values e lt = lt-ltb (length (form_of form Rre format w h values)) (length (raw_bytes format values)) (omega (arith, rre_len form format w h values, raw_len format values))

pub rre_saves_nothing : (form : RectForm) (format : PixelFormat) (w h : ℕ) (values : List ℕ) → length values * pixel_len format ≤ 4 + pixel_len format + subrect_len format * length (subrects form w h values) → saves_bytes_as form Rre format w h values ≡ false
rre_saves_nothing form format w h values le = le-ltb (length (form_of form Rre format w h values)) (length (raw_bytes format values)) (omega (arith, rre_len form format w h values, raw_len format values))

-- The number of subrectangles, from where they end.
pub count_by_len : (format : PixelFormat) (head n : ℕ) → (head + subrect_len format * n - head) / subrect_len format ≡ n
count_by_len format head n =
    let size : ℕ = subrect_len format in
    let left : head + size * n - head ≡ size * n = omega arith in
    rw left (mul-div_cancel_left n (omega arith))

-- The number is put over what stood in front.
pub number_in_front : (number rest now old more : List ℕ) (end : ℕ) → length number ≡ 4 → length old ≡ 4 → end ≤ length now → take end now ≡ old ++ rest
    → take end (number ++ drop 4 (now ++ more)) ≡ number ++ rest
number_in_front number rest now old more end four before le e =
    let front : take end (now ++ more) ≡ old ++ rest = take-append-le end now more le ∙ e in
    let size : length (old ++ rest) ≡ end = ap length (sym e) ∙ omega (arith, length-take end now) in
    let split : now ++ more ≡ (old ++ rest) ++ drop end (now ++ more) = sym (take-append-drop end (now ++ more)) ∙ ap (λ t. t ++ drop end (now ++ more)) front in
    let behind : drop 4 (now ++ more) ≡ rest ++ drop end (now ++ more) = ap (drop 4) (split ∙ append_assoc old rest (drop end (now ++ more))) ∙ drop_at old (rest ++ drop end (now ++ more)) 4 before in
    let whole : number ++ drop 4 (now ++ more) ≡ (number ++ rest) ++ drop end (now ++ more) = ap (λ t. number ++ t) behind ∙ sym (append_assoc number rest (drop end (now ++ more))) in
    ap (take end) whole ∙ take_at (number ++ rest) (drop end (now ++ more)) end (omega (arith, length-append number rest, length-append old rest, size))
