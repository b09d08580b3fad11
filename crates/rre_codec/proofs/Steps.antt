-- What the bytes that are looked at together lead to. A reader looks at a whole field, and its reading goes byte by
-- byte.
use Rattle.std.proofs.Common.{◌≡◌, ℕ, zero, suc, ◌+◌, ◌-◌, ◌<◌, ◌≤◌, true, false, not, cond, Bool, List, [], ◌∷◌, ◌++◌, length, take, drop, refl, sym, ap, ◌∙◌, arith}
use Rattle.std.specs.Int.{w8, w16, w32, byte_len, from_be_bytes}
use Rattle.std.specs.Prelude.{◌==◌}
use Rattle.std.proofs.lemmas.List.{length-take, length-drop, take-append-drop}
use Rattle.pixel_format.specs.PixelFormat.{PixelFormat, pixel_len, pixel_of}
use Rattle.byte_reading.specs.Reading.{Reading, Done, Faulty, ◌>>=◌, after, taken, times, unless, u32, Spells}
use Rattle.fault.specs.declared.kinds.Fault.TheVariants.{SubrectOutside}
use Rattle.byte_reading.proofs.ReadingLaws.{after-append, after_bind, after_bind_open}
use Rattle.raster.specs.declared.rect.Rect.{Rect}
use Rattle.raster.specs.Screen.{Canvas, LooksLike, fill, is_within, kept}
use Rattle.raster.proofs.Kept.{kept_fill}
use Rattle.raster.specs.Encoding.{Subrect, Drawing, drawn, after_subrects, pixel, rect, rect_in, rre, rre_subrect}
use Rattle.raster.proofs.Rows.{fill_inside}
use Rattle.raster.proofs.RreLaws.{rre_goes_on, with_subrect}
use Rattle.raster.proofs.FixedLength.{Needs, needs_first, needs_both, exactly_needs, needs_takes, exactly_pixel, exactly_u32, exactly_rect, pixel_says, u32_says, rect_says}
use Rattle.rre_codec.specs.declared.stage.Stage.{Stage}
use Rattle.rre_codec.specs.declared.stage.Stage.TheVariants.{Head, Subrects, Outside}
use Rattle.rre_codec.specs.Ahead.{to_come, next_form, needed, is_open}

-- A pixel has at most 4 bytes.
few : (eight sixteen : Bool) → byte_len (cond eight w8 (cond sixteen w16 w32)) ≤ 4
few true sixteen = omega arith
few false true = omega arith
few false false = omega arith

pub pixel_few : (format : PixelFormat) → pixel_len format ≤ 4
pixel_few format = few (format.bits_per_pixel == 8) (format.bits_per_pixel == 16)

-- ---- what is needed

head_needs : (format : PixelFormat) (w h : ℕ) → Needs (4 + pixel_len format) (rre format w h)
head_needs format w h =
    let behind : ℕ → ℕ → Reading Drawing = λ n background. times n (rre_subrect format w h) >>= λ subrects. Done (record { background = background; subrects = subrects }) in
    needs_both 4 (pixel_len format) u32 (λ count. pixel format >>= behind count) exactly_u32 (λ count. needs_first (pixel_len format) (pixel format) (behind count) (exactly_needs (pixel_len format) (pixel format) (exactly_pixel format)))

subrect_needs : (format : PixelFormat) (w h : ℕ) → Needs (pixel_len format + 8) (rre_subrect format w h)
subrect_needs format w h =
    let end : ℕ → Rect → Reading Subrect = λ value area. unless (not (is_within area w h)) SubrectOutside (Done (record { value = value; area = area })) in
    needs_both (pixel_len format) 8 (pixel format) (λ value. rect >>= end value) (exactly_pixel format) (λ value. needs_first 8 rect (end value) (exactly_needs 8 rect exactly_rect))

come_needs : (format : PixelFormat) (w h : ℕ) (sofar : Drawing) (n : ℕ) → Needs (pixel_len format + 8) (to_come format w h sofar (suc n))
come_needs format w h sofar n =
    let one : Reading Subrect = rre_subrect format w h in
    let first : Subrect → Reading (List Subrect) = λ t. times n one >>= λ others. Done (t ∷ others) in
    let end : List Subrect → Reading Drawing = λ more. Done (record { background = sofar.background; subrects = sofar.subrects ++ more }) in
    needs_first (pixel_len format + 8) (one >>= first) end (needs_first (pixel_len format + 8) one first (subrect_needs format w h))

-- An open stage needs the bytes that are looked at together.
pub stage_needs : (format : PixelFormat) (w h : ℕ) (stage : Stage) (sofar : Drawing) → is_open stage ≡ true → Needs (needed format stage) (next_form format w h stage sofar)
stage_needs format w h Head sofar e = head_needs format w h
stage_needs format w h (Subrects zero) sofar e = absurd cc
stage_needs format w h (Subrects (suc n)) sofar e = come_needs format w h sofar n
stage_needs format w h Outside sofar e = absurd cc

-- Some bytes are looked at.
pub needs_some : (format : PixelFormat) (stage : Stage) → 0 < needed format stage
needs_some format Head = omega arith
needs_some format (Subrects count) = omega arith
needs_some format Outside = omega arith

-- And takes them all.
pub stage_takes : (format : PixelFormat) (w h : ℕ) (stage : Stage) (sofar : Drawing) (bs : List ℕ) → is_open stage ≡ true → length bs ≡ needed format stage → taken (next_form format w h stage sofar) bs ≡ length bs
stage_takes format w h stage sofar bs e len = needs_takes (needed format stage) (next_form format w h stage sofar) bs (stage_needs format w h stage sofar e) (omega arith)

-- ---- what they lead to

-- The head.
pub head_read : (format : PixelFormat) (w h : ℕ) (bs : List ℕ) → length bs ≡ 4 + pixel_len format
    → after (rre format w h) bs ≡ to_come format w h (record { background = pixel_of format (drop 4 bs); subrects = [] }) (from_be_bytes w32 (take 4 bs))
head_read format w h bs e =
    let xs : List ℕ = take 4 bs in
    let ys : List ℕ = drop 4 bs in
    let four : length xs ≡ 4 = omega (arith, length-take 4 bs) in
    let rest : length ys ≡ pixel_len format = omega (arith, length-drop 4 bs) in
    let count : ℕ = from_be_bytes w32 xs in
    let a : Spells u32 xs count = u32_says xs four in
    let b : Spells (pixel format) ys (pixel_of format ys) = pixel_says format ys rest in
    let behind : ℕ → ℕ → Reading Drawing = λ n background. times n (rre_subrect format w h) >>= λ subrects. Done (record { background = background; subrects = subrects }) in
    ap (after (rre format w h)) (sym (take-append-drop 4 bs))
    ∙ (after-append (rre format w h) xs ys
    ∙ (ap (λ r. after r ys) (after_bind u32 (λ n. pixel format >>= behind n) xs count a.whole a.says)
    ∙ after_bind (pixel format) (behind count) ys (pixel_of format ys) b.whole b.says))

-- A subrectangle's bytes, up to the judgement.
judged : (format : PixelFormat) (w h : ℕ) (bs : List ℕ) → length bs ≡ pixel_len format + 8
    → (taken (rre_subrect format w h) bs ≡ length bs) × (after (rre_subrect format w h) bs ≡ unless (not (is_within (rect_in (drop (pixel_len format) bs)) w h)) SubrectOutside (Done (record { value = pixel_of format (take (pixel_len format) bs); area = rect_in (drop (pixel_len format) bs) })))
judged format w h bs e =
    let p : ℕ = pixel_len format in
    let xs : List ℕ = take p bs in
    let ys : List ℕ = drop p bs in
    let front : length xs ≡ p = omega (arith, length-take p bs) in
    let rest : length ys ≡ 8 = omega (arith, length-drop p bs) in
    let a : Spells (pixel format) xs (pixel_of format xs) = pixel_says format xs front in
    let b : Spells rect ys (rect_in ys) = rect_says ys rest in
    let end : ℕ → Rect → Reading Subrect = λ value area. unless (not (is_within area w h)) SubrectOutside (Done (record { value = value; area = area })) in (
      needs_takes (p + 8) (rre_subrect format w h) bs (subrect_needs format w h) (omega arith),
      ap (after (rre_subrect format w h)) (sym (take-append-drop p bs))
          ∙ (after-append (rre_subrect format w h) xs ys
          ∙ (ap (λ r. after r ys) (after_bind (pixel format) (λ value. rect >>= end value) xs (pixel_of format xs) a.whole a.says)
          ∙ after_bind rect (end (pixel_of format xs)) ys (rect_in ys) b.whole b.says)),
    )

abbrev pub subrect_in : PixelFormat → List ℕ → Subrect
subrect_in format bs = record { value = pixel_of format (take (pixel_len format) bs); area = rect_in (drop (pixel_len format) bs) }

-- One that lies inside.
inside_next : (format : PixelFormat) (w h : ℕ) (sofar : Drawing) (n : ℕ) (bs : List ℕ) → length bs ≡ pixel_len format + 8 → is_within (subrect_in format bs).area w h ≡ true
    → after (to_come format w h sofar (suc n)) bs ≡ to_come format w h (with_subrect sofar (subrect_in format bs)) n
inside_next format w h sofar n bs e ok =
    let j = judged format w h bs e in
    rre_goes_on format w h sofar n bs (subrect_in format bs) j.0 (j.1 ∙ ap (λ b. unless (not b) SubrectOutside (Done (subrect_in format bs))) ok)

-- One that doesn't.
outside_next : (format : PixelFormat) (w h : ℕ) (sofar : Drawing) (n : ℕ) (bs : List ℕ) → length bs ≡ pixel_len format + 8 → is_within (subrect_in format bs).area w h ≡ false
    → after (to_come format w h sofar (suc n)) bs ≡ Faulty SubrectOutside
outside_next format w h sofar n bs e out =
    let one : Reading Subrect = rre_subrect format w h in
    let j = judged format w h bs e in
    let faulty : after one bs ≡ Faulty SubrectOutside = j.1 ∙ ap (λ b. unless (not b) SubrectOutside (Done (subrect_in format bs))) out in
    let first : Subrect → Reading (List Subrect) = λ t. times n one >>= λ others. Done (t ∷ others) in
    let end : List Subrect → Reading Drawing = λ more. Done (record { background = sofar.background; subrects = sofar.subrects ++ more }) in
    let inner : after (one >>= first) bs ≡ Faulty SubrectOutside = after_bind_open one first bs j.0 ∙ ap (λ (r : Reading Subrect). r >>= first) faulty in
    let all : taken (one >>= first) bs ≡ length bs = needs_takes (pixel_len format + 8) (one >>= first) bs (needs_first (pixel_len format + 8) one first (subrect_needs format w h)) (omega arith) in
    after_bind_open (one >>= first) end bs all ∙ ap (λ (r : Reading (List Subrect)). r >>= end) inner

pub inside_read : (format : PixelFormat) (w h : ℕ) (sofar : Drawing) (left : ℕ) (bs : List ℕ) → 0 < left → length bs ≡ pixel_len format + 8 → is_within (subrect_in format bs).area w h ≡ true
    → after (to_come format w h sofar left) bs ≡ to_come format w h (with_subrect sofar (subrect_in format bs)) (left - 1)
inside_read format w h sofar zero bs lt e ok = absurd (omega arith)
inside_read format w h sofar (suc n) bs lt e ok = let one : suc n - 1 ≡ n = omega arith in rw one (inside_next format w h sofar n bs e ok)

pub outside_read : (format : PixelFormat) (w h : ℕ) (sofar : Drawing) (left : ℕ) (bs : List ℕ) → 0 < left → length bs ≡ pixel_len format + 8 → is_within (subrect_in format bs).area w h ≡ false
    → after (to_come format w h sofar left) bs ≡ Faulty SubrectOutside
outside_read format w h sofar zero bs lt e out = absurd (omega arith)
outside_read format w h sofar (suc n) bs lt e out = outside_next format w h sofar n bs e out

-- ---- what is drawn

pub background_drawn : (keeps : ℕ → ℕ) (w h v : ℕ) (old new : Canvas) → LooksLike w h new (fill (record { x = 0; y = 0; w = w; h = h }) (keeps v) old) → LooksLike w h new (kept keeps (drawn (record { background = v; subrects = [] })))
background_drawn keeps w h v old new shows x y lx ly = shows x y lx ly ∙ fill_inside 0 0 w h (keeps v) old x y (omega arith) (omega arith) (omega arith) (omega arith)

after_one : (canvas : Canvas) (ss : List Subrect) (s : Subrect) (x y : ℕ) → after_subrects canvas (ss ++ s ∷ []) x y ≡ fill s.area s.value (after_subrects canvas ss) x y
after_one canvas [] s x y = refl
after_one canvas (t ∷ ss) s x y = after_one (fill t.area t.value canvas) ss s x y

fill_same : (area : Rect) (v : ℕ) (a b : Canvas) (x y : ℕ) → a x y ≡ b x y → fill area v a x y ≡ fill area v b x y
fill_same area v a b x y e = ap (λ u. fill area v (λ _ _. u) x y) e

pub subrect_drawn : (keeps : ℕ → ℕ) (w h : ℕ) (sofar : Drawing) (s : Subrect) (old new : Canvas) → LooksLike w h old (kept keeps (drawn sofar)) → LooksLike w h new (fill s.area (keeps s.value) old)
    → LooksLike w h new (kept keeps (drawn (with_subrect sofar s)))
subrect_drawn keeps w h sofar s old new before shows x y lx ly =
    shows x y lx ly
    ∙ (fill_same s.area (keeps s.value) old (kept keeps (drawn sofar)) x y (before x y lx ly)
    ∙ (kept_fill keeps s.area s.value (drawn sofar) x y ∙ ap keeps (sym (after_one (λ x y. sofar.background) sofar.subrects s x y))))
