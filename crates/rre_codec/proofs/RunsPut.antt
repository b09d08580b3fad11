-- What is written of runs so far. `encode` writes them run by run.
use Rattle.std.proofs.Common.{◌≡◌, ℕ, List, [], ◌∷◌, ◌++◌, length, take, get_or, suc, ◌-◌, ◌+◌, ◌*◌, ◌<◌, ◌≤◌, refl, sym, ap, ◌∙◌, append_assoc, length-append, arith}
use Rattle.std.specs.List.{flat_map, range_with_len}
use Rattle.std.proofs.lemmas.List.{append-nil}
use Rattle.pixel_format.specs.PixelFormat.{PixelFormat, pixel_len}
use Rattle.raster.specs.Screen.{Canvas, value_at}
use Rattle.raster.specs.Encoding.{Subrect, rre_subrect_bytes, run_from, runs, runs_of_row}
use Rattle.raster.proofs.Runs.{run_some, run_within}
use Rattle.raster.proofs.RowScan.{IsFresh, runs_behind, found_other, found_background}
use Rattle.joined_runs.specs.declared.rect_form.RectForm.{RectForm}
use Rattle.joined_runs.specs.Joined.{written}
use Rattle.joined_runs.proofs.WrittenParts.{written_first, written_append}

-- How many bytes a subrectangle has.
abbrev pub subrect_len : PixelFormat → ℕ
subrect_len format = pixel_len format + 8

-- Of these subrectangles all but the rest stand in out, from index used up to end.
pub record HasPut (format : PixelFormat) (all rest : List Subrect) (before out : List ℕ) (used end : ℕ) : Type 0 where
  pub put : List Subrect
  pub split : all ≡ put ++ rest
  pub count : end ≡ used + subrect_len format * length put
  pub bytes : take end out ≡ take used before ++ flat_map (rre_subrect_bytes format) put

pub put_none : (format : PixelFormat) (all : List Subrect) (before : List ℕ) (used : ℕ) → HasPut format all all before before used used
put_none format all before used = record { put = []; split = refl; count = omega arith; bytes = sym (append-nil (take used before)) }

flat_map_append : {A B : Type 0} (f : A → List B) (xs ys : List A) → flat_map f (xs ++ ys) ≡ flat_map f xs ++ flat_map f ys
flat_map_append f [] ys = refl
flat_map_append f (x ∷ xs) ys = ap (λ t. f x ++ t) (flat_map_append f xs ys) ∙ sym (append_assoc (f x) (flat_map f xs) (flat_map f ys))

-- Further ones are put.
pub put_more : (format : PixelFormat) (all more rest : List Subrect) (before out new : List ℕ) (used end : ℕ)
    → HasPut format all (more ++ rest) before out used end → take (end + subrect_len format * length more) new ≡ take end out ++ flat_map (rre_subrect_bytes format) more
    → HasPut format all rest before new used (end + subrect_len format * length more)
put_more format all more rest before out new used end h e =
    let n = length-append h.put more in
    record {
      put = h.put ++ more;
      split = h.split ∙ sym (append_assoc h.put more rest);
      count = omega (arith, h.count, ap (λ k. subrect_len format * k) n);
      bytes = e ∙ (ap (λ t. t ++ flat_map (rre_subrect_bytes format) more) h.bytes ∙ (append_assoc (take used before) (flat_map (rre_subrect_bytes format) h.put) (flat_map (rre_subrect_bytes format) more) ∙ ap (λ t. take used before ++ t) (sym (flat_map_append (rre_subrect_bytes format) h.put more))));
    }

-- All together they have at least the bytes up to the end of those that are next.
pub put_at_least : (format : PixelFormat) (all more rest : List Subrect) (before out : List ℕ) (used end : ℕ) → HasPut format all (more ++ rest) before out used end → end + subrect_len format * length more ≤ used + subrect_len format * length all
put_at_least format all more rest before out used end h =
    let n : length all ≡ length h.put + (length more + length rest) = ap length h.split ∙ (length-append h.put (more ++ rest) ∙ ap (λ k. length h.put + k) (length-append more rest)) in
    omega (arith, h.count, ap (λ k. subrect_len format * k) n)

-- One more is put.
pub put_one : (format : PixelFormat) (all rest : List Subrect) (before out new : List ℕ) (used end stop : ℕ) (s : Subrect)
    → HasPut format all (s ∷ rest) before out used end → stop ≡ end + subrect_len format → take stop new ≡ take end out ++ rre_subrect_bytes format s → HasPut format all rest before new used stop
put_one format all rest before out new used end stop s h e b =
    let one : stop ≡ end + subrect_len format * 1 = omega arith in
    rw one
    (put_more format all (s ∷ []) rest before out new used end h (rw (← one) (b ∙ ap (λ t. take end out ++ t) (sym (append-nil (rre_subrect_bytes format s))))))

-- What is written for the run at a fresh position is put, if it is not of the background.
pub row_puts : (format : PixelFormat) (runs : RectForm) (canvas : Canvas) (background w h y x v len : ℕ) (all : List Subrect) (before out new : List ℕ) (used end stop : ℕ) → x < w → IsFresh canvas y x → v ≡ canvas x y → len ≡ (run_from canvas w y x).area.w
    → HasPut format all (written runs canvas w h (runs_behind canvas background w y x)) before out used end → (v ≡ background → ⊥)
    → stop ≡ end + subrect_len format * length (written runs canvas w h (record { value = v; area = record { x = x; y = y; w = len; h = 1 } } ∷ []))
    → take stop new ≡ take end out ++ flat_map (rre_subrect_bytes format) (written runs canvas w h (record { value = v; area = record { x = x; y = y; w = len; h = 1 } } ∷ []))
    → HasPut format all (written runs canvas w h (runs_behind canvas background w y (x + len))) before new used stop
row_puts format runs canvas background w h y x v len all before out new used end stop lx fresh is long put ne e b =
    let run : Subrect = run_from canvas w y x in
    let rest : List Subrect = runs_behind canvas background w y (x + run.area.w) in
    let here = rw (found_other canvas background w y x lx fresh (λ same. ne (is ∙ same))) at put in
    let split = rw (written_first canvas w h runs run rest) at here in
    let stop_is = rw (is, long) at e in
    let bytes = rw (is, long) at b in
    rw (long, stop_is) (put_more format all (written runs canvas w h (run ∷ [])) (written runs canvas w h rest) before out new used end split (rw stop_is at bytes))

pub row_skips : (format : PixelFormat) (runs : RectForm) (canvas : Canvas) (background w h y x v len : ℕ) (all : List Subrect) (before out : List ℕ) (used end : ℕ) → x < w → IsFresh canvas y x → v ≡ canvas x y → len ≡ (run_from canvas w y x).area.w
    → HasPut format all (written runs canvas w h (runs_behind canvas background w y x)) before out used end → v ≡ background → HasPut format all (written runs canvas w h (runs_behind canvas background w y (x + len))) before out used end
row_skips format runs canvas background w h y x v len all before out used end lx fresh is long put e =
    rw long (rw (found_background canvas background w y x lx fresh (sym is ∙ e)) at put)

-- A run has a pixel, and ends in its row.
pub run_fits : (canvas : Canvas) (w y x len : ℕ) → x < w → len ≡ (run_from canvas w y x).area.w → (0 < len) × (x + len ≤ w)
run_fits canvas w y x len lx long =
    let a = run_some canvas w y x lx in
    let b = run_within canvas w y x lx in
    (omega (arith, a, long), omega (arith, b, long))

-- There is no room for what is written for the run at a fresh position.
pub row_too_long : (format : PixelFormat) (runs : RectForm) (canvas : Canvas) (background w h y x v len : ℕ) (all : List Subrect) (before out : List ℕ) (used end : ℕ) → x < w → IsFresh canvas y x → v ≡ canvas x y → len ≡ (run_from canvas w y x).area.w
    → HasPut format all (written runs canvas w h (runs_behind canvas background w y x)) before out used end → (v ≡ background → ⊥)
    → end + subrect_len format * length (written runs canvas w h (record { value = v; area = record { x = x; y = y; w = len; h = 1 } } ∷ [])) ≤ used + subrect_len format * length all
row_too_long format runs canvas background w h y x v len all before out used end lx fresh is long put ne =
    let run : Subrect = run_from canvas w y x in
    let rest : List Subrect = runs_behind canvas background w y (x + run.area.w) in
    let here = rw (found_other canvas background w y x lx fresh (λ same. ne (is ∙ same))) at put in
    let split = rw (written_first canvas w h runs run rest) at here in
    rw (is, long) (put_at_least format all (written runs canvas w h (run ∷ [])) (written runs canvas w h rest) before out used end split)

-- ---- row after row

-- The runs of row y and of those below it.
abbrev pub runs_below : Canvas → ℕ → ℕ → ℕ → List Subrect
runs_below canvas w h y = flat_map (runs_of_row canvas (canvas 0 0) w) (range_with_len y (h - y))

pub below_all : (canvas : Canvas) (w h : ℕ) → runs canvas w h ≡ runs_below canvas w h 0
below_all canvas w h = let all : h - 0 ≡ h = omega arith in rw all refl

pub below_none : (canvas : Canvas) (w h y : ℕ) → h ≤ y → runs_below canvas w h y ≡ []
below_none canvas w h y le = let none : h - y ≡ 0 = omega arith in rw none refl

pub below_next : (canvas : Canvas) (w h y : ℕ) → y < h → runs_below canvas w h y ≡ runs_of_row canvas (canvas 0 0) w y ++ runs_below canvas w h (y + 1)
below_next canvas w h y lt = let next : h - y ≡ suc (h - (y + 1)) = omega arith in rw next refl

-- The background that stands first.
pub first_value : (values : List ℕ) (w : ℕ) → get_or values 0 0 ≡ value_at w values 0 0
first_value values w = let z : 0 * w + 0 ≡ 0 = omega arith in rw z refl

-- All are put.
pub put_all : (format : PixelFormat) (all : List Subrect) (before out : List ℕ) (used end : ℕ) → HasPut format all [] before out used end
    → (end ≡ used + subrect_len format * length all) × (take end out ≡ take used before ++ flat_map (rre_subrect_bytes format) all)
put_all format all before out used end h =
    let same : h.put ≡ all = sym (h.split ∙ append-nil h.put) in
    (rw same at h.count, rw same at h.bytes)

-- A row is put.
pub row_is_put : (format : PixelFormat) (form : RectForm) (canvas : Canvas) (w h y b : ℕ) (before out new : List ℕ) (used end stop : ℕ) → y < h → b ≡ canvas 0 0 → HasPut format (written form canvas w h (runs canvas w h)) (written form canvas w h (runs_below canvas w h y)) before out used end
    → stop ≡ end + subrect_len format * length (written form canvas w h (runs_of_row canvas b w y)) → take stop new ≡ take end out ++ flat_map (rre_subrect_bytes format) (written form canvas w h (runs_of_row canvas b w y))
    → HasPut format (written form canvas w h (runs canvas w h)) (written form canvas w h (runs_below canvas w h (y + 1))) before new used stop
row_is_put format form canvas w h y b before out new used end stop lt is put e bytes =
    let here = rw (below_next canvas w h y lt) at put in
    let split = rw (written_append canvas w h form (runs_of_row canvas (canvas 0 0) w y) (runs_below canvas w h (y + 1))) at here in
    let end_is = rw is at e in
    let says = rw is at bytes in
    rw end_is (put_more format (written form canvas w h (runs canvas w h)) (written form canvas w h (runs_of_row canvas (canvas 0 0) w y)) (written form canvas w h (runs_below canvas w h (y + 1))) before out new used end split (rw (← end_is) says))

-- There is no room for it.
pub row_no_room : (format : PixelFormat) (form : RectForm) (canvas : Canvas) (w h y b : ℕ) (before out : List ℕ) (used end : ℕ) → y < h → b ≡ canvas 0 0 → HasPut format (written form canvas w h (runs canvas w h)) (written form canvas w h (runs_below canvas w h y)) before out used end
    → end + subrect_len format * length (written form canvas w h (runs_of_row canvas b w y)) ≤ used + subrect_len format * length (written form canvas w h (runs canvas w h))
row_no_room format form canvas w h y b before out used end lt is put =
    let here = rw (below_next canvas w h y lt) at put in
    let split = rw (written_append canvas w h form (runs_of_row canvas (canvas 0 0) w y) (runs_below canvas w h (y + 1))) at here in
    rw is (put_at_least format (written form canvas w h (runs canvas w h)) (written form canvas w h (runs_of_row canvas (canvas 0 0) w y)) (written form canvas w h (runs_below canvas w h (y + 1))) before out used end split)
