-- Bytes that lead from one way of reading to another. Each part of a tile is shown to be read by such steps.
use Rattle.std.proofs.Common.{◌≡◌, ℕ, suc, ◌+◌, ◌≤◌, Bool, true, false, List, [], ◌∷◌, ◌++◌, length, length-append, take, drop, Option, refl, sym, ap, ◌∙◌, append_assoc, arith}
use mathlib.Core.Path.{fun_ext}
use Rattle.std.proofs.lemmas.List.{take-append-drop, length-take}
use Rattle.pixel_format.specs.PixelFormat.{PixelFormat, pixel_len, pixel_of}
use Rattle.byte_reading.specs.Reading.{Reading, Done, Faulty, Want, ◌>>=◌, after, taken, times, Spells}
use Rattle.byte_reading.proofs.ReadingLaws.{after-append, taken-append, taken-nil, bind_assoc}
use Rattle.raster.specs.Encoding.{pixel, specified}
use Rattle.raster.proofs.FixedLength.{pixel_says}
use Rattle.raster.proofs.Spellings.{spells_done}
use Rattle.raster.specs.Reader.{Goes}
use Rattle.hextile_codec.specs.Ahead.{colour_in, colour_len}

pub goes_none : {A : Type 0} (form : Reading A) → Goes form [] form
goes_none form = record { all = taken-nil form; leads = refl }

pub goes_then : {A : Type 0} (a b c : Reading A) (xs ys : List ℕ) → Goes a xs b → Goes b ys c → Goes a (xs ++ ys) c
goes_then a b c xs ys f g =
    record {
      all = taken-append a xs ys f.all ∙ (ap (λ t. length xs + taken t ys) f.leads ∙ omega (arith, g.all, length-append xs ys));
      leads = after-append a xs ys ∙ (ap (λ t. after t ys) f.leads ∙ g.leads);
    }

-- By the bytes in front and those after.
pub goes_split : {A : Type 0} (a b c : Reading A) (n : ℕ) (bs : List ℕ) → Goes a (take n bs) b → Goes b (drop n bs) c → Goes a bs c
goes_split a b c n bs f g = rw (take-append-drop n bs) at (goes_then a b c (take n bs) (drop n bs) f g)

-- What comes first goes on under what comes after it.
pub goes_under : {A B : Type 0} (form rest : Reading A) (next : A → Reading B) (bs : List ℕ) → Goes form bs rest → Goes (form >>= next) bs (rest >>= next)
goes_under form rest next [] g = let same : form ≡ rest = g.leads in rw same (goes_none (rest >>= next))
goes_under (Done x) rest next (b ∷ bs) g = absurd (omega (arith, g.all))
goes_under (Faulty f) rest next (b ∷ bs) g = absurd (omega (arith, g.all))
goes_under (Want more) rest next (b ∷ bs) g =
    let h = goes_under (more b) rest next bs (record { all = omega (arith, g.all); leads = g.leads }) in
    record { all = ap suc h.all; leads = h.leads }

pub goes_bind : {A B : Type 0} (form : Reading A) (next : A → Reading B) (bs : List ℕ) (x : A) → Spells form bs x → Goes (form >>= next) bs (next x)
goes_bind form next bs x s = goes_under form (Done x) next bs (record { all = s.whole; leads = s.says })

pub goes_to : {A : Type 0} (a b c : Reading A) (bs : List ℕ) → Goes a bs b → b ≡ c → Goes a bs c
goes_to a b c bs g e = record { all = g.all; leads = g.leads ∙ e }

-- One of several things was read, and what is read of all goes on.
pub goes_times : {A B : Type 0} (one : Reading A) (end : List A → Reading B) (n : ℕ) (before : List A) (bs : List ℕ) (x : A) → Spells one bs x
    → Goes (times (suc n) one >>= λ more. end (before ++ more)) bs (times n one >>= λ more. end ((before ++ x ∷ []) ++ more))
goes_times {A} {B} one end n before bs x s =
    let first : A → Reading (List A) = λ u. times n one >>= λ others. Done (u ∷ others) in
    let last : List A → Reading B = λ more. end (before ++ more) in
    let split : (times (suc n) one >>= last) ≡ (one >>= λ u. (first u >>= last)) = bind_assoc one first last in
    let next : (first x >>= last) ≡ (times n one >>= λ more. end ((before ++ x ∷ []) ++ more)) =
    bind_assoc (times n one) (λ others. Done (x ∷ others)) last ∙ ap (λ (f : List A → Reading B). times n one >>= f) (fun_ext (λ more. ap end (sym (append_assoc before (x ∷ []) more)))) in
    rw split (goes_to (one >>= λ u. (first u >>= last)) (first x >>= last) (times n one >>= λ more. end ((before ++ x ∷ []) ++ more)) bs (goes_bind one (λ u. (first u >>= last)) bs x s) next)

-- ---- fields

pub spells_colour : (format : PixelFormat) (given : Bool) (carried : Option ℕ) (bs : List ℕ) → colour_len format given ≤ length bs → Spells (specified format given carried) (take (colour_len format given) bs) (colour_in format given carried bs)
spells_colour format true carried bs le =
    let p : ℕ = pixel_len format in
    let s = goes_bind (pixel format) (λ value. Done (Option.Some value)) (take p bs) (pixel_of format (take p bs)) (pixel_says format (take p bs) (omega (arith, length-take p bs))) in
    record { whole = s.all; says = s.leads }
spells_colour format false carried bs le = spells_done carried

-- After the bytes that came first.
pub goes_behind : {A : Type 0} (a c : Reading A) (xs ys : List ℕ) → Goes a (xs ++ ys) c → Goes (after a xs) ys c
goes_behind a c [] ys g = g
goes_behind (Done x) c (b ∷ xs) ys g = absurd (omega (arith, g.all))
goes_behind (Faulty f) c (b ∷ xs) ys g = absurd (omega (arith, g.all))
goes_behind (Want more) c (b ∷ xs) ys g = goes_behind (more b) c xs ys (record { all = omega (arith, g.all); leads = g.leads })
