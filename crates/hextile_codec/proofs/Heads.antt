-- The joined runs that begin in four rows, found by the bits of those that aren't joined to one above them.
use Rattle.std.proofs.Common.{◌≡◌, ℕ, Bool, true, false, ◌&&◌, not, cond, List, [], ◌∷◌, ◌++◌, length, map, get_or, refl, sym, ap, ◌∙◌, ◌+◌, ◌*◌, ◌/◌, ◌%◌, ◌<◌, ◌≤◌, append_assoc, arith}
use Rattle.std.specs.Prelude.{filter}
use Rattle.std.specs.List.{range_with_len}
use Rattle.std.specs.Int.{bit_at}
use Rattle.std.specs.Int.Bits.{bit_xor}
use Rattle.std.proofs.lemmas.List.{map-append}
use Rattle.std.proofs.lemmas.Nat.{xor_lt}
use Rattle.std.proofs.lemmas.Nat.Bits.{bit_at_xor}
use Rattle.std.proofs.Math.Nat.{mod-lt, mod-add-div'}
use Rattle.raster.specs.Screen.{Canvas}
use Rattle.raster.specs.Encoding.{Subrect}
use Rattle.joined_runs.specs.declared.rect_form.RectForm.TheVariants.{Joined}
use Rattle.joined_runs.specs.Found.{rows_below}
use Rattle.joined_runs.specs.Joined.{is_below, with_below, written}
use Rattle.hextile_codec.specs.declared.runs.Run.{Run}
use Rattle.hextile_codec.specs.declared.tile_marks.TileMarks.{TileMarks}
use Rattle.hextile_codec.specs.Bits.{bit_of}
use Rattle.hextile_codec.specs.TileKinds.{subrect_of}
use Rattle.hextile_codec.specs.Marks.{runs_of_rows}
use Rattle.hextile_codec.specs.Places.{AreJoins, joins_at}
use Rattle.hextile_codec.specs.TileMarks.{AreTileMarks}
use Rattle.hextile_codec.proofs.FourWords.{bit_here}
use Rattle.hextile_codec.proofs.LeftBits.{AreLeft, IsNext, listed_behind, next_listed}
use Rattle.hextile_codec.proofs.MarkedRuns.{all_behind, begin_marked, begins_at, run_at}

-- A list is filtered, mapped, filtered and mapped again.
listed_twice : (q : ℕ → Bool) (g : ℕ → Subrect) (r : Subrect → Bool) (f : Subrect → Subrect) (ps : List ℕ) → map f (filter r (map g (filter q ps))) ≡ map (λ p. f (g p)) (filter (λ p. q p && r (g p)) ps)
listed_twice q g r f [] = refl
listed_twice q g r f (p ∷ ps) = by_tests (q p) (r (g p)) refl (listed_twice q g r f ps)
  where
    by_tests : (b c : Bool) → r (g p) ≡ c → map f (filter r (map g (filter q ps))) ≡ map (λ p. f (g p)) (filter (λ p. q p && r (g p)) ps)
        → map f (filter r (map g (cond b (p ∷ filter q ps) (filter q ps)))) ≡ map (λ p. f (g p)) (cond (b && c) (p ∷ filter (λ p. q p && r (g p)) ps) (filter (λ p. q p && r (g p)) ps))
    by_tests true true e so = ap (λ d. map f (cond d (g p ∷ filter r (map g (filter q ps))) (filter r (map g (filter q ps))))) e ∙ ap (λ l. f (g p) ∷ l) so
    by_tests true false e so = ap (λ d. map f (cond d (g p ∷ filter r (map g (filter q ps))) (filter r (map g (filter q ps))))) e ∙ so
    by_tests false c e so = so

apart_bits : (a b : Bool) → (bit_of a + bit_of (a && b)) % 2 ≡ bit_of (a && not b)
apart_bits true true = refl
apart_bits true false = refl
apart_bits false true = refl
apart_bits false false = refl

module _ (canvas : Canvas) (background y : ℕ) where
  -- A run begins at position p that isn't joined to one above it.
  abbrev pub heads_at : ℕ → Bool
  heads_at p = begins_at canvas background y p && not (is_below canvas 16 (run_at canvas y p))

  -- That run, joined with those below it.
  abbrev pub joined_at : ℕ → Subrect
  joined_at p = with_below canvas 16 16 (run_at canvas y p)

  abbrev pub heads_behind : ℕ → List Subrect
  heads_behind = listed_behind heads_at joined_at

  pub all_heads_behind : heads_behind 0 ≡ written Joined canvas 16 16 (runs_of_rows canvas background 16 y 4)
  all_heads_behind =
      sym (listed_twice (begins_at canvas background y) (run_at canvas y) (λ run. not (is_below canvas 16 run)) (with_below canvas 16 16) (range_with_len 0 64)) ∙ ap (written Joined canvas 16 16) (all_behind canvas background y)

  -- With those from position p on these are all of the four rows.
  abbrev pub AreSoFar : List Run → List Run → ℕ → Type 0
  AreSoFar before now p = map subrect_of now ++ heads_behind p ≡ map subrect_of before ++ heads_behind 0

  -- The joined runs in front of position p are listed, and the bits from p on are left.
  pub record AreListed (before now : List Run) (begins : ℕ) : Type 0 where
    pub p : ℕ
    pub inside : p ≤ 64
    pub few : length now ≤ length before + p
    pub left : AreLeft heads_at p begins
    pub so_far : AreSoFar before now p

  same_subrect : (x i v len high : ℕ) (run : Subrect) → run.area.x ≡ x → run.area.y ≡ i → v ≡ run.value → len ≡ run.area.w → high ≡ 1 + rows_below canvas 16 16 run → subrect_of (record { value = v; x = x; y = i; len = len; high = high }) ≡ with_below canvas 16 16 run
  same_subrect x i v len high run a b d e f = rw (sym a, sym b, d, e, f) refl

  -- One more is listed.
  pub head_listed : (before now : List Run) (p first value len high : ℕ) → IsNext heads_at p first → value ≡ canvas (first % 16) (y + first / 16) → len ≡ (run_at canvas y first).area.w → high ≡ 1 + rows_below canvas 16 16 (run_at canvas y first)
      → AreSoFar before now p → AreSoFar before (now ++ record { value = value; x = first % 16; y = y + first / 16; len = len; high = high } ∷ []) (first + 1)
  head_listed before now p first value len high n is long tall so =
      let run : Run = record { value = value; x = first % 16; y = y + first / 16; len = len; high = high } in
      let same : subrect_of run ≡ joined_at first = same_subrect (first % 16) (y + first / 16) value len high (run_at canvas y first) refl refl is long tall in
      ap (λ t. t ++ heads_behind (first + 1)) (map-append subrect_of now (run ∷ []))
      ∙ (append_assoc (map subrect_of now) (subrect_of run ∷ []) (heads_behind (first + 1))
      ∙ (ap (λ s. map subrect_of now ++ s ∷ heads_behind (first + 1)) same ∙ (ap (λ t. map subrect_of now ++ t) (sym (next_listed heads_at joined_at p first n)) ∙ so)))

-- At first all bits are left.
pub all_heads : (canvas : Canvas) (marks : TileMarks) (joins : List ℕ) (k : ℕ) → k < 4 → AreTileMarks canvas marks.background marks → AreJoins canvas marks.background joins → AreLeft (heads_at canvas marks.background (4 * k)) 0 (bit_xor (get_or marks.begins k 0) (get_or joins k 0))
all_heads canvas marks joins k lk are js =
    record {
      above = λ p lo hi.
          let split = mod-add-div' p 16 in
          let whole : 16 * (p / 16) + p % 16 ≡ p = omega (arith, split) in
          let begin = begin_marked canvas marks.background (4 * k) (record { background = marks.background; begins = get_or marks.begins k 0; ends = get_or marks.ends k 0 }) (are k lk) p hi in
          let join : bit_at (get_or joins k 0) p ≡ bit_of (begins_at canvas marks.background (4 * k) p && is_below canvas 16 (run_at canvas (4 * k) p)) =
          ap (bit_at (get_or joins k 0)) (sym whole) ∙ bit_here (joins_at canvas marks.background) joins js k (p / 16) (p % 16) lk (omega (arith, whole, hi)) (mod-lt p (omega arith)) in
          bit_at_xor (get_or marks.begins k 0) (get_or joins k 0) p
          ∙ (ap (λ n. (n + bit_at (get_or joins k 0) p) % 2) begin
          ∙ (ap (λ n. (bit_of (begins_at canvas marks.background (4 * k) p) + n) % 2) join ∙ apart_bits (begins_at canvas marks.background (4 * k) p) (is_below canvas 16 (run_at canvas (4 * k) p))));
      below = λ p lt. absurd (omega (arith, lt));
      few = xor_lt 64 (get_or marks.begins k 0) (get_or joins k 0) (are k lk).few (js.few k lk);
    }
