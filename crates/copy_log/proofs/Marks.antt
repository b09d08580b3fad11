-- Marks of the tiles that an area meets, set run by run.
use Rattle.std.proofs.Common.{◌≡◌, ℕ, ◌+◌, ◌-◌, ◌*◌, ◌/◌, ◌%◌, ◌<◌, ◌≤◌, Bool, true, false, List, refl, ap, sym, subst, ◌∙◌, arith, inl, inr}
use Rattle.std.specs.Prelude.{min, max, not, ◌&&◌, ◌||◌, nat_lt, Option, Some, None, IfSome, IfNone}
use Rattle.std.specs.Option.{is_some}
use Rattle.std.proofs.lemmas.Bool.{cases_lt, lt-ltb, le-ltb}
use Rattle.std.proofs.lemmas.Bool.Decides.{nat_tests}
use Rattle.raster.specs.declared.rect.Rect.{Rect}
use Rattle.raster.specs.Screen.{IsWithin, common, is_empty, lies_in, meets, tile_count, tile_rect, tiles_across, whole_screen}
use Rattle.tiles.specs.Walk.{IsDone, IsNextRun, Walking}
use Rattle.tiles.specs.declared.walk.Run.{Run}
use Rattle.tiles.proofs.RunTiles.{walk_at}
use Rattle.copy_log.specs.Notes.{is_marked}
use Rattle.copy_log.specs.Passed.{is_held}
use Rattle.copy_log.proofs.Ranges.{none_of, some_of}

-- Of the tiles before this one those that an area meets have marks now, and all others the marks that they had.
abbrev pub IsMarkedTo : ℕ → ℕ → Rect → ℕ → List Bool → List Bool → Type 0
IsMarkedTo w h area next old new = (t : ℕ) → t < tile_count w h → is_marked new t ≡ (is_marked old t || (nat_lt t next && meets area (tile_rect w h t)))

abbrev pub all_tiles : ℕ → Bool
all_tiles t = true

or_with : (a : Bool) → (a || true) ≡ true
or_with true = refl
or_with false = refl

or_without : (a : Bool) → (a || false) ≡ a
or_without true = refl
or_without false = refl

and_none : (a : Bool) → (a && false) ≡ false
and_none true = refl
and_none false = refl

pub marked_more : (w h : ℕ) (area : Rect) (next : ℕ) (old mid new : List Bool) (run : Run) → IsNextRun (walk_at w h area next) all_tiles run → IsMarkedTo w h area next old mid
    → ((k : ℕ) → run.first ≤ k → k < run.first + run.count → is_marked new k ≡ true) → ((k : ℕ) → k < run.first → is_marked new k ≡ is_marked mid k)
    → ((k : ℕ) → run.first + run.count ≤ k → is_marked new k ≡ is_marked mid k) → IsMarkedTo w h area (run.first + run.count) old new
marked_more w h area next old mid new run is before inside above behind t lt =
    elim (cases_lt t run.first) [
      | inl low ↦
          above t low ∙ (before t lt ∙ ap (λ b. is_marked old t || b)
          (elim (cases_lt t next) [
            | inl there ↦ (let a : nat_lt t next ≡ true = sym (sym (lt-ltb t next there)) in let b : nat_lt t (run.first + run.count) ≡ true = lt-ltb t (run.first + run.count) (omega arith) in ap (λ c. c && meets area (tile_rect w h t)) (a ∙ sym b))
            | inr later ↦ (let none : meets area (tile_rect w h t) ≡ false = is.skipped t later low in ap (λ c. nat_lt t next && c) none ∙ (and_none (nat_lt t next) ∙ (sym (and_none (nat_lt t (run.first + run.count))) ∙ ap (λ c. nat_lt t (run.first + run.count) && c) (sym none))))
          ]))
      | inr high ↦
          elim (cases_lt t (run.first + run.count)) [
            | inl in_run ↦
                (let met : meets area (tile_rect w h t) ≡ true = is.taken t high in_run in
                let low : nat_lt t (run.first + run.count) ≡ true = lt-ltb t (run.first + run.count) in_run in
                inside t high in_run ∙ (sym (or_with (is_marked old t)) ∙ ap (λ b. is_marked old t || b) (sym (ap (λ c. c && meets area (tile_rect w h t)) low ∙ met))))
            | inr past ↦
                (let a : nat_lt t next ≡ false = le-ltb t next (omega (arith, is.from)) in
                let b : nat_lt t (run.first + run.count) ≡ false = le-ltb t (run.first + run.count) past in
                behind t past ∙ (before t lt ∙ ap (λ c. is_marked old t || (c && meets area (tile_rect w h t))) (a ∙ sym b)))
          ]
    ]

pub marked_all : (w h : ℕ) (area : Rect) (next : ℕ) (old new : List Bool) → IsDone (walk_at w h area next) all_tiles → IsMarkedTo w h area next old new
    → (t : ℕ) → t < tile_count w h → is_marked new t ≡ (is_marked old t || meets area (tile_rect w h t))
marked_all w h area next old new done marked t lt =
    marked t lt ∙ ap (λ b. is_marked old t || b)
    (elim (cases_lt t next) [
      | inl there ↦ ap (λ c. c && meets area (tile_rect w h t)) (lt-ltb t next there)
      | inr later ↦ (let none : meets area (tile_rect w h t) ≡ false = done t later lt in ap (λ c. nat_lt t next && c) none ∙ (and_none (nat_lt t next) ∙ sym none))
    ])

-- ---- rectangles that reach beyond the screen

same_lt : (a b c d : ℕ) → (a < b → c < d) → (c < d → a < b) → nat_lt a b ≡ nat_lt c d
same_lt a b c d f g =
    elim (cases_lt a b) [
      | inl less ↦ lt-ltb a b less ∙ sym (lt-ltb c d (f less))
      | inr more ↦ elim (cases_lt c d) [
        | inl less ↦ absurd (omega (arith, g less))
        | inr less ↦ le-ltb a b more ∙ sym (le-ltb c d less)
      ]
    ]

clip_range : (a n s x : ℕ) → nat_lt (max (max a 0) x) (min (max a 0 + (min (a + n) (0 + s) - max a 0)) (x + min 16 (s - x))) ≡ nat_lt (max a x) (min (a + n) (x + min 16 (s - x)))
clip_range a n s x = same_lt _ _ _ _ (λ l. omega arith) (λ l. omega arith)

-- The part of a rectangle on the screen meets the same tiles.
pub clip_meets : (r : Rect) (w h t : ℕ) → meets (common r (whole_screen w h)) (tile_rect w h t) ≡ meets r (tile_rect w h t)
clip_meets r w h t = (λ i. clip_range r.x r.w w (t % tiles_across w * 16) i && clip_range r.y r.h h (t / tiles_across w * 16) i)

pub empty_meets : (r s : Rect) → is_empty r ≡ true → meets r s ≡ false
empty_meets r s e = grind (arith, nat_tests)

-- What isn't empty lies on the screen.
pub clip_within : (r : Rect) (w h : ℕ) → is_empty (common r (whole_screen w h)) ≡ false → IsWithin (common r (whole_screen w h)) w h
clip_within r w h e = record { across = grind (arith, nat_tests); down = grind (arith, nat_tests) }

pub lies_within : (r area : Rect) (w h : ℕ) → lies_in r area ≡ true → IsWithin area w h → IsWithin r w h
lies_within r area w h e on =
    let a : r.x + r.w ≤ area.x + area.w = grind (arith, nat_tests) in
    let b : r.y + r.h ≤ area.y + area.h = grind (arith, nat_tests) in
    record { across = omega (arith, a, on.across); down = omega (arith, b, on.down) }

-- ---- what is held

none_found : (b : Bool) → false ≡ not b → b ≡ true
none_found true e = refl
none_found false e = absurd cc

one_found : (b : Bool) → true ≡ not b → b ≡ false
one_found true e = absurd cc
one_found false e = refl

-- A walk over the tiles that are lacked finds none in a rectangle where all of it is held.
pub held_by_walk : (w h : ℕ) (lacks : ℕ → Bool) (r : Rect) (walk new : Walking) (found : Option Run) (b : Bool) → walk ≡ walk_at w h r 0
    → IfSome found (λ run. IsNextRun walk lacks run × (new.next ≡ run.first + run.count)) → IfNone found (IsDone walk lacks × IsDone new lacks) → is_some found ≡ not b → b ≡ is_held w h lacks r
held_by_walk w h lacks r walk new None b is some none e =
    let done : IsDone (walk_at w h r 0) lacks = subst (λ (v : Walking). IsDone v lacks) is none.0 in
    none_found b e ∙ ap not (sym (none_of (λ t. lacks t && meets r (tile_rect w h t)) (tile_count w h) 0 (λ k lo hi. done k lo (omega arith))))
held_by_walk w h lacks r walk new (Some run) b is some none e =
    let next : IsNextRun (walk_at w h r 0) lacks run = subst (λ (v : Walking). IsNextRun v lacks run) is some.0 in
    one_found b e
    ∙ ap not (sym (some_of (λ t. lacks t && meets r (tile_rect w h t)) (tile_count w h) 0 run.first (next.taken run.first (omega arith) (omega (arith, next.some))) (omega arith) (omega (arith, next.some, next.there))))
