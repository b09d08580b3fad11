-- Beginnings of what is said, as far as a piece of it and inside that piece. What a player shows in the middle of a
-- message is found by it.
use Rattle.std.proofs.Common.{◌≡◌, ℕ, ◌≤◌, Bool, true, false, cond, List, [], ◌∷◌, ◌++◌, length, take, refl, sym, ap, ◌∙◌, subst, arith, inl, inr}
use Rattle.std.specs.Prelude.{◌⊎◌}
use Rattle.raster.specs.Screen.{Canvas, LooksLike}
use Rattle.raster.specs.Update.{Update, screen}
use Rattle.reflect_core.specs.Sequential.{Begins}
use Rattle.viewer_session.proofs.Parts.{begins_on, begins_same}
use Rattle.played_session.specs.Pictures.{ShowsAfter}
use Rattle.played_session.specs.ReadAlike.{shown_by}

-- A beginning of two pieces is one of the first, or all of that and a beginning of the second.
split : (front xs ys : List ℕ) → Begins front (xs ++ ys) → (Begins front xs) ⊎ ((c : List ℕ) × (front ≡ xs ++ c) × Begins c ys)
split [] xs ys k = inl (xs, refl)
split (b ∷ front) [] ys k = inr (b ∷ front, refl, k)
split (b ∷ front) (x ∷ xs) ys k =
    let said = k.1 in
    let first : x ≡ b = cc in
    let others : xs ++ ys ≡ front ++ k.0 = cc in
    elim (split front xs ys (k.0, others)) [
      | inl in_first ↦ inl (in_first.0, ap (λ t. x ∷ t) in_first.1 ∙ ap (λ t. t ∷ (front ++ in_first.0)) first)
      | inr beyond ↦ inr (beyond.0, ap (λ t. b ∷ t) beyond.1 ∙ ap (λ t. t ∷ (xs ++ beyond.0)) (sym first), beyond.2)
    ]

-- What is shown after two beginnings, of which the first begins the second, is of numbers in order, at most this one.
pub record Pair (w h : ℕ) (us : List Update) (front back : List ℕ) (top : ℕ) : Type 0 where
  pub earlier : ℕ
  pub later : ℕ
  pub order : earlier ≤ later
  pub under : later ≤ top
  pub shows_earlier : ShowsAfter w h us front earlier
  pub shows_later : ShowsAfter w h us back later

-- This is so of all beginnings, and at the end this number is shown.
pub record InOrder (w h : ℕ) (us : List Update) (stream : List ℕ) (top : ℕ) : Type 0 where
  pub known : top ≤ length us
  pub at_end : ShowsAfter w h us stream top
  pub pairs : (front back : List ℕ) → Begins front back → Begins back stream → Pair w h us front back top

nothing_begins : (front : List ℕ) → Begins front [] → front ≡ []
nothing_begins [] k = refl
nothing_begins (b ∷ front) k = absurd (let said = k.1 in cc)

pub nothing_said : (w h : ℕ) (us : List Update) → InOrder w h us [] 0
nothing_said w h us =
    record {
      known = omega arith;
      at_end = λ x y lx ly. refl;
      pairs = λ front back fb bs.
          let none : back ≡ [] = nothing_begins back bs in
          let none_too : front ≡ [] = nothing_begins front (subst (Begins front) none fb) in
          record {
            earlier = 0;
            later = 0;
            order = omega arith;
            under = omega arith;
            shows_earlier = subst (λ t. ShowsAfter w h us t 0) (sym none_too) (λ x y lx ly. refl);
            shows_later = subst (λ t. ShowsAfter w h us t 0) (sym none) (λ x y lx ly. refl);
          };
    }

-- A piece more is said. Inside it all is as it was before the piece up to a point, and from there on as at its end.
module _ (w h : ℕ) (us : List Update) (xs ys : List ℕ) (top next : ℕ) (through : List ℕ → Bool) (up : top ≤ next) (known : next ≤ length us) (whole : ShowsAfter w h us (xs ++ ys) next)
    (before_it : (c : List ℕ) → Begins c ys → through c ≡ false → shown_by w h (xs ++ c) ≡ shown_by w h xs)
    (after_it : (c : List ℕ) → Begins c ys → through c ≡ true → shown_by w h (xs ++ c) ≡ shown_by w h (xs ++ ys))
    (stays : (c d : List ℕ) → Begins c d → through c ≡ true → through d ≡ true)
    (k : InOrder w h us xs top) where
  -- The number that is shown in the piece.
  shown_at : List ℕ → ℕ
  shown_at c = cond (through c) next top

  above : (b : Bool) → top ≤ cond b next top
  above true = up
  above false = omega arith

  below : (b : Bool) → cond b next top ≤ next
  below true = omega arith
  below false = up

  rises : (a b : Bool) → (a ≡ true → b ≡ true) → cond a next top ≤ cond b next top
  rises false b e = above b
  rises true true e = omega arith
  rises true false e = absurd (let no = e refl in cc)

  shows_by : (c : List ℕ) (b : Bool) → through c ≡ b → Begins c ys → ShowsAfter w h us (xs ++ c) (cond b next top)
  shows_by c true e begins = subst (λ (canvas : Canvas). LooksLike w h canvas (screen (take next us))) (sym (after_it c begins e)) whole
  shows_by c false e begins = subst (λ (canvas : Canvas). LooksLike w h canvas (screen (take top us))) (sym (before_it c begins e)) k.at_end

  shows : (c : List ℕ) → Begins c ys → ShowsAfter w h us (xs ++ c) (cond (through c) next top)
  shows c begins = shows_by c (through c) refl begins

  -- The longer beginning ends in the piece.
  pair_in : (front c : List ℕ) → Begins c ys → Begins front (xs ++ c) → Pair w h us front (xs ++ c) next
  pair_in front c begins fb =
      elim (split front xs c fb) [
        | inl in_first ↦
            let p = k.pairs front front (begins_same front) in_first in
            let under = p.under in
            let more = above (through c) in
            record { earlier = p.later; later = cond (through c) next top; order = omega (arith, under, more); under = below (through c); shows_earlier = p.shows_later; shows_later = shows c begins }
        | inr beyond ↦
            record {
              earlier = cond (through beyond.0) next top;
              later = cond (through c) next top;
              order = rises (through beyond.0) (through c) (stays beyond.0 c beyond.2);
              under = below (through c);
              shows_earlier = subst (λ t. ShowsAfter w h us t (cond (through beyond.0) next top)) (sym beyond.1) (shows beyond.0 (begins_on beyond.0 c ys beyond.2 begins));
              shows_later = shows c begins;
            }
      ]

  pub piece_more : InOrder w h us (xs ++ ys) next
  piece_more =
      record {
        known = known;
        at_end = whole;
        pairs = λ front back fb bs.
            elim (split back xs ys bs) [
              | inl in_first ↦
                  let p = k.pairs front back fb in_first in
                  let under = p.under in
                  record { earlier = p.earlier; later = p.later; order = p.order; under = omega (arith, under, up); shows_earlier = p.shows_earlier; shows_later = p.shows_later }
              | inr beyond ↦ subst (λ t. Pair w h us front t next) (sym beyond.1) (pair_in front beyond.0 beyond.2 (subst (Begins front) beyond.1 fb))
            ];
      }
