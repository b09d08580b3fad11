-- Giving what waits, and taking what came. `run_viewer` is turns of both.
use Rattle.std.proofs.Common.{◌≡◌, ℕ, zero, suc, ◌+◌, ◌<◌, ◌≤◌, ◌^◌, ◌⊎◌, Bool, false, List, [], ◌∷◌, ◌++◌, length, take, drop, inl, inr, refl, sym, ap, subst, ◌∙◌, arith, append_assoc, append-nil, length-drop, length-append}
use Rattle.std.specs.Prelude.{min, ◌==◌}
use Rattle.std.proofs.Math.Seq.{take-add}
use Rattle.std.proofs.lemmas.List.{drop-drop, take-append-le}
use Rattle.reflect_core.specs.Sequential.{Begins}
use Rattle.std.proofs.lemmas.Bool.{cases_lt}
use Rattle.link.specs.Links.{LinkState, HasRisen, with_end, with_failure}
use Rattle.viewer_session.specs.Viewer.{Setup, Viewer}
use Rattle.viewer_session.specs.Session.{State, Stands, HasCounted, after_writing}
use Rattle.viewer_session.specs.Viewer.{out_bytes}
use Rattle.viewer_session.proofs.SessionLaws.{unsent_left}
use Rattle.viewer_server.specs.Steps.{Says}

rises_by : (most old new : ℕ) → new ≡ min most (old + 1) → (old < most) ⊎ (most ≤ old) → (old < new) ⊎ (new ≡ most)
rises_by most old new next (inl below) = inl (omega (arith, next, below))
rises_by most old new next (inr full) = inr (omega (arith, next, full))

rises : (old new : ℕ) → new ≡ min (2 ^ 62) (old + 1) → HasRisen old new
rises old new next = rises_by (2 ^ 62) old new next (cases_lt old (2 ^ 62))

pub end_rises : (old new : LinkState) → new ≡ with_end old → HasRisen old.ended new.ended
end_rises old new e = rises old.ended new.ended (ap (λ (l : LinkState). l.ended) e)

pub failure_rises : (old new : LinkState) → new ≡ with_failure old → HasRisen old.failed new.failed
failure_rises old new e = rises old.failed new.failed (ap (λ (l : LinkState). l.failed) e)

-- ---- saying

pub says_none : (st : State) (link : LinkState) → Says st st link link
says_none st link =
    record {
      count = 0;
      within = omega arith;
      given = sym (append-nil link.given);
      taken = refl;
      unsent = refl;
      size = (refl, refl);
      counted = λ us k. k;
      stands = λ s p k. subst (λ (m : ℕ). Stands s st (record p { written = m })) (omega arith) k;
    }

further : (xs : List ℕ) (count n : ℕ) → take (count + n) xs ≡ take count xs ++ take n (drop count xs)
further xs count n = take-add count n xs

-- This many more of them were given.
pub says_on : (a b c : State) (old now new : LinkState) (n : ℕ) → Says a b old now → n ≤ length b.unsent → new ≡ record now { given = now.given ++ take n b.unsent } → (cut_same : c ≡ record b { piece = c.piece; unsent = drop n b.unsent })
    → ((s : Setup) (p : Viewer) → Stands s b p → Stands s c (after_writing n p)) → Says a c old new
says_on a b c old now new n k le e f stands =
    let left : length b.unsent ≡ length (drop k.count a.unsent) = ap length k.unsent in
    record {
      count = k.count + n;
      within = let within = k.within in omega (arith, within, le, left, length-drop k.count a.unsent);
      given = ap (λ (l : LinkState). l.given) e
          ∙ (ap (λ t. t ++ take n b.unsent) k.given
          ∙ (append_assoc old.given (take k.count a.unsent) (take n b.unsent)
          ∙ ap (λ t. old.given ++ t) (ap (λ t. take k.count a.unsent ++ take n t) k.unsent ∙ sym (further a.unsent k.count n))));
      taken = ap (λ (l : LinkState). l.taken) e ∙ k.taken;
      unsent = ap (λ (st : State). st.unsent) f ∙ (ap (drop n) k.unsent ∙ drop-drop n k.count a.unsent);
      size = (ap (λ (st : State). st.width) f ∙ k.size.0, ap (λ (st : State). st.height) f ∙ k.size.1);
      counted = λ us k2. subst (λ (st : State). HasCounted st us) (sym f) (k.counted us k2);
      stands = λ s p stood.
          let twice : Stands s c (after_writing n (after_writing k.count p)) = stands s (after_writing k.count p) (k.stands s p stood) in
          subst (λ (m : ℕ). Stands s c (record p { written = m })) (omega arith) twice;
    }

-- The answer of a link that gives nothing changes what was given in nothing.
pub says_still : (a b : State) (old now new : LinkState) → Says a b old now → new.given ≡ now.given → new.taken ≡ now.taken → Says a b old new
says_still a b old now new k e f =
    record { count = k.count; within = k.within; given = e ∙ k.given; taken = f ∙ k.taken; unsent = k.unsent; size = k.size; counted = k.counted; stands = k.stands }

-- ---- what is unsent

some_if : (n : ℕ) → false ≡ (n == 0) → 0 < n
some_if zero e = absurd cc
some_if (suc n) e = omega arith

unsent_some : (xs ys : List ℕ) → 0 < length xs → (ys ≡ [] → length xs ≡ 0) → 0 < length ys
unsent_some xs [] some empty = absurd (let none = empty refl in let no : 0 < 0 = omega (arith, none, some) in omega (arith, no))
unsent_some xs (y ∷ ys) some empty = omega arith

-- The piece isn't empty, so bytes are unsent.
pub some_bytes : (xs ys : List ℕ) (b : Bool) → ((length xs ≡ 0 → ys ≡ []) × (ys ≡ [] → length xs ≡ 0)) → b ≡ (length xs == 0) → b ≡ false → 0 < length ys
some_bytes xs ys b e f g = unsent_some xs ys (some_if (length xs) (sym g ∙ f)) e.1

-- The first of the piece are the first of all that is unsent.
pub first_of_piece : (piece unsent : List ℕ) (n : ℕ) → Begins piece unsent → n ≤ length piece → take n piece ≡ take n unsent
first_of_piece piece unsent n begins le = sym (ap (take n) begins.1 ∙ take-append-le n piece begins.0 le)

pub piece_within : (piece unsent : List ℕ) (n : ℕ) → Begins piece unsent → n ≤ length piece → n ≤ length unsent
piece_within piece unsent n begins le = omega (arith, le, ap length begins.1, length-append piece begins.0)

-- Bytes that the session has unsent are unwritten.
pub some_unsent : (s : Setup) (st : State) (p : Viewer) → Stands s st p → 0 < length st.unsent → p.written < length (out_bytes s p)
some_unsent s st p k some = let left = unsent_left s st p k.serves in omega (arith, left, some)
