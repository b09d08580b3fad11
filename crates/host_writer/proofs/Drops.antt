-- What is counted of an input that was taken. `tell_input` owes that the count is that of what was dropped.
use Rattle.std.proofs.Common.{◌≡◌, ℕ, ◌+◌, ◌≤◌, min, Bool, true, false, cond, List, [], ◌∷◌, ◌++◌, length, map, length-append, sym, ap, subst, ◌∙◌, arith}
use Rattle.std.proofs.lemmas.List.{map-append}
use Rattle.fault.specs.declared.limits.TheConstants.{LIMIT}
use Rattle.roles.specs.Strokes.{Taken, unbroken_after, unbroken, passes_after, StrokesKept, StrokesStand}
use Rattle.roles.proofs.StrokesLaws.{unbroken_more}
use Rattle.input_relay.specs.declared.queue.Message.{Message}
use Rattle.host_writer.specs.Writing.{taken_from}
use Rattle.host_writer.specs.Dropping.{all_dropped, IsCounted}

-- No more passes than was taken.
fewer : (passed ts : List Taken) → length (unbroken_after passed ts) ≤ length passed + length ts
fewer passed [] = omega arith
fewer passed (t ∷ ts) = by (passes_after passed t) (fewer (passed ++ t ∷ []) ts) (fewer passed ts)
  where
    by : (b : Bool) → length (unbroken_after (passed ++ t ∷ []) ts) ≤ length (passed ++ t ∷ []) + length ts → length (unbroken_after passed ts) ≤ length passed + length ts
        → length (cond b (unbroken_after (passed ++ t ∷ []) ts) (unbroken_after passed ts)) ≤ length passed + length (t ∷ ts)
    by true with_it without = omega (arith, with_it, length-append passed (t ∷ []))
    by false with_it without = omega (arith, without)

-- One more is dropped where it doesn't pass.
dropped_more : (taken : List Taken) (t : Taken) → all_dropped (taken ++ t ∷ []) ≡ cond (passes_after (unbroken taken) t) (all_dropped taken) (min LIMIT (all_dropped taken + 1))
dropped_more taken t = by (passes_after (unbroken taken) t) (ap length (unbroken_more taken t))
  where
    by : (b : Bool) → length (unbroken (taken ++ t ∷ [])) ≡ length (unbroken taken ++ cond b (t ∷ []) []) → all_dropped (taken ++ t ∷ []) ≡ cond b (all_dropped taken) (min LIMIT (all_dropped taken + 1))
    by true e = omega (arith, e, fewer [] taken, length-append taken (t ∷ []), length-append (unbroken taken) (t ∷ []))
    by false e = omega (arith, e, fewer [] taken, length-append taken (t ∷ []), length-append (unbroken taken) [])

-- An input was taken that passes or doesn't.
pub counted_more : (old new : List Message) (p q : StrokesKept) (m : Message) (passed : Bool) (number next : ℕ) → new ≡ old ++ m ∷ []
    → ((taken : List Taken) → StrokesStand p taken → passed ≡ passes_after (unbroken taken) (taken_from m)) → ((taken : List Taken) → StrokesStand p taken → StrokesStand q (taken ++ taken_from m ∷ []))
    → next ≡ cond passed number (min LIMIT (number + 1)) → IsCounted old p number → IsCounted new q next
counted_more old new p q m passed number next took value stands counts k =
    let all : List Taken = map taken_from old in
    let more : map taken_from new ≡ all ++ taken_from m ∷ [] = ap (map taken_from) took ∙ map-append taken_from old (m ∷ []) in
    record {
      stands = subst (λ ts. StrokesStand q ts) (sym more) (stands all k.stands);
      counted = counts ∙ (ap (λ b. cond b number (min LIMIT (number + 1))) (value all k.stands)
          ∙ (ap (λ n. cond (passes_after (unbroken all) (taken_from m)) n (min LIMIT (n + 1))) k.counted ∙ (sym (dropped_more all (taken_from m)) ∙ ap all_dropped (sym more))));
    }
