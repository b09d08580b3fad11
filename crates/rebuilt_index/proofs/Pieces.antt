-- A file is read on in a piece of it, block by block.
use Rattle.std.proofs.Common.{◌≡◌, ℕ, ◌+◌, ◌<◌, ◌≤◌, List, [], ◌++◌, length, take, drop, sym, ap, subst, ◌∙◌, arith, length-drop, append-nil}
use Rattle.std.proofs.lemmas.List.{take_all}
use Rattle.recording.specs.Recording.{Block}
use Rattle.recording.specs.BlockReading.{blocks_in}
use Rattle.rebuilt_index.specs.Anew.{AreKeyMoments}
use Rattle.rebuilt_index.specs.Seeking.{HasRebuilt, HasSeen}
use Rattle.rebuilt_index.specs.declared.rebuild.Rebuilder.{Rebuilder}
use Rattle.recording_index.specs.declared.moment.KeyMoment.{KeyMoment}
use Rattle.rebuilt_index.proofs.Rebuilt.{all_seen}
use Rattle.rebuilt_index.proofs.Steps.{further}

-- A block ended within the piece, or the piece did; g has read so far, and seen the block that is whole.
pub reads_further : (f g : Rebuilder) (fed piece left : List ℕ) (begin used count : ℕ) → left ≡ drop begin piece → used ≡ begin → begin < length piece → HasRebuilt f (fed ++ take used piece)
    → ((fed : List ℕ) → HasRebuilt f fed → 0 < length left → (0 < count) × HasRebuilt g (fed ++ take count left))
    → (begin + 1 ≤ begin + count) × HasRebuilt g (fed ++ take (begin + count) piece)
reads_further f g fed piece left begin used count is same within rebuilt reads =
    let front : List ℕ = fed ++ take begin piece in
    let here : HasRebuilt f front = subst (λ (n : ℕ). HasRebuilt f (fed ++ take n piece)) same rebuilt in
    let long : length left ≡ length (drop begin piece) = ap length is in
    let some : 0 < length left = omega (arith, long, length-drop begin piece, within) in
    let on = reads front here some in
    (omega (arith, on.0), subst (λ (xs : List ℕ). HasRebuilt g xs) (further fed piece left begin count is) on.1)

-- All of the piece was used.
pub whole_piece : (f : Rebuilder) (fed piece : List ℕ) (begin used : ℕ) → length piece ≤ begin → (begin ≤ used) × HasRebuilt f (fed ++ take used piece) → HasRebuilt f (fed ++ piece)
whole_piece f fed piece begin used end k = subst (λ (xs : List ℕ). HasRebuilt f (fed ++ xs)) (take_all used piece (omega (arith, end, k.0))) k.1

-- The file has ended.
pub at_the_end : (f : Rebuilder) (fed more : List ℕ) (moments : List KeyMoment) → HasRebuilt f fed → more ≡ fed ++ [] → ((blocks : List Block) → HasSeen f.session blocks → AreKeyMoments moments blocks) → AreKeyMoments moments (blocks_in more)
at_the_end f fed more moments h none found =
    let all : h.fed_.blocks ≡ blocks_in more = all_seen f fed h ∙ ap blocks_in (sym (append-nil fed) ∙ sym none) in
    subst (AreKeyMoments moments) all (found h.fed_.blocks h.fed_.seen)
