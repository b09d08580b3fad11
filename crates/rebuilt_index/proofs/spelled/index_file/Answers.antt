-- One entry more.
use Rattle.std.proofs.Common.{◌≡◌, ◌+◌, ◌<◌, ◌++◌, ◌∷◌, [], ℕ, suc, List, length, take, drop, get_or, refl, sym, ap, ◌∙◌, arith, append-nil, append_assoc, take-suc}
use Rattle.std.proofs.lemmas.List.{drop_all, take_all}
use Rattle.std.proofs.lemmas.Grind.{flat_map-append}
use Rattle.recording_index.specs.IndexBytes.{entries_bytes, entry_bytes, index_bytes, line}
use Rattle.recording_index.specs.declared.moment.KeyMoment.{KeyMoment}
use Rattle.recording_index.proofs.Entries.{entry_len}
use Rattle.rebuilt_index.proofs.spelled.index_file.Goals as goal

one_more : (moments : List KeyMoment) (i : ℕ) (m d : KeyMoment) (file out new zeros : List ℕ) → i < length moments → m ≡ get_or moments i d → length zeros ≡ 12 → out ≡ entry_bytes m ++ drop (length (entry_bytes m)) zeros
    → file ≡ line ++ entries_bytes (take i moments) → new ≡ file ++ out → new ≡ line ++ entries_bytes (take (i + 1) moments)
one_more moments i m d file out new zeros within is short written so_far added =
    let one : i + 1 ≡ suc i = omega arith in
    let more : take (i + 1) moments ≡ take i moments ++ m ∷ [] = ap (λ (n : ℕ). take n moments) one ∙ (take-suc moments i d within ∙ ap (λ (x : KeyMoment). take i moments ++ x ∷ []) (sym is)) in
    let none : drop (length (entry_bytes m)) zeros ≡ [] = drop_all (length (entry_bytes m)) zeros (omega (arith, entry_len m, short)) in
    let entry : out ≡ entry_bytes m = written ∙ (ap (λ (xs : List ℕ). entry_bytes m ++ xs) none ∙ append-nil (entry_bytes m)) in
    let all : entries_bytes (take (i + 1) moments) ≡ entries_bytes (take i moments) ++ entry_bytes m =
    ap entries_bytes more ∙ (flat_map-append entry_bytes (take i moments) (m ∷ []) ∙ ap (λ (xs : List ℕ). entries_bytes (take i moments) ++ xs) (append-nil (entry_bytes m))) in
    added ∙ (ap (λ (xs : List ℕ). xs ++ out) so_far ∙ (append_assoc line (entries_bytes (take i moments)) out ∙ ap (λ (xs : List ℕ). line ++ xs) (ap (λ (xs : List ℕ). entries_bytes (take i moments) ++ xs) entry ∙ sym all)))

pub loop-moment-preserved : goal.loop-moment-preserved
loop-moment-preserved c =
    one_more c.args.moments.now c.loop-moment.moment-index _ _ c.loop-moment.file.items c.write_moment.new.out c.extend_from_slice-in-loop-moment.new.self.items _ c.loop-moment-test.true refl refl c.write_moment.ensures.written c.loop-moment.invariant c.in_ok-extend_from_slice-2.ensures.items

pub returns : goal.returns
unfolding index_bytes
returns c = c.loop-moment.invariant ∙ ap (λ (ms : List KeyMoment). line ++ entries_bytes ms) (take_all c.loop-moment.moment-index c.args.moments.now c.loop-moment-test.false)
