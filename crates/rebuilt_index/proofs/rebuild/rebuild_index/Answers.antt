-- A piece was read, or the file has ended.
use Rattle.std.proofs.Common.{◌≡◌, ◌++◌, [], ℕ, true, false, List, Result, Ok, length, take, sym, ap, subst, ◌∙◌, arith}
use Rattle.std.proofs.lemmas.List.{with_items_is}
use Rattle.std.specs.Vec.{with_items}
use Rattle.std.specs.IoError.{error_kind}
use Rattle.std.specs.declared.io.Error.{Error}
use Rattle.std.specs.declared.io.ErrorKind.{ErrorKind}
use Rattle.playback.specs.Files.{ReadsAs}
use Rattle.std.proofs.lemmas.Result.{err_from_is_err_and}
use Rattle.rebuilt_index.specs.Failing.{HasNoIndex}
use Rattle.rebuilt_index.specs.Seeking.{HasRebuilt}
use Rattle.rebuilt_index.specs.declared.bad.BadRebuild.{BadRebuild}
use Rattle.rebuilt_index.proofs.Pieces.{at_the_end}
use Rattle.rebuilt_index.proofs.Stopping.{none_if}
use Rattle.rebuilt_index.proofs.rebuild.rebuild_index.Goals as goal

nothing_read : (answer : Result ℕ Error) (n : ℕ) (is_all : List ℕ → Type 0) (has_failed : Type 0) (old new into : List ℕ) → answer ≡ Ok n → n ≡ 0 → ReadsAs answer is_all has_failed old new into → new ≡ old ++ []
nothing_read answer n is_all has_failed old new into e none h =
    let k = subst (λ (r : Result ℕ Error). ReadsAs r is_all has_failed old new into) e h in
    k.1 ∙ ap (λ (m : ℕ). old ++ take m into) none

pub returns-in-Ok-eq0-clause-ok : goal.returns-in-Ok-eq0-clause-ok
returns-in-Ok-eq0-clause-ok g c =
    let old : List ℕ = g.F.Recorded.so_far c.loop.file in
    let new : List ℕ = g.F.Recorded.so_far c.read.new.self in
    let none : new ≡ old ++ [] = nothing_read c.read.result _ (g.F.Recorded.is_all (g.F.Recorded.start c.loop.file)) g.F.Recorded.has_failed old new c.read.new.into c.in-Ok-eq0.is (omega arith) c.read.ensures.bytes in
    at_the_end c.loop.rebuilder old new c.into_moments.result.items c.loop.invariant.2.rebuilt none c.into_moments.ensures

pub loop-preserved-in-Continue-branch-2 : goal.loop-preserved-in-Continue-branch-2
loop-preserved-in-Continue-branch-2 g c =
    let inv = c.loop.invariant.2 in
    let old : List ℕ = g.F.Recorded.so_far c.loop.file in
    let new : List ℕ = g.F.Recorded.so_far c.read.new.self in
    let long : length c.read.new.into ≡ length c.loop.piece.items = c.read.auto.into ∙ ap length c.as_mut_slice.ensures.value in
    let items : (with_items c.loop.piece c.read.new.into).items ≡ c.read.new.into = with_items_is c.loop.piece c.read.new.into (c.read.auto.into ∙ c.as_mut_slice.ensures.len) in
    let all : new ≡ old ++ take c.in-Ok.count c.as_slice.result.now =
    c.in-Ok.ensures.bytes.1 ∙ ap (λ (xs : List ℕ). old ++ take c.in-Ok.count xs) (sym (c.as_slice.ensures.value ∙ items)) in (
      tt,
      tt,
      record {
        room = ap length items ∙ (long ∙ inv.room);
        begins = c.read.ensures.start ∙ inv.begins;
        rebuilt = subst (λ (xs : List ℕ). HasRebuilt c.feed.new.self xs) (sym all) (c.in_ok-feed-in-Ok.ensures.ok old inv.rebuilt);
      },
    )

pub returns-in_err-feed-in-Ok-clause-err : goal.returns-in_err-feed-in-Ok-clause-err
returns-in_err-feed-in-Ok-clause-err g c =
    let exit = c.from_residual-in_err-feed-in-Ok in
    let p = err_from_is_err_and exit.result exit.ensures.1 in
    let old : List ℕ = g.F.Recorded.so_far c.loop.file in
    let new : List ℕ = g.F.Recorded.so_far c.read.new.self in
    let items : (with_items c.loop.piece c.read.new.into).items ≡ c.read.new.into = with_items_is c.loop.piece c.read.new.into (c.read.auto.into ∙ c.as_mut_slice.ensures.len) in
    let all : new ≡ old ++ take c.in-Ok.count c.as_slice.result.now =
    c.in-Ok.ensures.bytes.1 ∙ ap (λ (xs : List ℕ). old ++ take c.in-Ok.count xs) (sym (c.as_slice.ensures.value ∙ items)) in
    let bad : BadRebuild = c.in_err-feed-in-Ok.field-0.0 in
    rw (p.1, p.2) (none_if g.F.Recorded.has_failed bad new (subst (λ (xs : List ℕ). HasNoIndex ⊥ bad xs) (sym all) (c.in_err-feed-in-Ok.ensures.err old c.loop.invariant.2.rebuilt)))

pub returns-in-Err-2-clause-err : goal.returns-in-Err-2-clause-err
returns-in-Err-2-clause-err g c =
    c.in-Err-2.ensures.bytes.1 (λ same.
    let one : c.in-Err.error ≡ c.in-Err-2.field-0 = let first = c.in-Err.is in let second = c.in-Err-2.is in cc in
    let kind : c.kind.result ≡ ErrorKind.Interrupted = c.kind.ensures ∙ (ap error_kind one ∙ same) in
    let yes : c.eq.result ≡ true = rw kind at c.eq.ensures in
    let both : true ≡ false = sym yes ∙ c.if-eq.false in cc)
