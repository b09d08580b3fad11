-- A block is whole, and was seen; or none is.
use Rattle.std.proofs.Common.{◌≡◌, ◌++◌, ◌∷◌, [], ℕ, List, Some, take, refl, ap, inr, ◌∙◌}
use Rattle.std.proofs.lemmas.Result.{err_from_is_err_and}
use Rattle.fault.specs.declared.kinds.Fault.{Fault}
use Rattle.recording.specs.Progress.{ahead, block_of}
use Rattle.recording_index.specs.declared.moment.KeyMoment.{KeyMoment}
use Rattle.rebuilt_index.specs.Seeking.{HasFed}
use Rattle.rebuilt_index.specs.declared.bad.BadRebuild.TheVariants.{Session}
use Rattle.rebuilt_index.specs.declared.rebuild.Rebuilder.{Rebuilder}
use Rattle.rebuilt_index.proofs.Rebuilt.{block_seen, fed_more, found_as, none_seen}
use Rattle.rebuilt_index.proofs.Stopping.{bad_recording, block_in, none_in, too_long}
use Rattle.rebuilt_index.proofs.rebuild.Rebuilder.read.Goals as goal

abbrev at : ℕ → ℕ → KeyMoment
at time place = record { time = time; place = place }

at_time : (time place other : ℕ) → place ≡ other → at time place ≡ at time other
at_time time place other e = ap (at time) e

pub returns-in_default-clause-rebuilt : goal.returns-in_default-clause-rebuilt
returns-in_default-clause-rebuilt c = λ fed h some.
    let old : Rebuilder = c.args.self.now in
    let mid : Rebuilder = record { reader = c.feed.new.self; session = old.session; place = old.place } in
    let count : ℕ = c.in_ok-used.used in
    let all : List ℕ = fed ++ take count c.args.piece.now in
    let now : HasFed mid all = fed_more old mid fed c.args.piece.now count h c.in_ok-used.ensures.used refl refl in
    (c.in_ok-used.ensures.used.some h.wants some, none_seen mid all c.found.result now c.found.ensures c.in_default.is)

pub returns-clause-rebuilt : goal.returns-clause-rebuilt
returns-clause-rebuilt c = λ fed h some.
    let old : Rebuilder = c.args.self.now in
    let mid : Rebuilder = record { reader = c.feed.new.self; session = old.session; place = old.place } in
    let new : Rebuilder = record { reader = c.go_on.new.self; session = c.see.new.self; place = c.in_ok-self.field-0 } in
    let count : ℕ = c.in_ok-used.used in
    let all : List ℕ = fed ++ take count c.args.piece.now in
    let now : HasFed mid all = fed_more old mid fed c.args.piece.now count h c.in_ok-used.ensures.used refl refl in
    let block = c.in_ok-block.block in
    let seen = c.in_ok-see.ensures.ok now.blocks (block_of block) now.seen (at_time block.time old.place _ now.place) refl in
    (c.in_ok-used.ensures.used.some h.wants some, block_seen mid new all block c.found.result now c.found.ensures (c.in-Some.is ∙ ap Some c.in_ok-block.was) c.go_on.ensures c.in_ok-self.ensures.ok seen)

pub returns-in_err-block-clause-err : goal.returns-in_err-block-clause-err
returns-in_err-block-clause-err c =
    let exit = c.from_residual-in_err-block in
    let p = err_from_is_err_and exit.result exit.ensures.1 in
    rw (p.1, p.2) (λ fed h.
    let old : Rebuilder = c.args.self.now in
    let mid : Rebuilder = record { reader = c.feed.new.self; session = old.session; place = old.place } in
    let piece : List ℕ = c.args.piece.now in
    let count : ℕ = c.in_ok-used.used in
    let now : HasFed mid (fed ++ take count piece) = fed_more old mid fed piece count h c.in_ok-used.ensures.used refl refl in
    inr (bad_recording fed piece count now.blocks (ahead mid.reader) c.found.result c.in_err-block.field-0.0 now.read c.found.ensures (c.in-Some.is ∙ ap Some c.in_err-block.was)))

pub returns-in_err-see-clause-err : goal.returns-in_err-see-clause-err
returns-in_err-see-clause-err c =
    let exit = c.from_residual-in_err-see in
    let p = err_from_is_err_and exit.result exit.ensures.1 in
    rw (p.1, p.2) (λ fed h.
    let old : Rebuilder = c.args.self.now in
    let mid : Rebuilder = record { reader = c.feed.new.self; session = old.session; place = old.place } in
    let piece : List ℕ = c.args.piece.now in
    let count : ℕ = c.in_ok-used.used in
    let now : HasFed mid (fed ++ take count piece) = fed_more old mid fed piece count h c.in_ok-used.ensures.used refl refl in
    let block = c.in_ok-block.block in
    let waits = found_as (ahead mid.reader) c.found.result c.found.ensures block (c.in-Some.is ∙ ap Some c.in_ok-block.was) in
    let here = block_in fed piece count now.blocks (ahead mid.reader) (block_of block) now.read waits in
    none_in c.in_err-see.field-0.0 (now.blocks ++ block_of block ∷ []) here.0 (fed ++ piece) here.1 (c.in_err-see.ensures.err now.blocks (block_of block) now.seen (at_time block.time old.place _ now.place) refl))

pub returns-in_err-self-clause-err : goal.returns-in_err-self-clause-err
returns-in_err-self-clause-err c =
    let exit = c.from_residual-in_err-self in
    let p = err_from_is_err_and exit.result exit.ensures.1 in
    rw (p.1, p.2) (λ fed h.
    let old : Rebuilder = c.args.self.now in
    let mid : Rebuilder = record { reader = c.feed.new.self; session = old.session; place = old.place } in
    let piece : List ℕ = c.args.piece.now in
    let count : ℕ = c.in_ok-used.used in
    let fault : Fault = c.in_err-self.field-0.0 in
    let now : HasFed mid (fed ++ take count piece) = fed_more old mid fed piece count h c.in_ok-used.ensures.used refl refl in
    let block = c.in_ok-block.block in
    let waits = found_as (ahead mid.reader) c.found.result c.found.ensures block (c.in-Some.is ∙ ap Some c.in_ok-block.was) in
    let here = block_in fed piece count now.blocks (ahead mid.reader) (block_of block) now.read waits in
    none_in (Session fault) (now.blocks ++ block_of block ∷ []) here.0 (fed ++ piece) here.1 (inr (inr (inr (too_long old.place now.blocks (block_of block) fault now.place c.in_err-self.ensures.err)))))
