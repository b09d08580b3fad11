use Rattle.std.proofs.Common.{◌≤◌, ◌∙◌, ◌++◌, ◌∷◌, [], length, inr, subst, arith}
use Rattle.std.specs.Prelude.{map}
use Rattle.std.proofs.lemmas.List.{length-map, take_all}
use Rattle.raster.specs.Size.{IsScreenSize}
use Rattle.reflect_world.specs.World.{Kept, StopsAt, step_of}
use Rattle.reflect_world.proofs.Keeping.{is_faithful, played_more, step_at, size_at, size_with}
use Rattle.reflect_world.proofs.world.play.Goals as goal

pub returns-then-world-clause-faithful : goal.returns-then-world-clause-faithful
returns-then-world-clause-faithful c = is_faithful c.args.world.now (subst (λ (k : Kept). IsScreenSize k.width k.height) c.world.view_is c.world.invariant.shows.size)

pub loop-played-preserved : goal.loop-played-preserved
loop-played-preserved c =
    let at = step_at c.args.steps.now c.loop-played.played c.index-steps-played.result c.loop-played-test.true c.index-steps-played.is in
    let so_far = c.loop-played.invariant.0 in
    let one = c.in-Ok.ensures.ok in
    let more = played_more c.args.world.now c.loop-played.world c.step.new.self (map step_of c.args.steps.now) so_far.0 c.loop-played.played (step_of c.index-steps-played.result) one.0 so_far.1 so_far.2 at.0 at.1 one.1 one.2 in
    ((so_far.0 ++ one.0 ∷ [], more.0, more.1), c.loop-played.invariant.1)

pub returns-in-Err-clause-err : goal.returns-in-Err-clause-err
returns-in-Err-clause-err c =
    let at = step_at c.args.steps.now c.loop-played.played c.index-steps-played.result c.loop-played-test.true c.index-steps-played.is in
    let so_far = c.loop-played.invariant.0 in
    inr (c.loop-played.invariant.1, (so_far.0, step_of c.index-steps-played.result, so_far.1, at.2, subst (λ (k : Kept). StopsAt k c.step.new.self (step_of c.index-steps-played.result) c.in-Err.fault) so_far.2 c.in-Err.ensures.err))

pub returns-in-Err-clause-faithful : goal.returns-in-Err-clause-faithful
returns-in-Err-clause-faithful c =
    let so_far = c.loop-played.invariant.0 in
    let size = size_with c.args.world.now c.loop-played.world so_far.0 so_far.2 (subst (λ (k : Kept). IsScreenSize k.width k.height) c.world.view_is c.world.invariant.shows.size) in
    is_faithful c.step.new.self (size_at c.loop-played.world c.step.new.self (step_of c.index-steps-played.result) c.in-Err.fault size c.in-Err.ensures.err)

pub returns-clause-ok : goal.returns-clause-ok
returns-clause-ok c =
    let so_far = c.loop-played.invariant.0 in
    let all : length (map step_of c.args.steps.now) ≤ c.loop-played.played = omega (arith, length-map c.args.steps.now step_of, c.loop-played-test.false) in
    (c.loop-played.invariant.1, (so_far.0, so_far.1 ∙ take_all c.loop-played.played (map step_of c.args.steps.now) all, so_far.2))

pub returns-clause-faithful : goal.returns-clause-faithful
returns-clause-faithful c =
    let so_far = c.loop-played.invariant.0 in
    is_faithful c.loop-played.world (size_with c.args.world.now c.loop-played.world so_far.0 so_far.2 (subst (λ (k : Kept). IsScreenSize k.width k.height) c.world.view_is c.world.invariant.shows.size))
