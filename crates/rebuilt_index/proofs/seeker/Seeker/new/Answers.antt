-- The main one has followed nothing, and all is to be followed.
use Rattle.std.proofs.Common.{◌≡◌, ◌⊎◌, ℕ, List, [], None, refl, sym, subst}
use Rattle.std.proofs.lemmas.Result.{err_from_is_err_and}
use Rattle.fault.specs.declared.kinds.Fault.{Fault}
use Rattle.fault.specs.declared.kinds.Fault.TheVariants.{BadScreen, Memory}
use Rattle.raster.specs.Size.{IsScreenSize}
use Rattle.recording.specs.Recording.{Block}
use Rattle.recording_index.specs.IndexBytes.{start}
use Rattle.recording_index.specs.declared.moment.KeyMoment.{KeyMoment}
use Rattle.rfb_wire.specs.Handshake.{Joined}
use Rattle.link.proofs.Sizes.{joined_screen}
use Rattle.rebuilt_index.specs.Following.{Follows}
use Rattle.rebuilt_index.specs.Seeking.{IsOpened, SeeksBy}
use Rattle.rebuilt_index.specs.declared.follower.Follower.{Follower}
use Rattle.rebuilt_index.proofs.Sought.{found_none}
use Rattle.rebuilt_index.proofs.Stopping.{only_memory}
use Rattle.rebuilt_index.proofs.seeker.Seeker.new.Goals as goal

seeks_nothing : (rest : List ℕ) (main : Follower) (moments : List KeyMoment) (blocks : List Block) (hello : List ℕ) (joined : Joined) → moments ≡ [] → IsOpened blocks hello joined rest → Follows joined.w joined.h main [] → SeeksBy rest main None moments start blocks
seeks_nothing rest main moments blocks hello joined none opened follows =
    subst (λ (ms : List KeyMoment). SeeksBy rest main None ms start blocks) (sym none) (record { hello = hello; joined = joined; stream = []; opened = opened; main = follows; candidate = tt; found = found_none blocks; last = refl })

pub returns-clause-ok : goal.returns-clause-ok
returns-clause-ok c = λ blocks hello rest opened.
    let main : Follower = c.in_ok-main.main in
    seeks_nothing rest main c.new-2.result.items blocks hello c.args.joined.now c.new-2.ensures.items opened (subst (λ (j : Joined). Follows j.w j.h main []) c.joined.view_is c.in_ok-main.ensures.ok)

pub returns-in_err-main-clause-err : goal.returns-in_err-main-clause-err
returns-in_err-main-clause-err c =
    let p = err_from_is_err_and c.from_residual.result c.from_residual.ensures.1 in
    let fault : Fault = c.in_err-main.field-0.0 in
    let j : Joined = c.args.joined.now in
    rw (p.1, p.2) (λ blocks hello rest opened.
    only_memory j.w j.h fault (joined_screen None hello j opened.spelled.says) (subst (λ (k : Joined). (fault ≡ Memory) ⊎ ((fault ≡ BadScreen) × ¬ IsScreenSize k.w k.h)) c.joined.view_is c.in_err-main.ensures.err))
