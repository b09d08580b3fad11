-- The handshake goes on, or it is whole.
use Rattle.std.proofs.Common.{◌∙◌, ◌++◌, ◌∷◌, [], ℕ, List, take, drop, inl, inr, refl, sym, arith}
use Rattle.std.proofs.lemmas.Result.{err_from_is_err_and}
use Rattle.byte_reading.proofs.ReadingLaws.{taken-le}
use Rattle.rfb_wire.specs.Joining.{ahead as hello_ahead}
use Rattle.rebuilt_index.specs.Anew.{said_bytes}
use Rattle.rebuilt_index.specs.declared.rebuild.Session.{Session}
use Rattle.rebuilt_index.proofs.Rebuilt.{opened_now, opening_on, opening_seen, seen_opening}
use Rattle.rebuilt_index.proofs.Stopping.{hello_stops}
use Rattle.rebuilt_index.proofs.rebuild.Session.hear.Goals as goal

pub returns-in_default-clause-ok : goal.returns-in_default-clause-ok
returns-in_default-clause-ok c = λ blocks block seen same.
    let old : Session = c.args.self.now in
    let new : Session = record { alloc = old.alloc; hello = c.feed.new.self; seeker = old.seeker } in
    seen_opening new (blocks ++ block ∷ []) c.requires
    (opening_on old new blocks block c.args.said.now c.in_ok-used.used same (opening_seen old blocks c.requires seen) c.in_ok-used.ensures.reads (sym c.done.ensures ∙ c.in_default.is))

pub split_at-requires : goal.split_at-requires
split_at-requires c = omega (arith, taken-le (hello_ahead c.args.self.now.hello) c.args.said.now, c.in_ok-used.ensures.reads.1)

pub returns-clause-ok : goal.returns-clause-ok
returns-clause-ok c = λ blocks block seen same.
    let old : Session = c.args.self.now in
    let new : Session = record { alloc = old.alloc; hello = c.feed.new.self; seeker = old.seeker } in
    let count : ℕ = c.in_ok-used.used in
    let rest : List ℕ = c.split_at.result.1.now in
    let opened = opened_now old new blocks block c.args.said.now rest count c.in-Some.joined same c.split_at.ensures.back (opening_seen old blocks c.requires seen) c.in_ok-used.ensures.reads (sym c.in-Some.is ∙ c.done.ensures) in
    c.in_ok-follow.ensures.ok (blocks ++ block ∷ []) (c.in_ok-seeker.ensures.ok (blocks ++ block ∷ []) (said_bytes blocks ++ take count c.args.said.now) rest opened)

pub returns-in_err-used-clause-err : goal.returns-in_err-used-clause-err
returns-in_err-used-clause-err c =
    let p = err_from_is_err_and c.from_residual.result c.from_residual.ensures.1 in
    let old : Session = c.args.self.now in
    rw (p.1, p.2) (λ blocks block seen same.
    inr (inl (hello_stops (hello_ahead old.hello) (hello_ahead c.feed.new.self) blocks block c.args.said.now c.in_err-used.field-0.0 same (opening_seen old blocks c.requires seen).heard c.in_err-used.ensures.reads)))

pub returns-in_err-seeker-clause-err : goal.returns-in_err-seeker-clause-err
returns-in_err-seeker-clause-err c =
    let exit = c.from_residual-in_err-seeker in
    let p = err_from_is_err_and exit.result exit.ensures.1 in
    rw (p.1, p.2) (λ blocks block seen same.
    let old : Session = c.args.self.now in
    let new : Session = record { alloc = old.alloc; hello = c.feed.new.self; seeker = old.seeker } in
    let said : List ℕ = c.args.said.now in
    let count : ℕ = c.in_ok-used.used in
    let opened = opened_now old new blocks block said (drop count said) count c.in-Some.joined same refl (opening_seen old blocks c.requires seen) c.in_ok-used.ensures.reads (sym c.in-Some.is ∙ c.done.ensures) in
    inl (c.in_err-seeker.ensures.err (blocks ++ block ∷ []) (said_bytes blocks ++ take count said) (drop count said) opened))

pub returns-in_err-follow-clause-err : goal.returns-in_err-follow-clause-err
returns-in_err-follow-clause-err c =
    let exit = c.from_residual-in_err-follow in
    let p = err_from_is_err_and exit.result exit.ensures.1 in
    rw (p.1, p.2) (λ blocks block seen same.
    let old : Session = c.args.self.now in
    let new : Session = record { alloc = old.alloc; hello = c.feed.new.self; seeker = old.seeker } in
    let said : List ℕ = c.args.said.now in
    let count : ℕ = c.in_ok-used.used in
    let rest : List ℕ = c.split_at.result.1.now in
    let opened = opened_now old new blocks block said rest count c.in-Some.joined same c.split_at.ensures.back (opening_seen old blocks c.requires seen) c.in_ok-used.ensures.reads (sym c.in-Some.is ∙ c.done.ensures) in
    c.in_err-follow.ensures.err (blocks ++ block ∷ []) (c.in_ok-seeker.ensures.ok (blocks ++ block ∷ []) (said_bytes blocks ++ take count said) rest opened))
