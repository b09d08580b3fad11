use Rattle.std.proofs.Common.{ap, subst, sym, ◌∙◌}
use Rattle.std.specs.Prelude.{Ok, Err, None}
use Rattle.std.proofs.lemmas.Result.{err_from_is_err_and}
use Rattle.reflect_world.specs.Host.{HostSide, HostStands, patch_in}
use Rattle.reflect_world.specs.contracts.host.Host.{the_view}
use Rattle.reflect_world.proofs.Hosts.{host_hands_on, nothing_comes, patch_comes, reads_on_from, same_host_on}
use Rattle.reflect_world.proofs.host.Host.next_patch.Goals as goal

pub returns-in-Some-clause-ok : goal.returns-in-Some-clause-ok
returns-in-Some-clause-ok c =
    λ past bytes us k.
    host_hands_on (the_view c.self.inside) c.in-Some.patch c.take.new.self (sym c.take.ensures.value ∙ c.in-Some.is) c.take.ensures.after past bytes us
    (subst (λ (host : HostSide). HostStands past bytes us host) (sym c.self.view_is) k)

pub returns-in_err-read_one-clause-err : goal.returns-in_err-read_one-clause-err
returns-in_err-read_one-clause-err c =
    let failed = err_from_is_err_and c.from_residual.result c.from_residual.ensures.1 in
    rw (failed.1, failed.2)
    (reads_on_from c.args.self.now c.messages.self c.read_one.new.self (Err c.in_err-read_one.field-0.0) c.messages.invariant.stands c.in_err-read_one.ensures.err)

pub returns-in-None-clause-ok : goal.returns-in-None-clause-ok
returns-in-None-clause-ok c =
    reads_on_from c.args.self.now c.messages.self c.read_one.new.self (Ok None) c.messages.invariant.stands (c.in_ok-read_one.ensures.end (let is = c.in-None.is in cc))

pub returns-in-Some-Paint-clause-ok : goal.returns-in-Some-Paint-clause-ok
returns-in-Some-Paint-clause-ok c =
    patch_comes c.args.self.now c.messages.self c.read_one.new.self c.in_ok-read_one.field-0 c.in-Some-Paint.field-0 c.in-Some-Paint.patch c.in-Some-Paint.is (ap patch_in c.in-Some-Paint.field-0-is)
    c.messages.invariant.stands c.in_ok-read_one.ensures.message

pub returns-in-Some-Bell-clause-ok : goal.returns-in-Some-Bell-clause-ok
returns-in-Some-Bell-clause-ok c =
    patch_comes c.args.self.now c.messages.self c.read_one.new.self c.in_ok-read_one.field-0 c.in-Some-Bell.field-0 c.in-Some-Bell.patch c.in-Some-Bell.is (ap patch_in c.in-Some-Bell.field-0-is)
    c.messages.invariant.stands c.in_ok-read_one.ensures.message

pub returns-in-Some-Cut-clause-ok : goal.returns-in-Some-Cut-clause-ok
returns-in-Some-Cut-clause-ok c =
    patch_comes c.args.self.now c.messages.self c.read_one.new.self c.in_ok-read_one.field-0 c.in-Some-Cut.field-0 c.in-Some-Cut.patch c.in-Some-Cut.is (ap patch_in c.in-Some-Cut.field-0-is)
    c.messages.invariant.stands c.in_ok-read_one.ensures.message

pub messages-preserved-in-Some-Map : goal.messages-preserved-in-Some-Map
messages-preserved-in-Some-Map c =
    record {
      none = c.in_ok-read_one.ensures.none;
      same = same_host_on c.args.self.now c.messages.self c.read_one.new.self c.messages.invariant.same c.in_ok-read_one.ensures.same;
      stands =
          nothing_comes c.args.self.now c.messages.self c.read_one.new.self c.in_ok-read_one.field-0 c.in-Some-Map.field-0 c.in-Some-Map.is (ap patch_in c.in-Some-Map.field-0-is)
          c.messages.invariant.stands c.in_ok-read_one.ensures.message;
    }

pub messages-preserved : goal.messages-preserved
messages-preserved c =
    record {
      none = c.in_ok-read_one.ensures.none;
      same = same_host_on c.args.self.now c.messages.self c.read_one.new.self c.messages.invariant.same c.in_ok-read_one.ensures.same;
      stands =
          nothing_comes c.args.self.now c.messages.self c.read_one.new.self c.in_ok-read_one.field-0 c.in-Some-LongCut.field-0 c.in-Some-LongCut.is (ap patch_in c.in-Some-LongCut.field-0-is)
          c.messages.invariant.stands c.in_ok-read_one.ensures.message;
    }

pub read_one-requires-clause-stands : goal.read_one-requires-clause-stands
read_one-requires-clause-stands c = (c.requires.0, c.requires.1, c.requires.2, c.messages.invariant.stands c.requires.0 c.requires.1 c.requires.2 c.requires.3)
