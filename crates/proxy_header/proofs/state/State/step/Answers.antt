-- A byte of a block of addresses.
use Rattle.std.proofs.Common.{ℕ, List, ap, sym, ◌∙◌}
use Rattle.byte_reading.specs.Reading.{after, step}
use Rattle.proxy_header.specs.Header.{addresses, read_past}
use Rattle.proxy_header.specs.State.{ahead}
use Rattle.proxy_header.specs.declared.address.Ip.{Ip}
use Rattle.proxy_header.proofs.Steps.{block_goes_on, block_ends}
use Rattle.proxy_header.proofs.state.State.step.Goals as goal

pub returns-in-Ok : goal.returns-in-Ok
returns-in-Ok c =
    ap (λ (b : Ip × List ℕ). after (addresses b.0 c.in-Block.rest) b.1) c.in-Ok.ensures
    ∙ (block_goes_on c.in-Block.block.0 c.in-Block.rest c.in-Block.block.1 c.args.byte ∙ sym (ap (λ s. step (ahead s) c.args.byte) c.in-Block.is))

pub returns-in-Err : goal.returns-in-Err
returns-in-Err c =
    ap (read_past c.in-Block.rest) c.in-Err.ensures.1
    ∙ (block_ends c.in-Block.block.0 c.in-Block.rest c.in-Block.block.1 c.args.byte c.in-Err.ensures.0 ∙ sym (ap (λ s. step (ahead s) c.args.byte) c.in-Block.is))
