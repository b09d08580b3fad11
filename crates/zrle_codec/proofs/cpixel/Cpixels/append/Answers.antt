use Rattle.std.proofs.Common.{ℕ, ◌+◌, ◌-◌, ◌++◌, ◌∙◌, ap, arith}
use Rattle.zrle_codec.proofs.Lengths.{cpixel_of_bytes}
use Rattle.zrle_codec.proofs.cpixel.Cpixels.append.Goals as goal

pub returns-clause-ok : goal.returns-clause-ok
returns-clause-ok c =
    let from : ℕ = c.args.self.now.from in
    let len : ℕ = c.args.self.now.len in
    c.in_ok-extend_from_slice.ensures.items
    ∙ ap (λ t. c.args.out.now.items ++ t) (cpixel_of_bytes c.args.self.now.format c.args.value from len (from + len - from) c.put_pixel.new.out _ c.args.self.now.begins c.args.self.now.has c.args.self.now.inside (omega arith) c.put_pixel.ensures)
