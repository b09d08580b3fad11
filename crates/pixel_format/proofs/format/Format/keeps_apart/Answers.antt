use Rattle.std.proofs.Common.{◌≡◌, ℕ, ◌≤◌, arith}
use Rattle.std.specs.Prelude.{◌↔◌, min}
use Rattle.std.proofs.lemmas.Bool.{leb-true, le-leb}
use Rattle.pixel_format.specs.PixelFormat.{PixelFormat, IsAccepted, KeepsApart}
use Rattle.pixel_format.proofs.Apart.{least_decides}
use Rattle.pixel_format.proofs.format.Format.keeps_apart.Goals as goal

pub returns : goal.returns
returns c =
    let f : PixelFormat = c.args.self.now in
    let least : ℕ = c.min-least.result in
    let ok : IsAccepted f = rw (← c.self.view_is) c.self.invariant in
    let first : c.min.result ≡ min f.red.max f.green.max = rw (← c.self.view_is, ← c.self-inside.view_is) c.min.ensures in
    let last : least ≡ min c.min.result f.blue.max = rw (← c.self.view_is, ← c.self-inside.view_is) c.min-least.ensures in
    let decides : (255 ≤ least) ↔ KeepsApart f = least_decides f least ok (omega arith) (omega arith) (omega arith) (λ r g b. omega arith) in
    (λ e. decides.0 (leb-true 255 least e), λ keeps. le-leb 255 least (decides.1 keeps))
