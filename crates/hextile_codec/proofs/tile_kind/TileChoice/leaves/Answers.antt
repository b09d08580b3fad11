use Rattle.std.proofs.Common.{◌≡◌, ℕ, Option, Some, None, refl}
use Rattle.raster.specs.Encoding.{Carried}
use Rattle.hextile_codec.specs.declared.tile_kind.TileKind.{TileKind}
use Rattle.hextile_codec.specs.declared.tile_kind.TileKind.TheVariants.{Raw, Plain, TwoColours, Coloured}
use Rattle.hextile_codec.specs.TileKinds.{leaves_of}
use Rattle.hextile_codec.proofs.tile_kind.TileChoice.leaves.Goals as goal
use Rattle.hextile_codec.proofs.tile_kind.TileChoice.leaves.Goals.{in-Raw, in_default}

abbrev both : Option ℕ → Option ℕ → Carried
both background foreground = record { background = background; foreground = foreground }

-- Of another kind than two colours no foreground is left, and of Raw no background either.
leaves_no_foreground : (kind : TileKind) (background : ℕ) → (kind ≡ Raw → ⊥) → ((f : ℕ) → kind ≡ TwoColours f → ⊥) → both (Some background) None ≡ leaves_of kind background
leaves_no_foreground Raw background raw two = absurd (raw refl)
leaves_no_foreground Plain background raw two = refl
leaves_no_foreground (TwoColours f) background raw two = absurd (two f refl)
leaves_no_foreground Coloured background raw two = refl

pub returns-in_default-kind : goal.returns-in_default-kind
returns-in_default-kind c = elim c.match-self.branch [
  | in-Raw w ↦ rw (w.background-is, w.in-Raw.is) refl
  | in_default w ↦ rw w.background-is (leaves_no_foreground c.args.self.now.kind c.args.self.now.background w.in_default.not-Raw c.in_default-kind.not-TwoColours)
]
