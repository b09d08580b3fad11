-- A tile's kind and its head by its colours, and by their pixel values in a format that keeps them apart.
use Rattle.pixel_format.specs.PixelFormat.{PixelFormat, tint}
use Rattle.hextile_codec.specs.declared.tile_kind.Head.{Head}
use Rattle.hextile_codec.specs.declared.tile_kind.TileKind.{TileKind}
use Rattle.hextile_codec.specs.declared.tile_kind.TileKind.TheVariants.{Raw, Plain, TwoColours, Coloured}

-- A kind with its colour as a pixel value.
abbrev pub tinted_kind : PixelFormat → TileKind → TileKind
tinted_kind format Raw = Raw
tinted_kind format Plain = Plain
tinted_kind format (TwoColours foreground) = TwoColours (tint format foreground)
tinted_kind format Coloured = Coloured

-- A head with its colours as pixel values.
abbrev pub tinted_head : PixelFormat → Head → Head
tinted_head format head = record { background = tint format head.background; kind = tinted_kind format head.kind; count = head.count }
