-- The colours that a tile may leave unsaid (RFC 6143, 7.7.4).
use Rattle.raster.specs.Encoding.{Carried}
use Rattle.hextile_codec.specs.declared.colours.Colours.{Colours}

-- The colours that those in the code stand for.
abbrev pub carried_by : Colours → Carried
carried_by colours = record { background = colours.background; foreground = colours.foreground }
