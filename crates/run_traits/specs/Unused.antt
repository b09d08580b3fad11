-- The state in which a link comes.
use Rattle.std.specs.Prelude.{[]}
use Rattle.link.specs.Links.{LinkState}

-- A link that has taken and given nothing, and has neither failed nor ended.
abbrev pub unused : LinkState
unused = record { taken = []; given = []; failed = 0; ended = 0 }
