-- The fields of fixed length in what a host sends (RFC 6143, 7.6), after the type of a message.
use Rattle.std.specs.Prelude.{ℕ}
use Rattle.byte_reading.specs.Reading.{Reading, Done, ◌>>=◌, padding, u16, u32}

-- The count of rectangles of a FramebufferUpdate (7.6.1).
abbrev pub update_head : Reading ℕ
update_head = padding 1 u16

-- The count of colours of SetColorMapEntries, after the first colour's number (7.6.2).
abbrev pub colour_map_head : Reading ℕ
colour_map_head = padding 3 u16

-- The length of a ServerCutText (7.6.4).
abbrev pub text_head : Reading ℕ
text_head = padding 3 u32

-- The source of a CopyRect: x and y (7.7.2).
abbrev pub copy_source : Reading (ℕ × ℕ)
copy_source = do
  x ← u16
  y ← u16
  Done (x, y)
