-- How reading a header goes on from a state.
use Rattle.std.specs.Prelude.{◌∷◌, [], Bool, true, false, nat_lt, drop, Ok, Err}
use Rattle.byte_reading.specs.Reading.{Reading, Done, Want, ◌>>=◌, after, u16}
use Rattle.proxy_header.specs.Header.{Answer, signature, exactly, after_command, speaks, block, addresses, read_past, refused}
use Rattle.proxy_header.specs.declared.state.State.{State}
use Rattle.proxy_header.specs.declared.state.State.TheVariants.{Signature, Family, Length, LengthEnd, Block, Rest, Refused}

abbrev pub ahead : State → Reading Answer
ahead (Signature count) = exactly (drop count signature) (Want after_command)
ahead (Family command) = Want (speaks command)
ahead (Length told) = u16 >>= block told
ahead (LengthEnd told high) = after (u16 >>= block told) (high ∷ [])
ahead (Block begun rest) = after (addresses begun.0 rest) begun.1
ahead (Rest origin left) = read_past left origin
ahead (Refused reason) = refused reason

-- A byte of the header is missing.
abbrev pub is_partial : State → Bool
is_partial (Rest origin left) = nat_lt 0 left
is_partial (Refused reason) = false
is_partial _ = true
