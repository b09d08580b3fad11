use Rattle.std.proofs.Common.{◌≡◌, ◌-◌, ◌*◌, ◌++◌, take, length}
use Rattle.pixel_format.specs.PixelFormat.{pixel_len}
use Rattle.hextile_codec.specs.Ahead.{pixels_in}
use Rattle.hextile_codec.proofs.pixels.get_row.Given as goal

abbrev pub invariant-loop-value : goal.invariant-loop-value
invariant-loop-value l =
    record {
      written : take l.value-index l.values ++ pixels_in l.fn.format (length l.values - l.value-index) l.rest ≡ pixels_in l.fn.format (length l.fn.values) l.fn.bytes;
      left : length l.rest ≡ (length l.values - l.value-index) * pixel_len l.fn.format;
    }
