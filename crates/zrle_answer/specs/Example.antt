-- A connection whose bytes were typed by hand from RFC 6143, 7.6.1 and 7.7.6, RFC 1950 and RFC 1951, 3.2.4.
use Rattle.std.specs.Prelude.{◌≡◌, ℕ, false, List, [], ◌∷◌, ◌++◌, Some}
use Rattle.pixel_format.specs.PixelFormat.{PixelFormat}
use Rattle.update_encoder.specs.Follower.{Format, Answer}
use Rattle.zrle_answer.specs.Follower.{ZrleFollower, FollowsAll, at_first}

-- 16 bits, least significant byte first: 5 bits of red on top, 6 of green, 5 of blue.
abbrev pub in_16_bits : PixelFormat
in_16_bits =
    record {
      bits_per_pixel = 16;
      depth = 16;
      big_endian = false;
      red = record { max = 31; shift = 11 };
      green = record { max = 63; shift = 5 };
      blue = record { max = 31; shift = 0 };
    }

-- A FramebufferUpdate of one rectangle, of 1 by 1 at 0, 0, in encoding 16.
abbrev pub head : List ℕ
head = 0 ∷ 0 ∷ 0 ∷ 1 ∷ 0 ∷ 0 ∷ 0 ∷ 0 ∷ 0 ∷ 1 ∷ 0 ∷ 1 ∷ 0 ∷ 0 ∷ 0 ∷ 16 ∷ []

-- A red pixel in the host's format: 11 bytes of zlib data, which begin the stream, and a stored block of the 4 bytes of
-- a tile of one colour.
abbrev pub red_in_32_bits : List ℕ
red_in_32_bits = head ++ (0 ∷ 0 ∷ 0 ∷ 11 ∷ 0x78 ∷ 0x01 ∷ 0 ∷ 4 ∷ 0 ∷ 251 ∷ 255 ∷ 1 ∷ 0 ∷ 0 ∷ 255 ∷ [])

-- A red pixel in 16 bits: 8 bytes of zlib data, which go on in the stream, and a stored block of 3 bytes.
abbrev pub red_in_16_bits : List ℕ
red_in_16_bits = head ++ (0 ∷ 0 ∷ 0 ∷ 8 ∷ 0 ∷ 3 ∷ 0 ∷ 252 ∷ 255 ∷ 1 ∷ 0 ∷ 0xF8 ∷ [])

-- A follower of a screen of 1 by 1 that receives the one, takes a format of 16 bits and receives the other holds red in
-- 16 bits, and both tiles were inflated.
abbrev pub ExampleIsFollowed : Type 0
ExampleIsFollowed =
    (after : ZrleFollower) × FollowsAll 1 1 at_first (Answer red_in_32_bits ∷ Format in_16_bits ∷ Answer red_in_16_bits ∷ []) after × (after.known.held 0 0 ≡ Some 0xF800)
    × (after.stream ≡ Some (1 ∷ 0 ∷ 0 ∷ 255 ∷ 1 ∷ 0 ∷ 0xF8 ∷ []))
