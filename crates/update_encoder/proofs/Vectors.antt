-- The definitions compute what an answer's bytes are, and what a follower of answers holds.
use Rattle.std.proofs.Common.{◌≡◌, ℕ, zero, suc, List, [], ◌∷◌, ◌++◌, map, replicate, true, false, refl, arith}
use Rattle.std.specs.Prelude.{Option, Some, None, ◌==◌, ◌||◌, if◌then◌else◌}
use Rattle.std.specs.List.{range_with_len}
use Rattle.pixel_format.specs.PixelFormat.{PixelFormat, host_format}
use Rattle.raster.specs.declared.rect.Rect.{Rect}
use Rattle.raster.specs.declared.encoding.Encoding.{Encoding}
use Rattle.raster.specs.declared.encoding.Encoding.TheVariants.{Raw, Rre, Hextile}
use Rattle.raster.specs.Screen.{Canvas}
use Rattle.raster.specs.Update.{Paints, Put, Copy, Update}
use Rattle.rfb_wire.specs.ClientMessage.{Choice}
use Rattle.joined_runs.specs.declared.rect_form.RectForm.TheVariants.{OfRows, Joined}
use Rattle.update_encoder.specs.Answer.{answer_bytes}
use Rattle.update_encoder.specs.Style.{Style}
use Rattle.update_encoder.specs.Follower.{Received, Format, Answer, HoldsArea, follower, only_message}

abbrev rect : ℕ → ℕ → ℕ → ℕ → Rect
rect x y w h = record { x = x; y = y; w = w; h = h }

abbrev with_copies : Choice
with_copies = record { kind = Raw; copy = true; resizes = false; zrle = false }

-- A style with the runs of rows, and one with joined runs.
abbrev of_rows : PixelFormat → Choice → Style
of_rows format choice = record { runs = OfRows; format = format; choice = choice }

abbrev of_joined : PixelFormat → Choice → Style
of_joined format choice = record { runs = Joined; format = format; choice = choice }

-- 8 bits a pixel, red lowest, then green and blue.
abbrev bgr233 : PixelFormat
bgr233 =
    record {
      bits_per_pixel = 8;
      depth = 8;
      big_endian = false;
      red = record { max = 7; shift = 0 };
      green = record { max = 7; shift = 3 };
      blue = record { max = 3; shift = 6 };
    }

abbrev red : Canvas
red x y = 0xFF0000

abbrev raw_head : ℕ → List ℕ
raw_head y = 0 ∷ 0 ∷ 0 ∷ y ∷ 0 ∷ 1 ∷ 0 ∷ 1 ∷ 0 ∷ 0 ∷ 0 ∷ 0 ∷ []

abbrev copy_head : ℕ → List ℕ
copy_head y = 0 ∷ 0 ∷ 0 ∷ y ∷ 0 ∷ 1 ∷ 0 ∷ 1 ∷ 0 ∷ 0 ∷ 0 ∷ 1 ∷ []

-- A rectangle directly below one that shows the same is a CopyRect of it, and the next one of that.
pub copies_from_above : answer_bytes (of_rows bgr233 with_copies) red [] true (rect 0 0 1 1 ∷ rect 0 1 1 1 ∷ rect 0 2 1 1 ∷ [])
    ≡ (0 ∷ 0 ∷ 0 ∷ 3 ∷ []) ++ raw_head 0 ++ (7 ∷ []) ++ copy_head 1 ++ (0 ∷ 0 ∷ 0 ∷ 0 ∷ []) ++ copy_head 2 ++ 0 ∷ 0 ∷ 0 ∷ 1 ∷ []
copies_from_above = refl

-- It isn't where a row lies between them.
pub no_copy_over_a_gap : answer_bytes (of_rows bgr233 with_copies) red [] true (rect 0 0 1 1 ∷ rect 0 2 1 1 ∷ []) ≡ (0 ∷ 0 ∷ 0 ∷ 2 ∷ []) ++ raw_head 0 ++ (7 ∷ []) ++ raw_head 2 ++ 7 ∷ []
no_copy_over_a_gap = refl

-- Nor where a tile of the answer was never sent, nor where the viewer doesn't take it.
pub no_copy_of_new_tiles : answer_bytes (of_rows bgr233 with_copies) red [] false (rect 0 0 1 1 ∷ rect 0 1 1 1 ∷ []) ≡ (0 ∷ 0 ∷ 0 ∷ 2 ∷ []) ++ raw_head 0 ++ (7 ∷ []) ++ raw_head 1 ++ 7 ∷ []
no_copy_of_new_tiles = refl

pub no_copy_unasked : answer_bytes (of_rows bgr233 (record { kind = Raw; copy = false; resizes = false; zrle = false })) red [] true (rect 0 0 1 1 ∷ rect 0 1 1 1 ∷ [])
    ≡ (0 ∷ 0 ∷ 0 ∷ 2 ∷ []) ++ raw_head 0 ++ (7 ∷ []) ++ raw_head 1 ++ 7 ∷ []
no_copy_unasked = refl

-- A copy wants equal colours: here two have the same pixel value and aren't equal.
pub no_copy_by_pixels : answer_bytes (of_rows bgr233 with_copies) (λ x y. if y == 0 then 0xFF0000 else 0xFE0000) [] true (rect 0 0 1 1 ∷ rect 0 1 1 1 ∷ [])
    ≡ (0 ∷ 0 ∷ 0 ∷ 2 ∷ []) ++ raw_head 0 ++ (7 ∷ []) ++ raw_head 1 ++ 7 ∷ []
no_copy_by_pixels = refl

-- A pixel format makes all unknown, also one that is the same as before.
pub answer_is_known : (follower 1 1 (Answer ((0 ∷ 0 ∷ 0 ∷ 1 ∷ []) ++ raw_head 0 ++ 0 ∷ 0 ∷ 255 ∷ 0 ∷ []) ∷ [])).held 0 0 ≡ Some 0xFF0000
answer_is_known = refl

pub format_makes_unknown : (follower 1 1 (Answer ((0 ∷ 0 ∷ 0 ∷ 1 ∷ []) ++ raw_head 0 ++ 0 ∷ 0 ∷ 255 ∷ 0 ∷ []) ∷ Format host_format ∷ [])).held 0 0 ≡ None
format_makes_unknown = refl

-- ---- copies of the host in front

-- A copy of 4 by 5 from 258, 7 to 2, 3, alone.
abbrev copy_from_258 : List ℕ
copy_from_258 = 0 ∷ 2 ∷ 0 ∷ 3 ∷ 0 ∷ 4 ∷ 0 ∷ 5 ∷ 0 ∷ 0 ∷ 0 ∷ 1 ∷ 1 ∷ 2 ∷ 0 ∷ 7 ∷ []

pub copy_alone : answer_bytes (of_rows bgr233 with_copies) red (Copy (rect 2 3 4 5) 258 7 ∷ []) true [] ≡ (0 ∷ 0 ∷ 0 ∷ 1 ∷ []) ++ copy_from_258
copy_alone = refl

-- It stands in front of a rectangle, and is counted with it.
pub copy_in_front : answer_bytes (of_rows bgr233 with_copies) red (Copy (rect 2 3 4 5) 258 7 ∷ []) true (rect 0 0 1 1 ∷ []) ≡ (0 ∷ 0 ∷ 0 ∷ 2 ∷ []) ++ copy_from_258 ++ raw_head 0 ++ 7 ∷ []
copy_in_front = refl

-- ---- in the encoding that was chosen

abbrev chosen : Encoding → Choice
chosen kind = record { kind = kind; copy = false; resizes = false; zrle = false }

abbrev red_pixel : List ℕ
red_pixel = 0 ∷ 0 ∷ 255 ∷ 0 ∷ []

abbrev blue_pixel : List ℕ
blue_pixel = 255 ∷ 0 ∷ 0 ∷ 0 ∷ []

abbrev black_pixel : List ℕ
black_pixel = 0 ∷ 0 ∷ 0 ∷ 0 ∷ []

-- An update of one rectangle from the top left, so wide and high, in an encoding.
abbrev one_rectangle : ℕ → ℕ → ℕ → List ℕ → List ℕ
one_rectangle w h encoding data_bytes = 0 ∷ 0 ∷ 0 ∷ 1 ∷ 0 ∷ 0 ∷ 0 ∷ 0 ∷ 0 ∷ w ∷ 0 ∷ h ∷ 0 ∷ 0 ∷ 0 ∷ encoding ∷ data_bytes

-- Red, and blue to its right.
abbrev red_then_blue : Canvas
red_then_blue x y = if x == 0 then 0xFF0000 else 0x0000FF

pub in_rre : answer_bytes (of_rows host_format (chosen Rre)) red_then_blue [] false (rect 0 0 8 1 ∷ []) ≡ one_rectangle 8 1 2 ((0 ∷ 0 ∷ 0 ∷ 1 ∷ []) ++ red_pixel ++ blue_pixel ++ 0 ∷ 1 ∷ 0 ∷ 0 ∷ 0 ∷ 7 ∷ 0 ∷ 1 ∷ [])
in_rre = refl

pub in_hextile : answer_bytes (of_rows host_format (chosen Hextile)) red_then_blue [] false (rect 0 0 8 1 ∷ []) ≡ one_rectangle 8 1 5 ((0x0E ∷ []) ++ red_pixel ++ blue_pixel ++ 1 ∷ 0x10 ∷ 0x60 ∷ [])
in_hextile = refl

-- With joined runs, over two rows: in RRE one run of blue that is two rows high, over red; in Hextile one of red over
-- blue.
pub in_joined_rre : answer_bytes (of_joined host_format (chosen Rre)) red_then_blue [] false (rect 0 0 8 2 ∷ []) ≡ one_rectangle 8 2 2 ((0 ∷ 0 ∷ 0 ∷ 1 ∷ []) ++ red_pixel ++ blue_pixel ++ 0 ∷ 1 ∷ 0 ∷ 0 ∷ 0 ∷ 7 ∷ 0 ∷ 2 ∷ [])
in_joined_rre = refl

pub in_joined_hextile : answer_bytes (of_joined host_format (chosen Hextile)) red_then_blue [] false (rect 0 0 8 2 ∷ []) ≡ one_rectangle 8 2 5 ((0x0E ∷ []) ++ blue_pixel ++ red_pixel ++ 1 ∷ 0x00 ∷ 0x01 ∷ [])
in_joined_hextile = refl

pub two_hextile_tiles : answer_bytes (of_rows host_format (chosen Hextile)) red [] false (rect 0 0 17 1 ∷ []) ≡ one_rectangle 17 1 5 ((2 ∷ []) ++ red_pixel ++ 0 ∷ [])
two_hextile_tiles = refl

-- Where it has no fewer bytes the rectangle is Raw: 20 in RRE against 12, and 5 in Hextile against 4.
pub rre_would_be_longer : answer_bytes (of_rows host_format (chosen Rre)) red_then_blue [] false (rect 0 0 3 1 ∷ []) ≡ one_rectangle 3 1 0 (red_pixel ++ blue_pixel ++ blue_pixel)
rre_would_be_longer = refl

pub hextile_would_be_longer : answer_bytes (of_rows host_format (chosen Hextile)) red [] false (rect 0 0 1 1 ∷ []) ≡ one_rectangle 1 1 0 red_pixel
hextile_would_be_longer = refl

-- Each run by itself: on black, blue at the columns 0 and 32, the first run in RRE and the second Raw.
abbrev two_blues : Canvas
two_blues x y = if (x == 0) || (x == 32) then 0x0000FF else 0

abbrev rre_and_raw : List ℕ
rre_and_raw =
    (0 ∷ 0 ∷ 0 ∷ 2 ∷ []) ++ (0 ∷ 0 ∷ 0 ∷ 0 ∷ 0 ∷ 16 ∷ 0 ∷ 1 ∷ 0 ∷ 0 ∷ 0 ∷ 2 ∷ []) ++ (0 ∷ 0 ∷ 0 ∷ 1 ∷ []) ++ blue_pixel ++ black_pixel ++ (0 ∷ 1 ∷ 0 ∷ 0 ∷ 0 ∷ 15 ∷ 0 ∷ 1 ∷ [])
    ++ (0 ∷ 32 ∷ 0 ∷ 0 ∷ 0 ∷ 1 ∷ 0 ∷ 1 ∷ 0 ∷ 0 ∷ 0 ∷ 0 ∷ []) ++ blue_pixel

pub each_run_by_itself : answer_bytes (of_rows host_format (chosen Rre)) two_blues [] true (rect 0 0 16 1 ∷ rect 32 0 1 1 ∷ []) ≡ rre_and_raw
each_run_by_itself = refl

-- Two rows of tiles of a screen of 17 by 17.
pub two_rows_of_tiles : answer_bytes (of_rows host_format (chosen Rre)) (λ x y. 0) [] false (rect 0 0 17 16 ∷ rect 0 16 17 1 ∷ [])
    ≡ (0 ∷ 0 ∷ 0 ∷ 2 ∷ []) ++ (0 ∷ 0 ∷ 0 ∷ 0 ∷ 0 ∷ 17 ∷ 0 ∷ 16 ∷ 0 ∷ 0 ∷ 0 ∷ 2 ∷ 0 ∷ 0 ∷ 0 ∷ 0 ∷ []) ++ black_pixel
    ++ (0 ∷ 0 ∷ 0 ∷ 16 ∷ 0 ∷ 17 ∷ 0 ∷ 1 ∷ 0 ∷ 0 ∷ 0 ∷ 2 ∷ 0 ∷ 0 ∷ 0 ∷ 0 ∷ []) ++ black_pixel
two_rows_of_tiles = refl

-- A CopyRect goes before RRE.
abbrev copied_below : List ℕ
copied_below =
    (0 ∷ 0 ∷ 0 ∷ 2 ∷ []) ++ (0 ∷ 0 ∷ 0 ∷ 0 ∷ 0 ∷ 16 ∷ 0 ∷ 16 ∷ 0 ∷ 0 ∷ 0 ∷ 2 ∷ 0 ∷ 0 ∷ 0 ∷ 0 ∷ []) ++ red_pixel
    ++ 0 ∷ 0 ∷ 0 ∷ 16 ∷ 0 ∷ 16 ∷ 0 ∷ 16 ∷ 0 ∷ 0 ∷ 0 ∷ 1 ∷ 0 ∷ 0 ∷ 0 ∷ 0 ∷ []

pub copied_before_rre : answer_bytes (of_rows host_format (record { kind = Rre; copy = true; resizes = false; zrle = false })) red [] true (rect 0 0 16 16 ∷ rect 0 16 16 16 ∷ []) ≡ copied_below
copied_before_rre = refl

-- ---- what a follower holds

-- What it holds in the first row of a screen of w by 1.
abbrev row : ℕ → List Received → List (Option ℕ)
row w received =
    let held = (follower w 1 received).held in
    map (λ x. held x 0) (range_with_len 0 w)

abbrev red_green_blue : List ℕ
red_green_blue = one_rectangle 3 1 0 (red_pixel ++ (0 ∷ 255 ∷ 0 ∷ 0 ∷ []) ++ blue_pixel)

pub nothing_is_known : row 3 [] ≡ None ∷ None ∷ None ∷ []
nothing_is_known = refl

-- A CopyRect writes what was held at its source before it: of two pixels from the first on, over the second and third.
abbrev one_to_the_right : List ℕ
one_to_the_right = 0 ∷ 0 ∷ 0 ∷ 1 ∷ 0 ∷ 1 ∷ 0 ∷ 0 ∷ 0 ∷ 2 ∷ 0 ∷ 1 ∷ 0 ∷ 0 ∷ 0 ∷ 1 ∷ 0 ∷ 0 ∷ 0 ∷ 0 ∷ []

pub copy_is_followed : row 3 (Answer red_green_blue ∷ Answer one_to_the_right ∷ []) ≡ Some 0xFF0000 ∷ Some 0xFF0000 ∷ Some 0x00FF00 ∷ []
copy_is_followed = refl

-- What is unknown stays so where it is copied.
pub copy_of_the_unknown : row 3 (Answer (one_rectangle 1 1 0 red_pixel) ∷ Answer one_to_the_right ∷ []) ≡ Some 0xFF0000 ∷ Some 0xFF0000 ∷ None ∷ []
copy_of_the_unknown = refl

pub rre_is_followed : row 3 (Answer (one_rectangle 3 1 2 ((0 ∷ 0 ∷ 0 ∷ 1 ∷ []) ++ red_pixel ++ blue_pixel ++ 0 ∷ 1 ∷ 0 ∷ 0 ∷ 0 ∷ 2 ∷ 0 ∷ 1 ∷ [])) ∷ []) ≡ Some 0xFF0000 ∷ Some 0x0000FF ∷ Some 0x0000FF ∷ []
rre_is_followed = refl

pub hextile_is_followed : row 2 (Answer (one_rectangle 2 1 5 ((0x1E ∷ []) ++ red_pixel ++ black_pixel ++ (1 ∷ []) ++ blue_pixel ++ 0x10 ∷ 0x00 ∷ [])) ∷ []) ≡ Some 0xFF0000 ∷ Some 0x0000FF ∷ []
hextile_is_followed = refl

-- Two rectangles of one answer, and between them what no answer brought.
pub two_runs_are_followed : row 33 (Answer rre_and_raw ∷ []) ≡ (Some 0x0000FF ∷ replicate 15 (Some 0)) ++ replicate 16 None ++ Some 0x0000FF ∷ []
two_runs_are_followed = refl

-- An answer of one byte more is none, and one of one byte less is none: they change nothing.
abbrev red_one : List ℕ
red_one = one_rectangle 1 1 0 red_pixel

pub whole_answer : row 1 (Answer (one_rectangle 1 1 0 blue_pixel) ∷ Answer red_one ∷ []) ≡ Some 0xFF0000 ∷ []
whole_answer = refl

pub one_byte_more : row 1 (Answer (one_rectangle 1 1 0 blue_pixel) ∷ Answer (red_one ++ 0 ∷ []) ∷ []) ≡ Some 0x0000FF ∷ []
one_byte_more = refl

pub one_byte_less : row 1 (Answer (one_rectangle 1 1 0 blue_pixel) ∷ Answer (one_rectangle 1 1 0 (0 ∷ 0 ∷ 255 ∷ [])) ∷ []) ≡ Some 0x0000FF ∷ []
one_byte_less = refl

pub more_is_no_message : only_message host_format 1 1 (red_one ++ 0 ∷ []) ≡ None
more_is_no_message = refl

pub less_is_no_message : only_message host_format 1 1 (one_rectangle 1 1 0 (0 ∷ 0 ∷ 255 ∷ [])) ≡ None
less_is_no_message = refl

-- Nor are two answers in one, nor one that leaves the screen; a Bell changes nothing.
pub two_in_one : row 1 (Answer (red_one ++ red_one) ∷ []) ≡ None ∷ []
two_in_one = refl

pub outside : row 1 (Answer (one_rectangle 2 1 0 (red_pixel ++ blue_pixel)) ∷ []) ≡ None ∷ []
outside = refl

pub bell_changes_nothing : row 1 (Answer red_one ∷ Answer (2 ∷ []) ∷ []) ≡ Some 0xFF0000 ∷ []
bell_changes_nothing = refl

-- ---- an area of the host's screen in the viewer's format

abbrev rgb565 : PixelFormat
rgb565 =
    record {
      bits_per_pixel = 16;
      depth = 16;
      big_endian = true;
      red = record { max = 31; shift = 11 };
      green = record { max = 63; shift = 5 };
      blue = record { max = 31; shift = 0 };
    }

abbrev red_blue_update : Update
red_blue_update = Paints None (Put (rect 0 0 2 1) (0xFF0000 ∷ 0x0000FF ∷ []) ∷ [])

-- What a follower has taken after a change to 16 bits, F800 and 001F.
abbrev in_sixteen_bits : List Received
in_sixteen_bits = Format rgb565 ∷ Answer (one_rectangle 2 1 0 (0xF8 ∷ 0x00 ∷ 0x00 ∷ 0x1F ∷ [])) ∷ []

pub sixteen_bits_are_followed : row 2 in_sixteen_bits ≡ Some 0xF800 ∷ Some 0x001F ∷ []
sixteen_bits_are_followed = refl

pub area_is_held : HoldsArea (follower 2 1 in_sixteen_bits) (rect 0 0 2 1) (red_blue_update ∷ [])
area_is_held zero zero a b c d = refl
area_is_held (suc zero) zero a b c d = refl
area_is_held (suc (suc x)) zero a b c d = absurd (omega arith)
area_is_held x (suc y) a b c d = absurd (omega arith)

other_pixel : (m n : ℕ) → Some m ≡ Some n → m ≡ n
other_pixel m n e = cc

unknown_pixel : (n : ℕ) → None ≡ Some n → ⊥
unknown_pixel n e = cc

-- It isn't held of the screen before that update, nor after a further change of format.
pub not_of_another_screen : HoldsArea (follower 2 1 in_sixteen_bits) (rect 0 0 2 1) [] → ⊥
not_of_another_screen holds =
    let e : 0xF800 ≡ 0 = other_pixel 0xF800 0 (holds 0 0 (omega arith) (omega arith) (omega arith) (omega arith)) in omega (arith, e)

pub not_after_a_format : HoldsArea (follower 2 1 (in_sixteen_bits ++ Format rgb565 ∷ [])) (rect 0 0 2 1) (red_blue_update ∷ []) → ⊥
not_after_a_format holds = unknown_pixel 0xF800 (holds 0 0 (omega arith) (omega arith) (omega arith) (omega arith))
