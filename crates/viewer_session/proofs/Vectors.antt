-- The definitions compute what a turn makes of a session's record, in which the latest entry stands first, and what is
-- read of it.
use Rattle.std.proofs.Common.{◌≡◌, ℕ, Bool, true, false, List, [], ◌∷◌, ◌++◌, refl}
use Rattle.std.specs.Prelude.{Some, None}
use Rattle.pixel_format.specs.PixelFormat.{PixelFormat, host_format}
use Rattle.raster.specs.declared.rect.Rect.{Rect}
use Rattle.raster.specs.declared.size.Size.{Size}
use Rattle.raster.specs.declared.encoding.Encoding.TheVariants.{Raw, Rre, Hextile}
use Rattle.raster.specs.Update.{Update, Paints, Put, Copy, Resized, of_paints}
use Rattle.raster.specs.Update as update
use Rattle.joined_runs.specs.declared.rect_form.RectForm.TheVariants.{OfRows, Joined}
use Rattle.rfb_wire.specs.ClientMessage.{SetPixelFormat, SetEncodings, Ask, Key}
use Rattle.rfb_wire.specs.ServerMessage.{FramebufferUpdate, ServerCutText}
use Rattle.rfb_wire.specs.ServerMessage as server
use Rattle.update_encoder.specs.Follower as follower
use Rattle.viewer_session.specs.declared.form.AnswerForm.{AnswerForm}
use Rattle.viewer_session.specs.Record.{Entry, Took, Saw, MadeCut, Began, ToldSize, choice_of, format_of, messages_in, received}
use Rattle.viewer_session.specs.Turn.{has_reason, all_were_sent, size_at, told_of, update_at, sent_at, record_after_cut}
use Rattle.viewer_session.specs.Stream.{Format, Bytes, heard, stream_of, listener}

abbrev rect : ℕ → ℕ → ℕ → ℕ → Rect
rect x y w h = record { x = x; y = y; w = w; h = h }

-- 8 bits a pixel, red lowest, then green and blue.
abbrev bgr233 : PixelFormat
bgr233 =
    record {
      bits_per_pixel = 8;
      depth = 8;
      big_endian = false;
      red = record { max = 7; shift = 0 };
      green = record { max = 7; shift = 3 };
      blue = record { max = 3; shift = 6 };
    }

abbrev rre : Entry
rre = Took (SetEncodings (record { kind = Rre; copy = false; resizes = false; zrle = false }))

abbrev hextile_and_copies : Entry
hextile_and_copies = Took (SetEncodings (record { kind = Hextile; copy = true; resizes = false; zrle = false }))

abbrev asks : Bool → ℕ → ℕ → Entry
asks incremental w h = Took (Ask incremental (rect 0 0 w h))

-- ---- the latest list and the latest format

pub latest_list_counts : choice_of (MadeCut 1 ∷ rre ∷ Saw 1 ∷ hextile_and_copies ∷ []) ≡ record { kind = Rre; copy = false; resizes = false; zrle = false }
latest_list_counts = refl

pub list_before_it : choice_of (MadeCut 1 ∷ hextile_and_copies ∷ rre ∷ []) ≡ record { kind = Hextile; copy = true; resizes = false; zrle = false }
list_before_it = refl

pub no_list_yet : choice_of (Took (Key true 0x61) ∷ Saw 0 ∷ []) ≡ record { kind = Raw; copy = false; resizes = false; zrle = false }
no_list_yet = refl

pub latest_format_counts : format_of (rre ∷ Took (SetPixelFormat bgr233) ∷ Took (SetPixelFormat host_format) ∷ []) ≡ bgr233
latest_format_counts = refl

pub no_format_yet : format_of (rre ∷ []) ≡ host_format
no_format_yet = refl

-- ---- when a turn cuts

-- Before the first cut where the look is over 0; later where it is over the last cut's number.
pub nothing_new : has_reason 2 1 [] 0 ≡ false
nothing_new = refl

pub first_update : has_reason 2 1 [] 1 ≡ true
first_update = refl

pub no_later_update : has_reason 2 1 (MadeCut 3 ∷ []) 3 ≡ false
no_later_update = refl

pub later_update : has_reason 2 1 (MadeCut 3 ∷ []) 4 ≡ true
later_update = refl

-- And where there is an area that was asked for since the last cut, by a request or a pixel format. A cut that sent
-- nothing ends the asking.
pub asked : has_reason 2 1 (asks true 2 1 ∷ []) 0 ≡ true
asked = refl

pub not_asked_again : has_reason 2 1 (MadeCut 1 ∷ asks true 2 1 ∷ []) 1 ≡ false
not_asked_again = refl

pub asked_by_a_format : has_reason 2 1 (Took (SetPixelFormat host_format) ∷ MadeCut 1 ∷ asks true 2 1 ∷ []) 1 ≡ true
asked_by_a_format = refl

pub no_area_to_ask_for : has_reason 2 1 (Took (SetPixelFormat host_format) ∷ []) 0 ≡ false
no_area_to_ask_for = refl

pub encodings_do_not_ask : has_reason 2 1 (rre ∷ MadeCut 1 ∷ asks true 2 1 ∷ []) 1 ≡ false
encodings_do_not_ask = refl

-- A request beside the screen is empty once it is clipped.
pub request_beside_the_screen : has_reason 2 1 (Took (Ask false (rect 2 0 1 1)) ∷ []) 0 ≡ false
request_beside_the_screen = refl

-- ---- the update of a cut

-- On 17 by 17 in RRE: a part of the first tile; then all, since that tile counts as never sent; then nothing is due.
abbrev of_rows : AnswerForm
of_rows = record { runs = OfRows; zrle = false; copies = false }

abbrev joined : AnswerForm
joined = record { runs = Joined; zrle = false; copies = false }

abbrev corner : List ℕ
corner = 0 ∷ 0 ∷ 0 ∷ 1 ∷ 0 ∷ 0 ∷ 0 ∷ 0 ∷ 0 ∷ 8 ∷ 0 ∷ 8 ∷ 0 ∷ 0 ∷ 0 ∷ 2 ∷ 0 ∷ 0 ∷ 0 ∷ 0 ∷ 0 ∷ 0 ∷ 0 ∷ 0 ∷ []

abbrev both_rows : List ℕ
both_rows =
    (0 ∷ 0 ∷ 0 ∷ 2 ∷ []) ++ (0 ∷ 0 ∷ 0 ∷ 0 ∷ 0 ∷ 17 ∷ 0 ∷ 16 ∷ 0 ∷ 0 ∷ 0 ∷ 2 ∷ 0 ∷ 0 ∷ 0 ∷ 0 ∷ 0 ∷ 0 ∷ 0 ∷ 0 ∷ [])
    ++ 0 ∷ 0 ∷ 0 ∷ 16 ∷ 0 ∷ 17 ∷ 0 ∷ 1 ∷ 0 ∷ 0 ∷ 0 ∷ 2 ∷ 0 ∷ 0 ∷ 0 ∷ 0 ∷ 0 ∷ 0 ∷ 0 ∷ 0 ∷ []

abbrev after_corner : List Entry
after_corner = asks true 17 17 ∷ Began (rect 0 0 8 8) 0 corner ∷ MadeCut 0 ∷ Saw 0 ∷ asks false 8 8 ∷ rre ∷ []

pub corner_is_sent : update_at of_rows 17 17 (Saw 0 ∷ asks false 8 8 ∷ rre ∷ []) [] ≡ Some (rect 0 0 8 8, corner)
corner_is_sent = refl

pub then_all_is_sent : update_at of_rows 17 17 after_corner [] ≡ Some (rect 0 0 17 17, both_rows)
then_all_is_sent = refl

pub then_nothing : update_at of_rows 17 17 (asks true 17 17 ∷ Began (rect 0 0 17 17) 0 both_rows ∷ MadeCut 0 ∷ after_corner) [] ≡ None
then_nothing = refl

-- On 33 by 1 an update touches the first tile and the last: two runs, the first in RRE, the second Raw.
abbrev two_blues : Update
two_blues = Paints None (Put (rect 0 0 1 1) (0x0000FF ∷ []) ∷ Put (rect 32 0 1 1) (0x0000FF ∷ []) ∷ [])

pub two_runs_are_sent : update_at of_rows 33 1 (asks true 33 1 ∷ Began (rect 0 0 33 1) 0 [] ∷ MadeCut 0 ∷ asks false 33 1 ∷ rre ∷ []) (two_blues ∷ [])
    ≡ Some (
      rect 0 0 33 1,
      (0 ∷ 0 ∷ 0 ∷ 2 ∷ []) ++ (0 ∷ 0 ∷ 0 ∷ 0 ∷ 0 ∷ 16 ∷ 0 ∷ 1 ∷ 0 ∷ 0 ∷ 0 ∷ 2 ∷ 0 ∷ 0 ∷ 0 ∷ 1 ∷ 255 ∷ 0 ∷ 0 ∷ 0 ∷ [])
          ++ (0 ∷ 0 ∷ 0 ∷ 0 ∷ 0 ∷ 1 ∷ 0 ∷ 0 ∷ 0 ∷ 15 ∷ 0 ∷ 1 ∷ []) ++ 0 ∷ 32 ∷ 0 ∷ 0 ∷ 0 ∷ 1 ∷ 0 ∷ 1 ∷ 0 ∷ 0 ∷ 0 ∷ 0 ∷ 255 ∷ 0 ∷ 0 ∷ 0 ∷ [],
    )
two_runs_are_sent = refl

-- On 32 by 1 the host copies two pixels of the first tile into the second. To a viewer that takes CopyRect and was
-- answered before, the copy is all that is sent; a viewer that is passed none is sent the tile.
abbrev passing : AnswerForm
passing = record { runs = OfRows; zrle = false; copies = true }

abbrev blue_tile : Update
blue_tile = Paints None (Put (rect 0 0 1 1) (0x0000FF ∷ []) ∷ [])

abbrev to_the_right : Update
to_the_right = Paints None (Copy (rect 16 0 2 1) 0 0 ∷ [])

abbrev after_blue : List Entry
after_blue = asks true 32 1 ∷ Began (rect 0 0 32 1) 1 [] ∷ MadeCut 1 ∷ asks false 32 1 ∷ Took (SetEncodings (record { kind = Rre; copy = true; resizes = false; zrle = false })) ∷ []

pub copy_is_passed_on : update_at passing 32 1 after_blue (blue_tile ∷ to_the_right ∷ [])
    ≡ Some (rect 0 0 32 1, 0 ∷ 0 ∷ 0 ∷ 1 ∷ 0 ∷ 16 ∷ 0 ∷ 0 ∷ 0 ∷ 2 ∷ 0 ∷ 1 ∷ 0 ∷ 0 ∷ 0 ∷ 1 ∷ 0 ∷ 0 ∷ 0 ∷ 0 ∷ [])
copy_is_passed_on = refl

pub copy_is_sent_as_a_tile : update_at of_rows 32 1 after_blue (blue_tile ∷ to_the_right ∷ [])
    ≡ Some (
      rect 0 0 32 1,
      (0 ∷ 0 ∷ 0 ∷ 1 ∷ []) ++ (0 ∷ 16 ∷ 0 ∷ 0 ∷ 0 ∷ 16 ∷ 0 ∷ 1 ∷ 0 ∷ 0 ∷ 0 ∷ 2 ∷ 0 ∷ 0 ∷ 0 ∷ 1 ∷ 255 ∷ 0 ∷ 0 ∷ 0 ∷ []) ++ 0 ∷ 0 ∷ 0 ∷ 0 ∷ 0 ∷ 1 ∷ 0 ∷ 0 ∷ 0 ∷ 15 ∷ 0 ∷ 1 ∷ [],
    )
copy_is_sent_as_a_tile = refl

-- On 8 by 2 with joined runs: the first column is blue, and the black runs to its right are one subrectangle.
abbrev blue_column : Update
blue_column = Paints None (Put (rect 0 0 1 2) (0x0000FF ∷ 0x0000FF ∷ []) ∷ [])

pub joined_runs_are_sent : update_at joined 8 2 (asks false 8 2 ∷ rre ∷ []) (blue_column ∷ [])
    ≡ Some (
      rect 0 0 8 2,
      (0 ∷ 0 ∷ 0 ∷ 1 ∷ []) ++ (0 ∷ 0 ∷ 0 ∷ 0 ∷ 0 ∷ 8 ∷ 0 ∷ 2 ∷ 0 ∷ 0 ∷ 0 ∷ 2 ∷ []) ++ (0 ∷ 0 ∷ 0 ∷ 1 ∷ 255 ∷ 0 ∷ 0 ∷ 0 ∷ [])
          ++ 0 ∷ 0 ∷ 0 ∷ 0 ∷ 0 ∷ 1 ∷ 0 ∷ 0 ∷ 0 ∷ 7 ∷ 0 ∷ 2 ∷ [],
    )
joined_runs_are_sent = refl

-- Whether each due tile was sent before, which a CopyRect asks: not at first, nor where one was sent in part.
pub none_was_sent : all_were_sent 16 32 (asks false 16 32 ∷ []) [] (rect 0 0 16 32) ≡ false
none_was_sent = refl

pub one_was_sent_in_part : all_were_sent 16 32 (asks true 16 32 ∷ Began (rect 0 0 16 20) 0 [] ∷ []) (Paints None (Put (rect 0 0 1 1) (1 ∷ []) ∷ []) ∷ []) (rect 0 0 16 32) ≡ false
one_was_sent_in_part = refl

pub both_were_sent : all_were_sent 16 32 (asks true 16 32 ∷ Began (rect 0 0 16 32) 0 [] ∷ []) (Paints None (Put (rect 0 15 1 2) (1 ∷ 1 ∷ []) ∷ []) ∷ []) (rect 0 0 16 32) ≡ true
both_were_sent = refl

-- ---- all that a cut sends

abbrev red_blue : Update
red_blue = Paints None (Put (rect 0 0 2 1) (0xFF0000 ∷ 0x0000FF ∷ []) ∷ [])

abbrev red_blue_bytes : List ℕ
red_blue_bytes = 0 ∷ 0 ∷ 0 ∷ 1 ∷ 0 ∷ 0 ∷ 0 ∷ 0 ∷ 0 ∷ 2 ∷ 0 ∷ 1 ∷ 0 ∷ 0 ∷ 0 ∷ 0 ∷ 0 ∷ 0 ∷ 255 ∷ 0 ∷ 255 ∷ 0 ∷ 0 ∷ 0 ∷ []

abbrev hi : List ℕ
hi = 3 ∷ 0 ∷ 0 ∷ 0 ∷ 0 ∷ 0 ∷ 0 ∷ 2 ∷ 0x48 ∷ 0x69 ∷ []

abbrev four : List Update
four = update.Bell ∷ update.Cut (0x48 ∷ 0x69 ∷ []) ∷ update.Bell ∷ red_blue ∷ []

-- The first cut sends neither Bell nor text; a later one sends one Bell, then the text, then the update; where they
-- aren't newer, the update alone.
pub first_cut : sent_at of_rows 2 1 None (asks false 2 1 ∷ []) four ≡ red_blue_bytes
first_cut = refl

pub later_cut : sent_at of_rows 2 1 None (asks true 2 1 ∷ MadeCut 0 ∷ []) four ≡ (2 ∷ []) ++ hi ++ red_blue_bytes
later_cut = refl

pub text_was_told : sent_at of_rows 2 1 None (asks true 2 1 ∷ MadeCut 2 ∷ []) four ≡ (2 ∷ []) ++ red_blue_bytes
text_was_told = refl

pub all_was_told : sent_at of_rows 2 1 None (asks true 2 1 ∷ MadeCut 3 ∷ []) four ≡ red_blue_bytes
all_was_told = refl

-- They need no area.
pub news_alone : sent_at of_rows 2 1 None (MadeCut 1 ∷ []) four ≡ (2 ∷ []) ++ hi
news_alone = refl

-- What is written down of it: the cut, and an answer where there is one.
abbrev answered : List Entry
answered = Began (rect 0 0 2 1) 4 red_blue_bytes ∷ MadeCut 4 ∷ asks true 2 1 ∷ MadeCut 0 ∷ Took (Key true 0x61) ∷ []

pub answer_is_recorded : record_after_cut of_rows 2 1 None (asks true 2 1 ∷ MadeCut 0 ∷ Took (Key true 0x61) ∷ []) four ≡ answered
answer_is_recorded = refl

pub cut_is_recorded : record_after_cut of_rows 2 1 None (MadeCut 1 ∷ []) four ≡ MadeCut 4 ∷ MadeCut 1 ∷ []
cut_is_recorded = refl

pub messages_in_order : messages_in answered ≡ Key true 0x61 ∷ Ask true (rect 0 0 2 1) ∷ []
messages_in_order = refl

pub answers_in_order : received (Took (SetPixelFormat bgr233) ∷ rre ∷ answered) ≡ follower.Answer red_blue_bytes ∷ follower.Format bgr233 ∷ []
answers_in_order = refl

-- ---- a size that is told

abbrev size : ℕ → ℕ → Size
size w h = record { width = w; height = h }

abbrev takes_sizes : Entry
takes_sizes = Took (SetEncodings (record { kind = Raw; copy = false; resizes = true; zrle = false }))

-- A host's screen of 1 by 1 in a room of 2 by 1: an update of one rectangle from the top left, in encoding -223.
abbrev tells_one : List ℕ
tells_one = 0 ∷ 0 ∷ 0 ∷ 1 ∷ 0 ∷ 0 ∷ 0 ∷ 0 ∷ 0 ∷ 1 ∷ 0 ∷ 1 ∷ 255 ∷ 255 ∷ 255 ∷ 0x21 ∷ []

pub size_is_told : sent_at of_rows 2 1 (Some (size 1 1)) (asks false 2 1 ∷ takes_sizes ∷ []) [] ≡ tells_one
size_is_told = refl

pub size_is_recorded : record_after_cut of_rows 2 1 (Some (size 1 1)) (asks false 2 1 ∷ takes_sizes ∷ []) [] ≡ ToldSize (size 1 1) 0 tells_one ∷ MadeCut 0 ∷ asks false 2 1 ∷ takes_sizes ∷ []
size_is_recorded = refl

-- It isn't told twice, to a viewer that doesn't take sizes, where nothing is asked for, or where no sizes are told.
pub size_is_told_once : size_at 2 1 (Some (size 1 1)) (asks true 2 1 ∷ ToldSize (size 1 1) 0 tells_one ∷ takes_sizes ∷ []) [] ≡ None
size_is_told_once = refl

pub size_is_not_listed : size_at 2 1 (Some (size 1 1)) (asks false 2 1 ∷ rre ∷ takes_sizes ∷ []) [] ≡ None
size_is_not_listed = refl

pub nothing_was_asked_for : size_at 2 1 (Some (size 1 1)) (takes_sizes ∷ []) [] ≡ None
nothing_was_asked_for = refl

pub size_took_the_area : size_at 2 1 (Some (size 1 1)) (ToldSize (size 2 1) 0 [] ∷ takes_sizes ∷ asks false 2 1 ∷ []) [] ≡ None
size_took_the_area = refl

pub no_sizes_are_told : size_at 2 1 None (asks false 2 1 ∷ takes_sizes ∷ []) [] ≡ None
no_sizes_are_told = refl

-- The last size counts, and no more of it than fits into the room. One that fills the room was told in the hello.
pub last_size_counts : size_at 2 1 (Some (size 2 1)) (asks false 2 1 ∷ takes_sizes ∷ []) (of_paints (Resized (size 2 0) ∷ []) ∷ update.Bell ∷ of_paints (Resized (size 1 1) ∷ []) ∷ red_blue ∷ []) ≡ Some (size 1 1)
last_size_counts = refl

pub room_bounds_it : size_at 2 1 (Some (size 1 3)) (asks false 2 1 ∷ takes_sizes ∷ []) [] ≡ Some (size 1 1)
room_bounds_it = refl

pub room_was_told : size_at 2 1 (Some (size 3 3)) (asks false 2 1 ∷ takes_sizes ∷ []) [] ≡ None
room_was_told = refl

-- After it the viewer is answered of as much of its area as lies in that size, also once it takes no sizes any longer.
pub inside_the_size : update_at of_rows 2 1 (asks true 2 1 ∷ ToldSize (size 1 1) 0 tells_one ∷ takes_sizes ∷ []) (red_blue ∷ [])
    ≡ Some (rect 0 0 1 1, 0 ∷ 0 ∷ 0 ∷ 1 ∷ 0 ∷ 0 ∷ 0 ∷ 0 ∷ 0 ∷ 1 ∷ 0 ∷ 1 ∷ 0 ∷ 0 ∷ 0 ∷ 0 ∷ 0 ∷ 0 ∷ 255 ∷ 0 ∷ [])
inside_the_size = refl

pub size_stays_told : told_of 2 1 (rre ∷ Saw 3 ∷ ToldSize (size 1 1) 0 tells_one ∷ takes_sizes ∷ []) ≡ size 1 1
size_stays_told = refl

pub then_nothing_inside_it : update_at of_rows 2 1 (asks true 2 1 ∷ Began (rect 0 0 1 1) 1 [] ∷ MadeCut 1 ∷ ToldSize (size 1 1) 0 tells_one ∷ takes_sizes ∷ []) (red_blue ∷ []) ≡ None
then_nothing_inside_it = refl

-- ---- a viewer that reads the stream

pub stream_of_the_record : stream_of (heard 2 1 four answered) ≡ (2 ∷ []) ++ hi ++ red_blue_bytes
stream_of_the_record = refl

pub messages_of_the_stream : (listener 2 1 (heard 2 1 four answered)).messages
    ≡ server.Bell ∷ ServerCutText (0x48 ∷ 0x69 ∷ []) ∷ FramebufferUpdate (Put (rect 0 0 2 1) (0xFF0000 ∷ 0x0000FF ∷ []) ∷ []) ∷ []
messages_of_the_stream = refl

pub size_in_the_stream : (listener 2 1 (heard 2 1 [] (ToldSize (size 1 1) 0 tells_one ∷ MadeCut 0 ∷ asks false 2 1 ∷ takes_sizes ∷ []))).messages ≡ FramebufferUpdate (Resized (size 1 1) ∷ []) ∷ []
size_in_the_stream = refl

-- A message of which a byte is missing isn't read; after a format the pixels are read in it.
pub message_begun : (listener 2 1 (Bytes (2 ∷ 3 ∷ 0 ∷ 0 ∷ 0 ∷ 0 ∷ 0 ∷ 0 ∷ 1 ∷ []) ∷ [])).messages ≡ server.Bell ∷ []
message_begun = refl

pub format_then_pixels : (listener 2 1 (Format bgr233 ∷ Bytes (0 ∷ 0 ∷ 0 ∷ 1 ∷ 0 ∷ 0 ∷ 0 ∷ 0 ∷ 0 ∷ 2 ∷ 0 ∷ 1 ∷ 0 ∷ 0 ∷ 0 ∷ 0 ∷ 0x07 ∷ 0xC0 ∷ []) ∷ [])).messages
    ≡ FramebufferUpdate (Put (rect 0 0 2 1) (0x07 ∷ 0xC0 ∷ []) ∷ []) ∷ []
format_then_pixels = refl
