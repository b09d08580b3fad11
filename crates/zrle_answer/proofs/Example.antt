-- The connection that was typed by hand is followed.
use Rattle.std.proofs.Common.{ℕ, ◌<◌, List, [], ◌∷◌, ◌++◌, length, Some, None, refl, inl, arith, zero, suc}
use Rattle.std.specs.List.{All}
use Rattle.pixel_format.specs.PixelFormat.{PixelFormat, host_format}
use Rattle.raster.specs.declared.rect.Rect.{Rect}
use Rattle.raster.specs.Update.{Put}
use Rattle.raster.proofs.Spellings.{Each}
use Rattle.deflate.specs.Bits.{bits, bits_of}
use Rattle.deflate.specs.Inflates.{Inflates, stored_bits}
use Rattle.deflate.specs.Inflates.Inflates.{none as no_block, stored}
use Rattle.update_encoder.specs.Follower.{Format, Answer}
use Rattle.zrle_codec.specs.Cpixel.{cpixel_bytes, cpixel_from, cpixel_len, cpixel_value, leaves_first, leaves_last, received}
use Rattle.zrle_codec.specs.Tiles.{IsWellFormed, SpellsTile, Solid, tile_bytes, tile_shows}
use Rattle.zrle_codec.specs.Areas.{SpellsTiles}
use Rattle.zrle_codec.specs.Areas.SpellsTiles.{none as no_tile, tile}
use Rattle.zrle_codec.specs.Reading.{ReadsZrle}
use Rattle.zrle_answer.specs.Rectangle.{ZlibStream}
use Rattle.zrle_answer.specs.Reading.{ReadsUpdate}
use Rattle.zrle_answer.specs.Reading.ReadsRectangle.{in_zrle}
use Rattle.zrle_answer.specs.Reading.ReadsRectangles.{none, one_more}
use Rattle.zrle_answer.specs.Follower.{ZrleFollower, after_update, at_first, in_format}
use Rattle.zrle_answer.specs.Follower.FollowsAll.{none as nothing_more, one_more as followed_then}
use Rattle.zrle_answer.specs.Example.{ExampleIsFollowed, in_16_bits, red_in_16_bits, red_in_32_bits}

area : Rect
area = record { x = 0; y = 0; w = 1; h = 1 }

-- Each of a list is a byte.
small : (bs : List ℕ) → Each (λ b. b < 256) bs → All (λ b. b < 256) bs
small [] each k d lt = absurd (omega arith)
small (b ∷ bs) each zero d lt = each.0
small (b ∷ bs) each (suc k) d lt = small bs each.1 k d (omega arith)

-- A stored block of few bytes, behind 5 bits of padding.
stored_so : (before bytes : List ℕ) → All (λ b. b < 256) bytes → length bytes < 65536 → Inflates before (stored_bits (0 ∷ 0 ∷ 0 ∷ 0 ∷ 0 ∷ []) bytes) (before ++ bytes)
stored_so before bytes small few = stored before [] before (0 ∷ 0 ∷ 0 ∷ 0 ∷ 0 ∷ []) bytes (no_block before) (record { few = omega arith; even = refl }) small few

red_32 : SpellsTile host_format 1 1 (0xFF0000 ∷ []) (1 ∷ 0 ∷ 0 ∷ 255 ∷ [])
unfolding received cpixel_value cpixel_bytes cpixel_from cpixel_len leaves_first leaves_last tile_bytes tile_shows IsWellFormed
red_32 = record { tile = Solid 0xFF0000; fits = record { count = refl; form = tt }; shows = refl; are = refl }

red_16 : SpellsTile in_16_bits 1 1 (0xF800 ∷ []) (1 ∷ 0 ∷ 0xF8 ∷ [])
unfolding received cpixel_value cpixel_bytes cpixel_from cpixel_len leaves_first leaves_last tile_bytes tile_shows IsWellFormed
red_16 = record { tile = Solid 0xF800; fits = record { count = refl; form = tt }; shows = refl; are = refl }

one_tile : (format : PixelFormat) (value : ℕ) (bytes : List ℕ) → SpellsTile format 1 1 (value ∷ []) bytes → SpellsTiles format 1 1 (λ x y. value) 1 bytes
one_tile format value bytes k = tile format 1 1 (λ x y. value) 0 [] bytes (no_tile format 1 1 (λ x y. value)) k

zrle_32 : ReadsZrle host_format 1 1 None (0x78 ∷ 0x01 ∷ 0 ∷ 4 ∷ 0 ∷ 251 ∷ 255 ∷ 1 ∷ 0 ∷ 0 ∷ 255 ∷ []) (λ x y. 0xFF0000) (Some (1 ∷ 0 ∷ 0 ∷ 255 ∷ []))
unfolding bits bits_of
zrle_32 = record {
  blocks = 0 ∷ 4 ∷ 0 ∷ 251 ∷ 255 ∷ 1 ∷ 0 ∷ 0 ∷ 255 ∷ [];
  tiles = 1 ∷ 0 ∷ 0 ∷ 255 ∷ [];
  begins = refl;
  inflates = stored_so [] (1 ∷ 0 ∷ 0 ∷ 255 ∷ []) (small (1 ∷ 0 ∷ 0 ∷ 255 ∷ []) (omega arith, (omega arith, (omega arith, (omega arith, tt))))) (omega arith);
  brings = one_tile host_format 0xFF0000 (1 ∷ 0 ∷ 0 ∷ 255 ∷ []) red_32;
  leaves = refl;
}

zrle_16 : ReadsZrle in_16_bits 1 1 (Some (1 ∷ 0 ∷ 0 ∷ 255 ∷ [])) (0 ∷ 3 ∷ 0 ∷ 252 ∷ 255 ∷ 1 ∷ 0 ∷ 0xF8 ∷ []) (λ x y. 0xF800) (Some (1 ∷ 0 ∷ 0 ∷ 255 ∷ 1 ∷ 0 ∷ 0xF8 ∷ []))
unfolding bits bits_of
zrle_16 = record {
  blocks = 0 ∷ 3 ∷ 0 ∷ 252 ∷ 255 ∷ 1 ∷ 0 ∷ 0xF8 ∷ [];
  tiles = 1 ∷ 0 ∷ 0xF8 ∷ [];
  begins = refl;
  inflates = stored_so (1 ∷ 0 ∷ 0 ∷ 255 ∷ []) (1 ∷ 0 ∷ 0xF8 ∷ []) (small (1 ∷ 0 ∷ 0xF8 ∷ []) (omega arith, (omega arith, (omega arith, tt)))) (omega arith);
  brings = one_tile in_16_bits 0xF800 (1 ∷ 0 ∷ 0xF8 ∷ []) red_16;
  leaves = refl;
}

update_32 : ReadsUpdate host_format 1 1 None red_in_32_bits (Put area (0xFF0000 ∷ []) ∷ []) (Some (1 ∷ 0 ∷ 0 ∷ 255 ∷ []))
unfolding area
update_32 =
    let data_bytes : List ℕ = 0x78 ∷ 0x01 ∷ 0 ∷ 4 ∷ 0 ∷ 251 ∷ 255 ∷ 1 ∷ 0 ∷ 0 ∷ 255 ∷ [] in
    let others : List ℕ = 0 ∷ 0 ∷ 0 ∷ 0 ∷ 0 ∷ 1 ∷ 0 ∷ 1 ∷ 0 ∷ 0 ∷ 0 ∷ 16 ∷ 0 ∷ 0 ∷ 0 ∷ 11 ∷ data_bytes in
    let after : ZlibStream = Some (1 ∷ 0 ∷ 0 ∷ 255 ∷ []) in
    record {
      count = 1;
      head = 0 ∷ 0 ∷ 0 ∷ 1 ∷ [];
      others = others;
      begins = refl;
      counts = record { whole = refl; says = refl };
      rectangles = one_more host_format 1 1 0 None after after others [] (Put area (0xFF0000 ∷ [])) []
          (in_zrle host_format 1 1 None after others data_bytes area (λ x y. 0xFF0000) (record { whole = refl; says = refl }) (record { across = omega arith; down = omega arith }) zrle_32)
          (none host_format 1 1 after);
    }

update_16 : ReadsUpdate in_16_bits 1 1 (Some (1 ∷ 0 ∷ 0 ∷ 255 ∷ [])) red_in_16_bits (Put area (0xF800 ∷ []) ∷ []) (Some (1 ∷ 0 ∷ 0 ∷ 255 ∷ 1 ∷ 0 ∷ 0xF8 ∷ []))
unfolding area
update_16 =
    let data_bytes : List ℕ = 0 ∷ 3 ∷ 0 ∷ 252 ∷ 255 ∷ 1 ∷ 0 ∷ 0xF8 ∷ [] in
    let others : List ℕ = 0 ∷ 0 ∷ 0 ∷ 0 ∷ 0 ∷ 1 ∷ 0 ∷ 1 ∷ 0 ∷ 0 ∷ 0 ∷ 16 ∷ 0 ∷ 0 ∷ 0 ∷ 8 ∷ data_bytes in
    let before : ZlibStream = Some (1 ∷ 0 ∷ 0 ∷ 255 ∷ []) in
    let after : ZlibStream = Some (1 ∷ 0 ∷ 0 ∷ 255 ∷ 1 ∷ 0 ∷ 0xF8 ∷ []) in
    record {
      count = 1;
      head = 0 ∷ 0 ∷ 0 ∷ 1 ∷ [];
      others = others;
      begins = refl;
      counts = record { whole = refl; says = refl };
      rectangles = one_more in_16_bits 1 1 0 before after after others [] (Put area (0xF800 ∷ [])) []
          (in_zrle in_16_bits 1 1 before after others data_bytes area (λ x y. 0xF800) (record { whole = refl; says = refl }) (record { across = omega arith; down = omega arith }) zrle_16)
          (none in_16_bits 1 1 after);
    }

pub example_is_followed : ExampleIsFollowed
unfolding area
example_is_followed =
    let one : ZrleFollower = after_update at_first (Put area (0xFF0000 ∷ []) ∷ []) (Some (1 ∷ 0 ∷ 0 ∷ 255 ∷ [])) in
    let two : ZrleFollower = in_format one in_16_bits in
    let after : ZlibStream = Some (1 ∷ 0 ∷ 0 ∷ 255 ∷ 1 ∷ 0 ∷ 0xF8 ∷ []) in
    let three : ZrleFollower = after_update two (Put area (0xF800 ∷ []) ∷ []) after in (
      three,
      followed_then 1 1 at_first one three (Answer red_in_32_bits) (Format in_16_bits ∷ Answer red_in_16_bits ∷ []) (inl (record { paints = Put area (0xFF0000 ∷ []) ∷ []; stream = Some (1 ∷ 0 ∷ 0 ∷ 255 ∷ []); reads = update_32; leaves = refl }))
          (followed_then 1 1 one two three (Format in_16_bits) (Answer red_in_16_bits ∷ []) refl
          (followed_then 1 1 two three three (Answer red_in_16_bits) [] (inl (record { paints = Put area (0xF800 ∷ []) ∷ []; stream = after; reads = update_16; leaves = refl })) (nothing_more 1 1 three))),
      refl,
      refl,
    )
