-- After an answer of what is due in an area, a follower holds the area.
use Rattle.std.proofs.Common.{◌≡◌, ℕ, ◌+◌, ◌<◌, ◌≤◌, Bool, true, false, List, ◌∙◌, refl, ap, subst, arith, inl}
use Rattle.std.specs.Prelude.{◌&&◌}
use Rattle.raster.specs.declared.rect.Rect.{Rect}
use Rattle.raster.specs.Screen.{common, tile_count, tile_rect}
use Rattle.raster.specs.Update.{Paint, Update, screen}
use Rattle.raster.proofs.Places.{Has, common_has, holds_has, tile_of, tile_of_has, tile_of_there}
use Rattle.tiles.specs.Brings.{BringTheDue}
use Rattle.update_encoder.specs.Follower.{Answer, HoldsArea}
use Rattle.zrle_codec.specs.OneThing.{DataBringOneThing, PartsAreRead}
use Rattle.zrle_answer.specs.Rectangle.{ZlibStream}
use Rattle.zrle_answer.specs.Follower.{ZrleFollower}
use Rattle.zrle_answer.specs.Followed.{AreasAreHeld, HoldsRight, IsBrought, after_copies}
use Rattle.zrle_answer.proofs.OneFollowing.{following_is_one_thing}
use Rattle.zrle_answer.proofs.Followed.{answers_are_followed}

module _ (w h : ℕ) (us : List Update) (copies : List Paint) (area : Rect) (due : ℕ → Bool) (rs : List Rect) (before after : ZrleFollower) (stream : ZlibStream) (covers : BringTheDue w h area due rs) (is : IsBrought (screen us) copies rs before after stream) where
  -- A position of the area, in a tile that was due or not.
  right_if : (t x y : ℕ) → t < tile_count w h → Has area x y → Has (tile_rect w h t) x y → (b : Bool) → due t ≡ b → (due t ≡ false → HoldsArea (after_copies before copies).known (common area (tile_rect w h t)) us) → HoldsRight after (screen us) x y
  right_if t x y lt p q true e other =
      is.brings x y (covers.exactly t x y lt (holds_has (tile_rect w h t) x y q) ∙ (ap (λ b. b && due t) (holds_has area x y p) ∙ e))
  right_if t x y lt p q false e other =
      let c : Has (common area (tile_rect w h t)) x y = common_has area (tile_rect w h t) x y p q in
      is.keeps x y (other e x y c.left c.right c.top c.bottom)

  holds_it : area.x + area.w ≤ w → area.y + area.h ≤ h → ((t : ℕ) → t < tile_count w h → due t ≡ false → HoldsArea (after_copies before copies).known (common area (tile_rect w h t)) us) → HoldsArea after.known area us
  holds_it across down other x y left right top bottom =
      let t : ℕ = tile_of w x y in
      let lx : x < w = omega arith in
      let ly : y < h = omega arith in
      let there : t < tile_count w h = tile_of_there w h x y lx ly in
      right_if t x y there (record { left = left; right = right; top = top; bottom = bottom }) (tile_of_has w h x y lx ly) (due t) refl (other t there)

pub areas_are_held : DataBringOneThing → PartsAreRead → AreasAreHeld
areas_are_held bring parts w h style us copies sent area due rs before after bytes stream lw lh ok on few covers across down same is other follow =
    let found = answers_are_followed parts w h style (screen us) copies sent rs before bytes stream lw lh ok on covers.parts (omega (arith, few, covers.few)) same is in
    let one : found.0 ≡ after = following_is_one_thing bring w h before found.0 after (Answer bytes) (inl found.1) follow in
    subst (λ (f : ZrleFollower). HoldsArea f.known area us) one (holds_it w h us copies area due rs before found.0 stream covers found.2 across down other)
