-- What a follower holds of tiles: those that aren't due, and those that its last answer brought.
use Rattle.std.proofs.Common.{◌≡◌, ℕ, ◌<◌, ◌≤◌, Bool, true, false, cond, List, [], ◌∷◌, ◌++◌, length, take, Option, Some, None, ap, ◌∙◌, arith, length-append}
use Rattle.std.specs.List.{list_any}
use Rattle.std.proofs.lemmas.List.{drop_all, take-append-le, take_all}
use Rattle.raster.specs.declared.rect.Rect.{Rect}
use Rattle.raster.specs.Screen.{common, tile_rect, tile_count}
use Rattle.raster.specs.Update.{Update}
use Rattle.rfb_wire.specs.ClientMessage.{SetPixelFormat, SetEncodings, Ask, Key, Pointer, CutText, LostText}
use Rattle.tiles.specs.Touched.{Event, Requested, WasCut, is_due, is_due_since, known_part, last_sent, told_last, touches}
use Rattle.tiles.proofs.Touching.{UpTo}
use Rattle.reflect_core.specs.Asked.{last_answered}
use Rattle.update_encoder.specs.Follower.{Follower, HoldsArea}
use Rattle.viewer_session.specs.Record.{Entry, Took, Saw, MadeCut, Began, ToldSize, NumbersUpTo, events}

-- As much of tile t as the viewer knows of.
abbrev pub known_tile : ℕ → ℕ → List Entry → ℕ → Rect
known_tile w h es t = common (tile_rect w h t) (known_part (told_last (events w h es)))

-- Of each tile that isn't due all that the viewer knows of is held as the screen shows it after these updates.
abbrev pub HoldsTiles : ℕ → ℕ → List Update → List Entry → Follower → Type 0
HoldsTiles w h us es f = (t : ℕ) → t < tile_count w h → is_due (tile_rect w h t) (events w h es) us ≡ false → HoldsArea f (known_tile w h es t) us

-- Of each tile that was last sent at this number all that the viewer knows of is held as the screen showed it then, and
-- nothing was sent later, where these are the events of the viewer's session.
pub record HoldsSent (w h : ℕ) (us : List Update) (es : List Event) (f : Follower) (n : ℕ) : Type 0 where
  pub known : n ≤ length us
  pub latest : (r : Rect) → UpTo n (last_sent r es)
  pub holds : (t : ℕ) → t < tile_count w h → last_sent (tile_rect w h t) es ≡ Some n → HoldsArea f (common (tile_rect w h t) (known_part (told_last es))) (take n us)

-- So it is of a number, where there is one.
abbrev pub HoldsSentAt : ℕ → ℕ → List Update → List Event → Follower → Option ℕ → Type 0
HoldsSentAt w h us es f None = Unit {0}
HoldsSentAt w h us es f (Some n) = HoldsSent w h us es f n

-- And of the number of the last answer of a record.
abbrev pub HoldsAnswered : ℕ → ℕ → List Update → List Entry → Follower → Type 0
HoldsAnswered w h us es f = HoldsSentAt w h us (events w h es) f (last_answered (events w h es))

-- ---- numbers

pub up_to_if : (n : ℕ) (b : Bool) (o p : Option ℕ) → UpTo n o → UpTo n p → UpTo n (cond b o p)
up_to_if n true o p k l = k
up_to_if n false o p k l = l

pub sent_up_to : (w h n : ℕ) (r : Rect) (es : List Entry) → NumbersUpTo n es → UpTo n (last_sent r (events w h es))
sent_up_to w h n r [] k = tt
sent_up_to w h n r (Took (SetPixelFormat format) ∷ es) k = tt
sent_up_to w h n r (Took (SetEncodings choice) ∷ es) k = sent_up_to w h n r es k
sent_up_to w h n r (Took (Ask incremental area) ∷ es) k = up_to_if n _ None (last_sent r (events w h es)) tt (sent_up_to w h n r es k)
sent_up_to w h n r (Took (Key down key) ∷ es) k = sent_up_to w h n r es k
sent_up_to w h n r (Took (Pointer mask x y) ∷ es) k = sent_up_to w h n r es k
sent_up_to w h n r (Took (CutText text) ∷ es) k = sent_up_to w h n r es k
sent_up_to w h n r (Took (LostText len) ∷ es) k = sent_up_to w h n r es k
sent_up_to w h n r (Saw number ∷ es) k = sent_up_to w h n r es k.1
sent_up_to w h n r (MadeCut number ∷ es) k = sent_up_to w h n r es k.1
sent_up_to w h n r (Began area number bytes ∷ es) k = up_to_if n _ (Some number) (last_sent r (events w h es)) k.0 (sent_up_to w h n r es k.1)
sent_up_to w h n r (ToldSize size number bytes ∷ es) k = tt

-- ---- one step after another

-- An update is put.
pub sent_more : (w h : ℕ) (us : List Update) (u : Update) (es : List Event) (f : Follower) (o : Option ℕ) → HoldsSentAt w h us es f o → HoldsSentAt w h (us ++ u ∷ []) es f o
sent_more w h us u es f None k = tt
sent_more w h us u es f (Some n) k =
    record {
      known = omega (arith, k.known, length-append us (u ∷ []));
      latest = k.latest;
      holds = λ t lt e x y a b c d. rw (take-append-le n us (u ∷ []) k.known) (k.holds t lt e x y a b c d);
    }

-- The source is cut.
pub sent_cut : (w h : ℕ) (us : List Update) (number : ℕ) (es : List Event) (f : Follower) (o : Option ℕ) → HoldsSentAt w h us es f o → HoldsSentAt w h us (WasCut number ∷ es) f o
sent_cut w h us number es f None k = tt
sent_cut w h us number es f (Some n) k = record { known = k.known; latest = k.latest; holds = k.holds }

-- A request that isn't incremental makes tiles count as never sent.
sent_if : (b : Bool) (o : Option ℕ) (n : ℕ) → cond b None o ≡ Some n → o ≡ Some n
sent_if true o n e = absurd cc
sent_if false o n e = e

pub sent_asked : (w h : ℕ) (us : List Update) (incremental : Bool) (area : Rect) (es : List Event) (f : Follower) (o : Option ℕ) → HoldsSentAt w h us es f o → HoldsSentAt w h us (Requested incremental area ∷ es) f o
sent_asked w h us incremental area es f None k = tt
sent_asked w h us incremental area es f (Some n) k =
    record {
      known = k.known;
      latest = λ r. up_to_if n _ None (last_sent r es) tt (k.latest r);
      holds = λ t lt e. k.holds t lt (sent_if _ (last_sent (tile_rect w h t) es) n e);
    }

-- What is held right after an answer that was cut after all updates was sent at their number.
pub sent_now : (w h : ℕ) (us : List Update) (es : List Entry) (f : Follower) → NumbersUpTo (length us) es → HoldsTiles w h us es f → HoldsSent w h us (events w h es) f (length us)
sent_now w h us es f numbers k =
    record {
      known = omega arith;
      latest = λ r. sent_up_to w h (length us) r es numbers;
      holds = λ t lt e x y a b c d. rw (take_all (length us) us (omega arith)) (k t lt (not_due (tile_rect w h t) e) x y a b c d);
    }
  where
    not_due : (r : Rect) → last_sent r (events w h es) ≡ Some (length us) → is_due r (events w h es) us ≡ false
    not_due r e = ap (λ o. is_due_since r o us) e ∙ ap (list_any (touches r)) (drop_all (length us) us (omega arith))
