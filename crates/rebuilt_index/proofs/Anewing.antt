-- From where all was shown anew on, a player who began later reads and shows what one does who began at the beginning.
use Rattle.std.proofs.Common.{◌≡◌, ℕ, List, [], ◌∷◌, ◌++◌, sym, ap, ◌∙◌}
use Rattle.std.specs.Prelude.{All}
use Rattle.std.specs.List.{filter_map}
use Rattle.std.proofs.lemmas.List.Elements.{All-head, All-tail, All-cons, All-nil}
use Rattle.byte_reading.specs.Reading.{Reading, messages_from, rest, rest_from}
use Rattle.byte_reading.proofs.ReadingLaws.{rest-append}
use Rattle.raster.specs.Screen.{Canvas, LooksLike, opening}
use Rattle.raster.specs.Update.{after_updates, screen}
use Rattle.painter.proofs.SameLaws.{after_each}
use Rattle.rfb_wire.specs.ServerMessage.{ServerMessage}
use Rattle.host_decoder.specs.Decoder.{host_message}
use Rattle.host_decoder.specs.Updates.{update_of, updates}
use Rattle.host_decoder.proofs.ShortUpdates.{updates-append}
use Rattle.recording.specs.Recording.{Block}
use Rattle.recording_index.specs.KeyMoments.{IsAt, IsIndexOf}
use Rattle.recording_index.specs.declared.moment.KeyMoment.{KeyMoment}
use Rattle.rebuilt_index.specs.Anew.{AreKeyMoments, IsKey, IsShownAnew}
use Rattle.rebuilt_index.proofs.Alike.{stay_alike}

rest_behind : (w h : ℕ) (xs later : List ℕ) → rest (host_message w h) xs ≡ host_message w h → rest (host_message w h) (xs ++ later) ≡ rest (host_message w h) later
rest_behind w h xs later e =
    let form = host_message w h in
    rest-append form form xs later ∙ ap (λ (r : Reading ServerMessage). rest_from form r later) e

screen_behind : (w h : ℕ) (xs later : List ℕ) → rest (host_message w h) xs ≡ host_message w h → screen (updates w h (xs ++ later)) ≡ after_updates (screen (updates w h xs)) (updates w h later)
screen_behind w h xs later e =
    let form = host_message w h in
    ap screen (updates-append form xs later ∙ ap (λ (r : Reading ServerMessage). updates w h xs ++ filter_map update_of (messages_from form r later)) e)
    ∙ after_each opening (updates w h xs) (updates w h later)

pub stands_alike : (w h : ℕ) (before more later : List ℕ) → IsShownAnew w h before more → rest (host_message w h) (more ++ later) ≡ rest (host_message w h) ((before ++ more) ++ later)
stands_alike w h before more later anew = rest_behind w h more later anew.between ∙ sym (rest_behind w h (before ++ more) later anew.all_between)

pub shows_alike : (w h : ℕ) (before more later : List ℕ) → IsShownAnew w h before more → LooksLike w h (screen (updates w h (more ++ later))) (screen (updates w h ((before ++ more) ++ later)))
shows_alike w h before more later anew x y lx ly =
    let one = screen_behind w h more later anew.between in
    let all = screen_behind w h (before ++ more) later anew.all_between in
    ap (λ (c : Canvas). c x y) one
    ∙ (stay_alike w h (screen (updates w h more)) (screen (updates w h (before ++ more))) later anew.same x y lx ly ∙ sym (ap (λ (c : Canvas). c x y) all))

-- ---- an index

at_of : (blocks : List Block) (m : KeyMoment) → IsKey blocks m → IsAt blocks m
at_of blocks m k = record { earlier = k.earlier; block = k.block; later = k.later ++ k.others; all = k.all; is = k.is }

all_at : (moments : List KeyMoment) (blocks : List Block) → All (IsKey blocks) moments → All (IsAt blocks) moments
all_at [] blocks h = All-nil (IsAt blocks)
all_at (m ∷ moments) blocks h = All-cons (IsAt blocks) m moments (at_of blocks m (All-head (IsKey blocks) m moments h)) (all_at moments blocks (All-tail (IsKey blocks) m moments h))

pub is_index : (moments : List KeyMoment) (blocks : List Block) → AreKeyMoments moments blocks → IsIndexOf moments blocks
is_index moments blocks k = record { in_order = k.in_order; each = all_at moments blocks k.each }
