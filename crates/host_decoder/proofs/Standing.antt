-- What stands in a decoder tells whether it wants more. `HostDecoder::whole` is true exactly where nothing is wanted.
use Rattle.std.proofs.Common.{◌≡◌, ℕ, zero, suc, ◌<◌, true, false, List, [], None, Some, refl, sym, ap, subst, ◌∙◌, arith}
use Rattle.std.specs.Prelude.{Option}
use Rattle.byte_reading.specs.Reading.{Reading, wants_more, whole_of, renewed}
use Rattle.byte_reading.proofs.InOrder.{then_wants}
use Rattle.byte_reading.proofs.ReadingLaws.{none_whole, renewed_from}
use Rattle.raster.specs.Screen.{Canvas}
use Rattle.painter.specs.Painter.{Painting}
use Rattle.rfb_wire.specs.ServerMessage.{ServerMessage}
use Rattle.host_decoder.specs.declared.passed.Passed.{Passed}
use Rattle.host_decoder.specs.declared.event.HostEvent.{HostEvent}
use Rattle.host_decoder.specs.declared.state.HostState.{HostState}
use Rattle.host_decoder.specs.declared.state.HostState.TheVariants.{Fields, Pixels, Keeping, Passing, Whole, Failed}
use Rattle.host_decoder.specs.Decoder.{Stands, behind, host_message, is_open, keeping, passing}
use Rattle.host_decoder.specs.Decoder.{start as begun}
use Rattle.host_decoder.specs.Events.{BringsWhole, changes, screen_behind}
use Rattle.raster.specs.Update.{after_updates}
use Rattle.host_decoder.proofs.HostParts.{part_wants}

keeping_wants : (kept : List ℕ) (left : ℕ) → 0 < left → wants_more (keeping kept left) ≡ true
keeping_wants kept zero lt = absurd (omega arith)
keeping_wants kept (suc left) lt = refl

passing_wants : (left : ℕ) (what : Passed) → 0 < left → wants_more (passing left what) ≡ true
passing_wants zero what lt = absurd (omega arith)
passing_wants (suc left) what lt = refl

-- An open one wants another byte.
pub open_wants : (w h : ℕ) (state : HostState) (start : Canvas) (painter : Painting) (r : Reading ServerMessage) → is_open state ≡ true → Stands w h state start painter r → wants_more r ≡ true
open_wants w h (Fields fields) start painter r e s = ap wants_more s.reads ∙ part_wants w h s.sofar fields.0 fields.1 s.missing
open_wants w h (Pixels left reader) start painter r e s = ap wants_more s.reads ∙ then_wants s.reading (behind w h s.sofar left) [] s.wants
open_wants w h (Keeping kept) start painter r e s = ap wants_more s.2 ∙ keeping_wants kept.0 kept.1 s.1
open_wants w h (Passing what left) start painter r e s = ap wants_more s.2 ∙ passing_wants left what s.1
open_wants w h (Whole event) start painter r e s = absurd cc
open_wants w h (Failed fault) start painter r e s = absurd cc

-- And another one doesn't.
pub closed_wants : (w h : ℕ) (state : HostState) (start : Canvas) (painter : Painting) (r : Reading ServerMessage) → is_open state ≡ false → Stands w h state start painter r → wants_more r ≡ false
closed_wants w h (Fields fields) start painter r e s = absurd cc
closed_wants w h (Pixels left reader) start painter r e s = absurd cc
closed_wants w h (Keeping kept) start painter r e s = absurd cc
closed_wants w h (Passing what left) start painter r e s = absurd cc
closed_wants w h (Whole event) start painter r e s = ap wants_more s.reads
closed_wants w h (Failed fault) start painter r e s = ap wants_more s

-- A message is whole only where its event waits.
pub not_whole : (w h : ℕ) (state : HostState) (start : Canvas) (painter : Painting) (r : Reading ServerMessage) → ((event : HostEvent) → state ≡ Whole event → ⊥) → Stands w h state start painter r → whole_of r ≡ None
not_whole w h (Fields fields) start painter r other s = none_whole r (open_wants w h (Fields fields) start painter r refl s)
not_whole w h (Pixels left reader) start painter r other s = none_whole r (open_wants w h (Pixels left reader) start painter r refl s)
not_whole w h (Keeping kept) start painter r other s = none_whole r (open_wants w h (Keeping kept) start painter r refl s)
not_whole w h (Passing what left) start painter r other s = none_whole r (open_wants w h (Passing what left) start painter r refl s)
not_whole w h (Whole event) start painter r other s = absurd (other event refl)
not_whole w h (Failed fault) start painter r other s = ap whole_of s

-- Then nothing is given, and it goes on as it did.
pub nothing_given : (w h : ℕ) (state : HostState) (start : Canvas) (painter : Painting) (r : Reading ServerMessage) → ((event : HostEvent) → state ≡ Whole event → ⊥) → Stands w h state start painter r
    → BringsWhole w h start None (whole_of r) × Stands w h state (screen_behind w h start (whole_of r)) painter (renewed (host_message w h) r)
nothing_given w h state start painter r other s =
    let none = not_whole w h state start painter r other s in (
      subst (λ (o : Option ServerMessage). BringsWhole w h start None o) (sym none) tt,
      subst (λ (o : Option ServerMessage). Stands w h state (screen_behind w h start o) painter (renewed (host_message w h) r)) (sym none)
          (subst (λ t. Stands w h state start painter t) (sym (renewed_from (host_message w h) r none)) s),
    )

-- And where one is whole its event is given, and the next message begins over the screen after it.
pub event_given : (w h : ℕ) (event : HostEvent) (start : Canvas) (painter : Painting) (r : Reading ServerMessage) → Stands w h (Whole event) start painter r
    → BringsWhole w h start (Some event) (whole_of r) × Stands w h begun (screen_behind w h start (whole_of r)) painter (renewed (host_message w h) r)
event_given w h event start painter r s =
    let whole : whole_of r ≡ Some s.message = ap whole_of s.reads in
    let next : renewed (host_message w h) r ≡ host_message w h = ap (renewed (host_message w h)) s.reads in (
      subst (λ (o : Option ServerMessage). BringsWhole w h start (Some event) o) (sym whole) s.brings,
      subst (λ (o : Option ServerMessage). Stands w h begun (screen_behind w h start o) painter (renewed (host_message w h) r)) (sym whole)
          (subst (λ t. Stands w h begun (after_updates start (changes w h s.message)) painter t) (sym next)
          (record { sofar = []; holds = s.shows; suited = refl; missing = omega arith; reads = refl })),
    )
