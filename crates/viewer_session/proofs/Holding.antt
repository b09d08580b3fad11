-- What stands of a viewer whatever is done for it, and whatever its session chooses: its record, and what one who
-- follows its answers holds.
use Rattle.std.proofs.Common.{◌≡◌, ℕ, ◌≤◌, Bool, true, false, cond, List, [], ◌∷◌, ◌++◌, length, Option, Some, None, refl, sym, ◌∙◌}
use Rattle.std.specs.Prelude.{◌&&◌}
use Rattle.byte_reading.specs.Reading.{Reading, Done, Faulty, Want, Gives, step}
use Rattle.raster.specs.Update.{Update}
use Rattle.rfb_wire.specs.ClientMessage.{ClientMessage, client_message}
use Rattle.roles.specs.declared.role.Role.{Role}
use Rattle.roles.specs.Allowed.{Input}
use Rattle.roles.specs.Held.{input_for}
use Rattle.viewer_session.specs.Chosen.{IsChosen, MayBeChosen}
use Rattle.viewer_session.specs.Record.{Took, choice_of}
use Rattle.viewer_session.specs.Session.{after_look}
use Rattle.viewer_session.specs.Turn.{Chosen}
use Rattle.viewer_session.specs.Viewer.{Setup, Viewer, after_bytes, after_cut_as, after_reading, marked, new_viewer, with_input, with_message}
use Rattle.viewer_session.proofs.Accepted.{HasAcceptedFormat, client_message_fine}
use Rattle.viewer_session.proofs.AllHeld.{HoldsSoFar, held_cut, held_nothing, held_put, held_saw, held_took}
use Rattle.viewer_session.proofs.Bytes.{keeps_bytes, keeps_input}
use Rattle.viewer_session.proofs.Good.{IsGood, good_bytes, good_cut, good_look, good_new, good_put, marked_fine, step_fine}
use Rattle.viewer_session.proofs.Told.{AllKnow, know_cut, know_more}

-- Over these updates: one who follows its answers holds them, a viewer that takes sizes was told them, and what is read
-- next has an accepted format.
pub record IsHolding (s : Setup) (us : List Update) (p : Viewer) : Type 0 where
  pub held : HoldsSoFar s.w s.h us p.entries p.stream
  pub knows : AllKnow s.w s.h s.host us p.entries
  pub reading : Gives HasAcceptedFormat p.reading

-- And where no viewer is answered in ZRLE, all that stands of such a viewer.
pub record IsKept (s : Setup) (us : List Update) (p : Viewer) : Type 0 where
  pub holding : IsHolding s us p
  pub plain : s.form.zrle ≡ false → IsGood s us p

pub kept_new : (s : Setup) (us : List Update) (role : Role) (greet : Bool) → IsKept s us (new_viewer role greet)
kept_new s us role greet = record { holding = record { held = held_nothing s.w s.h us; knows = tt; reading = client_message_fine }; plain = λ z. good_new s us role greet }

-- ---- bytes

holding_input : (s : Setup) (us : List Update) (p : Viewer) (o : Option Input) → IsHolding s us p → IsHolding s us (with_input p o)
holding_input s us p o k = keeps_input (IsHolding s us) (λ q input l. record { held = l.held; knows = l.knows; reading = l.reading }) p o k

holding_message : (s : Setup) (us : List Update) (p : Viewer) (taken : ClientMessage × List Bool) → HasAcceptedFormat taken.0 → IsHolding s us p → IsHolding s us (with_message p taken)
holding_message s us p taken fine k =
    holding_input s us (record p { entries = Took taken.0 ∷ p.entries; lost = taken.1; reading = client_message }) (input_for p.role taken.0)
    (record { held = held_took s.w s.h us taken.0 p.entries p.stream fine k.held; knows = k.knows; reading = client_message_fine })

holding_reading : (s : Setup) (us : List Update) (p : Viewer) (r : Reading ClientMessage) → Gives HasAcceptedFormat r → IsHolding s us p → IsHolding s us (after_reading p r)
holding_reading s us p (Done m) fine k = holding_message s us p (marked p.lost m) (marked_fine p.lost m fine) k
holding_reading s us p (Faulty f) fine k = record { held = k.held; knows = k.knows; reading = tt }
holding_reading s us p (Want more) fine k = record { held = k.held; knows = k.knows; reading = fine }

holding_bytes : (s : Setup) (us : List Update) (p : Viewer) (bs : List ℕ) → IsHolding s us p → IsHolding s us (after_bytes p bs)
holding_bytes s us p bs k =
    keeps_bytes (IsHolding s us) (λ q unread l. record { held = l.held; knows = l.knows; reading = l.reading }) (λ q hello wants l. record { held = l.held; knows = l.knows; reading = l.reading })
    (λ q b none l. holding_reading s us q (step q.reading b) (step_fine q.reading b l.reading) l) p bs k

pub kept_bytes : (s : Setup) (us : List Update) (p : Viewer) (bs : List ℕ) → IsKept s us p → IsKept s us (after_bytes p bs)
kept_bytes s us p bs k = record { holding = holding_bytes s us p bs k.holding; plain = λ z. good_bytes s us p bs (k.plain z) }

-- ---- turns and updates

pub kept_look : (s : Setup) (us : List Update) (p : Viewer) (looked : ℕ) → looked ≤ length us → IsKept s us p → IsKept s us (after_look looked p)
kept_look s us p looked le k =
    record {
      holding = record { held = held_saw s.w s.h us looked p.entries p.stream le k.holding.held; knows = k.holding.knows; reading = k.holding.reading };
      plain = λ z. good_look s us p looked le (k.plain z);
    }

-- Where no viewer is answered in ZRLE nothing is chosen.
pub heeds_none : (zrle takes : Bool) → zrle ≡ false → (zrle && takes) ≡ true → ⊥
heeds_none true takes z e = absurd cc
heeds_none false takes z e = absurd cc

plain_cut : (s : Setup) (us : List Update) (p : Viewer) (chosen : Option Chosen) → s.w ≤ 4096 → s.h ≤ 4096 → MayBeChosen s us p.entries p.stream chosen → s.form.zrle ≡ false → IsGood s us p → IsGood s us (after_cut_as s us chosen p)
plain_cut s us p None lw lh may z k = good_cut s us p lw lh k
plain_cut s us p (Some chosen) lw lh may z k = absurd (heeds_none s.form.zrle (choice_of p.entries).zrle z may.heeded)

pub kept_cut : (s : Setup) (us : List Update) (p : Viewer) (chosen : Option Chosen) → s.w ≤ 4096 → s.h ≤ 4096 → MayBeChosen s us p.entries p.stream chosen → IsKept s us p → IsKept s us (after_cut_as s us chosen p)
kept_cut s us p chosen lw lh may k =
    record {
      holding = record {
        held = held_cut s us p.entries p.stream chosen lw lh may k.holding.held;
        knows = know_cut s.form s.w s.h s.host us p.entries chosen k.holding.knows;
        reading = k.holding.reading;
      };
      plain = λ z. plain_cut s us p chosen lw lh may z (k.plain z);
    }

pub kept_put : (s : Setup) (us : List Update) (u : Update) (p : Viewer) → IsKept s us p → IsKept s (us ++ u ∷ []) p
kept_put s us u p k =
    record {
      holding = record {
        held = held_put s.w s.h us u p.entries p.stream k.holding.held;
        knows = know_more s.w s.h s.host us u p.entries k.holding.held.numbers k.holding.knows;
        reading = k.holding.reading;
      };
      plain = λ z. good_put s us u p (k.plain z);
    }
