-- The second half of a turn over a source for one thread. A World's Cut step is this half.
use Rattle.std.proofs.Common.{◌≡◌, ℕ, Bool, true, false, List, length, take, Option, Some, None, refl, ap, sym, ◌∙◌, subst}
use Rattle.std.specs.Prelude.{◌&&◌, ◌||◌, is_some, nat_lt, unwrap_or}
use Rattle.std.proofs.lemmas.List.{take_all}
use Rattle.raster.specs.declared.rect.Rect.{Rect}
use Rattle.raster.specs.Update.{Update}
use Rattle.reflect_core.specs.Asked.{pending, last_cut}
use Rattle.reflect_core.specs.Plain.{Plain}
use Rattle.viewer_session.specs.Chosen.{MayBeChosen}
use Rattle.viewer_session.specs.Record.{choice_of, events}
use Rattle.viewer_session.specs.Turn.{Chosen, has_reason}
use Rattle.viewer_session.specs.Viewer.{Setup, Viewer, after_cut, after_cut_as}
use Rattle.viewer_session.specs.Session.{State, Stands, CutsAt, IsCut, HasCounted, wants_cut, without_look}
use Rattle.viewer_session.proofs.Holding.{heeds_none}
use Rattle.reflect_world.specs.World.{Held, HasTurned, IsPlain, with_session}
use Rattle.reflect_world.proofs.Places.{stands_without_look}

-- What the record has reason for is what the state wants.
pub reason_is : (s : Setup) (st : State) (p : Viewer) (looked : ℕ) → Stands s st p → wants_cut st.asked looked ≡ has_reason s.w s.h p.entries looked
reason_is s st p looked k =
    let es = events s.w s.h p.entries in
    ap (λ (o : Option ℕ). nat_lt (unwrap_or o 0) looked || (is_some st.asked.area && st.asked.asked)) k.serves.keeps.asked.last
    ∙ ap (λ (o : Option Rect). nat_lt (unwrap_or (last_cut es) 0) looked || (is_some o && st.asked.asked)) k.serves.keeps.asked.area
    ∙ ap (λ (b : Bool). nat_lt (unwrap_or (last_cut es) 0) looked || (is_some (pending es) && b)) k.serves.keeps.asked.asked

counted_by : {S : Type 0} (cutting : S → ℕ → S → Type 0) (screen : S) (old : Held) (session : State) (us : List Update) (looked : ℕ) (b : Bool) → wants_cut old.session.asked looked ≡ b → (wants_cut old.session.asked looked ≡ false → session ≡ old.session)
    → (wants_cut old.session.asked looked ≡ true → CutsAt cutting screen screen old.session session us (length us) (length us)) → HasCounted old.session us → HasCounted session us
counted_by cutting screen old session us looked true e idle cuts k = (cuts e).counted
counted_by cutting screen old session us looked false e idle cuts k = subst (λ (st : State). HasCounted st us) (sym (idle e)) k

-- Whatever a turn does, a source for one thread stays as it is.
pub screen_stays : (before after : Plain) (old new : State) (us : List Update) (least most : ℕ) (looked : ℕ) (b : Bool) → wants_cut old.asked looked ≡ b → (wants_cut old.asked looked ≡ false → after ≡ before)
    → (wants_cut old.asked looked ≡ true → CutsAt (λ (a : Plain) number (c : Plain). (number ≡ length a.updates) × (c ≡ a)) before after old new us least most) → after ≡ before
screen_stays before after old new us least most looked true e idle cuts = (cuts e).cut.1
screen_stays before after old new us least most looked false e idle cuts = idle e

plain_by : (s : Setup) (st : State) (us : List Update) (p : Viewer) (chosen : Option Chosen) → IsPlain s.form → MayBeChosen s us p.entries p.stream chosen → Stands s st (after_cut_as s us chosen p) → Stands s st (after_cut s us p)
plain_by s st us p None z may k = k
plain_by s st us p (Some chosen) z may k = absurd (heeds_none s.form.zrle (choice_of p.entries).zrle z.zrle may.heeded)

plain_cut : (s : Setup) (st : State) (us : List Update) (p : Viewer) → IsPlain s.form → IsCut s st us p → Stands s st (after_cut s us p)
plain_cut s st us p z k = plain_by s st us p k.chosen z k.may_be k.stands

pub has_turned : {S : Type 0} (cutting : S → ℕ → S → Type 0) (screen : S) (old : Held) (session : State) (us : List Update) (looked : ℕ) → (wants_cut old.session.asked looked ≡ false → session ≡ old.session)
    → (wants_cut old.session.asked looked ≡ true → CutsAt cutting screen screen old.session session us (length us) (length us)) → HasTurned old (with_session old session) looked us
has_turned cutting screen old session us looked idle cuts =
    record {
      others = refl;
      stays = λ s p k e. subst (λ (st : State). Stands s st (without_look p)) (sym (idle (reason_is s old.session p looked k ∙ e))) (stands_without_look s old.session p k);
      cuts =
          λ s p plain counted k e.
          let cut = cuts (reason_is s old.session p looked k ∙ e) in
          subst (λ (known : List Update). Stands s session (after_cut s known p)) (take_all cut.number us cut.fresh) (plain_cut s session (take cut.number us) p plain (cut.stands s p counted k));
      counted = counted_by cutting screen old session us looked (wants_cut old.session.asked looked) refl idle cuts;
    }
