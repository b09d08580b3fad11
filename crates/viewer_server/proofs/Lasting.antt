-- What stands of a viewer that is served, whatever is done for it: of what bytes, looks, cuts and updates keep, all of
-- them do that may be done.
use Rattle.std.proofs.Common.{◌≡◌, ℕ, ◌+◌, ◌≤◌, Bool, true, List, [], ◌∷◌, ◌++◌, length, take, Option, Some, None, refl, sym, ap, subst, ◌∙◌, arith, append_assoc, append-nil}
use Rattle.std.specs.Prelude.{◌&&◌, drop, is_some, is_none, max, nat_le}
use Rattle.std.proofs.lemmas.List.{length-take, take-append-drop, take-take}
use Rattle.std.proofs.lemmas.Bool.{and_parts}
use Rattle.byte_reading.specs.Reading.{Reading, Done, Faulty, Want, whole_of, wants_more}
use Rattle.raster.specs.declared.rect.Rect.{Rect}
use Rattle.raster.specs.declared.size.Size.{Size}
use Rattle.raster.specs.Update.{Update}
use Rattle.roles.specs.declared.role.Role.{Role}
use Rattle.roles.specs.Allowed.{Input}
use Rattle.viewer_session.specs.Acts.{Act, Cutting, Bytes, Turn, Written, Passed, after_act, after_turn, viewer_after}
use Rattle.viewer_session.specs.Chosen.{MayBeChosen}
use Rattle.viewer_session.specs.Record.{Entry, Saw, MadeCut, NumbersUpTo}
use Rattle.viewer_session.specs.Session.{after_look, with_marks}
use Rattle.viewer_session.specs.Turn.{Chosen, size_at, told_at, update_at, with_chosen}
use Rattle.viewer_session.specs.Viewer as viewer
use Rattle.viewer_session.specs.Viewer.{Setup, Viewer, after_bytes, after_cut_as, may_look, new_viewer, out_bytes, viewer_fault}
use Rattle.viewer_session.proofs.Growing.{HasGrown, IsEarly, grown_bytes}
use Rattle.viewer_server.specs.Serving.{AllMayBe, CutsWell, MayBe}

-- What is kept of a viewer, over some updates. What was done last makes no difference to it.
pub record IsLasting (s : Setup) (K : List Update → Viewer → Type 0) : Type 0 where
  pub bytes : (us : List Update) (p : Viewer) (bs : List ℕ) → K us p → K us (after_bytes p bs)
  pub look : (us : List Update) (p : Viewer) (looked : ℕ) → looked ≤ length us → K us p → K us (after_look looked p)
  pub cut : (us : List Update) (p : Viewer) (chosen : Option Chosen) → s.w ≤ 4096 → s.h ≤ 4096 → MayBeChosen s us p.entries p.stream chosen → K us p → K us (after_cut_as s us chosen p)
  pub put : (us : List Update) (u : Update) (p : Viewer) → K us p → K (us ++ u ∷ []) p
  pub same : (us : List Update) (p : Viewer) (looked : Option ℕ) (lost : List Bool) (written : ℕ) (waiting : Option Input) → K us p → K us (record p { looked = looked; lost = lost; written = written; waiting = waiting })

-- ---- more updates

lasts_more : (s : Setup) (K : List Update → Viewer → Type 0) → IsLasting s K → (us more : List Update) (p : Viewer) → K us p → K (us ++ more) p
lasts_more s K laws us [] p k = subst (λ t. K t p) (sym (append-nil us)) k
lasts_more s K laws us (u ∷ more) p k = subst (λ t. K t p) (append_assoc us (u ∷ []) more) (lasts_more s K laws (us ++ u ∷ []) more p (laws.put us u p k))

-- The first n of them are the beginning of the first m.
lasts_to : (s : Setup) (K : List Update → Viewer → Type 0) → IsLasting s K → (n m : ℕ) (us : List Update) (p : Viewer) → n ≤ m → K (take n us) p → K (take m us) p
lasts_to s K laws n m us p le k =
    subst (λ t. K t p) (ap (λ t. t ++ drop n (take m us)) (sym (take-take n m us le)) ∙ take-append-drop n (take m us)) (lasts_more s K laws (take n us) (drop n (take m us)) p k)

-- ---- act by act

-- The record stands over the first n updates, and n is at most any number that none in the record is above.
record IsFollowed (s : Setup) (K : List Update → Viewer → Type 0) (us : List Update) (p : Viewer) : Type 0 where
  n : ℕ
  known : n ≤ length us
  least : (m : ℕ) → NumbersUpTo m p.entries → n ≤ m
  kept : K (take n us) p
  early : IsEarly p

follows_bytes : (s : Setup) (K : List Update → Viewer → Type 0) → IsLasting s K → (us : List Update) (p : Viewer) (marks : List Bool) (bytes : List ℕ) → IsFollowed s K us p → IsFollowed s K us (after_bytes (with_marks marks p) bytes)
follows_bytes s K laws us p marks bytes k =
    let grown : HasGrown s (with_marks marks p) (after_bytes (with_marks marks p) bytes) = grown_bytes s (with_marks marks p) bytes k.early in
    record {
      n = k.n;
      known = k.known;
      least = λ m up. k.least m (grown.back m up);
      kept = laws.bytes (take k.n us) (with_marks marks p) bytes (laws.same (take k.n us) p None marks p.written p.waiting k.kept);
      early = grown.early;
    }

follows_look : (s : Setup) (K : List Update → Viewer → Type 0) → IsLasting s K → (us : List Update) (p : Viewer) (looked : ℕ) → looked ≤ length us → IsFollowed s K us p → IsFollowed s K us (after_look looked p)
follows_look s K laws us p looked seen k =
    let known = k.known in
    let m : ℕ = max k.n looked in
    record {
      n = m;
      known = omega (arith, known, seen);
      least = λ most up. let le = k.least most up.1 in let here = up.0 in omega (arith, le, here);
      kept = laws.look (take m us) p looked (omega (arith, length-take m us, known, seen)) (lasts_to s K laws k.n m us p (omega arith) k.kept);
      early = k.early;
    }

began_least : (m n : ℕ) (size : Option Size) (o : Option (Rect × List ℕ)) (es : List Entry) → NumbersUpTo m (told_at n size o (MadeCut n ∷ es)) → n ≤ m
began_least m n (Some size) o es k = k.0
began_least m n None None es k = k.0
began_least m n None (Some found) es k = k.0

done_wants : (h : Reading (Unit {0})) → is_some (whole_of h) ≡ true → wants_more h ≡ true → ⊥
done_wants (Done u) e f = absurd cc
done_wants (Faulty x) e f = absurd cc
done_wants (Want more) e f = absurd cc

follows_cut : (s : Setup) (K : List Update → Viewer → Type 0) → IsLasting s K → (us : List Update) (p : Viewer) (looked n : ℕ) (chosen : Option Chosen) → s.w ≤ 4096 → s.h ≤ 4096 → is_some (whole_of p.hello) ≡ true → n ≤ length us → NumbersUpTo n (Saw looked ∷ p.entries)
    → MayBeChosen s (take n us) (Saw looked ∷ p.entries) p.stream chosen → IsFollowed s K us p → IsFollowed s K us (after_cut_as s (take n us) chosen (after_look looked p))
follows_cut s K laws us p looked n chosen lw lh greeted le up may k =
    let first : List Update = take n us in
    let count : length first ≡ n = omega (arith, length-take n us, le) in
    let here = up.0 in
    let before : K first (after_look looked p) = laws.look first p looked (omega (arith, count, here)) (lasts_to s K laws k.n n us p (k.least n up.1) k.kept) in
    record {
      n = n;
      known = le;
      least = λ m after. let bound = began_least m (length first) (size_at s.w s.h s.host (Saw looked ∷ p.entries) first) (with_chosen chosen (update_at s.form s.w s.h (Saw looked ∷ p.entries) first)) (Saw looked ∷ p.entries) after in omega (arith, bound, count);
      kept = laws.cut first (after_look looked p) chosen lw lh may before;
      early = λ wants. absurd (done_wants p.hello greeted wants);
    }

follows_turn : (s : Setup) (K : List Update → Viewer → Type 0) → IsLasting s K → (us : List Update) (p : Viewer) (looked : ℕ) (cut : Option Cutting) → s.w ≤ 4096 → s.h ≤ 4096 → may_look s p ≡ true → looked ≤ length us → CutsWell s us p looked cut → IsFollowed s K us p → IsFollowed s K us (after_turn s us looked cut p)
follows_turn s K laws us p looked None lw lh may seen well k = follows_look s K laws us p looked seen k
follows_turn s K laws us p looked (Some cut) lw lh may seen well k =
    let greeted : is_some (whole_of p.hello) ≡ true = (and_parts (viewer.is_greeted p) (is_none (viewer_fault p)) (and_parts (nat_le (length (out_bytes s p)) p.written) (viewer.is_greeted p && is_none (viewer_fault p)) may).1).0 in
    follows_cut s K laws us p looked cut.number cut.chosen lw lh greeted well.1 well.2 well.3 k

follows_act : (s : Setup) (K : List Update → Viewer → Type 0) → IsLasting s K → (us : List Update) (p : Viewer) (act : Act) → s.w ≤ 4096 → s.h ≤ 4096 → MayBe s us p act → IsFollowed s K us p → IsFollowed s K us (after_act s us act p)
follows_act s K laws us p (Bytes marks bytes) lw lh may k = follows_bytes s K laws us p marks bytes k
follows_act s K laws us p (Turn looked cut) lw lh may k = follows_turn s K laws us p looked cut lw lh may.0 may.1 may.2 k
follows_act s K laws us p (Written count) lw lh may k =
    record { n = k.n; known = k.known; least = k.least; kept = laws.same (take k.n us) p p.looked p.lost (p.written + count) p.waiting k.kept; early = k.early }
follows_act s K laws us p Passed lw lh may k =
    record { n = k.n; known = k.known; least = k.least; kept = laws.same (take k.n us) p p.looked p.lost p.written None k.kept; early = k.early }

follows_all : (s : Setup) (K : List Update → Viewer → Type 0) → IsLasting s K → (us : List Update) (p : Viewer) (acts : List Act) → s.w ≤ 4096 → s.h ≤ 4096 → AllMayBe s us p acts → IsFollowed s K us p → IsFollowed s K us (viewer_after s us p acts)
follows_all s K laws us p [] lw lh may k = k
follows_all s K laws us p (act ∷ acts) lw lh may k = follows_act s K laws us (viewer_after s us p acts) act lw lh may.1 (follows_all s K laws us p acts lw lh may.0 k)

-- What a new viewer has is kept.
pub lasts : (s : Setup) (K : List Update → Viewer → Type 0) → IsLasting s K → (us : List Update) (role : Role) (greet : Bool) (acts : List Act) → s.w ≤ 4096 → s.h ≤ 4096 → AllMayBe s us (new_viewer role greet) acts → K [] (new_viewer role greet)
    → K us (viewer_after s us (new_viewer role greet) acts)
lasts s K laws us role greet acts lw lh may begun =
    let p : Viewer = viewer_after s us (new_viewer role greet) acts in
    let k : IsFollowed s K us p = follows_all s K laws us (new_viewer role greet) acts lw lh may (record { n = 0; known = omega arith; least = λ m up. omega arith; kept = begun; early = λ wants. refl }) in
    subst (λ t. K t p) (take-append-drop k.n us) (lasts_more s K laws (take k.n us) (drop k.n us) p k.kept)
