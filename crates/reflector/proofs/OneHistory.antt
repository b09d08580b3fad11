-- The looks and cuts of a served viewer are steps of one history. A law tells it of what a place promises.
use Rattle.std.proofs.Common.{◌≡◌, ℕ, suc, ◌+◌, ◌≤◌, List, [], ◌∷◌, ◌++◌, length, take, map, Option, Some, None, refl, ap, sym, subst, ◌∙◌, arith, length-append, append_assoc}
use Rattle.std.specs.Prelude.{Bool, not, filter}
use Rattle.std.proofs.Math.Seq.{take-append_seam}
use Rattle.std.proofs.lemmas.List.Elements.{filter-append}
use Rattle.raster.specs.Update.{Update, View, view}
use Rattle.reflect_core.specs.Sequential.{Shared, Step, Look, Cut, Leads, Begins, is_change}
use Rattle.shared_screen.specs.History.{Change, Put, Raise, puts_of, tally_from, TakeTurns, step_of}
use Rattle.shared_screen.specs.Reaches.{Reaches}
use Rattle.shared_screen.proofs.Reaching.{leads-append, led_to}
use Rattle.viewer_session.specs.Acts.{Cutting, Act, Bytes, Turn, Written, Passed}
use Rattle.viewer_session.proofs.Parts.{begins_on}
use Rattle.viewer_server.specs.Serving.{HasCut, IsShown}
use Rattle.reflector.specs.History.{own_steps, IsOneHistory, CutsNear, LooksFollow}

-- ---- what a call leaves

abbrev at : List Update → ℕ → Shared
at us t = record { updates = us; tally = t }

-- The tally is the number of updates, or one less.
abbrev IsNear : Shared → Type 0
IsNear s = (s.tally ≤ length s.updates) × (length s.updates ≤ s.tally + 1)

leads_split : (xs ys : List Step) (a c : Shared) → Leads a (xs ++ ys) c → (b : Shared) × Leads a xs b × Leads b ys c
leads_split [] ys a c h = (a, refl, h)
leads_split (x ∷ xs) ys a c h = let rest = leads_split xs ys h.0 c h.2 in (rest.0, (h.0, h.1, rest.1), rest.2)

turns_near : (n t : ℕ) (cs : List Change) → TakeTurns n t cs → t ≤ n → n ≤ t + 1 → (t ≤ tally_from t cs) × (tally_from t cs ≤ n + length (puts_of cs)) × (n + length (puts_of cs) ≤ tally_from t cs + 1)
turns_near n t [] k a b = (omega arith, omega (arith, a), omega (arith, b))
turns_near n t (Put u ∷ cs) k a b =
    let e = k.0 in
    let rest = turns_near (suc n) t cs k.1 (omega (arith, a)) (omega (arith, e)) in
    let r0 = rest.0 in let r1 = rest.1 in let r2 = rest.2 in
    (r0, omega (arith, r1), omega (arith, r2))
turns_near n t (Raise m ∷ cs) k a b =
    let e = k.0 in let f = k.1 in
    let rest = turns_near n m cs k.2 (omega (arith, f)) (omega (arith, f)) in
    let r0 = rest.0 in
    (omega (arith, e, f, r0), rest.1, rest.2)

-- A look and a cut change nothing; a look replies the tally.
look_stays : (n : ℕ) (new mid : Shared) → Leads mid (Look n ∷ []) new → new ≡ mid
look_stays n new mid h = h.2 ∙ h.1.1

look_replies : (n : ℕ) (mid new : Shared) → Leads mid (Look n ∷ []) new → n ≡ new.tally
look_replies n mid new h = h.1.0 ∙ ap (λ (t : Shared). t.tally) (sym (look_stays n new mid h))

cut_stays : (v : View) (new mid : Shared) → Leads mid (Cut v ∷ []) new → new ≡ mid
cut_stays v new mid h = h.2 ∙ h.1.1

module _ (old new : Shared) (s : Step) (r : Reaches old (s ∷ []) new) (stays : (mid : Shared) → Leads mid (s ∷ []) new → new ≡ mid) where
  led : new ≡ at (old.updates ++ puts_of r.others) (tally_from old.tally r.others)
  led = let split = leads_split (map step_of r.others) (s ∷ []) old new r.happen in stays split.0 split.2 ∙ led_to r.others old.updates old.tally split.0 split.1

  grown : Begins old.updates new.updates
  grown = (puts_of r.others, ap (λ (t : Shared). t.updates) led)

  nearer : IsNear old → (old.tally ≤ new.tally) × IsNear new
  nearer near =
      let n0 = near.0 in let n1 = near.1 in
      let k = turns_near (length old.updates) old.tally r.others r.by_turns n0 n1 in
      let count : length (old.updates ++ puts_of r.others) ≡ length old.updates + length (puts_of r.others) = length-append old.updates (puts_of r.others) in
      let k0 = k.0 in let k1 = k.1 in let k2 = k.2 in
      subst (λ (t : Shared). (old.tally ≤ t.tally) × IsNear t) (sym led) (k0, (omega (arith, k1, count), omega (arith, k2, count)))

changes_are_none : (cs : List Change) → filter (λ s. not (is_change s)) (map step_of cs) ≡ []
changes_are_none [] = refl
changes_are_none (Put u ∷ cs) = changes_are_none cs
changes_are_none (Raise m ∷ cs) = changes_are_none cs

-- A step more of a history.
one_more : (old mid new : Shared) (own : List Step) (s : Step) → filter (λ x. not (is_change x)) (s ∷ []) ≡ s ∷ [] → IsOneHistory old own mid → Reaches mid (s ∷ []) new → IsOneHistory old (own ++ s ∷ []) new
one_more old mid new own s is k r =
    let test : Step → Bool = λ x. not (is_change x) in
    let more : List Step = map step_of r.others ++ s ∷ [] in
    record {
      steps = k.steps ++ more;
      leads = leads-append k.steps more old mid new k.leads r.happen;
      own_steps = filter-append test k.steps more
          ∙ (ap (λ xs. xs ++ filter test more) k.own_steps
          ∙ ap (λ xs. own ++ xs) (filter-append test (map step_of r.others) (s ∷ []) ∙ (ap (λ xs. xs ++ filter test (s ∷ [])) (changes_are_none r.others) ∙ is)));
    }

-- ---- all acts

cuts_near_more : (m n : ℕ) (acts : List Act) → m ≤ n → CutsNear m acts → CutsNear n acts
cuts_near_more m n [] le k = tt
cuts_near_more m n (Bytes marks bytes ∷ acts) le k = cuts_near_more m n acts le k
cuts_near_more m n (Turn looked None ∷ acts) le k = cuts_near_more m n acts le k
cuts_near_more m n (Turn looked (Some cut) ∷ acts) le k = let k0 = k.0 in (omega (arith, k0, le), cuts_near_more m n acts le k.1)
cuts_near_more m n (Written count ∷ acts) le k = cuts_near_more m n acts le k
cuts_near_more m n (Passed ∷ acts) le k = cuts_near_more m n acts le k

-- What a look and a cut make of a watcher.
abbrev looks : Shared → ℕ → Shared → Type 0
looks a n b = Reaches a (Look n ∷ []) b

abbrev cuts : Shared → ℕ → Shared → Type 0
cuts a n b = (n ≡ length b.updates) × Reaches a (Cut (view b.updates) ∷ []) b

pub record IsFollowed (us : List Update) (old : Shared) (acts : List Act) (new : Shared) : Type 0 where
  pub history : IsOneHistory old (own_steps us acts) new
  pub near : IsNear new
  pub cuts : CutsNear new.tally acts
  pub follow : LooksFollow acts

followed_look : (us : List Update) (old before new : Shared) (acts : List Act) (looked : ℕ) → IsFollowed us old acts before → looks before looked new → IsFollowed us old (Turn looked None ∷ acts) new
followed_look us old before new acts looked k r =
    let n = nearer before new (Look looked) r (look_stays looked new) k.near in
    let n0 = n.0 in
    let split = leads_split (map step_of r.others) (Look looked ∷ []) before new r.happen in
    let replied : looked ≡ new.tally = look_replies looked split.0 new split.2 in
    let cuts : CutsNear new.tally acts = cuts_near_more before.tally new.tally acts n0 k.cuts in
    record {
      history = one_more old before new (own_steps us acts) (Look looked) refl k.history r;
      near = n.1;
      cuts = cuts;
      follow = (subst (λ (t : ℕ). CutsNear t acts) (sym replied) cuts, k.follow);
    }

followed_cut : (us : List Update) (old behind new : Shared) (acts : List Act) (looked : ℕ) (cut : Cutting) → IsFollowed us old (Turn looked None ∷ acts) behind → cuts behind cut.number new → Begins new.updates us → IsFollowed us old (Turn looked (Some cut) ∷ acts) new
followed_cut us old behind new acts looked cut k c b =
    let n : ℕ = cut.number in
    let number = c.0 in
    let m = nearer behind new (Cut (view new.updates)) c.1 (cut_stays (view new.updates) new) k.near in
    let m0 = m.0 in let near = m.1.1 in
    let first : take n us ≡ new.updates = ap (λ (l : List Update). take n l) b.1 ∙ (ap (λ i. take i (new.updates ++ b.0)) number ∙ take-append_seam new.updates b.0) in
    let longer = one_more old behind new (own_steps us acts ++ Look looked ∷ []) (Cut (view new.updates)) refl k.history c.1 in
    let same : (own_steps us acts ++ Look looked ∷ []) ++ Cut (view new.updates) ∷ [] ≡ own_steps us acts ++ Look looked ∷ Cut (view (take n us)) ∷ [] =
    append_assoc (own_steps us acts) (Look looked ∷ []) (Cut (view new.updates) ∷ []) ∙ ap (λ (l : List Update). own_steps us acts ++ Look looked ∷ Cut (view l) ∷ []) (sym first) in
    record {
      history = subst (λ (own : List Step). IsOneHistory old own new) same longer;
      near = m.1;
      cuts = (omega (arith, number, near), cuts_near_more behind.tally new.tally acts m0 k.cuts);
      follow = k.follow;
    }

pub followed : (us : List Update) (old : Shared) (acts : List Act) (new : Shared) → IsNear old → IsShown looks cuts old acts new → Begins new.updates us → IsFollowed us old acts new
followed us old [] new near e b = record { history = record { steps = []; leads = e; own_steps = refl }; near = subst (λ (t : Shared). IsNear t) (sym e) near; cuts = tt; follow = tt }
followed us old (Bytes marks bytes ∷ acts) new near k b = let f = followed us old acts new near k b in record { history = f.history; near = f.near; cuts = f.cuts; follow = f.follow }
followed us old (Turn looked None ∷ acts) new near k b =
    let r : looks k.0 looked new = subst (λ (t : Shared). looks k.0 looked t) (sym k.4) k.3 in
    followed_look us old k.0 new acts looked (followed us old acts k.0 near k.2 (begins_on _ _ _ (grown k.0 new (Look looked) r (look_stays looked new)) b)) r
followed us old (Turn looked (Some cut) ∷ acts) new near k b =
    let later = begins_on _ _ _ (grown k.1 new (Cut (view new.updates)) k.4.1 (cut_stays (view new.updates) new)) b in
    followed_cut us old k.1 new acts looked cut
    (followed_look us old k.0 k.1 acts looked (followed us old acts k.0 near k.2 (begins_on _ _ _ (grown k.0 k.1 (Look looked) k.3 (look_stays looked k.1)) later)) k.3) k.4 b
followed us old (Written count ∷ acts) new near k b = let f = followed us old acts new near k b in record { history = f.history; near = f.near; cuts = f.cuts; follow = f.follow }
followed us old (Passed ∷ acts) new near k b = let f = followed us old acts new near k b in record { history = f.history; near = f.near; cuts = f.cuts; follow = f.follow }
