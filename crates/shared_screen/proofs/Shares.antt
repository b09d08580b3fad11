-- The two shares of the number of changes: how they are made, and how a step trades them. The functions of `half` stand
-- on it. Assumes `Logic`.
use Rattle.std.proofs.Common.{◌≡◌, ℕ, zero, suc, Bool, true, false, List, [], ◌∷◌, length, sym, refl, ap, ◌∙◌, None}
use seplogic.Ra.Ura.{Ura}
use base.Fraction.{full_share}
use base.Share.{quarter, three_quarters}
use base.Logic.{SProp, ent, sep, wand, ex, all, upd, emp, via, all_i, upd_i}
use base.Fml.{Fml, ftrue}
use base.Shift.{Keyless}
use types.Logic.{Logic, sem}
use types.Owned.{basic}
use types.Keyed.{entries_new, entries_take, entry_keyless}
use types.Kit.{‵, raw, ◌⊛◌, some, given, later, ◌$◌, ◌∵◌, !, qed, move, drop, split, fjoin, fpack, pick, learn, show, frame, assume, suffices, settle, done, use0, use1, use2, updating, await, now, rewrite}
use denote.Steps.{nothing}
use Rattle.logbook.specs.Kept.{halved, part, roster, offer_owns}
use Rattle.logbook.proofs.Roster.{resets, joined}
use Rattle.shared_screen.specs.History.{Change}
use Rattle.shared_screen.specs.Shares.{name_of, kept, holding, turned, IsMove}

-- x, n times.
abbrev pub times : {A : Type 0} → ℕ → A → List A
times zero x = []
times (suc n) x = x ∷ times n x

pub times_long : {A : Type 0} (n : ℕ) (x : A) → length (times n x) ≡ n
times_long zero x = refl
times_long (suc n) x = ap suc (times_long n x)

pub half_keyless : (names : List ℕ) (here : Bool) (n : ℕ) → Keyless (holding names here n)
half_keyless names true n = entry_keyless halved (name_of names) 0 _
half_keyless names false n = tt

pub kept_keyless : (names : List ℕ) (log : List Change) → Keyless (kept names log)
kept_keyless names log = entry_keyless halved (name_of names) 0 _

module _ {M : Type 1} {𝓤 : Ura M} (𝓛 : Logic 𝓤) where
  open 𝓛 use {H}

  abbrev Pr : Type 2
  Pr = SProp 𝓤

  abbrev ◌⊢◌ : Pr → Pr → Type 1
  P ⊢ Q = ent 𝓤 P Q

  abbrev ◌∗◌ : Pr → Pr → Pr
  P ∗ Q = sep 𝓤 P Q

  abbrev ◌-∗◌ : Pr → Pr → Pr
  P -∗ Q = wand 𝓤 P Q

  abbrev ⟦◌⟧ : Fml → Pr
  ⟦ P ⟧ = sem 𝓛 P

  infix 26 ◌⊢◌
  infixr 35 ◌∗◌
  infixr 30 ◌-∗◌
  abbrev pub Begun : ℕ → Pr
  Begun δ = ⟦ kept (δ ∷ []) [] ⟧ ∗ ⟦ holding (δ ∷ []) true 0 ⟧

  -- Both shares of a new number, which is 0.
  pub begun : emp 𝓤 ⊢ H.⇛ (ex 𝓤 Begun)
  begun = qed 𝓛 [] ∵ updating ! $
      use0 𝓛 (later (some (λ (δ : ℕ). ‵ (roster δ 0 [])))) (via 𝓤 _ (entries_new halved 𝓛 0 (λ _. (full_share, 0))) (basic 𝓛 _)) $ await ! tt $ pick ! (λ δ.
      use1 𝓛 (‵ (part δ 0 full_share 0) ⊛ ‵ (roster δ 1 [])) (entries_take halved 𝓛 δ 0 (λ _. (full_share, 0))) $ split ! $
      use1 𝓛 (later (‵ (part δ 0 quarter 0) ⊛ ‵ (part δ 0 three_quarters 0))) (via 𝓤 _ (resets 𝓛 δ 0 0 0) (basic 𝓛 _)) $ await ! tt $ split ! $
      move ! (2 ∷ []) $ drop ! $ now ! $ show ! Begun δ $ done !)

  -- Whatever the step does, the other share goes from the number before, which was the one that it told, to the one
  -- after.
  pub trades : (names : List ℕ) (n : ℕ) (about : List Change) → length about ≡ n → ⟦ holding names true n ⟧ ⊢ ⟦ offer_owns (kept names) IsMove (turned names about) None ⟧
  trades names n about long = let δ : ℕ = name_of names in let T : Type 0 = List Change × List Change × (ℕ × ℕ) in let Z : T → Pr = λ z. ⟦ kept names z.1 ⟧ ∗ ⟦ turned names about z.2 ⟧ in let N : T → Pr = λ z. ⟦ kept names z.0 ⟧ -∗ upd 𝓤 (Z z) in
      all_i 𝓤 (λ (z : T). all 𝓤 (λ (_ : IsMove z.0 z.1 z.2). N z)) (λ z. all_i 𝓤 (λ (_ : IsMove z.0 z.1 z.2). N z) (λ m. qed 𝓛 (‵ (part δ 0 three_quarters n) ∷ []) ∵ assume ! (‵ (part δ 0 quarter (length z.0))) $
      use2 𝓛 (given (length z.0 ≡ n) (‵ (part δ 0 full_share (length z.0)))) (joined 𝓛 δ 0 (length z.0) n) $ learn ! (λ same.
      use1 𝓛 (raw (upd 𝓤 (⟦ part δ 0 quarter (length z.1) ⟧ ∗ ⟦ part δ 0 three_quarters (length z.1) ⟧))) (resets 𝓛 δ 0 (length z.0) (length z.1)) $
      settle 𝓛 (Z z) (‵ (part δ 0 quarter (length z.1)) ⊛ ‵ (part δ 0 three_quarters (length z.1))) $ split ! $ suffices ! _ (upd_i 𝓤 (Z z)) $ frame ! $
      rewrite ! 0 (λ (k : ℕ). ‵ (part δ 0 three_quarters k)) (sym (ap (λ (t : ℕ × ℕ). t.1) m)) refl $
      nothing ! $ fpack ! (z.2.0 ≡ length about) (λ _. ftrue) (ap (λ (t : ℕ × ℕ). t.0) m ∙ (same ∙ sym long)) $ fjoin ! $ done !)))
