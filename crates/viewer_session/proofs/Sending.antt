-- What waits to be sent, piece by piece. `out` shows the beginning of it.
use Rattle.std.proofs.Common.{◌≡◌, ℕ, ◌≤◌, List, [], ◌∷◌, ◌++◌, length, take, drop, refl, sym, ap, ◌∙◌, arith, length-append}
use Rattle.std.proofs.lemmas.List.{length-take, length-drop}
use Rattle.reflect_core.specs.declared.cut.Cut.{Cut}
use Rattle.viewer_session.specs.Outgoing.{Sending}

-- A strip that was written over is as long as before.
pub as_long : (size room : ℕ) (strip new : List ℕ) → length strip ≡ size → room ≡ size → length new ≡ size → length (take room (new ++ drop (length new) strip)) ≡ size
as_long size room strip new e r n = omega (arith, length-take room (new ++ drop (length new) strip), length-append new (drop (length new) strip), length-drop (length new) strip)

pub nothing : (xs : List ℕ) → length xs ≡ 0 → xs ≡ []
nothing [] e = refl
nothing (x ∷ xs) e = absurd (omega arith)

-- Where all that waits is the piece, nothing comes after it.
pub none_behind : (piece more : List ℕ) → piece ++ more ≡ piece → more ≡ []
none_behind piece more e = nothing more (omega (arith, ap length e, length-append piece more))

pub first_part : (whole part more : List ℕ) → whole ≡ part ++ more → length part ≤ length whole
first_part whole part more e = omega (arith, ap length e, length-append part more)

pub all_empty : (part more : List ℕ) → part ++ more ≡ [] → length part ≡ 0
all_empty part more e = omega (arith, ap length e, length-append part more)

abbrev put : ℕ → List ℕ → Cut → List ℕ → Sending
put filled piece cut behind = record { cut = cut; filled = filled; piece = piece; unsent = piece ++ behind }

-- Where nothing waited and the cut is as it was, all is as it was.
pub as_before : (cut now : Cut) (filled : ℕ) (piece before after : List ℕ) → now ≡ cut → length (piece ++ before) ≡ 0 → after ≡ [] → put filled piece now after ≡ put filled piece cut before
as_before cut now filled piece before after same none empty =
    ap (λ (c : Cut). put filled piece c after) same ∙ ap (put filled piece cut) (empty ∙ sym (nothing before (omega (arith, none, length-append piece before))))
