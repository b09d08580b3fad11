-- Bytes are written to a place, piece by piece. The world writes over the pieces of a session.
use Rattle.std.proofs.Common.{◌≡◌, ℕ, ◌+◌, ◌-◌, List, ◌++◌, length, take, drop, None, refl, ap, sym, ◌∙◌, subst, arith, append-nil, append_assoc}
use Rattle.std.specs.Prelude.{min}
use Rattle.std.proofs.Math.Seq.{take-add}
use Rattle.std.proofs.lemmas.List.{drop-drop, length-drop}
use Rattle.viewer_session.specs.Session.{State, Stands, after_writing}
use Rattle.reflect_world.specs.World.{Held, IsWritten, WritesSome}

abbrev having : Held → State → List ℕ → Held
having place session written = record place { session = session; written = written }

pub writes_none : (place : Held) → WritesSome place place 0
writes_none place =
    record {
      others = ap (having place place.session) (sym (append-nil place.written));
      within = omega arith;
      left = refl;
      fault = refl;
      stands = λ s p k. (let same : p.written + 0 ≡ p.written = omega arith in subst (λ n. Stands s place.session (record p { written = n })) (sym same) k);
      counted = λ us k. k;
    }

pub writes_on : (old now new : Held) (m n : ℕ) → WritesSome old now m → WritesSome now new n → WritesSome old new (m + n)
writes_on old now new m n a b =
    let more : List ℕ = take n (drop m old.session.unsent) in
    let both : (old.written ++ take m old.session.unsent) ++ take n now.session.unsent ≡ old.written ++ take (m + n) old.session.unsent =
    ap (λ u. (old.written ++ take m old.session.unsent) ++ take n u) a.left
    ∙ (append_assoc old.written (take m old.session.unsent) more ∙ ap (λ t. old.written ++ t) (sym (take-add m n old.session.unsent))) in
    record {
      others = b.others ∙ (ap (λ (h : Held). having h new.session (h.written ++ take n now.session.unsent)) a.others ∙ ap (having old new.session) both);
      within = omega (arith, a.within, b.within, ap length a.left, length-drop m old.session.unsent);
      left = b.left ∙ (ap (drop n) a.left ∙ drop-drop n m old.session.unsent);
      fault = b.fault ∙ a.fault;
      stands = λ s p k.
          let same : p.written + m + n ≡ p.written + (m + n) = omega arith in
          subst (λ t. Stands s new.session (record p { written = t })) same (b.stands s (after_writing m p) (a.stands s p k));
      counted = λ us k. b.counted us (a.counted us k);
    }

-- All that was to be written was.
pub has_written : (old now : Held) (count left : ℕ) → WritesSome old now (count - left) → count - left ≡ min count (length old.session.unsent) → IsWritten old (record now { looked = None }) (min count (length old.session.unsent))
has_written old now count left k e =
    record {
      others = ap (λ (h : Held). record h { looked = None }) k.others ∙ ap (λ n. record { session = now.session; looked = None; written = old.written ++ take n old.session.unsent; unread = old.unread }) e;
      stands = λ s p stood. subst (λ n. Stands s now.session (after_writing n p)) e (k.stands s p stood);
      counted = k.counted;
    }
