-- What a file has stays a beginning of what was spelled for it, whatever the file system answers.
use Rattle.std.proofs.Common.{◌≡◌, ◌≤◌, ◌+◌, ℕ, Bool, true, false, List, [], ◌++◌, length, take, drop, refl, sym, ap, ◌∙◌, arith, append_assoc, append-nil, length-drop}
use Rattle.std.proofs.lemmas.List.{take-append-drop, drop-drop}
use Rattle.recording.specs.declared.form.TheConstants.{LONGEST_SPELLING}
use Rattle.record_link.specs.Tapes.{IsTape, unwritten}

pub begins_tape : (bytes : List ℕ) → length bytes ≤ LONGEST_SPELLING → IsTape (unwritten bytes)
begins_tape bytes short = record { left = bytes; begins = refl; rest = λ _. refl; few = short }

-- It has taken the first of the bytes.
pub takes_some : (stored unsent spelled new next : List ℕ) (n : ℕ) (broken : Bool) → broken ≡ false → IsTape (record { stored = stored; unsent = unsent; spelled = spelled; is_broken = broken }) → new ≡ stored ++ take n unsent → next ≡ drop n unsent
    → IsTape (record { stored = new; unsent = next; spelled = spelled; is_broken = broken })
takes_some stored unsent spelled new next n broken fine h is rest =
    record {
      left = next;
      begins = ap (λ (xs : List ℕ). xs ++ next) is
          ∙ (ap (λ (xs : List ℕ). (stored ++ take n unsent) ++ xs) rest
          ∙ (append_assoc stored (take n unsent) (drop n unsent) ∙ (ap (λ (xs : List ℕ). stored ++ xs) (take-append-drop n unsent ∙ sym (h.rest fine)) ∙ h.begins)));
      rest = λ _. refl;
      few = omega (arith, ap length rest, length-drop n unsent, h.few);
    }

-- It has failed, and may have taken some of the bytes.
pub takes_and_fails : (stored unsent spelled new : List ℕ) (n : ℕ) (broken : Bool) → broken ≡ false → IsTape (record { stored = stored; unsent = unsent; spelled = spelled; is_broken = broken }) → new ≡ stored ++ take n unsent
    → IsTape (record { stored = new; unsent = unsent; spelled = spelled; is_broken = true })
takes_and_fails stored unsent spelled new n broken fine h is =
    record {
      left = drop n unsent;
      begins = ap (λ (xs : List ℕ). xs ++ drop n unsent) is
          ∙ (append_assoc stored (take n unsent) (drop n unsent) ∙ (ap (λ (xs : List ℕ). stored ++ xs) (take-append-drop n unsent ∙ sym (h.rest fine)) ∙ h.begins));
      rest = λ no. absurd (let never : true ≡ false = no in cc);
      few = h.few;
    }

-- It is written no more.
pub ends_tape : (stored unsent spelled : List ℕ) (broken : Bool) → IsTape (record { stored = stored; unsent = unsent; spelled = spelled; is_broken = broken }) → IsTape (record { stored = stored; unsent = unsent; spelled = spelled; is_broken = true })
ends_tape stored unsent spelled broken h = record { left = h.left; begins = h.begins; rest = λ no. absurd (let never : true ≡ false = no in cc); few = h.few }

-- More is spelled, once all was taken.
pub spells_more : (stored unsent spelled block all next : List ℕ) (broken : Bool) → broken ≡ false → IsTape (record { stored = stored; unsent = unsent; spelled = spelled; is_broken = broken }) → unsent ≡ [] → all ≡ spelled ++ block → next ≡ block → length block ≤ LONGEST_SPELLING
    → IsTape (record { stored = stored; unsent = next; spelled = all; is_broken = broken })
spells_more stored unsent spelled block all next broken fine h none is same short =
    let nothing : stored ++ [] ≡ spelled = ap (λ (xs : List ℕ). stored ++ xs) (sym (h.rest fine ∙ none)) ∙ h.begins in
    let stands : stored ≡ spelled = sym (append-nil stored) ∙ nothing in
    record {
      left = next;
      begins = ap (λ (xs : List ℕ). stored ++ xs) same ∙ (ap (λ (xs : List ℕ). xs ++ block) stands ∙ sym is);
      rest = λ _. refl;
      few = omega (arith, ap length same, short);
    }

-- So many of the bytes in the room were taken.
pub takes_count : (stored room new bytes spelled : List ℕ) (start end count : ℕ) (broken : Bool) → broken ≡ false → bytes ≡ drop start (take end room) → new ≡ stored ++ take count bytes
    → IsTape (record { stored = stored; unsent = drop start (take end room); spelled = spelled; is_broken = broken }) → IsTape (record { stored = new; unsent = drop (start + count) (take end room); spelled = spelled; is_broken = broken })
takes_count stored room new bytes spelled start end count broken fine is all h =
    takes_some stored (drop start (take end room)) spelled new (drop (start + count) (take end room)) count broken fine h (all ∙ ap (λ (xs : List ℕ). stored ++ take count xs) is) (sym (drop-drop count start (take end room)))
