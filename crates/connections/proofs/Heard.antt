-- Bytes that are heard, the header of a proxy and those behind it.
use Rattle.std.proofs.Common.{◌≡◌, ℕ, List, [], ◌∷◌, ◌++◌, length, sym, ap, ◌∙◌, append_assoc, append-nil}
use Rattle.byte_reading.specs.Reading.{Reading, after}
use Rattle.byte_reading.proofs.ReadingLaws.{after-append}

-- A reader that has gone on over what came goes on over the next byte.
pub fed : {A : Type 0} (form old new : Reading A) (front : List ℕ) (byte : ℕ) → old ≡ after form front → new ≡ after old (byte ∷ []) → new ≡ after form (front ++ byte ∷ [])
fed form old new front byte o n = n ∙ (ap (λ r. after r (byte ∷ [])) o ∙ sym (after-append form front (byte ∷ [])))

-- A byte of the header, behind which nothing has come.
pub behind_header : (front own received : List ℕ) (byte : ℕ) → length own ≡ 0 → received ≡ front ++ own → received ++ byte ∷ [] ≡ (front ++ byte ∷ []) ++ own
behind_header front [] received byte none r = ap (λ l. l ++ byte ∷ []) (r ∙ append-nil front) ∙ sym (append-nil (front ++ byte ∷ []))
behind_header front (x ∷ own) received byte none r = cc

-- Bytes behind the header, behind those that came.
pub more : (front own received next : List ℕ) → received ≡ front ++ own → received ++ next ≡ front ++ (own ++ next)
more front own received next r = ap (λ l. l ++ next) r ∙ append_assoc front own next
