-- What was spelled, taken apart.
use Rattle.std.proofs.Common.{◌≡◌, ℕ, zero, suc, Bool, true, false, List, [], ◌∷◌, ◌++◌, refl, ap, arith}
use Rattle.byte_reading.specs.Reading.{Reading, Done, Faulty, Want, ◌>>=◌, padding, unless, Spells}
use Rattle.fault.specs.declared.kinds.Fault.{Fault}
use Rattle.raster.proofs.Spellings.{spells_done}

-- Where one thing and then another were spelled: each by itself.
pub record Both {A B : Type 0} (form : Reading A) (next : A → Reading B) (bytes : List ℕ) (y : B) : Type 0 where
  pub x : A
  pub first : List ℕ
  pub others : List ℕ
  pub are : bytes ≡ first ++ others
  pub spells : Spells form first x
  pub then_spells : Spells (next x) others y

pub both : {A B : Type 0} (form : Reading A) (next : A → Reading B) (bytes : List ℕ) (y : B) → Spells (form >>= next) bytes y → Both form next bytes y
both (Done x) next bytes y k = record { x = x; first = []; others = bytes; are = refl; spells = spells_done x; then_spells = k }
both (Faulty fault) next [] y k = let s = k.says in absurd cc
both (Faulty fault) next (b ∷ bytes) y k = absurd (omega (arith, k.whole))
both (Want more) next [] y k = let s = k.says in absurd cc
both (Want more) next (b ∷ bytes) y k =
    let rest = both (more b) next bytes y (record { whole = omega (arith, k.whole); says = k.says }) in
    record {
      x = rest.x;
      first = b ∷ rest.first;
      others = rest.others;
      are = ap (λ t. b ∷ t) rest.are;
      spells = record { whole = ap suc rest.spells.whole; says = rest.spells.says };
      then_spells = rest.then_spells;
    }

-- Where a byte was wanted there is one.
pub record ThenByte {A : Type 0} (more : ℕ → Reading A) (bytes : List ℕ) (x : A) : Type 0 where
  pub first : ℕ
  pub others : List ℕ
  pub are : bytes ≡ first ∷ others
  pub spells : Spells (more first) others x

pub then_byte : {A : Type 0} (more : ℕ → Reading A) (bytes : List ℕ) (x : A) → Spells (Want more) bytes x → ThenByte more bytes x
then_byte more [] x k = let s = k.says in absurd cc
then_byte more (b ∷ bytes) x k = record { first = b; others = bytes; are = refl; spells = record { whole = omega (arith, k.whole); says = k.says } }

-- A fault spells nothing.
pub no_fault : {A : Type 0} (fault : Fault) (bytes : List ℕ) (x : A) → Spells (Faulty fault) bytes x → ⊥
no_fault fault [] x k = let s = k.says in absurd cc
no_fault fault (b ∷ bytes) x k = absurd (omega (arith, k.whole))

-- Nor does a form that ends in one.
pub ends_in_fault : {A B : Type 0} (form : Reading A) (fault : A → Fault) (bytes : List ℕ) (y : B) → Spells (form >>= λ x. Faulty (fault x)) bytes y → ⊥
ends_in_fault form fault bytes y k = let t = both form (λ x. Faulty (fault x)) bytes y k in no_fault (fault t.x) t.others y t.then_spells

-- What is judged has passed.
pub passed : {A : Type 0} (b : Bool) (fault : Fault) (rest : Reading A) (bytes : List ℕ) (x : A) → Spells (unless b fault rest) bytes x → (b ≡ false) × Spells rest bytes x
passed true fault rest bytes x k = absurd (no_fault fault bytes x k)
passed false fault rest bytes x k = (refl, k)

-- What is done is done with one thing.
pub done_with : {A : Type 0} (x y : A) (bytes : List ℕ) → Spells (Done x) bytes y → (bytes ≡ []) × (x ≡ y)
done_with x y [] k = let s = k.says in (refl, cc)
done_with x y (b ∷ bytes) k = absurd (omega (arith, k.whole))

-- What stands behind padding.
pub behind_padding : {A : Type 0} (n : ℕ) (rest : Reading A) (bytes : List ℕ) (x : A) → Spells (padding n rest) bytes x → (others : List ℕ) × Spells rest others x
behind_padding zero rest bytes x k = (bytes, k)
behind_padding (suc n) rest bytes x k = let t = then_byte (λ b. padding n rest) bytes x k in behind_padding n rest t.others x t.spells
