-- What is left of some bytes once the first of them are gone.
use Rattle.std.proofs.Common.{◌≡◌, ℕ, ◌+◌, ◌≤◌, List, [], length, drop, sym, ap, ◌∙◌, arith, length-drop}
use Rattle.std.specs.Prelude.{IsTrue, nat_le}
use Rattle.std.proofs.lemmas.List.{drop_all}
use Rattle.std.proofs.lemmas.Bool.Decides.{nat_tests}

pub none_left : (bytes : List ℕ) (gone len : ℕ) (left : List ℕ) → drop gone bytes ≡ left → len ≡ length bytes → IsTrue (nat_le len gone) → left ≡ []
none_left bytes gone len left view size passed = sym view ∙ drop_all gone bytes (grind (arith, nat_tests, size, passed))

pub all_gone : (bytes : List ℕ) (gone len : ℕ) (left : List ℕ) → drop gone bytes ≡ left → len ≡ length bytes → left ≡ [] → IsTrue (nat_le len gone)
all_gone bytes gone len left view size none =
    let empty : length (drop gone bytes) ≡ 0 = ap length view ∙ ap length none in
    let le : len ≤ gone = omega (arith, length-drop gone bytes, empty, size) in
    grind (arith, nat_tests, le)

pub room_to_pass : (bytes : List ℕ) (gone count : ℕ) (left : List ℕ) → drop gone bytes ≡ left → gone ≤ length bytes → count ≤ length left → gone + count ≤ length bytes
room_to_pass bytes gone count left view within fits = omega (arith, length-drop gone bytes, ap length view)
