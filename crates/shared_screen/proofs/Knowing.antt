-- What an eye knows after it was told, or saw. An eye's list only grows by it.
use Rattle.std.proofs.Common.{◌≡◌, ℕ, ◌<◌, ◌≤◌, ◌⊎◌, inl, inr, ⊎_elim, List, length, take, drop, ap, sym, ◌∙◌, subst, arith}
use Rattle.std.proofs.lemmas.Bool.{cases_lt}
use Rattle.std.proofs.lemmas.List.{length-take-le, take-append-drop}
use Rattle.raster.specs.Update.{Update}
use Rattle.reflect_core.specs.Sequential.{Begins}
use Rattle.shared_screen.specs.History.{Change, puts_of}
use Rattle.shared_screen.proofs.Beginnings.{begins_shorter, begins_trans}
use Rattle.shared_screen.proofs.Histories.{begins_puts}

take_begins : (n : ℕ) (xs ys : List Update) → Begins xs ys → Begins (take n xs) ys
take_begins n xs ys p = begins_trans (take n xs) xs ys (drop n xs, sym (take-append-drop n xs)) p

-- The first n updates of one beginning of a history, and the first m of another, where m is no less.
pub first_more : (mine theirs both : List Change) (n m : ℕ) → n ≤ length (puts_of mine) → m ≤ length (puts_of theirs) → Begins mine both → Begins theirs both → n ≤ m → Begins (take n (puts_of mine)) (take m (puts_of theirs))
first_more mine theirs both n m fits low p q le =
    let a = length-take-le n (puts_of mine) fits in let b = length-take-le m (puts_of theirs) low in
    begins_shorter (take n (puts_of mine)) (take m (puts_of theirs)) (puts_of both)
    (take_begins n (puts_of mine) (puts_of both) (begins_puts mine both p)) (take_begins m (puts_of theirs) (puts_of both) (begins_puts theirs both q)) (omega arith)

-- An eye that knew the first n, and goes on to all updates of a copy.
pub goes_on : (old : List Update) (mine again copy front both : List Change) (n m : ℕ) → take n (puts_of mine) ≡ old → n ≤ length (puts_of mine) → again ≡ mine → front ≡ copy → Begins again both → Begins front both → m ≡ length (puts_of copy) → n ≤ m
    → Begins old (take m (puts_of front)) × (m ≡ length (take m (puts_of front)))
goes_on old mine again copy front both n m is fits same is_copy p q count le =
    let all : length (puts_of front) ≡ m = ap (λ (l : List Change). length (puts_of l)) is_copy ∙ sym count in
    let more = first_more mine front both n m fits (omega arith) (subst (λ (l : List Change). Begins l both) same p) q le in
    (subst (λ (l : List Update). Begins l (take m (puts_of front))) is more, sym (length-take-le m (puts_of front) (omega arith)))

-- Two lists that begin the updates of beginnings of one history: one of the two begins the other.
pub one_begins : (xs ys : List Update) (mine theirs both : List Change) → Begins xs (puts_of mine) → Begins ys (puts_of theirs) → Begins mine both → Begins theirs both → Begins xs ys ⊎ Begins ys xs
one_begins xs ys mine theirs both p q m t =
    let a = begins_trans xs (puts_of mine) (puts_of both) p (begins_puts mine both m) in
    let b = begins_trans ys (puts_of theirs) (puts_of both) q (begins_puts theirs both t) in
    ⊎_elim
    (λ (less : length xs < length ys). inl (begins_shorter xs ys (puts_of both) a b (omega arith)))
    (λ (more : length ys ≤ length xs). inr (begins_shorter ys xs (puts_of both) b a more))
    (cases_lt (length xs) (length ys))
