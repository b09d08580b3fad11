-- Lists that grow piece by piece.
use Rattle.std.proofs.Common.{◌≡◌, ℕ, ◌+◌, ◌<◌, ◌≤◌, Bool, true, false, if◌then◌else◌, List, [], ◌∷◌, ◌++◌, ◌∙◌, length, take, replicate, sym, ap, append_assoc}
use Rattle.zrle_codec.specs.Appends.{BeginsWith}
use Rattle.std.specs.Prelude.{slice_index}
use Rattle.std.specs.List.{flat_map}
use Rattle.std.proofs.lemmas.List.{append-nil, take_more, take_all, flat_map_more, replicate-append-replicate}

-- one more piece
pub pieces_more : (f : ℕ → List ℕ) (old new newer values : List ℕ) (i v : ℕ) → i < length values → v ≡ slice_index values i
    → new ≡ old ++ flat_map f (take i values) → newer ≡ new ++ f v → newer ≡ old ++ flat_map f (take (i + 1) values)
pieces_more f old new newer values i v lt is before put =
    let w : ℕ = slice_index values i in
    put ∙ (ap (λ t. t ++ f v) before ∙ (ap (λ n. (old ++ flat_map f (take i values)) ++ f n) is
    ∙ (flat_map_more f old (take i values) w ∙ ap (λ t. old ++ flat_map f t) (sym (take_more values i 0 lt)))))

-- all pieces
pub pieces_all : (f : ℕ → List ℕ) (old new values : List ℕ) (i : ℕ) → length values ≤ i → new ≡ old ++ flat_map f (take i values) → new ≡ old ++ flat_map f values
pieces_all f old new values i le put = put ∙ ap (λ t. old ++ flat_map f t) (take_all i values le)

-- one more of the same
pub same_more : (old new newer : List ℕ) (i v : ℕ) → new ≡ old ++ replicate i v → newer ≡ new ++ v ∷ [] → newer ≡ old ++ replicate (i + 1) v
same_more old new newer i v before put =
    put ∙ (ap (λ t. t ++ v ∷ []) before ∙ (append_assoc old (replicate i v) (v ∷ []) ∙ ap (λ t. old ++ t) (replicate-append-replicate i 1 v)))

-- ---- bytes that begin with the old ones

pub begins_unchanged : (old new : List ℕ) → new ≡ old → BeginsWith old new
begins_unchanged old new is = record { more = []; are = is ∙ sym (append-nil old) }

pub begins_more : (old new more : List ℕ) → new ≡ old ++ more → BeginsWith old new
begins_more old new more is = record { more = more; are = is }

pub begins_then : (old new newer : List ℕ) → BeginsWith old new → BeginsWith new newer → BeginsWith old newer
begins_then old new newer one two = record {
  more = one.more ++ two.more;
  are = two.are ∙ (ap (λ t. t ++ two.more) one.are ∙ append_assoc old one.more two.more);
}

-- what was pushed, or nothing where memory was refused
pub begins_if : (ok : Bool) (old new more : List ℕ) → new ≡ (if ok then old ++ more else old) → BeginsWith old new
begins_if true old new more is = record { more = more; are = is }
begins_if false old new more is = record { more = []; are = is ∙ sym (append-nil old) }
