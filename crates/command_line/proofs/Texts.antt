-- Texts that are copied one after the other. `texts` copies all those that clap has under a name.
use Rattle.std.proofs.Common.{◌∙◌, ◌≡◌, ◌+◌, ◌<◌, sym, map, take, get_or, length, ℕ, List, [], ◌∷◌, ◌++◌}
use Rattle.std.proofs.lemmas.List.{map-append, map_more}

pub text_more : {A B C : Type 0} (f : A → C) (g : B → C) (done : List A) (one : A) (all : List B) (k : ℕ) (d : B) → k < length all
    → map f done ≡ map g (take k all) → f one ≡ g (get_or all k d) → map f (done ++ one ∷ []) ≡ map g (take (k + 1) all)
text_more f g done one all k d lt before same = map-append f done (one ∷ []) ∙ rw (before, same) (sym (map_more g all k d lt))
