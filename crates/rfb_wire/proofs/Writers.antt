-- Writing one thing after another. The writers of messages of several parts rest on it.
use Rattle.std.proofs.Common.{ℕ, ◌+◌, List, ◌++◌, length, drop, sym, ap, ◌∙◌, append_assoc, length-append, drop-drop}
use Rattle.rfb_wire.specs.Writing.{Writes}

pub writes_behind : (a b old back : List ℕ) (k : ℕ) → Writes b (drop (length a) old) back k → Writes (a ++ b) old (a ++ back) (length a + k)
writes_behind a b old back k h =
    record {
      written = ap (λ t. a ++ t) h.written ∙ (sym (append_assoc a b (drop (length b) (drop (length a) old))) ∙ ap (λ t. (a ++ b) ++ t) (drop-drop (length b) (length a) old ∙ ap (λ n. drop n old) (sym (length-append a b))));
      count_is = ap (λ n. length a + n) h.count_is ∙ sym (length-append a b);
    }
