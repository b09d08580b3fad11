-- The parts of a host's message whose length is fixed. They are judged once their last byte has come.
use Rattle.std.proofs.Common.{◌≡◌, ℕ, ◌+◌, ◌-◌, ◌<◌, ◌≤◌, true, List, length, take, sym, ap, ◌∙◌, arith}
use Rattle.std.proofs.lemmas.List.{take_all}
use Rattle.byte_reading.proofs.ReadingLaws.{after_bind}
use Rattle.byte_reading.specs.Reading.{Reading, ◌>>=◌, after, taken, wants_more, Spells}
use Rattle.raster.proofs.FixedLength.{Needs, needs_after, needs_takes, needs_wants}
use Rattle.raster.specs.Update.{Paint}
use Rattle.host_decoder.specs.declared.part.HostPart.{HostPart}
use Rattle.host_decoder.specs.declared.part.HostPart.TheVariants as part
use Rattle.host_decoder.specs.Parts.{len_of}
use Rattle.host_decoder.specs.Decoder.{form_of}

-- Each part takes this many bytes, whatever they are.
pub part_needs : (w h : ℕ) (sofar : List Paint) (p : HostPart) → Needs (len_of p) (form_of w h sofar p)
part_needs w h sofar part.Kind = λ a. tt
part_needs w h sofar part.Count = λ a b c. tt
part_needs w h sofar (part.Area left) = λ a b c d e f g i. tt
part_needs w h sofar (part.Encoding left area) = λ a b c d. tt
part_needs w h sofar part.Outside = λ a b c d. tt
part_needs w h sofar part.Colours = λ a b c d e. tt
part_needs w h sofar part.Length = λ a b c d e f g. tt

part_left : (w h : ℕ) (sofar : List Paint) (p : HostPart) (begun : List ℕ) → length begun ≤ len_of p → Needs (len_of p - length begun) (after (form_of w h sofar p) begun)
part_left w h sofar p begun le = needs_after (len_of p) (len_of p - length begun) (form_of w h sofar p) begun (part_needs w h sofar p) (omega arith)

pub part_wants : (w h : ℕ) (sofar : List Paint) (p : HostPart) (begun : List ℕ) → length begun < len_of p → wants_more (after (form_of w h sofar p) begun) ≡ true
part_wants w h sofar p begun lt = needs_wants (len_of p - length begun) (after (form_of w h sofar p) begun) (part_left w h sofar p begun (omega arith)) (omega arith)

pub part_takes : (w h : ℕ) (sofar : List Paint) (p : HostPart) (begun xs : List ℕ) → length begun + length xs ≤ len_of p → taken (after (form_of w h sofar p) begun) xs ≡ length xs
part_takes w h sofar p begun xs le = needs_takes (len_of p - length begun) (after (form_of w h sofar p) begun) xs (part_left w h sofar p begun (omega arith)) (omega arith)

-- After the bytes that spell a head, what follows it is read.
pub head_read : {A B : Type 0} (n : ℕ) (head : Reading A) (next : A → Reading B) (bs : List ℕ) (x : A) → length bs ≡ n → Spells head (take n bs) x → after (head >>= next) bs ≡ next x
head_read n head next bs x e spells =
    ap (after (head >>= next)) (sym (take_all n bs (omega (arith, e)))) ∙ after_bind head next (take n bs) x spells.whole spells.says
