use Rattle.std.proofs.Common.{inl, inr, subst}
use Rattle.std.specs.Prelude.{◌≡◌, IfSome, Option, Some, None}
use Rattle.replay.proofs.Words.{is_hex, is_no_hex}
use Rattle.replay.proofs.hexadecimal.script_bytes.Goals as goal

at_some : {A : Type 0} (P : A → Type 0) {o : Option A} {x : A} → o ≡ Some x → IfSome o P → P x
at_some P {o = None} e k = absurd cc
at_some P {o = Some y} {x = x} e k = let same : y ≡ x = cc in subst P same k

pub returns-in-Ok-clause-found : goal.returns-in-Ok-clause-found
returns-in-Ok-clause-found c = is_hex c.args.text.now c.in-Ok-Some.digits.items c.in-Ok.bytes.items (rw c.as_bytes.ensures.value at (at_some _ c.in-Ok-Some.field-0-is c.in-Ok-Some.ensures.found)) (rw c.as_slice.ensures.value at c.in-Ok.ensures.ok)

pub returns : goal.returns
returns c =
    record {
      found = tt;
      none =
          elim c.in-Err-decode.ensures.err [
            | inl memory ↦ absurd (c.in_default.not-OutOfMemory memory)
            | inr failed ↦ is_no_hex c.args.text.now c.in-Ok-Some.digits.items c.in-Err-decode.error (rw c.as_bytes.ensures.value at (at_some _ c.in-Ok-Some.field-0-is c.in-Ok-Some.ensures.found)) (rw c.as_slice.ensures.value at failed)
          ];
      memory = tt;
    }
