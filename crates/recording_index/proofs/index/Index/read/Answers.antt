use Rattle.std.proofs.Common.{◌≡◌, ℕ, inl, inr, true, List, drop, None, Some, refl, sym, ◌∙◌}
use Rattle.recording_index.specs.IndexReading.{all_in, begins_as_line}
use Rattle.recording_index.proofs.Entries.{no_line, behind_the_line, entries_behind}
use Rattle.recording_index.proofs.index.Index.read.Goals as goal

pub returns-then-not-begins_as_line-clause-err : goal.returns-then-not-begins_as_line-clause-err
returns-then-not-begins_as_line-clause-err c = inr (no_line c.args.bytes.now (sym c.begins_as_line.ensures ∙ c.if-not-begins_as_line.true))

pub returns-in-Ok-clause-ok : goal.returns-in-Ok-clause-ok
returns-in-Ok-clause-ok c =
    let bytes : List ℕ = c.args.bytes.now in
    let entries : List ℕ = c.split_at.result.1.now in
    let begins : begins_as_line bytes ≡ true = sym c.begins_as_line.ensures ∙ c.if-not-begins_as_line.false in
    let behind : entries ≡ drop 12 bytes = c.split_at.ensures.back ∙ entries_behind bytes c.min.result c.min.ensures in
    let both = behind_the_line bytes entries c.in-Ok.moments.items None begins behind c.in-Ok.ensures.ok.1 c.in-Ok.ensures.ok.0 in
    (both.1, both.0)

pub returns-in-Err-clause-err : goal.returns-in-Err-clause-err
returns-in-Err-clause-err c =
    let bytes : List ℕ = c.args.bytes.now in
    let entries : List ℕ = c.split_at.result.1.now in
    let begins : begins_as_line bytes ≡ true = sym c.begins_as_line.ensures ∙ c.if-not-begins_as_line.false in
    let behind : entries ≡ drop 12 bytes = c.split_at.ensures.back ∙ entries_behind bytes c.min.result c.min.ensures in
    elim c.in-Err.ensures.err [
      | inl refused ↦ inl refused
      | inr fault ↦ inr (behind_the_line bytes entries (all_in entries) (Some c.in-Err.bad) begins behind refl fault).1
    ]
