use Rattle.std.proofs.Common.{◌≡◌, ℕ, ◌-◌, ◌&&◌, bytes_eq, is_none, List, ◌++◌, length, take, min, true, sym, ap, subst, ◌∙◌}
use Rattle.byte_reading.specs.Reading.{after}
use Rattle.recording.specs.Recording.{line}
use Rattle.recording.specs.BlockReading.{next_block}
use Rattle.recording.specs.Progress.{Progress, Uses, ahead, form_of, part_end}
use Rattle.recording.proofs.Parts.{part_used, begins}
use Rattle.recording.proofs.reader.RecordingReader.feed.Goals as goal

pub returns-then-is_line-clause-used : goal.returns-then-is_line-clause-used
returns-then-is_line-clause-used c =
    let last = c.self.inside.last in
    let begun : List ℕ = c.self.inside.begun.items in
    let piece : List ℕ = c.args.piece.now in
    let n : ℕ = c.min-count.result in
    let end : c.part_end.result ≡ part_end last begun = c.part_end.ensures.value ∙ sym (ap (λ (p : Progress). part_end p.last p.begun) c.self.view_is) in
    let count : n ≡ min (length piece) (part_end last begun - length begun) =
    c.min-count.ensures ∙ (ap (λ (k : ℕ). min (length piece) (k - length c.as_slice-come.result.now)) end ∙ ap (λ (k : ℕ). min (length piece) (part_end last begun - k)) (ap length c.as_slice-come.ensures.value)) in
    let all : c.as_slice.result.now ≡ begun ++ take n piece = c.as_slice.ensures.value ∙ c.in_ok-extend_from_slice.ensures.items in
    let whole : (is_none last && bytes_eq (begun ++ take n piece) line) ≡ true = ap (λ (xs : List ℕ). is_none last && bytes_eq xs line) (sym all) ∙ (sym c.is_line.ensures ∙ c.if-is_line.true) in
    let goes = begins last (begun ++ take n piece) c.clear.new.self.items whole c.clear.ensures.items in
    subst (λ (p : Progress). Uses (ahead p) (after (next_block 0) c.clear.new.self.items) piece n) c.self.view_is
    (part_used last begun piece (after (next_block 0) c.clear.new.self.items) n c.self.invariant count goes)

pub returns-else-is_line-clause-used : goal.returns-else-is_line-clause-used
returns-else-is_line-clause-used c =
    let last = c.self.inside.last in
    let begun : List ℕ = c.self.inside.begun.items in
    let piece : List ℕ = c.args.piece.now in
    let n : ℕ = c.min-count.result in
    let end : c.part_end.result ≡ part_end last begun = c.part_end.ensures.value ∙ sym (ap (λ (p : Progress). part_end p.last p.begun) c.self.view_is) in
    let count : n ≡ min (length piece) (part_end last begun - length begun) =
    c.min-count.ensures ∙ (ap (λ (k : ℕ). min (length piece) (k - length c.as_slice-come.result.now)) end ∙ ap (λ (k : ℕ). min (length piece) (part_end last begun - k)) (ap length c.as_slice-come.ensures.value)) in
    let goes = ap (after (form_of last)) c.in_ok-extend_from_slice.ensures.items in
    subst (λ (p : Progress). Uses (ahead p) (after (form_of last) c.extend_from_slice.new.self.items) piece n) c.self.view_is
    (part_used last begun piece (after (form_of last) c.extend_from_slice.new.self.items) n c.self.invariant count goes)
