use Rattle.std.proofs.Common.{◌≡◌, ℕ, ◌+◌, ◌-◌, ◌*◌, ◌/◌, inr, List, [], ◌∷◌, ◌++◌, length, drop, drop-drop, None, Some, sym, ap, ◌∙◌, arith}
use Rattle.recording_index.specs.IndexBytes.{start}
use Rattle.recording_index.specs.IndexReading.{moment_of, moments_of, all_in, fault_at, fault_after}
use Rattle.recording_index.specs.declared.moment.KeyMoment.{KeyMoment}
use Rattle.recording_index.proofs.Entries.{reads_more, fine_more, bad_now}
use Rattle.recording_index.proofs.index.read_entries.Goals as goal

pub returns-in-Some-clause-err : goal.returns-in-Some-clause-err
returns-in-Some-clause-err c =
    let entries : List ℕ = c.args.entries.now in
    let n : ℕ = length entries / 12 in
    let left : List ℕ = drop (c.loop-i.i * 12) entries in
    let moment : c.moment_of-moment.result ≡ moment_of left = c.moment_of-moment.ensures ∙ ap moment_of c.split_at.ensures.back in
    let is : fault_at c.loop-i.before (moment_of left) ≡ Some c.in-Some.bad = ap (fault_at c.loop-i.before) (sym moment) ∙ (sym c.fault_at.ensures ∙ c.in-Some.is) in
    inr (bad_now c.loop-i.before (fault_after start (all_in entries)) c.in-Some.bad n c.loop-i.i left c.loop-i-test.true is c.loop-i.invariant.fault)

pub loop-i-preserved : goal.loop-i-preserved
loop-i-preserved c =
    let entries : List ℕ = c.args.entries.now in
    let n : ℕ = length entries / 12 in
    let i : ℕ = c.loop-i.i in
    let left : List ℕ = drop (i * 12) entries in
    let next : List ℕ = drop ((i + 1) * 12) entries in
    let behind : next ≡ drop 12 left = ap (λ (k : ℕ). drop k entries) (omega arith) ∙ sym (drop-drop 12 (i * 12) entries) in
    let moment : c.moment_of-moment.result ≡ moment_of left = c.moment_of-moment.ensures ∙ ap moment_of c.split_at.ensures.back in
    let fine : fault_at c.loop-i.before (moment_of left) ≡ None = ap (fault_at c.loop-i.before) (sym moment) ∙ (sym c.fault_at.ensures ∙ c.in_default.is) in
    let pushed : c.push.new.self.items ≡ c.loop-i.moments.items ++ moment_of left ∷ [] = c.in_ok-push.ensures.items ∙ ap (λ (m : KeyMoment). c.loop-i.moments.items ++ m ∷ []) moment in
    record {
      all = ap (λ (ms : List KeyMoment). ms ++ moments_of (n - (i + 1)) next) pushed ∙ reads_more c.loop-i.moments.items (all_in entries) n i left next c.loop-i-test.true behind c.loop-i.invariant.all;
      fault = fine_more c.loop-i.before (fault_after start (all_in entries)) n i left next c.loop-i-test.true behind fine c.loop-i.invariant.fault
          ∙ ap (λ (m : KeyMoment). fault_after m (moments_of (n - (i + 1)) next)) (sym moment);
    }
