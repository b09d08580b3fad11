-- Why there is no index is told as it is, and memory that was refused as that.
use Rattle.std.proofs.Common.{◌≡◌, ℕ, List, sym, subst}
use Rattle.fault.specs.declared.kinds.Fault.{Fault}
use Rattle.fault.specs.declared.kinds.Fault.TheVariants as fault
use Rattle.recording.specs.declared.bad.BadRecording.{BadRecording}
use Rattle.recording.specs.declared.bad.BadRecording.TheVariants as recording
use Rattle.rebuilt_index.specs.Failing.{HasNoIndex}
use Rattle.rebuilt_index.specs.declared.bad.BadRebuild.{BadRebuild}
use Rattle.rebuilt_index.specs.declared.bad.BadRebuild.TheVariants.{Recording, Session, File}
use Rattle.written_index.specs.Failing.{IsNotWritten}
use Rattle.written_index.specs.Reasons.{IsReason}
use Rattle.written_index.specs.declared.error.IndexError.{IndexError}

module _ (has_failed is_there cannot : Type 0) (read : List ℕ) where
  told_as : (error other : IndexError) → error ≡ other → IsNotWritten has_failed is_there cannot other read → IsNotWritten has_failed is_there cannot error read
  told_as error other e h = subst (λ (it : IndexError). IsNotWritten has_failed is_there cannot it read) (sym e) h

  told_recording : (bad : BadRecording) (error : IndexError) → IsReason (Recording bad) error → HasNoIndex has_failed (Recording bad) read → IsNotWritten has_failed is_there cannot error read
  told_recording recording.Memory error e h = told_as error _ e tt
  told_recording _ error e h = told_as error _ e (tt, h)

  told_session : (bad : Fault) (error : IndexError) → IsReason (Session bad) error → HasNoIndex has_failed (Session bad) read → IsNotWritten has_failed is_there cannot error read
  told_session fault.Memory error e h = told_as error _ e tt
  told_session _ error e h = told_as error _ e (tt, h)

  pub told : (bad : BadRebuild) (error : IndexError) → IsReason bad error → HasNoIndex has_failed bad read → IsNotWritten has_failed is_there cannot error read
  told (Recording bad) error e h = told_recording bad error e h
  told (Session bad) error e h = told_session bad error e h
  told File error e h = told_as error _ e (tt, h)
