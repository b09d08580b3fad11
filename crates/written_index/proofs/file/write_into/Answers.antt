-- There is no index to write.
use Rattle.std.proofs.lemmas.Result.{err_from_is_err_and}
use Rattle.written_index.proofs.Telling.{told}
use Rattle.written_index.proofs.file.write_into.Goals as goal

pub returns-in_err-index-clause-err : goal.returns-in_err-index-clause-err
returns-in_err-index-clause-err g c =
    let p = err_from_is_err_and c.from_residual.result c.from_residual.ensures.1 in
    rw p.1 (told g.F.Recorded.has_failed g.N.NewFile.is_there g.N.NewFile.has_failed (g.F.Recorded.so_far c.index_of.new.file) c.in_err-index.field-0.0 p.0 p.2 c.in_err-index.ensures.err)
