use Rattle.std.proofs.lemmas.Result.{err_from_is_err_and}
use Rattle.tr_answers.proofs.Told.{unopened}
use Rattle.tr_answers.proofs.comparing.compare_record.Goals as goal

pub returns-in_err-kernel : goal.returns-in_err-kernel
returns-in_err-kernel g c =
    let p = err_from_is_err_and c.from_residual.result c.from_residual.ensures.1 in
    rw (p.1, p.2) (unopened _ _ _ _ _ c.in_err-kernel.ensures.err)
