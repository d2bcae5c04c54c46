use Rattle.std.proofs.Common.{inl, refl}
use Rattle.std.proofs.lemmas.Result.{err_from_is_err_and}
use Rattle.tr_scenario.proofs.Halts.{front_none}
use Rattle.tr_scenario.proofs.printing.fill_status.Goals as goal

pub returns-in_err-push_status : goal.returns-in_err-push_status
returns-in_err-push_status g c =
    let p = err_from_is_err_and c.from_residual.result c.from_residual.ensures.1 in
    rw (p.1, p.2) (front_none _ _, inl (refl, refl))
