use Rattle.std.proofs.Common.{inl, refl}
use Rattle.std.proofs.lemmas.Result.{err_from_is_err_and}
use Rattle.tr_scenario.proofs.Halts.{front_none}
use Rattle.tr_picture.proofs.drawing.print_picture.Goals as goal

pub returns-in_err-page : goal.returns-in_err-page
returns-in_err-page g c =
    let p = err_from_is_err_and c.from_residual.result c.from_residual.ensures.1 in
    rw (p.1, p.2) (front_none _ _, inl (c.in_err-page.ensures.err, refl))
