use Rattle.std.proofs.lemmas.Result.{err_from_is_err_and}
use Rattle.std.proofs.Common.{[], ◌∷◌, inl, refl}
use Rattle.tr_scenario.proofs.Halts.{front_none}
use Rattle.tr_answers.specs.Comparisons.{asked_by}
use Rattle.tr_answers.proofs.Walking.{tried, tried_halted}
use Rattle.tr_answers.proofs.comparing.fill_call.Goals as goal

pub returns-in_err-is_made : goal.returns-in_err-is_made
returns-in_err-is_made g c =
    let p = err_from_is_err_and c.from_residual.result c.from_residual.ensures.1 in
    let q = asked_by c.args.place c.args.answered.now in
    rw (p.1, p.2) ([], inl ([], q ∷ [], c.args.kernel.now, refl, (refl, refl)), front_none _ _, inl (refl, refl))

pub returns-in_err-print_long : goal.returns-in_err-print_long
returns-in_err-print_long g c =
    let p = err_from_is_err_and c.from_residual-in_err-print_long.result c.from_residual-in_err-print_long.ensures.1 in
    rw (p.1, p.2) (tried_halted g.W.Sink.taken g.W.Sink.failures _ _ _ _ c.print_long.new.page _ c.make_call.new.kernel _ c.in_ok-is_made.is_made _ c.in_ok-is_made.ensures c.in_err-print_long.ensures)

pub returns : goal.returns
returns g c = tried g.W.Sink.taken g.W.Sink.failures _ _ _ _ _ _ c.make_call.new.kernel _ c.in_ok-is_made.is_made c.in_ok-is_made.ensures c.in_ok-print_long.ensures
