use Rattle.std.proofs.Common.{◌≡◌, ◌∙◌, Ok, inl, refl}
use Rattle.std.proofs.lemmas.Result.{err_from_is_err_and}
use Rattle.tr_scenario.specs.Kernels.{so_far}
use Rattle.tr_scenario.proofs.Halts.{front_none}
use Rattle.tr_scenario.proofs.Turns.{all_written, most_are, none_counted, rounds_halted, rounds_made, rounds_pushed, rounds_unpushed}
use Rattle.tr_scenario.proofs.rounds.fill_workers.Goals as goal

pub returns-in_err-players-clause-prints : goal.returns-in_err-players-clause-prints
returns-in_err-players-clause-prints g c =
    let p = err_from_is_err_and c.from_residual.result c.from_residual.ensures.1 in
    rw (p.1, p.2) (front_none _ _, inl (refl, refl))

pub fill_rounds-requires-clause-low : goal.fill_rounds-requires-clause-low
fill_rounds-requires-clause-low g c = rw (c.deref_mut.ensures.value, c.in_ok-players.ensures) (none_counted c.args.scripts.now)

pub returns-in_err-fill_rounds-clause-prints : goal.returns-in_err-fill_rounds-clause-prints
returns-in_err-fill_rounds-clause-prints g c =
    let p = err_from_is_err_and c.from_residual-in_err-fill_rounds.result c.from_residual-in_err-fill_rounds.ensures.1 in
    rw (p.1, p.2) (rounds_halted g.T.Telling.text _ _ c.args.page.now _ _ _ (so_far c.args.kernel.now) 100000 c.deref_mut.result.now c.args.scripts.now most_are (c.deref_mut.ensures.value ∙ c.in_ok-players.ensures) c.in_err-fill_rounds.ensures.prints)

pub returns-in_err-push_players-clause-prints : goal.returns-in_err-push_players-clause-prints
returns-in_err-push_players-clause-prints g c =
    let p = err_from_is_err_and c.from_residual-in_err-push_players.result c.from_residual-in_err-push_players.ensures.1 in
    rw (p.1, p.2) (rounds_unpushed g.T.Telling.text g.W.Sink.taken g.W.Sink.failures c.args.writer.now c.fill_rounds.new.writer c.args.page.now c.fill_rounds.new.page (so_far c.args.kernel.now) 100000 c.deref_mut.result.now c.args.scripts.now
    most_are (c.deref_mut.ensures.value ∙ c.in_ok-players.ensures) c.in_ok-fill_rounds.ensures.prints)

pub returns-clause-prints : goal.returns-clause-prints
returns-clause-prints g c =
    let players = c.in_ok-players.players in
    let written : c.deref.result.now ≡ c.fill_rounds.new.players = c.deref.ensures.value ∙ all_written players.len players.items c.deref_mut.result.now c.fill_rounds.new.players c.deref_mut.ensures.len c.fill_rounds.auto.players in
    rounds_pushed g.T.Telling.text g.W.Sink.taken g.W.Sink.failures c.args.writer.now c.fill_rounds.new.writer c.args.page.now c.fill_rounds.new.page (so_far c.args.kernel.now) 100000 c.deref_mut.result.now c.args.scripts.now
    most_are (c.deref_mut.ensures.value ∙ c.in_ok-players.ensures) c.in_ok-fill_rounds.ensures.prints c.fill_rounds.new.players _ c.in_ok-fill_rounds.ensures.players (rw written at c.in_ok-push_players.ensures)

pub returns-clause-makes : goal.returns-clause-makes
returns-clause-makes g c = rounds_made {X = Unit {0}} c.args.kernel.now c.fill_rounds.new.kernel 100000 c.deref_mut.result.now c.args.scripts.now (Ok tt) most_are (c.deref_mut.ensures.value ∙ c.in_ok-players.ensures) c.in_ok-fill_rounds.ensures.makes
