use Rattle.std.proofs.Common.{◌∙◌}
use Rattle.tr_scenario.proofs.Seen.{rounds_seen}
use Rattle.tr_scenario.proofs.Turns.{most_are, none_counted}
use Rattle.tr_scenario.proofs.observers.observe_workers.Goals as goal

pub observe_rounds-requires : goal.observe_rounds-requires
observe_rounds-requires g c = rw (c.deref_mut.ensures.value, c.in_ok-players.ensures) (none_counted c.args.scripts.now)

pub returns-clause-ok : goal.returns-clause-ok
returns-clause-ok g c = rounds_seen _ _ _ _ _ 100000 c.deref_mut.result.now c.args.scripts.now c.observe_rounds.result most_are (c.deref_mut.ensures.value ∙ c.in_ok-players.ensures) c.observe_rounds.ensures.ok
