use Rattle.std.proofs.Common.{◌∙◌, sym}
use Rattle.tr_scenario.proofs.Seen.{none_seen}
use Rattle.tr_scenario.proofs.observers.observe_turn.Goals as goal

pub returns-in_default-clause-ok : goal.returns-in_default-clause-ok
returns-in_default-clause-ok g c = none_seen _ c.args.kernel.now c.args.observer.now c.args.player.now (sym c.next.ensures ∙ c.in_default.is)
