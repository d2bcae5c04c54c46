use Rattle.std.proofs.Common.{◌∙◌, sym}
use Rattle.tr_scenario.proofs.Turns.{fills_nothing, makes_nothing}
use Rattle.tr_scenario.proofs.rounds.fill_turn.Goals as goal

pub returns-in_default-clause-prints : goal.returns-in_default-clause-prints
returns-in_default-clause-prints g c = fills_nothing g.T.Telling.text c.args.kernel.now c.args.player.now _ _ _ (sym c.next.ensures ∙ c.in_default.is)

pub returns-in_default-clause-makes : goal.returns-in_default-clause-makes
returns-in_default-clause-makes g c = makes_nothing c.args.kernel.now c.args.player.now (sym c.next.ensures ∙ c.in_default.is)
