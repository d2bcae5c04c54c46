use Rattle.tr_reading.specs.Fields.{◌>>=◌}
use Rattle.tr_reading.specs.Scenarios.{scenario_of, walk, whole}
use Rattle.tr_reading.proofs.NotJson.{not_json_is_exact}
use Rattle.tr_reading.proofs.Spared.{of_scenario}
use Rattle.tr_reading.proofs.reading.read.Goals as goal

pub returns-clause-not_json : goal.returns-clause-not_json
unfolding scenario_of
returns-clause-not_json c = not_json_is_exact (λ d. walk d >>= whole) of_scenario c.args.bytes.now c.scenario.result c.scenario.ensures.gives
