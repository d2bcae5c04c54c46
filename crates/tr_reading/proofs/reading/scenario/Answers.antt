use Rattle.serde_json.specs.View.{view}
use Rattle.tr_reading.proofs.Texts.{some_bytes, within}
use Rattle.tr_reading.proofs.reading.scenario.Goals as goal

pub returns-in_err-scenario-clause-memory : goal.returns-in_err-scenario-clause-memory
returns-in_err-scenario-clause-memory c =
    let some = some_bytes c.args.bytes.now (view c.in_ok-value.value) c.in_ok-value.ensures.gives in
    within _ _ (some, c.if-bytes-gt1048576.false)

pub returns-clause-memory : goal.returns-clause-memory
returns-clause-memory c =
    let some = some_bytes c.args.bytes.now (view c.in_ok-value.value) c.in_ok-value.ensures.gives in
    within _ _ (some, c.if-bytes-gt1048576.false)
