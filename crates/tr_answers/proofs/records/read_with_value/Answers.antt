use Rattle.serde_json.specs.View.{view}
use Rattle.tr_reading.proofs.Texts.{some_bytes, within}
use Rattle.tr_answers.proofs.records.read_with_value.Goals as goal

pub returns-in_err-record-clause-memory : goal.returns-in_err-record-clause-memory
returns-in_err-record-clause-memory c =
    let some = some_bytes c.args.bytes.now (view c.in_ok-value.value) c.in_ok-value.ensures.gives in
    within _ _ (some, c.if-bytes-gt1048576.false)
