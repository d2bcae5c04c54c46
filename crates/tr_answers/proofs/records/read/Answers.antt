use Rattle.std.proofs.Common.{Err, Ok}
use Rattle.std.proofs.lemmas.Result.{err_from_is_err_and}
use Rattle.tr_reading.proofs.NotJson.{not_json_is_exact}
use Rattle.tr_answers.specs.Records.{record_in, record_of}
use Rattle.tr_answers.proofs.Spared.{of_record}
use Rattle.tr_answers.proofs.records.read.Goals as goal

pub returns-in_err-_value-clause-not_json : goal.returns-in_err-_value-clause-not_json
unfolding record_of
returns-in_err-_value-clause-not_json c =
    let p = err_from_is_err_and c.from_residual.result c.from_residual.ensures.1 in
    rw (p.1, p.2) (not_json_is_exact record_in of_record c.args.bytes.now (Err _) c.in_err-_value.ensures.gives)

pub returns-clause-not_json : goal.returns-clause-not_json
unfolding record_of
returns-clause-not_json c = not_json_is_exact record_in of_record c.args.bytes.now (Ok c.in_ok-_value.record) c.in_ok-_value.ensures.gives
