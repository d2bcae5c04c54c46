use Rattle.std.proofs.lemmas.Result.{err_from_is_err_and}
use Rattle.tr_answers.proofs.Told.{compared, record_is_fit, refused}
use Rattle.tr_answers.proofs.comparing.compare.Goals as goal

pub returns-in_err-_value : goal.returns-in_err-_value
returns-in_err-_value g c =
    let p = err_from_is_err_and c.from_residual-in_err-_value.result c.from_residual-in_err-_value.ensures.1 in
    let b = c.in_ok-bytes.ensures in
    rw (p.1, p.2) (refused _ _ _ _ c.in_ok-bytes.bytes _ b.0 b.1 b.2 (rw c.as_slice.ensures at c.in_err-_value.ensures.gives))

pub compare_record-requires-clause-good : goal.compare_record-requires-clause-good
compare_record-requires-clause-good g c = (record_is_fit c.in_ok-bytes.bytes c.in_ok-_value.record (rw c.as_slice.ensures at c.in_ok-_value.ensures.gives)).0

pub compare_record-requires-clause-few : goal.compare_record-requires-clause-few
compare_record-requires-clause-few g c = (record_is_fit c.in_ok-bytes.bytes c.in_ok-_value.record (rw c.as_slice.ensures at c.in_ok-_value.ensures.gives)).1

pub returns : goal.returns
returns g c =
    let b = c.in_ok-bytes.ensures in
    compared _ _ _ _ _ _ c.in_ok-bytes.bytes c.in_ok-_value.record c.compare_record.result b.0 b.1 b.2 (rw c.as_slice.ensures at c.in_ok-_value.ensures.gives) c.compare_record.ensures
