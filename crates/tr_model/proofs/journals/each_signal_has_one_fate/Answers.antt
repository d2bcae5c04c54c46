use Rattle.tr_model.proofs.Live.{ended_is_not_pending}
use Rattle.tr_model.proofs.OneFate.{one_fate}
use Rattle.tr_model.proofs.Tally.{fates_agree, fates_sum}
use Rattle.tr_model.proofs.journals.each_signal_has_one_fate.Goals as goal

pub returns-clause-one : goal.returns-clause-one
returns-clause-one c = one_fate

pub returns-clause-agree : goal.returns-clause-agree
returns-clause-agree c = fates_agree

pub returns-clause-ended : goal.returns-clause-ended
returns-clause-ended c = ended_is_not_pending

pub returns-clause-sum : goal.returns-clause-sum
returns-clause-sum c = fates_sum
