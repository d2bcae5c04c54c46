use Rattle.tr_model.proofs.Consumed.{consumed_once, consumed_was_raised}
use Rattle.tr_model.proofs.Standing.{reports_are_open}
use Rattle.tr_model.proofs.journals.each_report_has_one_wait.Goals as goal

pub returns-clause-once : goal.returns-clause-once
returns-clause-once c = consumed_once

pub returns-clause-raised : goal.returns-clause-raised
returns-clause-raised c = consumed_was_raised

pub returns-clause-open : goal.returns-clause-open
returns-clause-open c = reports_are_open
