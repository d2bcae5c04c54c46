use Rattle.std.proofs.Common.{◌∙◌, ap}
use Rattle.tr_model.specs.Tables.{thread_of}
use Rattle.tr_steps.proofs.Put.{found_own}
use Rattle.tr_steps.proofs.steps.Step.thread.Goals as goal

pub returns-clause-own_id : goal.returns-clause-own_id
returns-clause-own_id c = found_own c.args.self.now.work.table c.args.id c.copied.result (c.copied.ensures ∙ c.find.ensures.found ∙ ap (λ x. thread_of x.work.table c.args.id) c.self.view_is)
