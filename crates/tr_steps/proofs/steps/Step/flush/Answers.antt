use Rattle.std.proofs.Common.{rules, refl}
use Rattle.tr_steps.proofs.steps.Step.flush.Goals as goal

pub returns : goal.returns
returns c = record {
  work = rw (← c.self.view_is, c.flush.ensures.table, c.flush.ensures.ended) refl;
  room = search rules;
  groups = search rules;
  taken_from = search rules;
}
