use Rattle.std.proofs.Common.{rules}
use Rattle.tr_model.specs.Entries.{Entry}
use Rattle.tr_workers.specs.Settled.{has_worker}
use Rattle.tr_workers.proofs.Gaps.{none_of_all}
use Rattle.tr_workers.proofs.settling.first_without_worker.Goals as goal
use Rattle.tr_workers.proofs.settling.first_without_worker.Goals.{then-not-in_place+in_default, else-not-in_place}

pub returns : goal.returns
returns c = elim c.if-not-in_place.branch [
  | then-not-in_place+in_default w ↦ search rules
  | else-not-in_place w ↦ (
      let none = none_of_all (λ (e : Entry). has_worker c.args.workers.now e.actor) 0 c.args.kernel.now.journal (c.requires w.if-not-in_place.false) in
      search rules)
]
