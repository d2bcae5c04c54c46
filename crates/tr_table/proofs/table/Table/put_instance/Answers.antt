use Rattle.std.proofs.Common.{◌≤◌, ap}
use Rattle.tr_table.proofs.Orders.{up_to_last}
use Rattle.tr_table.proofs.table.Table.put_instance.Goals as goal

pub push-requires-clause-last : goal.push-requires-clause-last
push-requires-clause-last c = rw (ap (λ v. v.table.waiting) c.self.view_is) c.requires.last

pub invariant_of-self : goal.invariant_of-self
invariant_of-self c =
    let accepted : c.args.instance.now.n ≤ c.self.inside.accepted = rw (ap (λ v. v.table.accepted) c.self.view_is) c.requires.accepted in
    record { roster = c.self.invariant.roster; few = c.self.invariant.few; ordered = record { kept = c.push.ensures.kept; numbered = rw c.push.ensures.waiting (up_to_last _ _ _ c.self.invariant.ordered.numbered accepted) }; settled = c.self.invariant.settled }
