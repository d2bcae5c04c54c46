use Rattle.std.proofs.Common.{◌∙◌, ◌++◌, ap, append-nil, arith, length, map, sym}
use Rattle.tr_model.specs.declared.fates.Fate.TheVariants.{Flushed}
use Rattle.tr_model.specs.Moves.{ending_of}
use Rattle.tr_queues.specs.Changes.{is_picked}
use Rattle.tr_queues.specs.Slots.{standing}
use Rattle.tr_queues.proofs.Holding.{all_filtered, none_filtered}
use Rattle.tr_queues.proofs.pending.Pending.flush.Goals as goal

pub returns-else-may_pick-clause-waiting : goal.returns-else-may_pick-clause-waiting
returns-else-may_pick-clause-waiting c = all_filtered (is_picked c.args.threads.now c.args.picked.now) (standing c.args.self.now.slots.items) (c.may_pick.ensures c.if-may_pick.false)

pub returns-else-may_pick-clause-ended : goal.returns-else-may_pick-clause-ended
returns-else-may_pick-clause-ended c =
    let none = none_filtered (is_picked c.args.threads.now c.args.picked.now) (standing c.args.self.now.slots.items) (c.may_pick.ensures c.if-may_pick.false) in
    sym (append-nil c.args.ended.now.items) ∙ sym (ap (λ ws. c.args.ended.now.items ++ map (ending_of Flushed) ws) none)

pub returns-else-may_pick-clause-len : goal.returns-else-may_pick-clause-len
returns-else-may_pick-clause-len c =
    let none = none_filtered (is_picked c.args.threads.now c.args.picked.now) (standing c.args.self.now.slots.items) (c.may_pick.ensures c.if-may_pick.false) in
    let n = ap length none in
    omega (arith, n)
