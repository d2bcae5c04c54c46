use Rattle.std.proofs.Common.{◌≡◌, ◌-◌, ◌<◌, List, arith, get_or, length, rules, true}
use Rattle.tr_queues.specs.declared.slots.Slot.{Slot}
use Rattle.tr_queues.proofs.Standing.{standing_less}
use Rattle.tr_queues.proofs.slots.ends_empty.Goals as goal

pub returns-in-Some-clause-empty : goal.returns-in-Some-clause-empty
returns-in-Some-clause-empty c = λ e.
    let ss : List Slot = c.args.slots.now in
    let s : Slot = c.in-Some.slot.now in
    let some : 0 < length ss = search rules in
    let last : (get_or ss (length ss - 1) s).gone ≡ true = search rules in
    standing_less s ss (length ss - 1) (omega (arith, some)) last
