use Rattle.std.proofs.Common.{◌≡◌, ◌&&◌, false, ap, length, rules, subst, sym}
use Rattle.std.specs.List.{list_any}
use Rattle.tr_sigset.specs.Sets.{has}
use Rattle.tr_model.specs.Tables.{same_target}
use Rattle.tr_queues.specs.Changes.{is_picked, queue_in}
use Rattle.tr_queues.specs.Slots.{standing}
use Rattle.tr_queues.proofs.Holding.{none_held_of}
use Rattle.tr_queues.proofs.pending.Pending.may_pick.Goals as goal

pub returns-in-Queue : goal.returns-in-Queue
returns-in-Queue c = λ e.
    let ws = standing c.args.self.now.slots.items in
    let none : length (queue_in c.in-Queue.target ws) ≡ 0 = search rules in
    subst (λ p. list_any (is_picked c.args.threads.now p) ws ≡ false) (sym c.in-Queue.is) (none_held_of (λ w. same_target c.in-Queue.target w.target) c.in-Queue.target ws (λ w h. h) none)

pub returns-in-Set : goal.returns-in-Set
returns-in-Set c = λ e.
    let ws = standing c.args.self.now.slots.items in
    let none : length (queue_in c.in-Set.target ws) ≡ 0 = search rules in
    subst (λ p. list_any (is_picked c.args.threads.now p) ws ≡ false) (sym c.in-Set.is) (none_held_of (λ w. same_target c.in-Set.target w.target && has c.in-Set.field-1 w.instance.sig) c.in-Set.target ws (λ w h. ap (λ b. b && has c.in-Set.field-1 w.instance.sig) h) none)
