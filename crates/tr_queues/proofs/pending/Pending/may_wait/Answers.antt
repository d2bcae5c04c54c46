use Rattle.std.proofs.Common.{◌≡◌, ◌∙◌, [], rules, subst, sym}
use Rattle.tr_queues.specs.Changes.{queue_in}
use Rattle.tr_queues.specs.Slots.{standing}
use Rattle.tr_queues.proofs.Owns.{none_own, none_shared}
use Rattle.tr_queues.proofs.pending.Pending.may_wait.Goals as goal

pub returns-in-Thread : goal.returns-in-Thread
returns-in-Thread c = λ e.
    let ws = standing c.args.self.now.slots.items in
    let none : c.args.self.now.own ≡ 0 = search rules in
    subst (λ q. queue_in q ws ≡ []) (sym c.in-Thread.is) (none_own _ ws (sym c.requires.counted_own ∙ none))

pub returns-in-Group : goal.returns-in-Group
returns-in-Group c = λ e.
    let ws = standing c.args.self.now.slots.items in
    let all : c.args.self.now.own ≡ c.args.self.now.count = search rules in
    subst (λ q. queue_in q ws ≡ []) (sym c.in-Group.is) (none_shared _ ws (sym c.requires.counted_own ∙ (all ∙ c.requires.counted)))
