use Rattle.std.proofs.Common.{rules, ◌≡◌, List}
use Rattle.tr_model.specs.declared.rows.Waiting.{Waiting}
use Rattle.tr_queues.specs.Queues.{count_own}
use Rattle.tr_queues.specs.Slots.{standing}
use Rattle.tr_table.proofs.RowWords.{own_zeros}
use Rattle.tr_table.proofs.rows.own_words.Goals as goal

pub returns-else-waits_for_threads : goal.returns-else-waits_for_threads
returns-else-waits_for_threads c =
    let ws : List Waiting = standing c.args.pending.now.slots.items in
    let none : count_own ws ≡ 0 = search rules in
    rw c.zeros.ensures (own_zeros ws c.args.ids.now none)
