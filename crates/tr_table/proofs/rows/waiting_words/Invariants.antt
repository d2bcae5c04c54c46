use Rattle.std.proofs.Common.{take}
use Rattle.tr_table.specs.Rows.{AreOwn}
use Rattle.tr_queues.specs.Slots.{standing}
use Rattle.tr_table.proofs.rows.waiting_words.Given as goal

abbrev pub invariant-loop-id : goal.invariant-loop-id
invariant-loop-id l = AreOwn (standing l.pending.slots.items) (take l.id-index l.ids) l.words.items
